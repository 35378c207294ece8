-- What a client holds.
use Rattle.std.specs.Prelude.{ℕ, Bool, ◌==◌, ◌&&◌, List, [], Option}
use Rattle.std.specs.Bool.{then_some}
use Rattle.std.specs.Map.{lookup}
use Rattle.std.specs.Option.{option_and_then}
use Rattle.lru.specs.LruCache.{lru_cache, promoted, put_entries}
use Rattle.tao_base.specs.declared.query.Answer.{Answer}
use Rattle.tao_base.specs.declared.query.Query.{Query}
use Rattle.hot_items.specs.Keys.{Asked, asked_of, same_asked}
use Rattle.hot_items.specs.declared.reply.Held.{Held}
use Rattle.hot_items.specs.declared.reply.Hint.{Hint}
use Rattle.hot_items.specs.declared.reply.HotReply.{HotReply}
use Rattle.hot_items.specs.declared.reply.HotReply.TheVariants.{Full, Unchanged}

-- the answers that are held, each under its query, the latest taken first, and how many there may be
pub record Hot : Type 0 where
  pub held : List (Asked × Held)
  pub most : ℕ

abbrev pub hot_of : List (Asked × Held) → ℕ → Hot
hot_of held most = record { held = held; most = most }

-- nothing is held, and at most so many answers will be
abbrev pub empty_cache : ℕ → Hot
empty_cache most = hot_of [] most

abbrev pub hint_at : ℕ → ℕ → Hint
hint_at epoch version = record { epoch = epoch; version = version }

-- an answer as it is held
abbrev pub held_as : Hint → Answer → Held
held_as hint answer = record { hint = hint; answer = answer }

abbrev pub hint_of : Held → Hint
hint_of held = held.hint

-- what is held for a query
abbrev pub held_at : Query → Hot → Option Held
held_at query c = lookup (same_asked (asked_of query)) c.held

-- the cache with this answer held for the query, which stands first. Where there would be one more than may be, the last one falls out
abbrev pub with_held : Query → Held → Hot → Hot
with_held query held c = hot_of (put_entries same_asked (lru_cache c.held c.most) (asked_of query) held) c.most

-- the cache with the query first, where that is held
abbrev pub used : Query → Hot → Hot
used query c = hot_of (promoted (same_asked (asked_of query)) c.held) c.most

-- the cache after it took a reply
abbrev pub after_reply : Query → HotReply → Hot → Hot
after_reply query (Full epoch version answer) c = with_held query (held_as (hint_at epoch version) answer) c
after_reply query (Unchanged epoch version) c = used query c

-- whether two hints are the same
abbrev pub same_hint : Hint → Hint → Bool
same_hint hint other = hint.epoch == other.epoch && hint.version == other.version

-- the answer that is held, where it has this hint
abbrev pub unchanged_answer : Hint → Option Held → Option Answer
unchanged_answer hint found = option_and_then (λ held. then_some (same_hint held.hint hint) held.answer) found
