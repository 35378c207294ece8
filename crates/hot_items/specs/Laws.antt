-- What is held after any calls.
use Rattle.std.specs.Prelude.{◌≡◌, ℕ, if◌then◌else◌, List, [], ◌∷◌, Option, Some, None}
use Rattle.std.specs.Bool.{Decides}
use Rattle.tao_base.specs.declared.query.Answer.{Answer}
use Rattle.tao_base.specs.declared.query.Query.{Query}
use Rattle.hot_items.specs.Hot.{Hot, after_reply, empty_cache, held_as, held_at, hint_at}
use Rattle.hot_items.specs.Keys.{same_query}
use Rattle.hot_items.specs.Replies.{reply_answer}
use Rattle.hot_items.specs.declared.reply.Held.{Held}
use Rattle.hot_items.specs.declared.reply.HotReply.{HotReply}
use Rattle.hot_items.specs.declared.reply.HotReply.TheVariants.{Full, Unchanged}

-- the cache after it took these replies, each to its query, the latest first. The other calls leave it as it is
abbrev pub cache_after : ℕ → List (Query × HotReply) → Hot
cache_after most [] = empty_cache most
cache_after most (call ∷ earlier) = after_reply call.0 call.1 (cache_after most earlier)

-- the latest full reply to a query
abbrev pub last_full : Query → List (Query × HotReply) → Option Held
last_full query [] = None
last_full query ((other, Full epoch version answer) ∷ earlier) =
    if same_query query other then Some (held_as (hint_at epoch version) answer) else last_full query earlier
last_full query ((other, Unchanged epoch version) ∷ earlier) = last_full query earlier

-- an unchanged reply to a query is answered as the latest full reply to it was, and that had this epoch and version
abbrev pub UnchangedIsLastFull : ℕ → List (Query × HotReply) → Query → Type 0
UnchangedIsLastFull most calls query = (epoch version : ℕ) (answer : Answer)
    → reply_answer (Unchanged epoch version) (held_at query (cache_after most calls)) ≡ Some answer
    → last_full query calls ≡ Some (held_as (hint_at epoch version) answer)

-- queries are told apart where they differ, and only there
abbrev pub TellsQueries : Query → Query → Type 0
TellsQueries query other = Decides (same_query query other) (query ≡ other)
