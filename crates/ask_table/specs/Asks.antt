-- The open asks of a node.
use Rattle.std.specs.Prelude.{ℕ, ◌+◌, ◌-◌, ◌^◌, ◌≤◌, Bool, ◌||◌, not, ◌==◌, nat_le, List, [], ◌∷◌, ◌++◌, map, filter, length}
use Rattle.tao_base.specs.Ids.{IsRising}
use Rattle.tao_base.specs.declared.id.Key.{Key}
use Rattle.ask_table.specs.declared.ask.Ask.{Ask}
use Rattle.ask_table.specs.Open.{raised_ask, is_numbered, is_on_shard}

-- the open asks, in the order in which they began, and how many numbers were given, which is the last of them
pub record Asks : Type 0 where
  pub asks : List Ask
  pub given : ℕ

-- the table of these open asks, in which so many numbers were given
abbrev pub asks_of : List Ask → ℕ → Asks
asks_of asks given = record { asks = asks; given = given }

-- no ask can begin: 256 are open, or the numbers are used up
abbrev pub is_full : Asks → Bool
is_full t = nat_le 256 (length t.asks) || (t.given == 2 ^ 64 - 1)

-- an ask of the next number, with the mark of the moment and floor 0
abbrev pub fresh : Asks → Key → ℕ → Ask
fresh t key mark = record { number = t.given + 1; key = key; mark = mark; floor = 0 }

-- the table with one more ask, begun on the key at the low-water mark of the moment
abbrev pub with_ask : Key → ℕ → Asks → Asks
with_ask key mark t = asks_of (t.asks ++ fresh t key mark ∷ []) (t.given + 1)

-- the floor of each ask on the key raised
abbrev pub with_floor : Key → ℕ → Asks → Asks
with_floor key version t = asks_of (map (raised_ask key version) t.asks) t.given

-- the table without the ask of this number, if that is open
abbrev pub without_ask : ℕ → Asks → Asks
without_ask number t = asks_of (filter (λ a. not (is_numbered number a)) t.asks) t.given

-- the table without the asks on keys of the shard
abbrev pub without_shard : ℕ → Asks → Asks
without_shard shard t = asks_of (filter (λ a. not (is_on_shard shard a)) t.asks) t.given

-- no ask is open, and the numbers that were given stay given
abbrev pub without_asks : Asks → Asks
without_asks t = asks_of [] t.given

-- what an ask gives at its end: its key, mark and floor
abbrev pub shown : Ask → Key × ℕ × ℕ
shown a = (a.key, a.mark, a.floor)

-- the numbers rise, below the one that is given next, and there are at most 256 asks
pub record IsTable (t : Asks) : Type 0 where
  pub rising : IsRising (map (λ a. a.number) t.asks ++ (t.given + 1) ∷ [])
  pub few : length t.asks ≤ 256
