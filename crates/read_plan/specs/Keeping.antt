-- How a reply says whether an answer is kept, and why not: what it had, and what it needed.
use Rattle.std.specs.Prelude.{ℕ}
use Rattle.cache_items.specs.declared.look.Kept.{Kept as KeptWhy}
use Rattle.cache_items.specs.declared.look.Kept.TheVariants as was
use Rattle.replies.specs.declared.nodes.KeptOrNot.{KeptOrNot}
use Rattle.replies.specs.declared.nodes.KeptOrNot.TheVariants.{Kept, Not}
use Rattle.replies.specs.declared.nodes.NotKeptWhy.{NotKeptWhy}
use Rattle.replies.specs.declared.nodes.NotKeptWhy.TheVariants.{Bound, Asks, Lost, Mark, Floor, Memory}

-- a fill that isn't kept, for that reason, with what it had and what it needed
abbrev pub not_kept : NotKeptWhy → ℕ → ℕ → KeptOrNot
not_kept why have need = Not (record { why = why; have = have; need = need })

-- a fill that the follower was handed. At most 256 asks are open on a node
abbrev pub kept_or_not : KeptWhy → KeptOrNot
kept_or_not was.Yes = Kept
kept_or_not was.Asks = not_kept Asks 256 256
kept_or_not was.Lost = not_kept Lost 0 0
kept_or_not (was.Mark have need) = not_kept Mark have need
kept_or_not (was.Floor have need) = not_kept Floor have need
kept_or_not was.Memory = not_kept Memory 0 0

-- an answer that no first edges within the bound decide, of a list of that length
abbrev pub past_bound : ℕ → ℕ → KeptOrNot
past_bound bound total = not_kept Bound bound total
