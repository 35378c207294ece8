-- Where the entry of an origin stands.
use Rattle.std.specs.Prelude.{ℕ, Bool, false, Option, ◌==◌, ◌&&◌}
use Rattle.std.specs.BTreeMap.{get}
use Rattle.std.specs.Ordering.{nat_cmp, ordering_then}
use Rattle.std.specs.declared.cmp.Ordering.{Ordering}
use Rattle.tao_base.specs.declared.entry.Origin.{Origin}
use Rattle.tao_base.specs.declared.entry.Origin.TheVariants.{Client, Merge}
use Rattle.log_index.specs.declared.positions.Positions.{Positions}

-- pairs are in the order of their first numbers, then of their second ones
abbrev pub pair_cmp : ℕ × ℕ → ℕ × ℕ → Ordering
pair_cmp x y = ordering_then (nat_cmp x.0 y.0) (nat_cmp x.1 y.1)

-- whether two origins are one: both of a client or both of a merge, with equal numbers
abbrev pub same_origin : Origin → Origin → Bool
same_origin (Client session seq) (Client session2 seq2) = session == session2 && seq == seq2
same_origin (Client session seq) (Merge shard position) = false
same_origin (Merge shard position) (Client session seq) = false
same_origin (Merge shard position) (Merge shard2 position2) = shard == shard2 && position == position2

-- the position that is kept for the origin
abbrev pub kept_position : Positions → Origin → Option ℕ
kept_position positions (Client session seq) = get pair_cmp positions.clients (session, seq)
kept_position positions (Merge shard position) = get pair_cmp positions.merges (shard, position)
