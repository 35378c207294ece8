use Rattle.std.proofs.Common.{◌≡◌, slice_get}
use Rattle.shard_clone.proofs.Rows.{passing}
use Rattle.shard_clone.specs.Picks.{is_other, other_servers}
use Rattle.shard_clone.proofs.table.CloneTable.other_index.Given as goal

abbrev pub invariant-loop-index : goal.invariant-loop-index
invariant-loop-index l =
    slice_get (passing (is_other l.self l.topology l.region l.tier l.shard) l.count l.index) l.left
    ≡ slice_get (other_servers l.self l.topology l.region l.tier l.shard) l.place
