use Rattle.std.proofs.Common.{◌≡◌, ◌++◌, drop}
use Rattle.std.specs.Prelude.{map}
use Rattle.served_shards.specs.Begun.{AreReached, begun_at}
use Rattle.served_shards.specs.Fields.{served_of}
use Rattle.served_shards.specs.Meetings.{AreSeenSound}
use Rattle.served_shards.proofs.shards.begin.Given as goal

-- the shards so far and those that begin with the rest are all
abbrev pub invariant-loop-place : goal.invariant-loop-place
invariant-loop-place l = record {
  begun : map served_of l.shards.items ++ begun_at (drop l.place l.served) (drop l.place l.lows) l.notes.items ≡ begun_at l.served l.lows l.initial.notes.items;
  sound : AreSeenSound (map served_of l.shards.items);
  reached : AreReached (drop l.place l.lows) l.notes.items;
}
