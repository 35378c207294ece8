use Rattle.std.proofs.Common.{◌≡◌, ◌++◌, drop, take}
use Rattle.std.specs.Prelude.{map}
use Rattle.served_shards.specs.Begun.{AreNotesOf, AreReached, restarted}
use Rattle.served_shards.specs.Fields.{served_of}
use Rattle.served_shards.specs.Meetings.{MeetEach}
use Rattle.served_shards.proofs.shards.restart.Given as goal

-- the shards so far begun anew and the rest begun anew are all begun anew
abbrev pub invariant-loop-place : goal.invariant-loop-place
invariant-loop-place l = record {
  rest : drop l.place (map served_of l.shards) ≡ drop l.place (map served_of l.initial.shards);
  begun : take l.place (map served_of l.shards) ++ restarted (drop l.place (map served_of l.initial.shards)) (drop l.place l.lows) l.notes.items
      ≡ restarted (map served_of l.initial.shards) l.lows l.initial.notes.items;
  logs : AreNotesOf (drop l.place (map served_of l.initial.shards)) l.notes.items;
  reached : AreReached (drop l.place l.lows) l.notes.items;
  meets : MeetEach (drop l.place (map served_of l.initial.shards)) l.notes.items → MeetEach (map served_of l.initial.shards) l.initial.notes.items;
}
