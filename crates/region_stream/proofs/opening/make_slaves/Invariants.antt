use Rattle.std.proofs.Common.{◌≡◌, ◌++◌, drop, map}
use Rattle.region_stream.specs.Opening.{slave_of}
use Rattle.region_stream.proofs.opening.make_slaves.Given as goal

abbrev pub invariant-loop-name : goal.invariant-loop-name
invariant-loop-name l = record {
  slaves : l.slaves.items ++ map (slave_of l.fn.master) (drop l.name-index l.names) ≡ map (slave_of l.fn.master) l.names;
  same : l.master ≡ l.fn.master;
}
