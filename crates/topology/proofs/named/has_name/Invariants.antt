use Rattle.std.proofs.Common.{◌≡◌, drop, map, bytes_eq}
use Rattle.std.specs.List.{list_any}
use Rattle.topology.proofs.named.has_name.Given as goal

abbrev pub invariant-loop-item : goal.invariant-loop-item
invariant-loop-item g l = list_any (bytes_eq l.name) (map g.T.Named.named (drop l.item-index l.items)) ≡ list_any (bytes_eq l.name)
    (map g.T.Named.named l.items)
