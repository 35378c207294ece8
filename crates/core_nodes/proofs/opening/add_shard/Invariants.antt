use Rattle.std.proofs.Common.{◌≡◌, ◌++◌, ◌∷◌}
use Rattle.core_nodes.proofs.opening.add_shard.Given as goal

abbrev pub invariant-loop-slave : goal.invariant-loop-slave
invariant-loop-slave l = l.stores.items ++ l.slave-iterator.rest.items ≡ l.fn.stores.items ++ l.fn.made.master ∷ l.fn.made.slaves.items
