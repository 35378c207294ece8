use Rattle.std.proofs.Common.{◌≡◌, ◌++◌, take, map}
use Rattle.std.specs.Prelude.{filter}
use Rattle.tao_base.specs.Keys.{same_key}
use Rattle.plain_graph.proofs.changes.add_changes.Given as goal

abbrev pub invariant-loop-touch : goal.invariant-loop-touch
invariant-loop-touch l =
    map (λ c. c.now) l.changes.items ≡ map (λ c. c.now) l.initial.changes.items ++ map (λ t. t.change)
    (filter (λ t. same_key l.key t.key) (take l.touch-index l.touch-items))
