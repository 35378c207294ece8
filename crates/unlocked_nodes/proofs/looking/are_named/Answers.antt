use Rattle.std.proofs.Common.{arith}
use Rattle.std.proofs.lemmas.List.{length-map}
use Rattle.unlocked_nodes.proofs.MeetLemmas.{same_places}
use Rattle.core_model.specs.Fleet.{node_names}
use Rattle.unlocked_nodes.proofs.looking.are_named.Goals as goal

pub returns : goal.returns
returns g c = λ yes.
    same_places (node_names c.args.caches.now) c.args.names.now
    (let long = length-map c.args.caches.now (λ n. n.name) in omega (arith, long))
    (λ place lt. c.loop-place.invariant place (omega (arith, lt)))
