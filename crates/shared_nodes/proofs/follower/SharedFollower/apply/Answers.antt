use Rattle.std.proofs.Common.{ap, subst}
use Rattle.core_model.specs.Serving.{IsFollowerFor}
use Rattle.core_model.specs.Writes.{AppliesTo}
use Rattle.tao_schema.specs.Schema.{types_of}
use Rattle.tao_schema.specs.declared.schema.Schema.{Schema}
use Rattle.shared_nodes.proofs.Turns.{log_of_turn}
use Rattle.shared_nodes.proofs.follower.SharedFollower.apply.Goals as goal

pub apply_of-requires-clause-log : goal.apply_of-requires-clause-log
apply_of-requires-clause-log g c =
    let serves : IsFollowerFor g.J.Sharing.making.settings c.args.shard c.self.inside.name = rw (ap (λ n. n.name) c.self.view_is) c.requires.serves in
    log_of_turn g.J.Sharing.making g.J.Logs.log c.self.inside.name c.self.inside.follower.node c.args.shard c.args.note c.self.invariant serves.here
    serves.serves c.requires.log

pub invariant_of-self : goal.invariant_of-self
invariant_of-self g c =
    let done = c.apply_of.ensures in
    (c.named_nodes_stay.ensures g.J.Sharing.making.settings g.J.Logs.log c.self.inside.name).applies c.args.shard c.args.entry.now c.args.note
    c.self.inside.follower c.apply_of.new.follower
    (subst (λ (x : Schema). AppliesTo (types_of x) c.args.shard c.args.entry.now c.args.note c.self.inside.follower c.apply_of.new.follower)
    c.requires.schema done.does)
    c.requires.log done.apart done.truth c.self.invariant
