use Rattle.std.proofs.Common.{ap}
use Rattle.core_model.specs.Messages.{IsRightMessage}
use Rattle.log_names.specs.Names.{IsOfLog}
use Rattle.shared_nodes.proofs.Turns.{log_of_turn}
use Rattle.shared_nodes.proofs.follower.SharedFollower.deliver.Goals as goal

pub deliver_to-requires : goal.deliver_to-requires
deliver_to-requires g c =
    let right : IsRightMessage g.J.Sharing.making.settings (IsOfLog g.J.Logs.log) c.self.inside.name c.args.message =
    rw (ap (λ n. n.name) c.self.view_is) c.requires.message in
    log_of_turn g.J.Sharing.making g.J.Logs.log c.self.inside.name c.self.inside.follower.node c.args.message.shard c.args.message.note c.self.invariant
    right.here right.serves right.seen

pub invariant_of-self : goal.invariant_of-self
invariant_of-self g c =
    let right : IsRightMessage g.J.Sharing.making.settings (IsOfLog g.J.Logs.log) c.self.inside.name c.args.message =
    rw (ap (λ n. n.name) c.self.view_is) c.requires.message in
    let done = c.deliver_to.ensures in
    (c.named_nodes_stay.ensures g.J.Sharing.making.settings g.J.Logs.log c.self.inside.name).delivers c.args.message c.deliver_to.result
    c.self.inside.follower.node c.deliver_to.new.cache.node done.does.by right done.apart done.truth c.self.invariant
