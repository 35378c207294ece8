use Rattle.std.proofs.Common.{subst, sym}
use Rattle.cache_items.specs.Node.{Node}
use Rattle.core_model.specs.Messages.{IsRightMessage}
use Rattle.core_model.specs.declared.named.Named.{Named}
use Rattle.log_names.specs.Names.{IsOfLog}
use Rattle.shared_nodes.proofs.LeaderTurns.{leader_log}
use Rattle.shared_nodes.proofs.leader.SharedLeader.deliver.Goals as goal

pub deliver_to-requires : goal.deliver_to-requires
deliver_to-requires g c =
    let message = c.requires.message in
    leader_log g.J.Sharing.making g.J.Logs.log c.self.inside.name c.self.inside.leader c.args.self.now c.args.message.shard c.args.message.note
    c.self.view_is c.self.invariant message.here message.serves message.seen

pub invariant_of-self : goal.invariant_of-self
invariant_of-self g c =
    let stays = c.named_nodes_stay.ensures g.J.Sharing.making.settings g.J.Logs.log c.self.inside.name in
    let does = c.deliver_to.ensures in
    stays.delivers c.args.message c.deliver_to.result c.self.inside.leader c.deliver_to.new.cache does.does.by
    (subst (λ (n : Named Node). IsRightMessage g.J.Sharing.making.settings (IsOfLog g.J.Logs.log) n.name c.args.message) (sym c.self.view_is)
    c.requires.message) does.apart does.truth c.self.invariant
