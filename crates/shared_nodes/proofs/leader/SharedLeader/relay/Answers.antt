use Rattle.std.proofs.Common.{refl, subst}
use Rattle.cache_items.specs.Node.{Node}
use Rattle.cache_items.specs.TakenEntry.{AppliesEntry}
use Rattle.tao_schema.specs.Schema.{types_of}
use Rattle.tao_schema.specs.declared.schema.Schema.{Schema}
use Rattle.shared_nodes.proofs.LeaderTurns.{leader_log, without_refills}
use Rattle.shared_nodes.proofs.leader.SharedLeader.relay.Goals as goal

pub relay_of-requires-clause-log : goal.relay_of-requires-clause-log
relay_of-requires-clause-log g c =
    leader_log g.J.Sharing.making g.J.Logs.log c.self.inside.name c.self.inside.leader c.args.self.now c.args.shard c.args.note c.self.view_is
    c.self.invariant c.requires.serves.here c.requires.serves.serves c.requires.log

pub invariant_of-self : goal.invariant_of-self
invariant_of-self g c =
    let stays = c.named_nodes_stay.ensures g.J.Sharing.making.settings g.J.Logs.log c.self.inside.name in
    let done = c.relay_of.ensures in
    let from : Node = c.self.inside.leader in
    let to : Node = c.relay_of.new.leader in
    let does : AppliesEntry (types_of g.J.Sharing.making.settings.schema) c.args.shard c.args.entry.now c.args.note from to =
    subst (λ (x : Schema). AppliesEntry (types_of x) c.args.shard c.args.entry.now c.args.note from to) c.requires.schema done.does in
    stays.applies c.args.shard c.args.entry.now c.args.note (without_refills from) (without_refills to) (record { node = does; refills = refl })
    c.requires.log done.apart done.truth c.self.invariant
