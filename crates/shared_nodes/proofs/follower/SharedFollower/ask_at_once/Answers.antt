use Rattle.std.proofs.Common.{ap}
use Rattle.cache_items.specs.declared.look.Look.TheVariants.{Miss}
use Rattle.core_model.proofs.Staying.{looks_node}
use Rattle.core_model.specs.Serving.{IsFollowerFor}
use Rattle.log_names.specs.Names.{IsOfLog}
use Rattle.tao_base.specs.Queries.{query_shard}
use Rattle.shared_nodes.proofs.Turns.{serves_turn}
use Rattle.shared_nodes.proofs.follower.SharedFollower.ask_at_once.Goals as goal

pub open_true-requires : goal.open_true-requires
open_true-requires g c =
    let serves : IsFollowerFor g.J.Sharing.making.settings (query_shard c.args.query.now) c.self.inside.name =
    rw (ap (λ n. n.name) c.self.view_is) c.requires.serves in
    let one = serves_turn g.J.Sharing.making g.J.Logs.log c.self.inside.name c.self.inside.follower.node (query_shard c.args.query.now) c.self.invariant
    serves.here serves.serves in
    rw c.key.ensures one

pub invariant_of-self : goal.invariant_of-self
invariant_of-self g c =
    let done = c.open_true.ensures in
    looks_node g.J.Sharing.making.settings (IsOfLog g.J.Logs.log) (λ shard view note was is. was) c.self.inside.name c.key.result Miss c.open_true.result
    c.self.inside.follower.node c.open_true.new.follower.node done.does.node done.apart done.truth c.self.invariant
