use Rattle.std.proofs.Common.{subst, true, ◌∙◌}
use Rattle.core_model.specs.Serving.{IsLeaderFor}
use Rattle.core_model.specs.leader_tier.TakenWrites.{taken_entry}
use Rattle.shard_log.specs.View.{as_note}
use Rattle.shared_nodes.proofs.LeaderTurns.{leader_log}
use Rattle.shared_nodes.proofs.leader.SharedLeader.commit.Goals as goal

pub commit_at-requires-clause-leader : goal.commit_at-requires-clause-leader
commit_at-requires-clause-leader g c =
    let shard = c.args.store.now.store.name.shard in
    let serving : IsLeaderFor g.J.Sharing.making.settings shard c.args.self.now.name =
    subst (λ n. IsLeaderFor g.J.Sharing.making.settings n c.args.self.now.name) c.requires.here c.requires.serves in
    leader_log g.J.Sharing.making g.J.Logs.log c.self.inside.name c.self.inside.leader c.args.self.now shard c.args.store.now.store.view c.self.view_is
    c.self.invariant serving.here serving.serves c.args.store.now.kept.log_is

pub invariant_of-self : goal.invariant_of-self
invariant_of-self g c =
    let stays = c.named_nodes_stay.ensures g.J.Sharing.making.settings g.J.Logs.log c.self.inside.name in
    let done = c.commit_at.ensures.node in
    stays.writes c.args.store.now.store.name.shard (taken_entry true c.commit_at.result) (as_note c.commit_at.new.store.store.view) c.self.inside.leader
    c.commit_at.new.leader done.does (c.commit_at.ensures.store.grows.log_is ∙ c.args.store.now.kept.log_is) done.apart done.truth c.self.invariant
