use Rattle.std.proofs.Common.{subst}
use Rattle.core_model.specs.Asked.{lent_read, settings}
use Rattle.log_names.specs.Names.{IsOfLog}
use Rattle.shared_nodes.proofs.LeaderAsking.{asked_leader}
use Rattle.shared_nodes.proofs.LeaderTurns.{leader_log}
use Rattle.tao_base.specs.Queries.{query_shard}
use Rattle.shared_nodes.proofs.leader.SharedLeader.ask.Goals as goal

pub ask_at-requires : goal.ask_at-requires
ask_at-requires g c =
    let shard = query_shard c.args.read.now.query.now in
    let own : IsOfLog g.J.Logs.log shard c.args.store.now.store.view =
    subst (λ n. IsOfLog g.J.Logs.log n c.args.store.now.store.view) c.requires.store c.args.store.now.kept.log_is in
    record {
      log = leader_log g.J.Sharing.making g.J.Logs.log c.self.inside.name c.self.inside.leader c.args.self.now shard c.args.store.now.store.view
          c.self.view_is c.self.invariant c.requires.serves.here c.requires.serves.serves own;
    }

pub invariant_of-self : goal.invariant_of-self
invariant_of-self g c =
    let own : IsOfLog g.J.Logs.log (query_shard c.args.read.now.query.now) c.args.store.now.store.view =
    subst (λ n. IsOfLog g.J.Logs.log n c.args.store.now.store.view) c.requires.store c.args.store.now.kept.log_is in
    (asked_leader g.J.Sharing.making g.J.Logs.log c.self.inside.name (lent_read c.args.read.now) c.args.store.now.store
    (g.K.Keeper.state c.args.store.now.keeper) (g.K.Keeper.state c.ask_at.new.store.keeper) c.self.inside.leader c.ask_at.new.leader
    (settings c.args.around.now).schema c.ask_at.result
    (c.named_nodes_stay.ensures g.J.Sharing.making.settings g.J.Logs.log c.self.inside.name) c.requires.schema c.self.invariant own c.requires.store
    c.ask_at.ensures.given c.ask_at.ensures.legal c.ask_at.ensures.err).kept

pub returns-clause-given : goal.returns-clause-given
returns-clause-given g c =
    let own : IsOfLog g.J.Logs.log (query_shard c.args.read.now.query.now) c.args.store.now.store.view =
    subst (λ n. IsOfLog g.J.Logs.log n c.args.store.now.store.view) c.requires.store c.args.store.now.kept.log_is in
    (asked_leader g.J.Sharing.making g.J.Logs.log c.self.inside.name (lent_read c.args.read.now) c.args.store.now.store
    (g.K.Keeper.state c.args.store.now.keeper) (g.K.Keeper.state c.ask_at.new.store.keeper) c.self.inside.leader c.ask_at.new.leader
    (settings c.args.around.now).schema c.ask_at.result
    (c.named_nodes_stay.ensures g.J.Sharing.making.settings g.J.Logs.log c.self.inside.name) c.requires.schema c.self.invariant own c.requires.store
    c.ask_at.ensures.given c.ask_at.ensures.legal c.ask_at.ensures.err).given
