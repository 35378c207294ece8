use Rattle.std.proofs.Common.{IfOk, ap, subst}
use Rattle.core_model.specs.Reads.{wanted}
use Rattle.core_model.specs.leader_tier.LeaderReads.{GivesAnswer, IsLegalAt, asked_read}
use Rattle.tao_schema.specs.Schema.{types_of}
use Rattle.topology.specs.Config.{Settings}
use Rattle.node_stages.proofs.LeaderGave.{leader_gave}
use Rattle.node_stages.proofs.reads.ask_leader.Goals as goal

pub returns-clause-given : goal.returns-clause-given
returns-clause-given g c =
    let state = g.K.Keeper.state in
    let made = c.answer-given in
    let read = wanted c.args.read.now.query.now c.args.read.now.floor in
    leader_gave (types_of c.args.around.now.config.now.schema) read c.args.store.now (state c.args.keepers.now) (state made.new.keeper)
    c.args.leader.now made.new.self made.result
    (subst (λ k. IfOk made.result (λ given. GivesAnswer (asked_read (types_of k) c.args.leader.now read.query read.floor) c.args.store.now given
    made.new.self (state c.args.keepers.now) (state made.new.keeper))) (ap (λ (s : Settings). s.schema) c.config.view_is) made.ensures.given)
    c.leaders_are_true.ensures.apart c.leaders_are_true.ensures.asks c.leaders_are_true-2.ensures.truth

pub returns-clause-legal : goal.returns-clause-legal
returns-clause-legal g c =
    subst (λ k. IfOk c.answer-given.result (IsLegalAt (types_of k) c.args.read.now.query.now c.args.read.now.floor))
    (ap (λ (s : Settings). s.schema) c.config.view_is) c.answer-given.ensures.legal
