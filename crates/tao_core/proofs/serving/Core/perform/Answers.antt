use Rattle.std.proofs.Common.{Ok, ap, subst, sym}
use Rattle.tao_core.specs.Asked.{CanBeDone}
use Rattle.tao_core.specs.Core.{moment}
use Rattle.tao_core.specs.Replies.{AnswersAsked}
use Rattle.core_sessions.specs.declared.sessions.OpenSession.{OpenSession}
use Rattle.tao_core.proofs.HeldOn.{core_opened, core_unchanged}
use Rattle.tao_core.proofs.StayOpen.{opens_stay}
use Rattle.tao_core.proofs.serving.Core.perform.Goals as goal

pub open_session-requires-clause-region : goal.open_session-requires-clause-region
open_session-requires-clause-region g c =
    (subst (CanBeDone c.args.self.now.settings c.args.self.now.sessions c.args.self.now.plans) c.in-Open.is c.requires.can).1

pub returns-in-Open : goal.returns-in-Open
returns-in-Open g c =
    let keepers = g.K.Keeper.state c.args.keepers.now in
    let link = g.L.Link.shown c.args.link.now in
    let core = c.args.self.now in
    let can = subst (CanBeDone core.settings core.sessions core.plans) c.in-Open.is c.requires.can in
    let opened : OpenSession = record { session = c.in-Open.session; region = c.in-Open.region; tier = c.in-Open.tier } in
    let ends = c.open_session.ensures in
    let new = c.open_session.new.self in
    record {
      does = subst (λ a. AnswersAsked g.K.Keeper.TELLS (moment core keepers link) (Ok a) c.open_session.result (moment new keepers link)) (sym c.in-Open.is)
          (ends.does, ap (λ x. moment x keepers link) ends.rest);
      usable = core_opened g.K.Keeper.TELLS keepers core new c.requires.keepers
          (ends.keepers g.K.Keeper.TELLS keepers.told c.requires.keepers.is_consistent) ends.rest
          (opens_stay opened core.sessions c.open_session.result new.sessions can.0 ends.does);
    }

pub returns-in-Health-clause-does : goal.returns-in-Health-clause-does
returns-in-Health-clause-does g c =
    let link = g.L.Link.shown c.args.link.now in
    let old = moment c.args.self.now (g.K.Keeper.state c.args.keepers.now) link in
    let new = moment c.perform_health.new.self (g.K.Keeper.state c.perform_health.new.keepers) link in
    subst (λ a. AnswersAsked g.K.Keeper.TELLS old (Ok a) c.perform_health.result new) (sym c.in-Health.is) (c.perform_health.ensures.does link)

pub returns-in-Link-clause-usable : goal.returns-in-Link-clause-usable
returns-in-Link-clause-usable g c = core_unchanged g.K.Keeper.TELLS (g.K.Keeper.state c.args.keepers.now) c.args.self.now c.requires.keepers
