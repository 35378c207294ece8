use Rattle.std.proofs.Common.{refl, subst, sym}
use Rattle.shard_log.specs.View.{as_note}
use Rattle.shard_tables.specs.Written.{LiesOn}
use Rattle.core_mail.specs.Inboxes.{AreInboxesOf}
use Rattle.core_model.specs.Pens.{Pens, pens_of}
use Rattle.core_model.specs.Writes.{IsSeenEntry}
use Rattle.core_steps.proofs.StreamSteps.{landed, seen_note}
use Rattle.core_steps.proofs.LinkLemmas.{link_self}
use Rattle.core_steps.proofs.PostsLemmas.{posts_same}
use Rattle.core_steps.specs.Streams.{IsNewsOf}
use Rattle.core_steps.specs.World.{world}
use Rattle.core_steps.proofs.nodes.Nodes.land.Goals as goal

pub take_streamed-requires-clause-seen : goal.take_streamed-requires-clause-seen
take_streamed-requires-clause-seen g c =
    let pens = pens_of c.args.self.now.fleet.stores in
    subst (λ v. IsSeenEntry pens c.args.at.shard v c.args.load.entry) (sym c.requires.load.note_is)
    (seen_note pens c.args.at.shard c.args.load.entry c.requires.stands)

pub region_takes_as-requires-clause-inboxes : goal.region_takes_as-requires-clause-inboxes
region_takes_as-requires-clause-inboxes g c =
    subst (λ (pens : Pens). AreInboxesOf c.args.config.now pens c.args.self.now.mail) (sym c.in-Ok.ensures.pens) c.requires.inboxes

pub region_takes_as-requires-clause-seen : goal.region_takes_as-requires-clause-seen
region_takes_as-requires-clause-seen g c =
    let at = c.args.at.shard in
    subst (λ (pens : Pens). IsSeenEntry pens at (as_note (pens at)) c.args.load.entry) (sym c.in-Ok.ensures.pens)
    (seen_note (pens_of c.args.self.now.fleet.stores) at c.args.load.entry c.requires.stands)

pub region_takes_as-requires-clause-lies : goal.region_takes_as-requires-clause-lies
region_takes_as-requires-clause-lies g c =
    let at = c.args.at.shard in
    subst (λ (pens : Pens). LiesOn (pens at) at c.args.load.entry) (sym c.in-Ok.ensures.pens) c.requires.lies

pub region_takes_as-requires-clause-news : goal.region_takes_as-requires-clause-news
region_takes_as-requires-clause-news g c =
    let at = c.args.at in
    subst (λ (pens : Pens). IsNewsOf c.args.self.now.topology at c.args.load.entry (as_note (pens at.shard)) c.args.load.news) (sym c.in-Ok.ensures.pens)
    c.requires.load.news_is

pub returns-in-Ok-clause-takes : goal.returns-in-Ok-clause-takes
returns-in-Ok-clause-takes g c = λ link.
    (landed g.K.Keeper.TELLS c.args.config.now c.args.at c.args.load.entry c.in-Ok.verdict c.args.self.now c.take_streamed.new.self
    c.region_takes_as.new.self (g.K.Keeper.state c.args.keepers.now) (g.K.Keeper.state c.take_streamed.new.keepers) c.in-Ok.ensures.streams
    c.in-Ok.ensures.rest c.in-Ok.ensures.rests c.in-Ok.ensures.consistent c.in-Ok.ensures.goes c.in-Ok.ensures.grows
    (record { calls = c.in-Ok.ensures.calls.calls; faults = c.in-Ok.ensures.calls.faults })
    (record {
      takes = c.region_takes_as.ensures.takes;
      rest = c.region_takes_as.ensures.rest;
      fleet = c.region_takes_as.ensures.fleet;
      goes = c.region_takes_as.ensures.goes;
      inboxes = c.region_takes_as.ensures.inboxes;
    })
    c.requires.arrived link).takes

pub returns-in-Ok-clause-on : goal.returns-in-Ok-clause-on
returns-in-Ok-clause-on g c = λ link.
    (landed g.K.Keeper.TELLS c.args.config.now c.args.at c.args.load.entry c.in-Ok.verdict c.args.self.now c.take_streamed.new.self
    c.region_takes_as.new.self (g.K.Keeper.state c.args.keepers.now) (g.K.Keeper.state c.take_streamed.new.keepers) c.in-Ok.ensures.streams
    c.in-Ok.ensures.rest c.in-Ok.ensures.rests c.in-Ok.ensures.consistent c.in-Ok.ensures.goes c.in-Ok.ensures.grows
    (record { calls = c.in-Ok.ensures.calls.calls; faults = c.in-Ok.ensures.calls.faults })
    (record {
      takes = c.region_takes_as.ensures.takes;
      rest = c.region_takes_as.ensures.rest;
      fleet = c.region_takes_as.ensures.fleet;
      goes = c.region_takes_as.ensures.goes;
      inboxes = c.region_takes_as.ensures.inboxes;
    })
    c.requires.arrived link).on

pub returns-clause-on : goal.returns-clause-on
returns-clause-on g c = λ link.
    let was = c.args.self.now in
    let old = world was (g.K.Keeper.state c.args.keepers.now) link in
    let new = world (record was { fleet = c.take_streamed.new.self }) (g.K.Keeper.state c.take_streamed.new.keepers) link in
    posts_same g.K.Keeper.TELLS c.args.config.now old new c.requires.inboxes c.requires.arrived c.in-Err.ensures.rests refl refl
    c.take_streamed.ensures.consistent c.take_streamed.ensures.grows
    (record { calls = c.take_streamed.ensures.calls.calls; faults = c.take_streamed.ensures.calls.faults }) (link_self link)
