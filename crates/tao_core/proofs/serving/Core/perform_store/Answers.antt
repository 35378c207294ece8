use Rattle.std.proofs.Common.{ap, refl, subst, sym}
use Rattle.core_model.specs.Stores.{IsConfiguredStore}
use Rattle.request_check.specs.Stores.{IsPlacedStore}
use Rattle.tao_core.specs.Core.{CoreState, moment}
use Rattle.tao_core.specs.StoreReplies.{AnswersAudit, AnswersStore}
use Rattle.tao_core.specs.Trims.{AnswersTrim}
use Rattle.tao_core.proofs.HeldOn.{core_held, nodes_go_on, same_held}
use Rattle.tao_core.proofs.Keeping.{core_stays}
use Rattle.tao_core.proofs.serving.Core.perform_store.Goals as goal

pub stream-requires-clause-here : goal.stream-requires-clause-here
stream-requires-clause-here g c =
    let here = subst (IsPlacedStore c.args.self.now.settings) c.in-Stream.is c.requires.can in
    subst (IsConfiguredStore c.args.self.now.settings) (sym c.region_store-at.ensures) (record { region = here.0; shard = here.1 })

pub returns-in-Stream-clause-usable : goal.returns-in-Stream-clause-usable
returns-in-Stream-clause-usable g c =
    let ends = c.stream.ensures in
    nodes_go_on g.K.Keeper.TELLS (g.K.Keeper.state c.args.keepers.now) (g.K.Keeper.state c.stream.new.keepers) c.args.self.now c.stream.new.self
    c.requires.keepers ends.leaves ends.rest

pub trim-requires-clause-here : goal.trim-requires-clause-here
trim-requires-clause-here g c =
    let here = subst (IsPlacedStore c.args.self.now.settings) c.in-Trim.is c.requires.can in
    subst (IsConfiguredStore c.args.self.now.settings) (sym c.region_store.ensures) (record { region = here.0; shard = here.1 })

pub returns-in-Trim : goal.returns-in-Trim
returns-in-Trim g c =
    let old = g.K.Keeper.state c.args.keepers.now in
    let new = g.K.Keeper.state c.trim.new.keepers in
    let link = g.L.Link.shown c.args.link.now in
    let core = c.args.self.now in
    let done = c.trim in
    record {
      does = subst (λ a. AnswersStore g.K.Keeper.TELLS a (moment core old link) done.result (moment done.new.self new link)) (sym c.in-Trim.is)
          (subst (λ at. AnswersTrim g.K.Keeper.TELLS at c.in-Trim.position (moment core old link) done.result (moment done.new.self new link))
          c.region_store.ensures (done.ensures.does link));
      usable = done.ensures.usable;
    }

pub repair-requires-clause-here : goal.repair-requires-clause-here
repair-requires-clause-here g c = subst (IsPlacedStore c.args.self.now.settings) c.in-Repair.is c.requires.can

pub returns-in-Repair-clause-usable : goal.returns-in-Repair-clause-usable
returns-in-Repair-clause-usable g c =
    let ends = c.repair.ensures in
    nodes_go_on g.K.Keeper.TELLS (g.K.Keeper.state c.args.keepers.now) (g.K.Keeper.state c.repair.new.keepers) c.args.self.now c.repair.new.self
    c.requires.keepers ends.leaves ends.does.rest

pub returns-in-Audit : goal.returns-in-Audit
returns-in-Audit g c =
    let old = g.K.Keeper.state c.args.keepers.now in
    let new = g.K.Keeper.state c.audit.new.keepers in
    let link = g.L.Link.shown c.args.link.now in
    let core = c.args.self.now in
    let ends = c.audit.ensures in
    record {
      does = subst (λ a. AnswersStore g.K.Keeper.TELLS a (moment core old link) c.audit.result (moment core new link)) (sym c.in-Audit.is) (
        subst (λ s. AnswersAudit g.K.Keeper.TELLS s old c.in-Audit.call c.audit.result new) (ap (λ (x : CoreState). x.settings) c.self.view_is) ends.does,
        refl,
      );
      usable = core_held g.K.Keeper.TELLS old new core core c.requires.keepers
          (core_stays g.K.Keeper.TELLS old.told new.told core c.requires.keepers.is_consistent ends.stays) (same_held core.fleet) ends.stays ends.later refl;
    }
