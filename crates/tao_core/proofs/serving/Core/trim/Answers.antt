use Rattle.std.proofs.Common.{refl, subst, sym, ◌∙◌, ap}
use Rattle.core_model.specs.Stores.{IsConfiguredStore}
use Rattle.core_steps.specs.ReadSteps.{AskFails}
use Rattle.store_replies.specs.Refused.{refused_as}
use Rattle.tao_core.specs.Core.{CoreState, IsCoreOf, core_state}
use Rattle.tao_core.proofs.HealthLemmas.{fails_to_ask}
use Rattle.tao_core.proofs.Trimmed.{fails_to_trim, trim_usable, trims_store, untrimmed_usable}
use Rattle.tao_core.proofs.serving.Core.trim.Goals.{in-Err, in-Ok}
use Rattle.tao_core.proofs.serving.Core.trim.Goals as goal

pub trim_over-requires : goal.trim_over-requires
trim_over-requires g c =
    let of = subst (IsCoreOf g.K.Keeper.TELLS (g.K.Keeper.state c.args.keepers.now).told) (sym c.self.view_is) c.requires.keepers in
    let is = of.is_consistent in
    record {
      consistent = is.consistent;
      inboxes = is.mail;
      arrived = is.arrived;
      past = of.past;
      here = subst (λ (x : CoreState). IsConfiguredStore x.settings c.args.at) (sym c.self.view_is) c.requires.here;
    }

pub returns : goal.returns
returns g c =
    let tells = g.K.Keeper.TELLS in
    let core = core_state c.self.inside in
    let before = g.K.Keeper.state c.args.keepers.now in
    let done = c.trim_over in
    let now = g.K.Keeper.state done.new.keepers in
    elim c.match-trim_over.branch [
      | in-Ok w ↦ record {
        does = λ link. trims_store tells core c.args.self.now c.self.view_is before now done.new.nodes done.ensures.on c.args.at c.args.position
            w.in-Ok.trimmed w.in-Ok.ensures.trims _ link w.result-is;
        usable = trim_usable tells core c.args.self.now c.self.view_is before now done.new.nodes done.ensures.on c.args.at c.args.position
            w.in-Ok.trimmed w.in-Ok.ensures.trims c.requires.keepers;
      }
      | in-Err w ↦
          let told = w.refused_as.ensures ∙ ap (λ n. refused_as n w.in-Err.refusal) w.faults.ensures in
          let fails = subst (λ r. AskFails r before now) (sym told)
          (fails_to_ask w.in-Err.refusal before now w.in-Err.ensures.refused (λ fault. done.ensures.calls.failed (w.in-Err.is ∙ fault))) in
          record {
            does = λ link. fails_to_trim tells core c.args.self.now c.self.view_is before now done.new.nodes done.ensures.on c.self.inside.nodes refl
                w.in-Err.ensures.same c.args.at c.args.position _ link w.refused_as.result w.result-is fails w.in-Err.ensures.stays;
            usable = untrimmed_usable tells core c.args.self.now c.self.view_is before now done.new.nodes done.ensures.on c.self.inside.nodes refl
                w.in-Err.ensures.same c.requires.keepers;
          }
    ]
