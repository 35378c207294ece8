-- A stage of a read, as one of a plan's: it changes no table and no message.
use Rattle.std.proofs.Common.{◌≡◌, Some, inr, sym, subst}
use Rattle.core_steps.proofs.core_mail_lemmas.InboxLemmas.{inboxes_stay}
use Rattle.core_steps.specs.core_mail.Inboxes.{AreInboxesOf, HaveArrived}
use Rattle.core_model.specs.Pens.{pens_of}
use Rattle.core_steps.proofs.core_nodes_lemmas.GrowingLemmas.{stays_stores}
use Rattle.core_plans.specs.Held.{StepsReadAlone}
use Rattle.core_plans.specs.HeldReads.{EndsReadAndPasses, HasComeTo, PassesReadStage, read_is_down, version_now}
use Rattle.core_plans.specs.LedBy.{Rules}
use Rattle.core_plans.specs.Needs.{read_down}
use Rattle.core_plans.specs.declared.held.HeldPlan.TheVariants.{Read}
use Rattle.core_plans.proofs.HeldReadLemmas.{legally}
use Rattle.core_plans.proofs.InTurn.{CarriesOn, one_carried}
use Rattle.core_plans.proofs.ReadRefusals.{over_refused}
use Rattle.core_steps.proofs.NotifyLemmas.{arrived_grows}
use Rattle.core_steps.proofs.PostsLemmas.{can_post_on}
use Rattle.core_steps.specs.Posting.{CanPost, PostsOn}
use Rattle.core_steps.specs.ReadSteps.{ReadsOn}
use Rattle.core_steps.specs.World.{World}
use Rattle.graph_model.specs.Told.{WhereTold}
use Rattle.node_name.specs.declared.NodeName.{NodeName}
use Rattle.read_plan.specs.Readings.{Reading}
use Rattle.read_plan.specs.declared.end.ReadEnd.TheVariants as ended
use Rattle.read_plan.specs.declared.standing.Standing.TheVariants.{Ended}

-- what a read's stage keeps, as what a plan's keeps
pub reads_post : (rules : Rules) (old new : World) → CanPost rules.tells rules.settings old → ReadsOn rules.tells rules.settings old new
    → PostsOn rules.tells rules.settings old new
reads_post rules old new ready on =
    let tells = rules.tells in
    let s = rules.settings in
    let pens = pens_of new.fleet.stores in
    let grows = stays_stores tells s old.keepers new.keepers on.tables in
    record {
      consistent = on.consistent;
      inboxes = subst (AreInboxesOf s pens) (sym on.inboxes)
          ((inboxes_stay s (pens_of old.fleet.stores) old.inboxes).rises pens on.goes.rise ready.inboxes);
      arrived = subst (λ i. WhereTold tells (HaveArrived new.keepers.told i)) (sym on.inboxes)
          (arrived_grows tells old.keepers.told new.keepers.told old.inboxes grows.on.logs ready.arrived);
      states = on.states;
      goes = on.goes;
      grows = grows;
      later = on.later;
      link = on.link;
    }

-- one that ended since a node is down did what becomes of it by its next stage
pub down_passes : (rules : Rules) (p q : Reading) (old new : World) (node : NodeName) → read_down old.states p ≡ Some node
    → EndsReadAndPasses rules (read_is_down node) p old q new → PassesReadStage rules p old q new
down_passes rules p q old new node down over =
    let at = over_refused (read_is_down node) p q old new over.ends in
    record {
      steps = record {
        does = inr (record { node = node; down = down; over = over.ends });
        legal = legally rules.tells rules.settings q new (Ended (ended.Refused (read_is_down node))) at (λ reply is. absurd (cc));
        whole = λ least was told critical. subst (HasComeTo least (version_now rules.settings q new.keepers)) (sym at) tt;
      };
      read = over.read;
      on = over.on;
    }

-- and what it does
pub passes_alone : (rules : Rules) (p q : Reading) (old new : World) → PassesReadStage rules p old q new → StepsReadAlone rules p old q new
passes_alone rules p q old new passed = record { steps = passed.steps; tables = passed.on.tables; inboxes = passed.on.inboxes }

-- one more stage was done
pub read_carried : (rules : Rules) (p m q : Reading) (old mid new : World) → CanPost rules.tells rules.settings old
    → CarriesOn rules (Read p) old (Read m) mid → PassesReadStage rules m mid q new → CarriesOn rules (Read p) old (Read q) new
read_carried rules p m q old mid new ready so_far passed =
    let ready_still = can_post_on rules.tells rules.settings old mid ready so_far.on in
    one_carried rules (Read p) (Read m) (Read q) old mid new so_far (passes_alone rules m q mid new passed) passed.read
    (reads_post rules mid new ready_still passed.on)
