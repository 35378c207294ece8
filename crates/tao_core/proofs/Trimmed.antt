-- A core after a trim: what is replied, and that it may be used as before.
use Rattle.std.proofs.Common.{◌≡◌, ◌∙◌, ℕ, Bool, List, [], ◌∷◌, None, refl, ap, sym, subst, inl, inr}
use Rattle.core_model.specs.Emptied.{RegionTables, at_stores}
use Rattle.core_model.specs.Pens.{pens_of}
use Rattle.core_plans.proofs.AsksHeld.{opens_none_on, same_opens_none}
use Rattle.core_plans.specs.Held.{OpensNone}
use Rattle.core_steps.specs.ReadSteps.{AskFails}
use Rattle.core_steps.specs.World.{World, world}
use Rattle.core_steps.specs.declared.nodes.Nodes.{Nodes}
use Rattle.core_trims.specs.Trims.{ResetEach, TrimsOn, TrimsOver}
use Rattle.node_name.specs.declared.NodeName.{NodeName}
use Rattle.replies.specs.declared.nodes.NodeReply.TheVariants as node
use Rattle.replies.specs.declared.nodes.Trimmed.{Trimmed}
use Rattle.replies.specs.declared.refusals.Refusal.{Refusal}
use Rattle.replies.specs.declared.reply.Reply.{Reply}
use Rattle.replies.specs.declared.reply.Reply.TheVariants.{Node, Refused}
use Rattle.tao_base.specs.declared.id.StoreName.{StoreName}
use Rattle.tao_keeper.specs.KeeperState.{KeeperState, KeepsTables}
use Rattle.tao_link.specs.Shown.{LinkShown}
use Rattle.tao_core.proofs.HealthLemmas.{emptied_opens}
use Rattle.tao_core.proofs.HeldOn.{none_come, plans_later}
use Rattle.tao_core.proofs.Keeping.{written_core}
use Rattle.tao_core.proofs.Settled.{left_core}
use Rattle.tao_core.specs.Calls.{world_at}
use Rattle.tao_core.specs.Core.{CoreState, IsCoreOf, StaysUsable, moment}
use Rattle.tao_core.specs.Trims.{AnswersTrim}

-- nodes that begin anew, one after another, open no ask that stays open
resets_open : (over : RegionTables) (names : List NodeName) (old new : World) → ResetEach over names old new
    → OpensNone old.fleet.followers new.fleet.followers
resets_open over [] old new same = same_opens_none old.fleet.followers new.fleet.followers (ap (λ (w : World). w.fleet.followers) same)
resets_open over (name ∷ names) old new each =
    opens_none_on old.fleet.followers each.0.fleet.followers new.fleet.followers (resets_open over names old each.0 each.1)
    (emptied_opens name (pens_of each.0.fleet.stores) (at_stores over) each.0.fleet new.fleet each.2.empties)

-- a trim speaks of no link, so what it leaves is what it leaves before any
any_link : LinkShown
any_link = record { cuts = None; carries = 0; faults = 0; failed = None }

module _ (tells : Bool) (core seen : CoreState) (own : core ≡ seen) (before now : KeeperState) (end : Nodes)
    (on : (link : LinkShown) → TrimsOn tells core.settings (world_at core before link) (world end now link)) where
  abbrev Left : CoreState
  Left = left_core core end.topology end.fleet end.mail

  left_usable : OpensNone core.fleet.followers end.fleet.followers → IsCoreOf tells before.told seen → StaysUsable tells before now seen Left
  left_usable opens of_seen =
      let of = subst (IsCoreOf tells before.told) (sym own) of_seen in
      let went = on any_link in
      subst (λ x. StaysUsable tells before now x Left) own (record {
        settings = refl;
        keepers = record {
          is_consistent = written_core tells before.told core of.is_consistent now.told end.topology end.fleet end.mail went.states went.order.consistent
              went.order.inboxes went.order.arrived went.goes went.on.logs;
          past = went.past;
          plans = plans_later tells core.settings before.told now.told core.fleet end.fleet core.plans (record { goes = went.goes; opens = opens }) went.on
              went.order.consistent of.plans;
          authors = of.authors;
        };
        goes = went.goes;
        comes = none_come tells now.told core Left went.states;
        grows = went.on;
        later = went.later;
      })

  -- ---- the log was cut

  module _ (at : StoreName) (position : ℕ) (trimmed : Trimmed)
      (trims : (link : LinkShown) → TrimsOver tells core.settings at position trimmed (world_at core before link) (world end now link)) where
    pub trims_store : (reply : Reply) (link : LinkShown) → reply ≡ Node (node.Trimmed trimmed)
        → AnswersTrim tells at position (moment seen before link) reply (moment Left now link)
    trims_store reply link said =
        subst (λ x. AnswersTrim tells at position (moment x before link) reply (moment Left now link)) own (inl (record {
          trimmed = trimmed;
          reply_is = said;
          trims = trims link;
          rest = ap (λ n. moment (left_core core n end.fleet end.mail) now link) (on link).states;
        }))

    pub trim_usable : IsCoreOf tells before.told seen → StaysUsable tells before now seen Left
    trim_usable =
        let cut = trims any_link in
        left_usable (resets_open _ _ (record (world_at core before any_link) { keepers = now }) (world end now any_link) cut.resets)

  -- ---- it was refused

  module _ (nodes : Nodes) (core_is : left_core core nodes.topology nodes.fleet nodes.mail ≡ core) (same : end ≡ nodes) where
    left_is : Left ≡ core
    left_is = ap (λ (n : Nodes). left_core core n.topology n.fleet n.mail) same ∙ core_is

    pub fails_to_trim : (at : StoreName) (position : ℕ) (reply : Reply) (link : LinkShown) (refusal : Refusal) → reply ≡ Refused refusal
        → AskFails refusal before now → KeepsTables tells before now
        → AnswersTrim tells at position (moment seen before link) reply (moment Left now link)
    fails_to_trim at position reply link refusal said fails tables =
        subst (λ x. AnswersTrim tells at position (moment x before link) reply (moment Left now link)) own (inr (record {
          refusal = refusal;
          reply_is = said;
          fails = fails;
          tables = tables;
          rest = ap (λ x. moment x now link) left_is;
        }))

    pub untrimmed_usable : IsCoreOf tells before.told seen → StaysUsable tells before now seen Left
    untrimmed_usable =
        left_usable (same_opens_none core.fleet.followers end.fleet.followers (ap (λ (x : CoreState). x.fleet.followers) left_is))
