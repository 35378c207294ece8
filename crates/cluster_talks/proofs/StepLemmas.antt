-- A connection to the cluster goes on through a line.
use Rattle.std.proofs.Common.{◌≡◌, ℕ, Bool, true, false, List, [], Result, Ok, Err, inl, inr, refl, sym, ap, subst}
use Rattle.cluster_talks.specs.TalkStates.{IsOpenFor, MayTalk, TalkGoesOn, TalkState, TalksOn, opened_for, talk_state}
use Rattle.cluster_talks.specs.TalkSteps.{IsOpening, OpensFor, RepliesToOpen, RepliesToPlaced, TalkRefused}
use Rattle.log_names.specs.Names.{LogNames}
use Rattle.replies.specs.declared.refusals.Refusal.{Refusal}
use Rattle.replies.specs.declared.reply.Reply.{Reply}
use Rattle.session_pass.specs.Floors.{HasNoFloors}
use Rattle.session_pass.specs.Passes.{SeenPass}
use Rattle.shared_stores.specs.Making.{Making}
use Rattle.shared_tiers.proofs.CallLemmas as calls
use Rattle.shared_tiers.specs.Calls.{Calling, calling}
use Rattle.shared_tiers.specs.locked_nodes.Passes.{IsPassOf, PassGoesOn}
use Rattle.tao_base.specs.declared.id.Key.{Key}
use Rattle.request_check.specs.Placed.{IsPlacedTier}
use Rattle.request_check.specs.Requests.{IsPlaced}
use Rattle.request_check.specs.declared.checked.Checked.{Checked}
use Rattle.request_check.specs.declared.checked.Checked.TheVariants as checked

-- a pass without floors was told of nothing
pub no_floors : (floors : List (Key × ℕ)) → floors ≡ [] → HasNoFloors floors
no_floors floors is = subst HasNoFloors (sym is) (record { none = λ key. refl })

-- nothing was done
pub goes_self : (s : TalkState) → TalkGoesOn s s
goes_self s = let on = calls.goes_self s.now.pass in record { stays = λ open_. open_; floors = on.floors; notes = on.notes }

module _ (m : Making) (log : LogNames) where
  pub on_self : (s : TalkState) → MayTalk m log s → TalksOn m log s s
  on_self s may = record { may = may; goes = goes_self s }

  -- a line was refused
  pub on_refused : (old new : TalkState) (refusal : Refusal) (said : Reply) → MayTalk m log old → TalkRefused old new refusal said → TalksOn m log old new
  on_refused old new refusal said may refused = subst (TalksOn m log old) (sym refused.same) (on_self old may)

  -- the session was called for
  pub on_called : (old new : Calling) → IsPassOf m log new.pass → PassGoesOn old.pass new.pass → TalksOn m log (talk_state true old) (talk_state true new)
  on_called old new is goes = record {
    may = record { pass = is; untold = λ not. absurd (cc not) };
    goes = record { stays = λ open_. open_; floors = goes.floors; notes = goes.notes };
  }

  -- the session was opened
  pub on_opened : (old : TalkState) (session region tier : ℕ) → IsPlacedTier m.settings region tier → MayTalk m log old
      → TalksOn m log old (opened_for session region tier old)
  on_opened old session region tier placed may = let on = calls.goes_self old.now.pass in record {
    may = record {
      pass = record { home = placed.configured; tier = placed.within; long = may.pass.long; notes = may.pass.notes };
      untold = λ not. absurd (cc not);
    };
    goes = record { stays = λ open_. refl; floors = on.floors; notes = on.notes };
  }
