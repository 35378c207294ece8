-- A line that is no call and opens no session, as a step of the promise: by what its reply says and what becomes of the logs.
use Rattle.std.proofs.Common.{◌≡◌, ℕ, [], Option, Some, append-nil, refl, sym, ap, subst, ◌∙◌}
use Rattle.plain_promise.specs.Promise.{ChangesLogs, EachGrows, Logs, Plain, SaysRightly, held_after, seen_after, settled_after}
use Rattle.promise_kept.proofs.Going.{kept_now, logs_grow}
use Rattle.promise_kept.proofs.Resting.{plain_rests}
use Rattle.promise_kept.specs.Lines.{GoesOnUsable, StepsPlainly}
use Rattle.promise_kept.specs.Seen.{IsPlainOf, IsSettledSince, stores_at}
use Rattle.replies.specs.declared.reply.Reply.{Reply}
use Rattle.request_check.specs.declared.checked.Checked.{Checked}
use Rattle.tao_core.specs.Core.{CoreState, Moment}
use Rattle.tao_schema.specs.Schema.{types_of}
use Rattle.write_model.specs.Merges.{Stores}

-- the sessions and the calls that are held stay
pub record KeepsCalls (old new : Moment) : Type 0 where
  pub sessions : new.core.sessions ≡ old.core.sessions
  pub plans : new.core.plans ≡ old.core.plans

-- so they do where only nodes and their messages change
pub keeps_calls : (old new : Moment) → new.core ≡ record old.core { fleet = new.core.fleet; mail = new.core.mail } → KeepsCalls old new
keeps_calls old new rest = record {
  sessions = ap (λ (c : CoreState). c.sessions) rest;
  plans = ap (λ (c : CoreState). c.plans) rest;
}

-- and where nothing of the core does
pub keeps_core : (old new : Moment) → new.core ≡ old.core → KeepsCalls old new
keeps_core old new same = record {
  sessions = ap (λ (c : CoreState). c.sessions) same;
  plans = ap (λ (c : CoreState). c.plans) same;
}

pub keeps_on : (old mid new : Moment) → KeepsCalls old mid → KeepsCalls mid new → KeepsCalls old new
keeps_on old mid new first second = record {
  sessions = second.sessions ∙ first.sessions;
  plans = second.plans ∙ first.plans;
}

-- the plain state after it, with what is remembered of settles
abbrev pub plain_with : Plain → Moment → Option Logs → Plain
plain_with plain new settled = record plain { stores = stores_at new; settled = settled }

module _ (old new : Moment) (plain : Plain) (is : IsPlainOf old plain) (on : GoesOnUsable old new) (keeps : KeepsCalls old new) where
  seen_settled : (settled : Option Logs) → IsSettledSince new settled → IsPlainOf new (plain_with plain new settled)
  seen_settled settled since =
      let rests = plain_rests old new on plain is keeps.sessions keeps.plans in
      record { stores = refl; learnt = rests.learnt; held = rests.held; settled = since }

  pub steps_so : (asked : Checked) (reply : Reply)
      → SaysRightly (types_of old.core.settings.schema) plain asked reply (plain_with plain new (settled_after plain reply (stores_at new).logs))
      → ChangesLogs (types_of old.core.settings.schema) plain asked (stores_at new).logs
      → ((plan : ℕ) → plain.held plan ≡ held_after plain asked (stores_at new).logs plan)
      → ((session : ℕ) → plain.seen session ≡ seen_after plain asked reply session) → IsSettledSince new (settled_after plain reply (stores_at new).logs)
      → StepsPlainly (Some asked) old plain reply new
  steps_so asked reply says changes held shows since = record {
    after = plain_with plain new (settled_after plain reply (stores_at new).logs);
    says = record {
      says = says;
      changes = changes;
      grows = subst (λ (st : Stores). EachGrows st.logs (stores_at new).logs) (sym is.stores) (logs_grow old new on);
      well_kept = kept_now old new on;
      learnt = λ session. ([], sym (append-nil (plain.learnt session)));
      seen = shows;
      held = held;
      settled = refl;
    };
    seen = seen_settled (settled_after plain reply (stores_at new).logs) since;
  }
