-- The line of a call that isn't held: what it keeps whatever the call, and where no plan was begun.
use Rattle.std.proofs.Common.{◌≡◌, ◌++◌, [], ℕ, List, Option, Some, append-nil, refl, sym, ap, subst, inl}
use Rattle.core_model.specs.Stores.{stores_in}
use Rattle.core_plans.specs.Held.{plan_at}
use Rattle.core_sessions.specs.Sessions.{Session}
use Rattle.plain_promise.specs.Promise.{Begun, CallsAlone, IsWellKept, Logs, Plain, RefusesAt, SaysOfCall, SeenVersion, begun_now, carried_out}
use Rattle.plain_promise.specs.Promise.{refused_at}
use Rattle.promise_kept.proofs.Going.{kept_now, stores_are}
use Rattle.promise_kept.proofs.Learning.{AreAllFloors}
use Rattle.promise_kept.proofs.Resting.{grows_then, held_rests, seen_then}
use Rattle.promise_kept.proofs.Saying.{not_settled, plain_at}
use Rattle.promise_kept.proofs.Seeing.{saw_after, uncarried_floors}
use Rattle.promise_kept.specs.Lines.{IsLine, StepsPlainly}
use Rattle.promise_kept.specs.Seen.{IsPlainOf}
use Rattle.replies.specs.declared.refusals.NodeRefused.TheVariants.{NoServer}
use Rattle.replies.specs.declared.refusals.Refusal.{Refusal}
use Rattle.replies.specs.declared.refusals.Refusal.TheVariants.{Memory, Node}
use Rattle.replies.specs.declared.reply.Reply.{Reply}
use Rattle.replies.specs.declared.reply.Reply.TheVariants.{Refused}
use Rattle.request_check.specs.declared.checked.Checked.TheVariants as asks
use Rattle.request_check.specs.declared.checked.CheckedCall.{CheckedCall}
use Rattle.request_check.specs.declared.checked.CheckedCall.TheVariants as call
use Rattle.tao_base.specs.declared.entry.Entry.{Entry}
use Rattle.tao_core.specs.Core.{Moment}
use Rattle.tao_core.specs.HeldCalls.{IsNotBegun, RefusesCall}
use Rattle.tao_schema.specs.Schema.{types_of}
use Rattle.topology.specs.Config.{Settings}
use Rattle.topology.specs.States.{NodeStates}
use Rattle.write_model.specs.Merges.{Stores}

-- ---- no plan was begun

-- it was refused, at no position
pub record RefusesUnbegun (reply : Reply) : Type 0 where
  pub refusal : Refusal
  pub reply_is : reply ≡ Refused refusal
  pub position_is : refused_at refusal ≡ 0

pub not_begun : (states : NodeStates) (sessions : List Session) (asked : CheckedCall) (reply : Reply) → IsNotBegun states sessions asked reply
    → RefusesUnbegun reply
not_begun states sessions asked (Refused (Node (NoServer region))) h = record { refusal = Node (NoServer region); reply_is = refl; position_is = refl }
not_begun states sessions asked (Refused (Memory position)) h = record { refusal = Memory position; reply_is = refl; position_is = h }
not_begun states sessions asked reply h = absurd h

-- a line that changed no log, whatever the call
pub alone_same : (s : Settings) (old new : Moment) (asked : CheckedCall) → (stores_in s new.keepers.told).logs ≡ (stores_in s old.keepers.told).logs
    → CallsAlone (types_of s.schema) asked (stores_in s old.keepers.told) (stores_in s new.keepers.told).logs
alone_same s old new (call.Read read) same = same
alone_same s old new (call.Write write) same = inl same

refuses_same : (asked : CheckedCall) (old : Logs) (new : Stores) (n : ℕ) → n ≡ 0 → new.logs ≡ old → RefusesAt n asked old new
refuses_same asked old new n is same = subst (λ k. RefusesAt k asked old new) (sym is) same

-- what it says
pub unbegun_says : (began : Begun) (old : Logs) (new : Plain) (s : Settings) (reply : Reply) → RefusesUnbegun reply → new.stores.logs ≡ old
    → SaysOfCall (types_of s.schema) began old reply new
unbegun_says began old new s reply refused same =
    subst (λ r. SaysOfCall (types_of s.schema) began old r new) (sym refused.reply_is)
    (refuses_same began.call old new.stores (refused_at refused.refusal) refused.position_is same)

-- ---- the line

module _ (old new : Moment) (learnt : ℕ → List Entry) (saw : ℕ → List SeenVersion) (held : ℕ → Option Begun) (settled : Option Logs)
    (was : IsPlainOf old (plain_at old.core.settings old.keepers.told learnt saw held settled)) (asked : CheckedCall) (reply : Reply)
    (line : IsLine (asks.Call asked) old reply new) where
  abbrev s : Settings
  s = old.core.settings

  abbrev Before : Plain
  Before = plain_at old.core.settings old.keepers.told learnt saw held settled

  abbrev After : (ℕ → List Entry) → Plain
  After learnt_now = plain_at old.core.settings new.keepers.told learnt_now (saw_after (begun_now Before asked) reply saw) held settled

  abbrev Was : Stores
  Was = stores_in old.core.settings old.keepers.told

  abbrev Now : Stores
  Now = stores_in old.core.settings new.keepers.told

  abbrev Steps : Type 0
  Steps = StepsPlainly (Some (asks.Call asked)) old Before reply new

  pub call_keeps : (learnt_now : ℕ → List Entry) → ((n : ℕ) → (es : List Entry) × (learnt_now n ≡ learnt n ++ es))
      → SaysOfCall (types_of s.schema) (begun_now Before asked) Was.logs reply (After learnt_now) → CallsAlone (types_of s.schema) asked Was Now.logs
      → IsPlainOf new (After learnt_now) → Steps
  call_keeps learnt_now more says changes seen = record {
    after = After learnt_now;
    says = record {
      says = says;
      changes = changes;
      grows = grows_then old new line.on;
      well_kept = subst (IsWellKept (types_of s.schema)) (stores_are old new line.on) (kept_now old new line.on);
      learnt = more;
      seen = λ session. refl;
      held = λ plan. refl;
      settled = sym (not_settled (types_of s.schema) (begun_now Before asked) Before (After learnt_now) Was.logs reply Now.logs says);
    };
    seen = seen;
  }

  nothing_more : (n : ℕ) → (es : List Entry) × (learnt n ≡ learnt n ++ es)
  nothing_more n = ([], sym (append-nil (learnt n)))

  -- no log and no plan changed, and no session learnt of an entry
  pub rested : (stores : Now.logs ≡ Was.logs) → AreAllFloors learnt (saw_after (begun_now Before asked) reply saw) new.core.sessions
      → new.core.plans ≡ old.core.plans → SaysOfCall (types_of s.schema) (begun_now Before asked) Was.logs reply (After learnt) → Steps
  rested stores floors plans says =
      call_keeps learnt nothing_more says (alone_same s old new asked stores)
      (seen_then old new line.on Before learnt (saw_after (begun_now Before asked) reply saw) held was floors
      (λ n plan at. held_rests old new line.on held was.held n plan (subst (λ ps. plan_at ps n ≡ Some plan) plans at)))

  pub refused_call : RefusesCall asked old reply new → Steps
  refused_call refuses =
      let same = refuses.same in
      let logs : Now.logs ≡ Was.logs = ap (λ (m : Moment). (stores_in s m.keepers.told).logs) same in
      let refused = not_begun old.core.states old.core.sessions asked reply refuses.refused in
      let were = subst (λ (m : Moment). AreAllFloors learnt saw m.core.sessions) (sym same) was.learnt in
      rested logs (uncarried_floors learnt saw new.core.sessions were (begun_now Before asked) reply (ap carried_out refused.reply_is))
      (ap (λ (m : Moment). m.core.plans) same) (unbegun_says (begun_now Before asked) Was.logs (After learnt) s reply refused logs)
