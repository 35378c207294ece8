-- A write that a run acknowledges stands from then on.
use Rattle.std.proofs.Common.{◌≡◌, ◌<◌, ◌⊎◌, ◌∙◌, ◌∷◌, [], ℕ, List, Option, Some, None, refl, sym, ap, subst, inl, inr, arith}
use Rattle.std.proofs.lemmas.Bool.{cases_Bool}
use Rattle.std.specs.Option.{option_map}
use Rattle.std.specs.Prelude.{◌==◌, Contains}
use Rattle.plain_promise.specs.Acknowledged.{AcknowledgedStands, Acknowledges, Calls, IsAcknowledgedIn, StandsAtPosition, call_of_line, calls_after}
use Rattle.plain_promise.specs.Acknowledged.{calls_held, reply_to_write}
use Rattle.plain_promise.specs.Promise.{Begun, EachGrows, FoundNothing, IsAcknowledged, IsCarriedOutRightly, IsWellKept, Logs, Plain, RunsPlainly, Said}
use Rattle.plain_promise.specs.Promise.{SaysOfCall, SaysPlainly, StandsAsLearnt, begun_now, held_after, went_on}
use Rattle.plain_promise.proofs.PromiseLaws.{all_stand, grown_by}
use Rattle.replies.specs.declared.calls.CallReply.{CallReply}
use Rattle.replies.specs.declared.calls.CallReply.TheVariants as called
use Rattle.replies.specs.declared.calls.WriteReply.{WriteReply}
use Rattle.replies.specs.declared.plans.PlanReply.TheVariants.{Ended}
use Rattle.replies.specs.declared.reply.Reply.{Reply}
use Rattle.replies.specs.declared.reply.Reply.TheVariants.{Called, Plan}
use Rattle.request_check.specs.declared.checked.Checked.{Checked}
use Rattle.request_check.specs.declared.checked.Checked.TheVariants as asks
use Rattle.request_check.specs.declared.checked.CheckedCall.{CheckedCall}
use Rattle.request_check.specs.declared.checked.CheckedCall.TheVariants.{Write}
use Rattle.request_check.specs.declared.checked.CheckedWrite.{CheckedWrite}
use Rattle.request_check.specs.declared.plans.CheckedPlan.TheVariants.{Advance, Hold}
use Rattle.tao_base.specs.EdgeTypes.{EdgeTypes}
use Rattle.tao_base.specs.Writes.{write_shard}
use Rattle.tao_base.specs.declared.entry.Entry.{Entry}
use Rattle.write_model.proofs.Growing.{entry_stays}
use Rattle.write_model.specs.Merges.{Stores, log_of}

-- ---- the calls that plans hold

-- the calls are those that the state has
record AreCallsOf (calls : Calls) (state : Plain) : Type 0 where
  at : (number : ℕ) → calls_held state number ≡ calls number

abbrev call_in : Option Begun → Option CheckedCall
call_in begun = option_map (λ (b : Begun). b.call) begun

-- going on with a call leaves it the same
same_call : (old new : Logs) (begun : Option Begun) → call_in (option_map (went_on old new) begun) ≡ call_in begun
same_call old new None = refl
same_call old new (Some b) = refl

held_calls : (calls : Calls) (old : Plain) (asked : Checked) (new : Logs) (number : ℕ) → AreCallsOf calls old
    → call_in (held_after old asked new number) ≡ calls_after calls (Some asked) number
held_calls calls old (asks.Plan (Hold plan call)) new number are = elim (cases_Bool (number == plan)) [
  | inl is ↦ rw is refl
  | inr isnt ↦ rw isnt (are.at number)
]
held_calls calls old (asks.Plan (Advance plan)) new number are = elim (cases_Bool (number == plan)) [
  | inl is ↦ rw is (same_call old.stores.logs new (old.held number) ∙ are.at number)
  | inr isnt ↦ rw isnt (are.at number)
]
held_calls calls old (asks.Open session region tier) new number are = are.at number
held_calls calls old (asks.Call call) new number are = are.at number
held_calls calls old (asks.Cache cache) new number are = are.at number
held_calls calls old (asks.Store store) new number are = are.at number
held_calls calls old (asks.Link link) new number are = are.at number
held_calls calls old (asks.Health health) new number are = are.at number

calls_on : (types : EdgeTypes) (calls : Calls) (old new : Plain) (asked : Option Checked) (reply : Reply) → AreCallsOf calls old
    → SaysPlainly types old asked reply new → AreCallsOf (calls_after calls asked) new
calls_on types calls old new None reply are says = subst (AreCallsOf calls) (sym says.same) are
calls_on types calls old new (Some asked) reply are says = record {
  at = λ number. ap call_in (says.held number) ∙ held_calls calls old asked new.stores.logs number are;
}

-- ---- one line

one_some : {X : Type 0} (x y : X) → Some x ≡ Some y → x ≡ y
one_some x y is = cc

carried_stands : (types : EdgeTypes) (began : Begun) (write : CheckedWrite) (told : WriteReply) (old : Logs) (new : Plain)
    → IsAcknowledged types began write told old new → 0 < told.written.position → StandsAtPosition new.stores write told.written.position
carried_stands types began write told old new is above = by is.done
  where
    by : ((entry : Entry) × StandsAsLearnt types new.stores write told entry × Contains (new.learnt write.session) entry)
        ⊎ FoundNothing types began new.stores write told → StandsAtPosition new.stores write told.written.position
    by (inl done) = record { entry = done.0; stands = done.1.stands; position_is = sym done.1.position_is }
    by (inr nothing) = (let zero = nothing.position_is in absurd (omega (arith, above, zero)))

module _ (types : EdgeTypes) (began : Begun) (old : Logs) (new : Plain) (write : CheckedWrite) (told : WriteReply) where
  carried : (call : CheckedCall) (reply : CallReply) → call ≡ Write write → reply ≡ called.Write told → IsCarriedOutRightly types began call reply old new
      → IsAcknowledged types began write told old new
  carried call reply call_is reply_is is =
      subst (λ r. IsCarriedOutRightly types began (Write write) r old new) reply_is
      (subst (λ c. IsCarriedOutRightly types began c reply old new) call_is is)

  said_of_call : (reply : Reply) → began.call ≡ Write write → reply_to_write reply ≡ Some told → SaysOfCall types began old reply new
      → IsAcknowledged types began write told old new
  said_of_call (Called (called.Write reply)) call_is told_is says =
      carried began.call (called.Write reply) call_is (ap called.Write (one_some reply told told_is)) says
  said_of_call (Plan (Ended number (called.Write reply))) call_is told_is says =
      carried began.call (called.Write reply) call_is (ap called.Write (one_some reply told told_is)) says
  said_of_call reply call_is told_is says = absurd (cc)

line_stands : (types : EdgeTypes) (calls : Calls) (old new : Plain) (asked : Option Checked) (reply : Reply) (write : CheckedWrite) (position : ℕ)
    → AreCallsOf calls old → SaysPlainly types old asked reply new → Acknowledges calls (record { asked = asked; reply = reply }) write position
    → StandsAtPosition new.stores write position
line_stands types calls old new asked reply write position are says is =
    let told = is.reply in
    let above = subst (λ n. 0 < n) (sym is.position_is) is.some in
    let of = is.of in
    let replied = is.replied in
    subst (StandsAtPosition new.stores write) is.position_is (by asked of says above)
  where
    by : (what : Option Checked) → call_of_line calls what ≡ Some (Write write) → SaysPlainly types old what reply new → 0 < is.reply.written.position
        → StandsAtPosition new.stores write is.reply.written.position
    by (Some (asks.Call call)) of says above =
        let began = begun_now old call in
        carried_stands types began write is.reply old.stores.logs new
        (said_of_call types began old.stores.logs new write is.reply reply (one_some call (Write write) of) is.replied says.says) above
    by (Some (asks.Plan (Hold plan call))) of says above =
        let began = begun_now old call in
        carried_stands types began write is.reply old.stores.logs new
        (said_of_call types began old.stores.logs new write is.reply reply (one_some call (Write write) of) is.replied says.says) above
    by (Some (asks.Plan (Advance plan))) of says above =
        let began = says.says.began in
        let call_is : Some began.call ≡ Some (Write write) = sym (ap call_in says.says.holds) ∙ are.at plan ∙ of in
        carried_stands types began write is.reply old.stores.logs new
        (said_of_call types began old.stores.logs new write is.reply reply (one_some began.call (Write write) call_is) is.replied says.says.says) above
    by what of says above = absurd (cc)

-- ---- logs that grew

-- an entry that stands at its position stands there where logs grew
pub stands_grown : (types : EdgeTypes) (old new : Stores) (write : CheckedWrite) (position : ℕ) → EachGrows old.logs new.logs
    → StandsAtPosition old write position → StandsAtPosition new write position
stands_grown types old new write position grows is = record {
  entry = is.entry;
  stands = record {
    stands = entry_stays types (log_of old.logs) (log_of new.logs) (grown_by old.logs new.logs grows) (write_shard write.write) is.entry.position is.entry
        is.stands.stands;
    origin_is = is.stands.origin_is;
    fits = is.stands.fits;
  };
  position_is = is.position_is;
}

-- ---- all lines

-- an entry that stands at its position after one line stands there after all
stands_on : (types : EdgeTypes) (old : Plain) (saids : List Said) (new : Plain) (write : CheckedWrite) (position : ℕ) → RunsPlainly types old saids new
    → StandsAtPosition old.stores write position → StandsAtPosition new.stores write position
stands_on types old saids new write position runs is = record {
  entry = is.entry;
  stands = record {
    stands = all_stand types old saids new _ is.entry.position is.entry runs is.stands.stands;
    origin_is = is.stands.origin_is;
    fits = is.stands.fits;
  };
  position_is = is.position_is;
}

kept_after : (types : EdgeTypes) (old new : Plain) (asked : Option Checked) (reply : Reply) → SaysPlainly types old asked reply new
    → IsWellKept types old.stores → IsWellKept types new.stores
kept_after types old new None reply says was = subst (λ (p : Plain). IsWellKept types p.stores) (sym says.same) was
kept_after types old new (Some asked) reply says was = says.well_kept

kept_on : (types : EdgeTypes) (old : Plain) (saids : List Said) (new : Plain) → RunsPlainly types old saids new → IsWellKept types old.stores
    → IsWellKept types new.stores
kept_on types old [] new runs was = subst (λ (p : Plain). IsWellKept types p.stores) (sym runs) was
kept_on types old (said ∷ more) new runs was =
    kept_on types runs.0 more new runs.3 (kept_after types old runs.0 said.asked said.reply runs.1 was)

-- a line that acknowledges a write asks something
kept_said : (types : EdgeTypes) (calls : Calls) (old new : Plain) (asked : Option Checked) (reply : Reply) (write : CheckedWrite)
    → call_of_line calls asked ≡ Some (Write write) → SaysPlainly types old asked reply new → IsWellKept types new.stores
kept_said types calls old new None reply write of says = absurd (cc)
kept_said types calls old new (Some asked) reply write of says = says.well_kept

-- what a run acknowledged stands after it, and logs are well kept then
record StandsKept (types : EdgeTypes) (new : Plain) (write : CheckedWrite) (position : ℕ) : Type 0 where
  stands : StandsAtPosition new.stores write position
  kept : IsWellKept types new.stores

acknowledged : (types : EdgeTypes) (calls : Calls) (old : Plain) (saids : List Said) (new : Plain) (write : CheckedWrite) (position : ℕ)
    → AreCallsOf calls old → RunsPlainly types old saids new → IsAcknowledgedIn calls saids write position → StandsKept types new write position
acknowledged types calls old [] new write position are runs is = absurd is
acknowledged types calls old (said ∷ more) new write position are runs (inl first) = record {
  stands = stands_on types runs.0 more new write position runs.3 (line_stands types calls old runs.0 said.asked said.reply write position are runs.1 first);
  kept = kept_on types runs.0 more new runs.3 (kept_said types calls old runs.0 said.asked said.reply write first.of runs.1);
}
acknowledged types calls old (said ∷ more) new write position are runs (inr later) =
    acknowledged types (calls_after calls said.asked) runs.0 more new write position (calls_on types calls old runs.0 said.asked said.reply are runs.1)
    runs.3 later

own_calls : (old : Plain) → AreCallsOf (calls_held old) old
own_calls old = record { at = λ number. refl }

pub acknowledged_stands : (types : EdgeTypes) (old : Plain) (saids : List Said) (new : Plain) → AcknowledgedStands types old saids new
acknowledged_stands types old saids new = record {
  stands = λ write position runs is. (acknowledged types (calls_held old) old saids new write position (own_calls old) runs is).stands;
  kept = λ write position runs is. (acknowledged types (calls_held old) old saids new write position (own_calls old) runs is).kept;
  stays = kept_on types old saids new;
}
