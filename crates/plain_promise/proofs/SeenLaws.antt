-- The reads of a key by a session never go back.
use Rattle.std.proofs.Common.{◌≡◌, ◌≤◌, ◌∙◌, ◌∷◌, [], ℕ, suc, true, false, List, Option, Some, None, ap, sym, refl, subst, arith}
use Rattle.std.proofs.Common.{inl, inr, zero}
use Rattle.std.proofs.lemmas.Bool.{cases_Bool, cases_eq, eq-eqb, ne_eqb}
use Rattle.std.proofs.lemmas.List.Elements.{Contains-append_right}
use Rattle.std.specs.Option.{option_map}
use Rattle.std.specs.Prelude.{◌<◌, ◌==◌, Contains, length, slice_index_or}
use Rattle.plain_promise.specs.Promise.{AnsweredRead, AnswersRead, Begun, BeganSince, IsCarriedOutRightly, KeepsPromise, Logs, NeverGoesBack}
use Rattle.plain_promise.specs.Promise.{Plain, ReadsRightly, RunsPlainly, Said, SaysOfCall, SaysPlainly, SeenVersion, begun_now, began_of_line, caller}
use Rattle.plain_promise.specs.Promise.{carried_out, held_after, last_seen, seen_by, seen_version, seen_with, went_on}
use Rattle.replies.specs.declared.calls.CallReply.{CallReply}
use Rattle.replies.specs.declared.calls.CallReply.TheVariants as called
use Rattle.replies.specs.declared.calls.ReadReply.{ReadReply}
use Rattle.replies.specs.declared.plans.PlanReply.TheVariants.{Next, Ended}
use Rattle.replies.specs.declared.reply.Reply.{Reply}
use Rattle.replies.specs.declared.reply.Reply.TheVariants.{Called, Plan}
use Rattle.request_check.specs.declared.checked.Checked.{Checked}
use Rattle.request_check.specs.declared.checked.Checked.TheVariants as asks
use Rattle.request_check.specs.declared.checked.CheckedCall.{CheckedCall}
use Rattle.request_check.specs.declared.checked.CheckedCall.TheVariants.{Read, Write}
use Rattle.request_check.specs.declared.checked.CheckedRead.{CheckedRead}
use Rattle.request_check.specs.declared.plans.CheckedPlan.TheVariants.{Advance, Hold}
use Rattle.tao_base.proofs.SameKeys.{same_key-Decides}
use Rattle.tao_base.specs.EdgeTypes.{EdgeTypes}
use Rattle.tao_base.specs.Keys.{same_key}
use Rattle.tao_base.specs.Queries.{query_key}
use Rattle.tao_base.specs.declared.id.Key.{Key}

one_some : {A : Type 0} (x y : A) → Some x ≡ Some y → x ≡ y
one_some x y same = cc (same)

-- ---- what was seen stays so

more_seen : (call : CheckedCall) (reply : CallReply) (session : ℕ) (seen : List SeenVersion) (one : SeenVersion) → Contains seen one
    → Contains (seen_by call reply session seen) one
more_seen (Read call) (called.Read reply) session seen one has = elim (cases_Bool (session == call.session)) [
  | inl is ↦ rw is (Contains-append_right (seen_version call reply ∷ []) seen one has)
  | inr isnt ↦ rw isnt has
]
more_seen (Read call) (called.Write reply) session seen one has = has
more_seen (Write call) reply session seen one has = has

still_seen : (began : Option Begun) (reply : Option CallReply) (session : ℕ) (seen : List SeenVersion) (one : SeenVersion) → Contains seen one
    → Contains (seen_with began reply session seen) one
still_seen (Some began) (Some reply) session seen one has = more_seen began.call reply session seen one has
still_seen (Some began) None session seen one has = has
still_seen None reply session seen one has = has

one_seen : (types : EdgeTypes) (old new : Plain) (asked : Option Checked) (reply : Reply) (session : ℕ) (seen : SeenVersion)
    → SaysPlainly types old asked reply new → Contains (old.seen session) seen → Contains (new.seen session) seen
one_seen types old new None reply session seen says has = subst (λ (p : Plain). Contains (p.seen session) seen) (sym says.same) has
one_seen types old new (Some asked) reply session seen says has =
    subst (λ all. Contains all seen) (sym (says.seen session))
    (still_seen (began_of_line old asked) (carried_out reply) session (old.seen session) seen has)

all_seen : (types : EdgeTypes) (old : Plain) (saids : List Said) (new : Plain) (session : ℕ) (seen : SeenVersion) → RunsPlainly types old saids new
    → Contains (old.seen session) seen → Contains (new.seen session) seen
all_seen types old [] new session seen runs has = subst (λ (p : Plain). Contains (p.seen session) seen) (sym runs) has
all_seen types old (said ∷ more) new session seen runs has =
    all_seen types runs.0 more new session seen runs.3 (one_seen types old runs.0 said.asked said.reply session seen runs.1 has)

-- ---- a line that answers a read

-- the line was refused before anything was done, or asks this
asked_so : (types : EdgeTypes) (old new : Plain) (said : Said) (asked : Checked) → SaysPlainly types old said.asked said.reply new → said.asked ≡ Some asked
    → KeepsPromise types old asked said.reply new
asked_so types old new said asked says is = subst (λ o. SaysPlainly types old o said.reply new) is says

-- its session has seen the version
own_seen : (call : CheckedRead) (reply : ReadReply) (seen : List SeenVersion)
    → Contains (seen_by (Read call) (called.Read reply) call.session seen) (seen_version call reply)
own_seen call reply seen = (let test : (call.session == call.session) ≡ true = eq-eqb call.session call.session refl in rw test (0, omega arith, refl))

seen_in : (began : Option Begun) (reply : Option CallReply) (read : AnsweredRead) (seen : List SeenVersion) → began ≡ Some read.began
    → read.began.call ≡ Read read.call → reply ≡ Some (called.Read read.reply)
    → Contains (seen_with began reply read.call.session seen) (seen_version read.call read.reply)
seen_in began reply read seen began_is call_is reply_is =
    subst (λ o. Contains (seen_with o reply read.call.session seen) (seen_version read.call read.reply)) (sym began_is)
    (subst (λ o. Contains (seen_with (Some read.began) o read.call.session seen) (seen_version read.call read.reply)) (sym reply_is)
    (subst (λ c. Contains (seen_by c (called.Read read.reply) read.call.session seen) (seen_version read.call read.reply)) (sym call_is)
    (own_seen read.call read.reply seen)))

shown_in : (types : EdgeTypes) (old : Plain) (said : Said) (read : AnsweredRead) (new : Plain) → SaysPlainly types old said.asked said.reply new
    → AnswersRead old said read → Contains (new.seen read.call.session) (seen_version read.call read.reply)
shown_in types old said read new says answers =
    let keeps = asked_so types old new said answers.asked says answers.asked_is in
    subst (λ all. Contains all (seen_version read.call read.reply)) (sym (keeps.seen read.call.session))
    (seen_in (began_of_line old answers.asked) (carried_out said.reply) read (old.seen read.call.session) answers.began_is answers.call_is answers.reply_is)

-- and it is read rightly
carried_rightly : (types : EdgeTypes) (began : Begun) (old : Logs) (reply : Reply) (new : Plain) (given : CallReply) → SaysOfCall types began old reply new
    → carried_out reply ≡ Some given → IsCarriedOutRightly types began began.call given old new
carried_rightly types began old (Called reply) new given says is =
    subst (λ r. IsCarriedOutRightly types began began.call r old new) (one_some reply given is) says
carried_rightly types began old (Plan (Ended number reply)) new given says is =
    subst (λ r. IsCarriedOutRightly types began began.call r old new) (one_some reply given is) says
carried_rightly types began old (Plan (Next word number stage)) new given says is = absurd (cc (is))
carried_rightly types began old other new given says is = absurd (cc (is))

call_rightly : (types : EdgeTypes) (old : Plain) (asked : Checked) (reply : Reply) (new : Plain) (began : Begun) (given : CallReply)
    → KeepsPromise types old asked reply new → began_of_line old asked ≡ Some began → carried_out reply ≡ Some given
    → IsCarriedOutRightly types began began.call given old.stores.logs new
call_rightly types old (asks.Call call) reply new began given keeps began_is is =
    subst (λ (b : Begun). IsCarriedOutRightly types b b.call given old.stores.logs new) (one_some (begun_now old call) began began_is)
    (carried_rightly types (begun_now old call) old.stores.logs reply new given keeps.says is)
call_rightly types old (asks.Plan (Hold plan call)) reply new began given keeps began_is is =
    subst (λ (b : Begun). IsCarriedOutRightly types b b.call given old.stores.logs new) (one_some (begun_now old call) began began_is)
    (carried_rightly types (begun_now old call) old.stores.logs reply new given keeps.says is)
call_rightly types old (asks.Plan (Advance plan)) reply new began given keeps began_is is =
    let advances = keeps.says in
    subst (λ (b : Begun). IsCarriedOutRightly types b b.call given old.stores.logs new)
    (one_some advances.began began (sym advances.holds ∙ began_is))
    (carried_rightly types advances.began old.stores.logs reply new given advances.says is)
call_rightly types old other reply new began given keeps began_is is = absurd (cc (began_is))

read_rightly : (types : EdgeTypes) (old : Plain) (said : Said) (read : AnsweredRead) (new : Plain) → SaysPlainly types old said.asked said.reply new
    → AnswersRead old said read → ReadsRightly types read.began read.call read.reply new.stores.logs
read_rightly types old said read new says answers =
    let keeps = asked_so types old new said answers.asked says answers.asked_is in
    subst (λ c. IsCarriedOutRightly types read.began c (called.Read read.reply) old.stores.logs new) answers.call_is
    (call_rightly types old answers.asked said.reply new read.began (called.Read read.reply) keeps answers.began_is answers.reply_is)

-- ---- a version that was seen

-- the last version that was seen is no lower than any
last_reaches : (seen : List SeenVersion) (one : SeenVersion) (key : Key) (k : ℕ) → k < length seen → slice_index_or seen k one ≡ one → one.key ≡ key
    → one.version ≤ last_seen seen key
last_reaches [] one key k within is same = absurd (omega (arith, within))
last_reaches (first ∷ more) one key zero within is same =
    let own : same_key key first.key ≡ true = (same_key-Decides key first.key).1 (sym same ∙ ap (λ (s : SeenVersion). s.key) (sym is)) in
    let version_is : first.version ≡ one.version = ap (λ (s : SeenVersion). s.version) is in
    rw own (omega (arith, version_is))
last_reaches (first ∷ more) one key (suc k) within is same =
    let rest = last_reaches more one key k (omega (arith, within)) is same in
    omega (arith, rest)

seen_before : (types : EdgeTypes) (began : Begun) (call : CheckedRead) (reply : ReadReply) (seen : SeenVersion) (now : Logs) → Contains began.seen seen
    → seen.key ≡ query_key call.query → ReadsRightly types began call reply now → seen.version ≤ reply.version
seen_before types began call reply seen now has same right =
    let least = last_reaches began.seen seen (query_key call.query) has.0 has.1 has.2 same in
    let reached = right.legal.reached in
    omega (arith, least, reached)

-- ---- a call that is held has seen what its session had

-- the call of the plan, if it is of this session, began when the version had been seen
abbrev HasSeen : ℕ → ℕ → SeenVersion → Plain → Type 0
HasSeen plan session seen state = (began : Begun) → state.held plan ≡ Some began → caller began.call ≡ session → Contains began.seen seen

module _ (types : EdgeTypes) (plan session : ℕ) (seen : SeenVersion) where
  -- a line that holds a call begins it with all that its session has seen
  held_here : (call : CheckedCall) (old : Plain) (reply : Reply) (new : Plain) → KeepsPromise types old (asks.Plan (Hold plan call)) reply new
      → Contains (old.seen session) seen → HasSeen plan session seen new
  held_here call old reply new keeps has began is of =
      let now : Begun = went_on old.stores.logs new.stores.logs (begun_now old call) in
      let test : (plan == plan) ≡ true = eq-eqb plan plan refl in
      let then : held_after old (asks.Plan (Hold plan call)) new.stores.logs plan ≡ Some now = rw test refl in
      let own : now ≡ began = one_some now began (sym then ∙ sym (keeps.held plan) ∙ is) in
      let here : caller call ≡ session = ap (λ (b : Begun). caller b.call) own ∙ of in
      subst (λ (b : Begun). Contains b.seen seen) own (subst (λ n. Contains (old.seen n) seen) (sym here) has)

  -- and one that goes on with it leaves that
  goes_on : (logs now : Logs) (found : Option Begun) (began : Begun) → option_map (went_on logs now) found ≡ Some began → caller began.call ≡ session
      → ((first : Begun) → found ≡ Some first → caller first.call ≡ session → Contains first.seen seen) → Contains began.seen seen
  goes_on logs now None began is of so = absurd (cc (is))
  goes_on logs now (Some first) began is of so =
      let own = one_some (went_on logs now first) began is in
      subst (λ (b : Begun). Contains b.seen seen) own (so first refl (ap (λ (b : Begun). caller b.call) own ∙ of))

  held_still : (asked : Checked) (old : Plain) (reply : Reply) (new : Plain) → KeepsPromise types old asked reply new → Contains (old.seen session) seen
      → HasSeen plan session seen old → HasSeen plan session seen new
  held_still (asks.Plan (Hold other call)) old reply new keeps has so began is of = elim (cases_eq plan other) [
    | inl same ↦ held_here call old reply new (subst (λ n. KeepsPromise types old (asks.Plan (Hold n call)) reply new) (sym same) keeps) has began is of
    | inr apart ↦
        let test : (plan == other) ≡ false = ne_eqb plan other apart in
        let stays : held_after old (asks.Plan (Hold other call)) new.stores.logs plan ≡ old.held plan = rw test refl in
        so began (sym stays ∙ sym (keeps.held plan) ∙ is) of
  ]
  held_still (asks.Plan (Advance other)) old reply new keeps has so began is of = elim (cases_eq plan other) [
    | inl same ↦
        let test : (plan == other) ≡ true = eq-eqb plan other same in
        let logs = old.stores.logs in
        let then : held_after old (asks.Plan (Advance other)) new.stores.logs plan ≡ option_map (went_on logs new.stores.logs) (old.held plan) =
        rw test refl in
        goes_on logs new.stores.logs (old.held plan) began (sym then ∙ sym (keeps.held plan) ∙ is) of so
    | inr apart ↦
        let test : (plan == other) ≡ false = ne_eqb plan other apart in
        let stays : held_after old (asks.Plan (Advance other)) new.stores.logs plan ≡ old.held plan = rw test refl in
        so began (sym stays ∙ sym (keeps.held plan) ∙ is) of
  ]
  held_still other old reply new keeps has so began is of = so began (sym (keeps.held plan) ∙ is) of

  line_still : (asked : Option Checked) (old : Plain) (reply : Reply) (new : Plain) → SaysPlainly types old asked reply new → Contains (old.seen session) seen
      → HasSeen plan session seen old → HasSeen plan session seen new
  line_still None old reply new says has so = subst (HasSeen plan session seen) (sym says.same) so
  line_still (Some asked) old reply new says has so = held_still asked old reply new says has so

  all_still : (old : Plain) (saids : List Said) (new : Plain) → RunsPlainly types old saids new → Contains (old.seen session) seen
      → HasSeen plan session seen old → HasSeen plan session seen new
  all_still old [] new runs has so = subst (HasSeen plan session seen) (sym runs) so
  all_still old (said ∷ more) new runs has so =
      all_still runs.0 more new runs.3 (one_seen types old runs.0 said.asked said.reply session seen runs.1 has)
      (line_still said.asked old said.reply runs.0 runs.1 has so)

  -- a call that is held by one of the lines has seen what its session had before them
  held_since : (old : Plain) (saids : List Said) (new : Plain) (line : Said) (call : CheckedCall) (k : ℕ) → RunsPlainly types old saids new
      → Contains (old.seen session) seen → k < length saids → slice_index_or saids k line ≡ line → line.asked ≡ Some (asks.Plan (Hold plan call))
      → HasSeen plan session seen new
  held_since old [] new line call k runs has within is holds = absurd (omega (arith, within))
  held_since old (said ∷ more) new line call zero runs has within is holds =
      let keeps = asked_so types old runs.0 said (asks.Plan (Hold plan call)) runs.1 (ap (λ (s : Said). s.asked) is ∙ holds) in
      all_still runs.0 more new runs.3 (one_seen types old runs.0 said.asked said.reply session seen runs.1 has)
      (held_here call old said.reply runs.0 keeps has)
  held_since old (said ∷ more) new line call (suc k) runs has within is holds =
      held_since runs.0 more new line call k runs.3 (one_seen types old runs.0 said.asked said.reply session seen runs.1 has) (omega (arith, within)) is holds

-- ---- two reads

-- a call that began since has seen what its session had seen
since_seen : (types : EdgeTypes) (old : Plain) (saids : List Said) (new : Plain) (asked : Checked) (began : Begun) (session : ℕ) (seen : SeenVersion)
    → RunsPlainly types old saids new → Contains (old.seen session) seen → BeganSince saids (Some asked) → began_of_line new asked ≡ Some began
    → caller began.call ≡ session → Contains began.seen seen
since_seen types old saids new (asks.Call call) began session seen runs has since is of =
    let own = one_some (begun_now new call) began is in
    let here : caller call ≡ session = ap (λ (b : Begun). caller b.call) own ∙ of in
    subst (λ (b : Begun). Contains b.seen seen) own
    (subst (λ n. Contains (new.seen n) seen) (sym here) (all_seen types old saids new session seen runs has))
since_seen types old saids new (asks.Plan (Hold plan call)) began session seen runs has since is of =
    let own = one_some (begun_now new call) began is in
    let here : caller call ≡ session = ap (λ (b : Begun). caller b.call) own ∙ of in
    subst (λ (b : Begun). Contains b.seen seen) own
    (subst (λ n. Contains (new.seen n) seen) (sym here) (all_seen types old saids new session seen runs has))
since_seen types old saids new (asks.Plan (Advance plan)) began session seen runs has since is of =
    held_since types plan session seen old saids new since.line since.call since.there.0 runs has since.there.1 since.there.2 since.holds began is of
since_seen types old saids new other began session seen runs has since is of = absurd (cc (is))

no_lower : (types : EdgeTypes) (old : Plain) (saids : List Said) (new : Plain) (first second : Said) (a b : AnsweredRead) (before after : Plain)
    → SaysPlainly types before first.asked first.reply old → AnswersRead before first a → RunsPlainly types old saids new
    → BeganSince saids second.asked → SaysPlainly types new second.asked second.reply after → AnswersRead new second b
    → b.call.session ≡ a.call.session → query_key b.call.query ≡ query_key a.call.query → a.reply.version ≤ b.reply.version
no_lower types old saids new first second a b before after says answers runs since says_b answers_b session key =
    let has = shown_in types before first a old says answers in
    let of : caller b.began.call ≡ a.call.session = ap caller answers_b.call_is ∙ session in
    let known = since_seen types old saids new answers_b.asked b.began a.call.session (seen_version a.call a.reply) runs has
    (subst (BeganSince saids) answers_b.asked_is since) answers_b.began_is of in
    seen_before types b.began b.call b.reply (seen_version a.call a.reply) after.stores.logs known (sym key)
    (read_rightly types new second b after says_b answers_b)

pub never_goes_back : (types : EdgeTypes) (old : Plain) (saids : List Said) (new : Plain) → NeverGoesBack types old saids new
never_goes_back types old saids new = record {
  stays = all_seen types old saids new;
  shown = λ said read after says answers. shown_in types new said read after says answers;
  later = λ said read after seen says answers has key.
      seen_before types read.began read.call read.reply seen after.stores.logs has key (read_rightly types new said read after says answers);
  back = no_lower types old saids new;
}
