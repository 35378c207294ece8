-- The line that opens a session keeps the promise.
use Rattle.std.proofs.Common.{◌≡◌, ◌<◌, ◌∙◌, ◌++◌, ◌∷◌, [], ℕ, Bool, true, false, List, Option, Some, None, append-nil, arith, refl, sym, ap, subst, inl, inr}
use Rattle.std.proofs.lemmas.Bool.{cases_Bool, cases_eq, eq-eqb, eqb-true, ne_eqb}
use Rattle.std.proofs.lemmas.Bool.Decides.{nat_tests}
use Rattle.std.specs.Option.{option_map_or}
use Rattle.std.specs.Prelude.{◌==◌, filter, find, nat_lt}
use Rattle.core_sessions.specs.Sessions.{Session, is_open, new_session, session_at, with_session}
use Rattle.core_sessions.specs.declared.sessions.OpenSession.{OpenSession}
use Rattle.plain_promise.specs.Promise.{Begun, IsWellKept, Logs, Plain, SeenVersion, settled_after}
use Rattle.promise_kept.proofs.Going.{kept_now, stores_are}
use Rattle.promise_kept.proofs.Resting.{grows_then, held_rests, seen_then}
use Rattle.promise_kept.proofs.Saying.{plain_at}
use Rattle.promise_kept.specs.Lines.{IsLine, StepsPlainly}
use Rattle.promise_kept.specs.Seen.{FloorsAre, IsPlainOf, floors_of}
use Rattle.core_model.specs.Stores.{stores_in}
use Rattle.core_plans.specs.Held.{plan_at}
use Rattle.replies.specs.declared.refusals.Refusal.TheVariants.{Memory}
use Rattle.replies.specs.declared.reply.Reply.{Reply}
use Rattle.replies.specs.declared.reply.Reply.TheVariants.{Opened, Refused}
use Rattle.request_check.specs.declared.checked.Checked.TheVariants as asks
use Rattle.tao_core.specs.Core.{Moment}
use Rattle.tao_core.specs.Replies.{AnswersOpen}
use Rattle.tao_base.specs.declared.entry.Entry.{Entry}
use Rattle.tao_base.specs.declared.id.Key.{Key}
use Rattle.tao_schema.specs.Schema.{types_of}
use Rattle.topology.specs.Config.{Settings}

-- ---- sessions by their numbers

abbrev floors_in : Option Session → List (Key × ℕ)
floors_in o = option_map_or (λ (x : Session). x.floors) o []

-- what is found passes a test that all of its number pass
find_kept : (keep : Session → Bool) (n : ℕ) (xs : List Session) → ((x : Session) → x.session ≡ n → keep x ≡ true)
    → find (λ (x : Session). x.session == n) (filter keep xs) ≡ session_at xs n
find_kept keep n [] kept = refl
find_kept keep n (x ∷ xs) kept = elim (cases_Bool (x.session == n)) [
  | inl is ↦ (let keeps = kept x (eqb-true x.session n is) in rw keeps (rw is refl))
  | inr isnt ↦ elim (cases_Bool (keep x)) [
    | inl keeps ↦ rw keeps (rw isnt (find_kept keep n xs kept))
    | inr drops ↦ rw drops (rw isnt (find_kept keep n xs kept))
  ]
]

-- and nothing is found where none of its number passes
find_none : (keep : Session → Bool) (n : ℕ) (xs : List Session) → ((x : Session) → x.session ≡ n → keep x ≡ false)
    → find (λ (x : Session). x.session == n) (filter keep xs) ≡ None
find_none keep n [] dropped = refl
find_none keep n (x ∷ xs) dropped = elim (cases_Bool (x.session == n)) [
  | inl is ↦ (let drops = dropped x (eqb-true x.session n is) in rw drops (find_none keep n xs dropped))
  | inr isnt ↦ elim (cases_Bool (keep x)) [
    | inl keeps ↦ rw keeps (rw isnt (find_none keep n xs dropped))
    | inr drops ↦ rw drops (find_none keep n xs dropped)
  ]
]

-- where the first list has none, the second is asked; and what the first has is found
find_past : (n : ℕ) (xs ys : List Session) → session_at xs n ≡ None → session_at (xs ++ ys) n ≡ session_at ys n
find_past n [] ys none = refl
find_past n (x ∷ xs) ys none = elim (cases_Bool (x.session == n)) [
  | inl is ↦ (let e : Some x ≡ None = rw is at none in absurd (cc))
  | inr isnt ↦ rw isnt (find_past n xs ys (rw isnt at none))
]

find_first : (n : ℕ) (xs ys : List Session) (x : Session) → session_at xs n ≡ Some x → session_at (xs ++ ys) n ≡ Some x
find_first n [] ys x found = absurd (cc)
find_first n (y ∷ xs) ys x found = elim (cases_Bool (y.session == n)) [
  | inl is ↦ rw is (rw is at found)
  | inr isnt ↦ rw isnt (find_first n xs ys x (rw isnt at found))
]

module _ (new : Session) (old : List Session) where
  abbrev Lower : List Session
  Lower = filter (λ (x : Session). nat_lt x.session new.session) old

  abbrev Greater : List Session
  Greater = filter (λ (x : Session). nat_lt new.session x.session) old

  lt_true : (a b : ℕ) → a < b → nat_lt a b ≡ true
  lt_true a b lt = grind (arith, nat_tests, lt)

  lt_false : (a b : ℕ) → (a < b → ⊥) → nat_lt a b ≡ false
  lt_false a b not = elim (cases_Bool (nat_lt a b)) [
    | inl is ↦ (let lt : a < b = grind (arith, nat_tests, is) in absurd (not lt))
    | inr isnt ↦ isnt
  ]

  here_none : session_at Lower new.session ≡ None
  here_none = find_none (λ (x : Session). nat_lt x.session new.session) new.session old
      (λ x is. lt_false x.session new.session (λ lt. absurd (omega (arith, lt, is))))

  -- the session that is opened is found by its number
  pub opened_here : session_at (with_session new old) new.session ≡ Some new
  opened_here =
      let own : (new.session == new.session) ≡ true = eq-eqb new.session new.session refl in
      find_past new.session Lower (new ∷ Greater) here_none ∙ (rw own refl)

  -- and each other as before
  opened_there : (n : ℕ) → (new.session ≡ n → ⊥) → session_at (with_session new old) n ≡ session_at old n
  opened_there n apart = elim (cases_Bool (nat_lt n new.session)) [
    | inl less ↦
        let lower : n < new.session = grind (arith, nat_tests, less) in
        let kept = find_kept (λ (x : Session). nat_lt x.session new.session) n old
        (λ x is. lt_true x.session new.session (let e = is in omega (arith, lower, e))) in
        let greater = find_none (λ (x : Session). nat_lt new.session x.session) n old
        (λ x is. lt_false new.session x.session (λ lt. absurd (omega (arith, lt, lower, is)))) in
        by_lower n apart greater (session_at old n) kept
    | inr more ↦
        let above : new.session < n = grind (arith, nat_tests, more, apart) in
        let lower = find_none (λ (x : Session). nat_lt x.session new.session) n old
        (λ x is. lt_false x.session new.session (λ lt. absurd (omega (arith, lt, above, is)))) in
        let kept = find_kept (λ (x : Session). nat_lt new.session x.session) n old
        (λ x is. lt_true new.session x.session (let e = is in omega (arith, above, e))) in
        find_past n Lower (new ∷ Greater) lower ∙ skip_new n apart ∙ kept
  ]
    where
      skip_new : (n : ℕ) → (new.session ≡ n → ⊥) → session_at (new ∷ Greater) n ≡ session_at Greater n
      skip_new n apart = (let isnt : (new.session == n) ≡ false = ne_eqb new.session n apart in rw isnt refl)

      by_lower : (n : ℕ) → (new.session ≡ n → ⊥) → session_at Greater n ≡ None → (found : Option Session) → session_at Lower n ≡ found
          → session_at (with_session new old) n ≡ found
      by_lower n apart greater None lower = find_past n Lower (new ∷ Greater) lower ∙ skip_new n apart ∙ greater
      by_lower n apart greater (Some x) lower = find_first n Lower (new ∷ Greater) x lower

-- one that isn't open isn't found
closed_none : (sessions : List Session) (n : ℕ) → is_open sessions n ≡ false → session_at sessions n ≡ None
closed_none [] n closed = refl
closed_none (x ∷ xs) n closed = elim (cases_Bool (x.session == n)) [
  | inl is ↦ (let e : true ≡ false = rw is at closed in absurd (cc))
  | inr isnt ↦ rw isnt (closed_none xs n (rw isnt at closed))
]

-- each has the floors that it had
floors_opened : (new : Session) (old : List Session) → new.floors ≡ [] → is_open old new.session ≡ false → (n : ℕ)
    → floors_of (with_session new old) n ≡ floors_of old n
floors_opened new old none closed n = elim (cases_eq new.session n) [
  | inl is ↦ subst (λ k. floors_of (with_session new old) k ≡ floors_of old k) is
      (ap floors_in (opened_here new old) ∙ none ∙ sym (ap floors_in (closed_none old new.session closed)))
  | inr apart ↦ ap floors_in (opened_there new old n apart)
]

-- ---- the line

module _ (old new : Moment) (learnt : ℕ → List Entry) (saw : ℕ → List SeenVersion) (held : ℕ → Option Begun) (settled : Option Logs)
    (was : IsPlainOf old (plain_at old.core.settings old.keepers.told learnt saw held settled)) (session region tier : ℕ) where
  abbrev s : Settings
  s = old.core.settings

  abbrev Before : Plain
  Before = plain_at old.core.settings old.keepers.told learnt saw held settled

  abbrev After : Plain
  After = plain_at old.core.settings new.keepers.told learnt saw held settled

  abbrev Place : OpenSession
  Place = record { session = session; region = region; tier = tier }

  floors_then : (reply : Reply) → is_open old.core.sessions session ≡ false → AnswersOpen Place old.core.sessions reply new.core.sessions → (n : ℕ)
      → FloorsAre (learnt n) (saw n) (floors_of new.core.sessions n)
  floors_then (Opened number) closed answers n =
      subst (FloorsAre (learnt n) (saw n)) (sym (ap (λ xs. floors_of xs n) answers.1.1
      ∙ floors_opened (new_session Place answers.1.0) old.core.sessions refl closed n)) (was.learnt n)
  floors_then (Refused (Memory position)) closed answers n =
      subst (FloorsAre (learnt n) (saw n)) (sym (ap (λ xs. floors_of xs n) answers.1)) (was.learnt n)
  floors_then reply closed answers n = absurd answers

  pub open_steps : (reply : Reply) (line : IsLine (asks.Open session region tier) old reply new) → (settled_after Before reply After.stores.logs ≡ settled)
      → StepsPlainly (Some (asks.Open session region tier)) old Before reply new
  open_steps reply line unsettled =
      let rest = line.answers.1 in
      record {
        after = After;
        says = record {
          says = tt;
          changes = ap (λ (m : Moment). (stores_in s m.keepers.told).logs) rest;
          grows = grows_then old new line.on;
          well_kept = subst (IsWellKept (types_of s.schema)) (stores_are old new line.on) (kept_now old new line.on);
          learnt = λ n. ([], sym (append-nil (learnt n)));
          seen = λ n. refl;
          held = λ plan. refl;
          settled = sym unsettled;
        };
        seen = seen_then old new line.on Before learnt saw held was (floors_then reply line.can.0 line.answers.0)
            (λ n plan at. held_rests old new line.on held was.held n plan
            (subst (λ ps. plan_at ps n ≡ Some plan) (ap (λ (m : Moment). m.core.plans) rest) at));
      }

  open_line_by : (reply : Reply) → IsLine (asks.Open session region tier) old reply new → AnswersOpen Place old.core.sessions reply new.core.sessions
      → StepsPlainly (Some (asks.Open session region tier)) old Before reply new
  open_line_by (Opened number) line answers = open_steps (Opened number) line refl
  open_line_by (Refused refusal) line answers = open_steps (Refused refusal) line refl
  open_line_by reply line answers = absurd answers

  pub open_line : (reply : Reply) → IsLine (asks.Open session region tier) old reply new
      → StepsPlainly (Some (asks.Open session region tier)) old Before reply new
  open_line reply line = open_line_by reply line line.answers.0
