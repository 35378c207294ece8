-- Sessions that are open are found, and the other way round.
use Rattle.std.proofs.Common.{◌≡◌, ℕ, Bool, true, List, [], ◌∷◌, Option, Some, None, refl, ap, subst, sym, inl, inr}
use Rattle.std.proofs.lemmas.Bool.{cases_Bool}
use Rattle.std.proofs.lemmas.List.Elements.{recursion_from_All}
use Rattle.std.specs.List.{AllByRecursion}
use Rattle.std.specs.Option.{option_map}
use Rattle.std.specs.Prelude.{◌==◌, All, IsSomeAnd, find}
use Rattle.core_model.proofs.Places.{one_some}
use Rattle.core_sessions.specs.Sessions.{Session, is_open, opening_of, session_at}
use Rattle.core_sessions.specs.declared.sessions.CallStart.{CallStart}
use Rattle.core_sessions.specs.declared.sessions.OpenSession.{OpenSession}
use Rattle.request_check.specs.declared.checked.CheckedCall.{CheckedCall}
use Rattle.tao_core.specs.HeldCalls.{call_session, call_start}

pub found_open : (sessions : List Session) (number : ℕ) → is_open sessions number ≡ true → (session : Session) × (session_at sessions number ≡ Some session)
found_open [] number is = absurd (cc)
found_open (x ∷ xs) number is = elim (cases_Bool (x.session == number)) [
  | inl same ↦ (x, rw same refl)
  | inr differs ↦ (
      let rest : is_open xs number ≡ true = rw differs at is in
      let one = found_open xs number rest in
      (one.0, rw differs one.1))
]

pub open_found : (sessions : List Session) (number : ℕ) (session : Session) → session_at sessions number ≡ Some session → is_open sessions number ≡ true
open_found [] number session is = absurd (cc)
open_found (x ∷ xs) number session is = elim (cases_Bool (x.session == number)) [
  | inl same ↦ rw same refl
  | inr differs ↦ rw differs (open_found xs number session (rw differs at is))
]

-- what holds of each is true of the one that is found
found_too : {X : Type 0} (P : X → Type 0) (test : X → Bool) (xs : List X) (x : X) → AllByRecursion P xs → find test xs ≡ Some x → P x
found_too P test [] x all h = absurd (cc)
found_too P test (y ∷ ys) x all h = elim (cases_Bool (test y)) [
  | inl passes ↦ subst P (one_some y x (rw passes at h)) all.0
  | inr fails ↦ found_too P test ys x all.1 (rw fails at h)
]

pub session_is : (P : Session → Type 0) (sessions : List Session) (number : ℕ) (session : Session) → All P sessions
    → session_at sessions number ≡ Some session → P session
session_is P sessions number session all h = found_too P (λ o. o.session == number) sessions session (recursion_from_All P sessions all) h

-- ---- what was looked up

pub mapped_there : {X : Type 0} (f : Session → X) (o : Option Session) (s : Session) → o ≡ Some s → option_map f o ≡ None → ⊥
mapped_there f None s is none = absurd (cc)
mapped_there f (Some other) s is none = absurd (cc)

-- what a look-up answered is of the session that was found
pub mapped_is : {X : Type 0} (f : Session → X) (o : Option Session) (x : X) → option_map f o ≡ Some x → IsSomeAnd o (λ s. x ≡ f s)
mapped_is f None x is = absurd (cc)
mapped_is f (Some s) x is = sym (one_some (f s) x is)

abbrev pub with_no_floor : OpenSession → CallStart
with_no_floor place = record { place = place; floor = 0 }

pub placed_there : (o : Option Session) (place : OpenSession) → IsSomeAnd o (λ s. place ≡ opening_of s)
    → IsSomeAnd o (λ s. with_no_floor place ≡ with_no_floor (opening_of s))
placed_there None place h = absurd h
placed_there (Some s) place h = ap with_no_floor h

some_there : {X : Type 0} (P : X → Type 0) (o : Option X) → IsSomeAnd o P → (x : X) × (o ≡ Some x) × P x
some_there P None h = absurd h
some_there P (Some x) h = (x, refl, h)

-- the session of a call that begins there
pub record FoundStart (sessions : List Session) (asked : CheckedCall) (start : CallStart) : Type 0 where
  pub session : Session
  pub at : session_at sessions (call_session asked) ≡ Some session
  pub is : start ≡ call_start asked session

pub found_start : (sessions : List Session) (asked : CheckedCall) (start : CallStart)
    → IsSomeAnd (session_at sessions (call_session asked)) (λ s. start ≡ call_start asked s) → FoundStart sessions asked start
found_start sessions asked start found =
    let one = some_there (λ s. start ≡ call_start asked s) (session_at sessions (call_session asked)) found in
    record { session = one.0; at = one.1; is = one.2 }
