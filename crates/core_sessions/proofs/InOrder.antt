-- Sessions in the order of their numbers: where one stands, and where a new one goes.
use Rattle.std.proofs.Common.{◌≡◌, ℕ, zero, suc, ◌<◌, ◌≤◌, Bool, true, false, List, [], ◌∷◌, length, get_or, Option, Some, None, refl, ap, sym, ◌∙◌}
use Rattle.std.proofs.Common.{subst, arith, inl, inr}
use Rattle.std.specs.Prelude.{◌==◌, nat_lt, slice_get, filter}
use Rattle.std.specs.List.{insert, AllByRecursion}
use Rattle.std.specs.List.Sorted.{IsPartitionedBy, IsPartitionPoint}
use Rattle.std.proofs.lemmas.Bool.{cases_Bool, or_parts}
use Rattle.std.proofs.lemmas.Bool.Decides.{nat_tests}
use Rattle.core_sessions.specs.Sessions.{HaveRisingNumbers, is_open, new_session, session_at, session_of, sessions_of, with_session}
use Rattle.core_sessions.specs.declared.sessions.OpenSession.{OpenSession}
use Rattle.shard_log.specs.View.{View}
use Rattle.session_pass.specs.Passes.{SeenPass}
use Rattle.tao_base.proofs.Tests.{is_lower}

pub above_trans : (m n : ℕ) (xs : List SeenPass) → m < n → AllByRecursion (λ p. n < p.session) xs → AllByRecursion (λ p. m < p.session) xs
above_trans m n [] h above = tt
above_trans m n (x ∷ xs) h above = (omega (arith, above.0), above_trans m n xs h above.1)

-- the first number is below all others
pub above_first : (x : SeenPass) (xs : List SeenPass) → HaveRisingNumbers (x ∷ xs) → AllByRecursion (λ p. x.session < p.session) xs
above_first x [] up = tt
above_first x (y ∷ ys) up = (up.0, above_trans x.session y.session ys up.0 (above_first y ys up.1))

pub rest_in_order : (x : SeenPass) (xs : List SeenPass) → HaveRisingNumbers (x ∷ xs) → HaveRisingNumbers xs
rest_in_order x [] up = tt
rest_in_order x (y ∷ ys) up = up.1

put_first : (x : SeenPass) (xs : List SeenPass) → AllByRecursion (λ p. x.session < p.session) xs → HaveRisingNumbers xs → HaveRisingNumbers (x ∷ xs)
put_first x [] above up = tt
put_first x (y ∷ ys) above up = (above.0, up)

pub above_at : (n : ℕ) (xs : List SeenPass) → AllByRecursion (λ p. n < p.session) xs → (k : ℕ) (d : SeenPass) → k < length xs → n < (get_or xs k d).session
above_at n [] above k d h = absurd (omega arith)
above_at n (x ∷ xs) above zero d h = above.0
above_at n (x ∷ xs) above (suc k) d h = above_at n xs above.1 k d (omega arith)

lower_too : (m n t : ℕ) → m < n → nat_lt n t ≡ true → nat_lt m t ≡ true
lower_too m n t h on = grind (arith, nat_tests)

-- the sessions of lower numbers stand first
pub lower_first : (n : ℕ) (xs : List SeenPass) → HaveRisingNumbers xs → IsPartitionedBy (λ p. nat_lt p.session n) xs
lower_first n [] up i j d l h on = absurd (omega arith)
lower_first n (x ∷ xs) up zero zero d l h on = on
lower_first n (x ∷ xs) up zero (suc j) d l h on = lower_too x.session (get_or xs j d).session n
    (above_at x.session xs (above_first x xs up) j d (omega arith)) on
lower_first n (x ∷ xs) up (suc i) zero d l h on = absurd (omega arith)
lower_first n (x ∷ xs) up (suc i) (suc j) d l h on = lower_first n xs (rest_in_order x xs up) i j d (omega arith) (omega arith) on

pub not_lower : (m n : ℕ) → m < n → nat_lt n m ≡ false
not_lower m n h = grind (arith, nat_tests)

none_lower : (n : ℕ) (xs : List SeenPass) → AllByRecursion (λ p. n < p.session) xs → filter (λ s. nat_lt s.session n) (sessions_of xs) ≡ []
none_lower n [] above = refl
none_lower n (x ∷ xs) above = rw (not_lower n x.session above.0) (none_lower n xs above.1)

all_greater : (n : ℕ) (xs : List SeenPass) → AllByRecursion (λ p. n < p.session) xs → filter (λ s. nat_lt n s.session) (sessions_of xs) ≡ sessions_of xs
all_greater n [] above = refl
all_greater n (x ∷ xs) above = rw (is_lower n x.session above.0) (ap (λ l. session_of x ∷ l) (all_greater n xs above.1))

pub other_number : (m n : ℕ) → n < m → (m == n) ≡ false
other_number m n h = grind (arith, nat_tests)

pub none_open : (n : ℕ) (xs : List SeenPass) → AllByRecursion (λ p. n < p.session) xs → is_open (sessions_of xs) n ≡ false
none_open n [] above = refl
none_open n (x ∷ xs) above = rw (other_number x.session n above.0) (none_open n xs above.1)

pub greater : (m n : ℕ) → nat_lt m n ≡ false → (m == n) ≡ false → n < m
greater m n h k = grind (arith, nat_tests)

-- what is not lower and not the same is above, and so is all behind it
above_all : (n : ℕ) (x : SeenPass) (xs : List SeenPass) → HaveRisingNumbers (x ∷ xs) → n < x.session → AllByRecursion (λ p. n < p.session) (x ∷ xs)
above_all n x xs up h = (h, above_trans n x.session xs h (above_first x xs up))

lower_of_two : (m n : ℕ) → nat_lt m n ≡ true → nat_lt n m ≡ false
lower_of_two m n h = grind (arith, nat_tests)

pub lower_differs : (m n : ℕ) → nat_lt m n ≡ true → (m == n) ≡ false
lower_differs m n h = grind (arith, nat_tests)

lt_from_lower : (m n : ℕ) → nat_lt m n ≡ true → m < n
lt_from_lower m n h = grind (arith, nat_tests)

-- the place behind the sessions of lower numbers
abbrev pub IsPlace : ℕ → List SeenPass → ℕ → Type 0
IsPlace n xs i = IsPartitionPoint (λ p. nat_lt p.session n ≡ true) (λ p. nat_lt p.session n ≡ false) xs i

pub later_place : (n : ℕ) (x : SeenPass) (xs : List SeenPass) (i : ℕ) → IsPlace n (x ∷ xs) (suc i) → IsPlace n xs i
later_place n x xs i point = ((λ k d a b. point.0 (suc k) d (omega arith) (omega arith)), (λ k d a b. point.1 (suc k) d (omega arith) (omega arith)))

-- a session goes to the place behind those of lower numbers
insert_at : (new : SeenPass) (xs : List SeenPass) (i : ℕ) → HaveRisingNumbers xs → is_open (sessions_of xs) new.session ≡ false
    → IsPlace new.session xs i → i ≤ length xs → sessions_of (insert xs i new) ≡ with_session (session_of new) (sessions_of xs)
insert_at new [] zero up none point le = refl
insert_at new [] (suc i) up none point le = absurd (omega arith)
insert_at new (x ∷ xs) zero up none point le =
    let differs = or_parts (x.session == new.session) (is_open (sessions_of xs) new.session) none in
    let above : AllByRecursion (λ p. new.session < p.session) (x ∷ xs) = above_all new.session x xs up
    (greater x.session new.session (point.1 zero x (omega arith) (omega arith)) differs.0) in
    rw (none_lower new.session (x ∷ xs) above, all_greater new.session (x ∷ xs) above) refl
insert_at new (x ∷ xs) (suc i) up none point le =
    let lower : nat_lt x.session new.session ≡ true = point.0 zero x (omega arith) (omega arith) in
    let differs = or_parts (x.session == new.session) (is_open (sessions_of xs) new.session) none in
    rw (lower, lower_of_two x.session new.session lower)
    (ap (λ l. session_of x ∷ l) (insert_at new xs i (rest_in_order x xs up) differs.1 (later_place new.session x xs i point) (omega arith)))

above_insert : (m : ℕ) (new : SeenPass) (xs : List SeenPass) (i : ℕ) → m < new.session → AllByRecursion (λ p. m < p.session) xs
    → i ≤ length xs → AllByRecursion (λ p. m < p.session) (insert xs i new)
above_insert m new xs zero h above le = (h, above)
above_insert m new [] (suc i) h above le = absurd (omega arith)
above_insert m new (x ∷ xs) (suc i) h above le = (above.0, above_insert m new xs i h above.1 (omega arith))

-- the order stays
insert_in_order : (new : SeenPass) (xs : List SeenPass) (i : ℕ) → HaveRisingNumbers xs → is_open (sessions_of xs) new.session ≡ false
    → IsPlace new.session xs i → i ≤ length xs → HaveRisingNumbers (insert xs i new)
insert_in_order new [] zero up none point le = tt
insert_in_order new [] (suc i) up none point le = absurd (omega arith)
insert_in_order new (x ∷ xs) zero up none point le =
    let differs = or_parts (x.session == new.session) (is_open (sessions_of xs) new.session) none in
    (greater x.session new.session (point.1 zero x (omega arith) (omega arith)) differs.0, up)
insert_in_order new (x ∷ xs) (suc i) up none point le =
    let lower : nat_lt x.session new.session ≡ true = point.0 zero x (omega arith) (omega arith) in
    let differs = or_parts (x.session == new.session) (is_open (sessions_of xs) new.session) none in
    put_first x (insert xs i new) (above_insert x.session new xs i (lt_from_lower x.session new.session lower) (above_first x xs up) (omega arith))
    (insert_in_order new xs i (rest_in_order x xs up) differs.1 (later_place new.session x xs i point) (omega arith))

-- whether what is found there is the session
abbrev pub is_found : ℕ → Option SeenPass → Bool
is_found n None = false
is_found n (Some p) = p.session == n

-- a session that is open stands behind those of lower numbers
pub found_at : (n : ℕ) (xs : List SeenPass) (i : ℕ) → HaveRisingNumbers xs → IsPlace n xs i → is_found n (slice_get xs i) ≡ is_open (sessions_of xs) n
found_at n [] i up point = refl
found_at n (x ∷ xs) zero up point = elim (cases_Bool (x.session == n)) [
  | inl same ↦ rw same refl
  | inr differs ↦ (
      let more : n < x.session = greater x.session n (point.1 zero x (omega arith) (omega arith)) differs in
      rw (differs, none_open n xs (above_trans n x.session xs more (above_first x xs up))) refl)
]
found_at n (x ∷ xs) (suc i) up point =
    rw (lower_differs x.session n (point.0 zero x (omega arith) (omega arith))) (found_at n xs i (rest_in_order x xs up) (later_place n x xs i point))

-- where none is open, none is found
pub none_found : (n : ℕ) (xs : List SeenPass) → is_open (sessions_of xs) n ≡ false → session_at (sessions_of xs) n ≡ None
none_found n [] none = refl
none_found n (x ∷ xs) none = let differs = or_parts (x.session == n) (is_open (sessions_of xs) n) none in rw differs.0 (none_found n xs differs.1)

-- a session that was put in its place
pub added : (new : OpenSession) (notes : List View) (pass : SeenPass) (xs slice after : List SeenPass) (i : ℕ) → session_of pass ≡ new_session new notes
    → slice ≡ xs → HaveRisingNumbers xs → is_open (sessions_of xs) new.session ≡ false
    → i ≤ length slice → IsPlace new.session slice i → after ≡ insert xs i pass
    → (sessions_of after ≡ with_session (new_session new notes) (sessions_of xs)) × HaveRisingNumbers after
added new notes pass xs slice after i made lent up none within point put =
    let number : new.session ≡ pass.session = sym (ap (λ s. s.session) made) in
    let none_here : is_open (sessions_of xs) pass.session ≡ false = subst (λ m. is_open (sessions_of xs) m ≡ false) number none in
    let here : IsPlace pass.session xs i = subst (λ m. IsPlace m xs i) number (subst (λ ys. IsPlace new.session ys i) lent point) in
    let within_here : i ≤ length xs = subst (λ ys. i ≤ length ys) lent within in (
      ap sessions_of put ∙ insert_at pass xs i up none_here here within_here ∙ ap (λ s. with_session s (sessions_of xs)) made,
      subst HaveRisingNumbers (sym put) (insert_in_order pass xs i up none_here here within_here),
    )
