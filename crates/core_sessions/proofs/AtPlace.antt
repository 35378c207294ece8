-- The pass of a session that is open, at its place.
use Rattle.std.proofs.Common.{◌≡◌, ℕ, zero, suc, ◌+◌, ◌<◌, ◌≤◌, Bool, true, false, cond, List, [], ◌∷◌, length, get_or, map, Option, Some, None}
use Rattle.std.proofs.Common.{IfSome, refl, ap, sym, ◌∙◌, subst, arith, inl, inr, slice_set}
use Rattle.std.specs.Option.{option_map}
use Rattle.std.specs.Prelude.{◌==◌, nat_lt, slice_get}
use Rattle.std.specs.List.{find, AllByRecursion, AllWithin}
use Rattle.std.proofs.lemmas.Bool.{cases_Bool, cases_lt, false≢true, eq-eqb}
use Rattle.std.proofs.lemmas.Bool.Decides.{nat_tests}
use Rattle.std.proofs.lemmas.Option.{slice_get_past, slice_get_read}
use Rattle.core_sessions.proofs.InOrder.{IsPlace, above_at, above_first, above_trans, found_at, greater, is_found, later_place, lower_differs, none_found}
use Rattle.core_sessions.proofs.InOrder.{none_open, not_lower, other_number, rest_in_order}
use Rattle.core_sessions.specs.Sessions.{HaveRisingNumbers, HasRoom, HasRoomForBoth, Session, SessionLearns, SessionLearnsVersion, is_open}
use Rattle.core_sessions.specs.Sessions.{session_at, session_of, sessions_of, start_of, with_changed}
use Rattle.core_sessions.specs.declared.sessions.CallStart.{CallStart}
use Rattle.session_pass.specs.Floors.{Learns, floor_at}
use Rattle.session_pass.specs.Passes.{LearnsEntry, SeenPass, after_meeting, learnt}
use Rattle.shard_log.specs.View.{View}
use Rattle.tao_base.specs.Ids.{IsRising}
use Rattle.tao_base.specs.Keys.{key_shard}
use Rattle.tao_base.specs.declared.entry.Entry.{Entry}
use Rattle.tao_base.specs.declared.id.Key.{Key}
use Rattle.tao_base.proofs.Tests.{eqb-same, is_lower}

-- the session's pass stands at the place
pub record StandsAt (n : ℕ) (xs : List SeenPass) (i : ℕ) (p : SeenPass) : Type 0 where
  pub up : HaveRisingNumbers xs
  pub at : slice_get xs i ≡ Some p
  pub number : p.session ≡ n

lower_number : (m n : ℕ) → m < n → (m == n) ≡ false
lower_number m n h = grind (arith, nat_tests)

pub lt_from_test : (m n : ℕ) → true ≡ nat_lt m n → m < n
lt_from_test m n h = grind (arith, nat_tests)

not_lt : (m n : ℕ) → false ≡ nat_lt m n → n ≤ m
not_lt m n h = grind (arith, nat_tests)

some_same : (x p : SeenPass) → Some x ≡ Some p → x ≡ p
some_same x p e = subst (λ o. IfSome o (λ y. x ≡ y)) e refl

-- those before a place have lower numbers
above_there : (m : ℕ) (xs : List SeenPass) (i : ℕ) (p : SeenPass) → AllByRecursion (λ q. m < q.session) xs → slice_get xs i ≡ Some p → m < p.session
above_there m [] i p above at = absurd cc
above_there m (x ∷ xs) zero p above at = subst (λ q. m < q.session) (some_same x p at) above.0
above_there m (x ∷ xs) (suc i) p above at = above_there m xs i p above.1 at

-- the pass at a place is the first of its number
first_at : (xs : List SeenPass) (i : ℕ) (p : SeenPass) → HaveRisingNumbers xs → slice_get xs i ≡ Some p → find (λ q. q.session == p.session) xs ≡ Some p
first_at [] i p up at = absurd cc
first_at (x ∷ xs) zero p up at = rw (eq-eqb x.session p.session (ap (λ q. q.session) (some_same x p at))) at
first_at (x ∷ xs) (suc i) p up at =
    rw (lower_number x.session p.session (above_there x.session xs i p (above_first x xs up) at)) (first_at xs i p (rest_in_order x xs up) at)

session_first : (n : ℕ) (xs : List SeenPass) (p : SeenPass) → find (λ q. q.session == n) xs ≡ Some p → session_at (sessions_of xs) n ≡ Some (session_of p)
session_first n [] p = λ at. absurd cc
session_first n (x ∷ xs) p = by (x.session == n) (session_first n xs p)
  where
    by : (b : Bool) → (find (λ q. q.session == n) xs ≡ Some p → session_at (sessions_of xs) n ≡ Some (session_of p))
        → cond b (Some x) (find (λ q. q.session == n) xs) ≡ Some p → cond b (Some (session_of x)) (session_at (sessions_of xs) n) ≡ Some (session_of p)
    by true later e = ap (λ q. Some (session_of q)) (some_same x p e)
    by false later e = later e

-- ---- the place of a session that stands there

same_not_lower : (m n : ℕ) → m ≡ n → nat_lt m n ≡ false
same_not_lower m n h = grind (arith, nat_tests)

-- no number from the first on is below the first
none_below : (n : ℕ) (x : SeenPass) (xs : List SeenPass) → AllByRecursion (λ p. n < p.session) xs → x.session ≡ n
    → AllWithin (λ p. nat_lt p.session n ≡ false) (x ∷ xs) 0 (length (x ∷ xs))
none_below n x xs above same zero d a b = same_not_lower x.session n same
none_below n x xs above same (suc k) d a b = not_lower n (get_or xs k d).session (above_at n xs above k d (omega arith))

lower_next : (n : ℕ) (x : SeenPass) (xs : List SeenPass) (i : ℕ) → nat_lt x.session n ≡ true → AllWithin (λ p. nat_lt p.session n ≡ true) xs 0 i
    → AllWithin (λ p. nat_lt p.session n ≡ true) (x ∷ xs) 0 (suc i)
lower_next n x xs i lower rest zero d a b = lower
lower_next n x xs i lower rest (suc k) d a b = rest k d (omega arith) (omega arith)

other_next : (n : ℕ) (x : SeenPass) (xs : List SeenPass) (i : ℕ) → AllWithin (λ p. nat_lt p.session n ≡ false) xs i (length xs)
    → AllWithin (λ p. nat_lt p.session n ≡ false) (x ∷ xs) (suc i) (length (x ∷ xs))
other_next n x xs i rest zero d a b = absurd (omega arith)
other_next n x xs i rest (suc k) d a b = rest k d (omega arith) (omega arith)

pub place_there : (n : ℕ) (xs : List SeenPass) (i : ℕ) (p : SeenPass) → HaveRisingNumbers xs → slice_get xs i ≡ Some p → p.session ≡ n → IsPlace n xs i
place_there n [] i p up at same = absurd cc
place_there n (x ∷ xs) zero p up at same =
    let number : x.session ≡ n = ap (λ q. q.session) (some_same x p at) ∙ same in
    let above = subst (λ m. AllByRecursion (λ q. m < q.session) xs) number (above_first x xs up) in
    ((λ k d a b. absurd (omega arith)), none_below n x xs above number)
place_there n (x ∷ xs) (suc i) p up at same =
    let rest = place_there n xs i p (rest_in_order x xs up) at same in
    let less : x.session < n = subst (λ m. x.session < m) same (above_there x.session xs i p (above_first x xs up) at) in
    (lower_next n x xs i (is_lower x.session n less) rest.0, other_next n x xs i rest.1)

-- a session that is open stands at its place
pub seat_is : (n : ℕ) (xs : List SeenPass) (i : ℕ) → HaveRisingNumbers xs → IsPlace n xs i
    → IfSome (session_at (sessions_of xs) n) (λ s. slice_get (sessions_of xs) i ≡ Some s)
seat_is n [] i up point = tt
seat_is n (x ∷ xs) zero up point = elim (cases_Bool (x.session == n)) [
  | inl same ↦ rw same refl
  | inr differs ↦ (
      let more : n < x.session = greater x.session n (point.1 zero x (omega arith) (omega arith)) differs in
      rw (differs, none_found n xs (none_open n xs (above_trans n x.session xs more (above_first x xs up)))) tt)
]
seat_is n (x ∷ xs) (suc i) up point =
    rw (lower_differs x.session n (point.0 zero x (omega arith) (omega arith))) (seat_is n xs i (rest_in_order x xs up) (later_place n x xs i point))

-- ---- a place that is set

get_set : (xs : List SeenPass) (i : ℕ) (p q : SeenPass) → slice_get xs i ≡ Some p → slice_get (slice_set xs i q) i ≡ Some q
get_set [] i p q at = absurd cc
get_set (x ∷ xs) zero p q at = refl
get_set (x ∷ xs) (suc i) p q at = get_set xs i p q at

map_set : {Y : Type 0} (f : SeenPass → Y) (xs : List SeenPass) (i : ℕ) (p q : SeenPass) → slice_get xs i ≡ Some p → f q ≡ f p
    → map f (slice_set xs i q) ≡ map f xs
map_set f [] i p q at same = absurd cc
map_set f (x ∷ xs) zero p q at same = ap (λ y. y ∷ map f xs) (same ∙ ap f (sym (some_same x p at)))
map_set f (x ∷ xs) (suc i) p q at same = ap (λ ys. f x ∷ ys) (map_set f xs i p q at same)

-- a session of a lower number than all changes none of them
changes_none : (s : Session) (xs : List SeenPass) → AllByRecursion (λ p. s.session < p.session) xs → with_changed s (sessions_of xs) ≡ sessions_of xs
changes_none s [] above = refl
changes_none s (x ∷ xs) above = rw (other_number x.session s.session above.0) (ap (λ l. session_of x ∷ l) (changes_none s xs above.1))

set_changes : (xs : List SeenPass) (i : ℕ) (p q : SeenPass) → HaveRisingNumbers xs → slice_get xs i ≡ Some p → q.session ≡ p.session
    → sessions_of (slice_set xs i q) ≡ with_changed (session_of q) (sessions_of xs)
set_changes [] i p q up at same = absurd cc
set_changes (x ∷ xs) zero p q up at same =
    let here : x.session ≡ q.session = ap (λ r. r.session) (some_same x p at) ∙ sym same in
    rw (eq-eqb x.session q.session here)
    (ap (λ l. session_of q ∷ l) (sym (changes_none (session_of q) xs (subst (λ m. AllByRecursion (λ r. m < r.session) xs) here (above_first x xs up)))))
set_changes (x ∷ xs) (suc i) p q up at same =
    let lower : x.session < q.session = subst (λ m. x.session < m) (sym same) (above_there x.session xs i p (above_first x xs up) at) in
    rw (lower_number x.session q.session lower) (ap (λ l. session_of x ∷ l) (set_changes xs i p q (rest_in_order x xs up) at same))

-- ---- the pass at the place

module _ (n : ℕ) (xs : List SeenPass) (i : ℕ) (p : SeenPass) (here : StandsAt n xs i p) where
  pub first_is : find (λ q. q.session == n) xs ≡ Some p
  first_is = subst (λ m. find (λ q. q.session == m) xs ≡ Some p) here.number (first_at xs i p here.up here.at)

  pub session_is : session_at (sessions_of xs) n ≡ Some (session_of p)
  session_is = session_first n xs p first_is

  -- what holds of the session holds of its pass
  pub holds_of : (F : Session → Type 0) → IfSome (session_at (sessions_of xs) n) F → F (session_of p)
  holds_of F holds = subst (λ o. IfSome o F) session_is holds

  pub holds_at : (F : Session → Type 0) → F (session_of p) → IfSome (session_at (sessions_of xs) n) F
  holds_at F holds = subst (λ o. IfSome o F) (sym session_is) holds

  pub has_room : (m : ℕ) → IfSome (find (λ q. q.session == n) xs) (λ q. m ≤ q.spare) → m ≤ p.spare
  has_room m room = subst (λ o. IfSome o (λ q. m ≤ q.spare)) first_is room

  pub set_in_order : (q : SeenPass) → q.session ≡ p.session → HaveRisingNumbers (slice_set xs i q)
  set_in_order q same = subst IsRising (sym (map_set (λ r. r.session) xs i p q here.at same)) here.up

  pub set_same : (q : SeenPass) → session_of q ≡ session_of p → sessions_of (slice_set xs i q) ≡ sessions_of xs
  set_same q same = map_set session_of xs i p q here.at same

  pub set_stands : (q : SeenPass) → q.session ≡ p.session → StandsAt n (slice_set xs i q) i q
  set_stands q same = record { up = set_in_order q same; at = get_set xs i p q here.at; number = same ∙ here.number }

  pub learns_there : (shard : ℕ) (e : Entry) (note : View) (q : SeenPass) → LearnsEntry shard e note p q
      → SessionLearns n shard e note (sessions_of xs) (sessions_of (slice_set xs i q))
  learns_there shard e note q learns = record {
    from = session_of p;
    to = session_of q;
    found = session_is;
    learns = record { floors = learns.floors; rest = ap session_of learns.rest };
    is = set_changes xs i p q here.up here.at (ap (λ r. r.session) learns.rest);
  }

  pub learns_version_there : (key : Key) (version spare : ℕ) (note : View) (q : SeenPass) → q ≡ learnt key version note spare p
      → Learns key version p.floors q.floors → SessionLearnsVersion n key version note (sessions_of xs) (sessions_of (slice_set xs i q))
  learns_version_there key version spare note q is floors = record {
    from = session_of p;
    to = session_of q;
    found = session_is;
    learns = record {
      floors = floors;
      rest = ap session_of is ∙ ap (λ fs. record (session_of p) { floors = fs; notes = after_meeting (key_shard key) note p.notes })
          (sym (ap (λ (r : SeenPass). r.floors) is));
    };
    is = set_changes xs i p q here.up here.at (ap (λ (r : SeenPass). r.session) is);
  }

-- the room of a pass that was given some
pub room_there : (n : ℕ) (xs : List SeenPass) (i : ℕ) (p q : SeenPass) (m : ℕ) → StandsAt n xs i p → q.session ≡ p.session → m ≤ q.spare
    → IfSome (find (λ r. r.session == n) (slice_set xs i q)) (λ r. m ≤ r.spare)
room_there n xs i p q m here same room =
    subst (λ o. IfSome o (λ r. m ≤ r.spare)) (sym (first_is n (slice_set xs i q) i q (set_stands n xs i p here q same))) room

-- of the room for both entries, that for one is left after an entry
pub more_there : (n : ℕ) (xs : List SeenPass) (i : ℕ) (p q : SeenPass) → StandsAt n xs i p → q.session ≡ p.session → p.spare ≤ q.spare + 8
    → HasRoomForBoth n xs → HasRoom n (slice_set xs i q)
more_there n xs i p q here same spent both =
    let room = has_room n xs i p here 16 both in
    let left : 8 ≤ q.spare = omega (arith, room, spent) in
    room_there n xs i p q 8 here same left

-- who has room for an entry has room for a key
pub room_of_one : (n : ℕ) (xs : List SeenPass) → HasRoom n xs → IfSome (find (λ q. q.session == n) xs) (λ q. 1 ≤ q.spare)
room_of_one n xs room = by (find (λ q. q.session == n) xs) room
  where
    by : (found : Option SeenPass) → IfSome found (λ q. 8 ≤ q.spare) → IfSome found (λ q. 1 ≤ q.spare)
    by None room = tt
    by (Some q) room = omega (arith, room)

-- ---- over what the code holds

-- the place of a session that is open is one of the list
pub within : (n : ℕ) (xs slice : List SeenPass) (i : ℕ) → slice ≡ xs → HaveRisingNumbers xs → is_open (sessions_of xs) n ≡ true → IsPlace n slice i
    → i < length xs
within n xs slice i lent up there point = elim (cases_lt i (length xs)) [
  | inl lt ↦ lt
  | inr le ↦ (
      let found = found_at n xs i up (subst (λ ys. IsPlace n ys i) lent point) in
      absurd (false≢true (ap (is_found n) (sym (slice_get_past xs i le)) ∙ found ∙ there)))
]

-- and its pass stands there
pub stands : (n : ℕ) (xs slice : List SeenPass) (i : ℕ) (p : SeenPass) → slice ≡ xs → HaveRisingNumbers xs → is_open (sessions_of xs) n ≡ true
    → IsPlace n slice i
    → p ≡ get_or xs i p → StandsAt n xs i p
stands n xs slice i p lent up there point is =
    let at : slice_get xs i ≡ Some p = slice_get_read xs (length xs) i p refl (within n xs slice i lent up there point) is in
    let found = found_at n xs i up (subst (λ ys. IsPlace n ys i) lent point) in
    record { up = up; at = at; number = eqb-same p.session n (ap (is_found n) (sym at) ∙ found ∙ there) }

-- what the code finds at the place
pub looked_up : (xs again : List SeenPass) (i : ℕ) (p : SeenPass) → again ≡ xs → true ≡ nat_lt i (length again) → p ≡ get_or again i p → slice_get xs i ≡ Some p
looked_up xs again i p lent_again less is =
    slice_get_read xs (length xs) i p refl (subst (λ ys. i < length ys) lent_again (lt_from_test i (length again) less))
    (subst (λ ys. p ≡ get_or ys i p) lent_again is)

pub looked_past : (xs again : List SeenPass) (i : ℕ) → again ≡ xs → false ≡ nat_lt i (length again) → slice_get xs i ≡ None
looked_past xs again i lent_again past = slice_get_past xs i (subst (λ ys. length ys ≤ i) lent_again (not_lt i (length again) past))

-- whether it is the session's tells whether that is open
pub open_is : (n : ℕ) (xs slice : List SeenPass) (i : ℕ) (o : Option SeenPass) → slice ≡ xs → HaveRisingNumbers xs → IsPlace n slice i → slice_get xs i ≡ o
    → is_found n o ≡ is_open (sessions_of xs) n
open_is n xs slice i o lent up point at = ap (is_found n) (sym at) ∙ found_at n xs i up (subst (λ ys. IsPlace n ys i) lent point)

pub stands_found : (n : ℕ) (xs : List SeenPass) (i : ℕ) (p : SeenPass) → HaveRisingNumbers xs → slice_get xs i ≡ Some p → (p.session == n) ≡ true
    → StandsAt n xs i p
stands_found n xs i p up at same = record { up = up; at = at; number = eqb-same p.session n same }

-- where a session's read begins tells the session's floor
pub floor_started : (key : Key) (session : Option Session) (start : Option CallStart) → start ≡ option_map (start_of key) session
    → option_map (λ b. b.floor) start ≡ option_map (λ s. floor_at s.floors key) session
floor_started key None start is = ap (option_map (λ b. b.floor)) is
floor_started key (Some s) start is = ap (option_map (λ b. b.floor)) is
