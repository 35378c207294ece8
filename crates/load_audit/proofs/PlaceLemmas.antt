-- The writes of a workload stand at the places of their numbers.
use Rattle.std.proofs.Common.{◌≡◌, ◌∙◌, ℕ, zero, suc, ◌+◌, ◌-◌, ◌<◌, ◌≤◌, Bool, true, false, List, [], ◌∷◌, ◌++◌, add-one, append_assoc, append-nil, get_or, length, map, ap, sym, subst, refl, arith, inl, inr}
use Rattle.std.specs.List.{AllWithin, cons_option}
use denote.Ref.{Bor}
use Rattle.std.proofs.lemmas.Bool.{cases_Bool}
use Rattle.std.proofs.lemmas.Bool.Decides.{nat_tests}
use Rattle.std.proofs.lemmas.Option.{slice_get-map, slice_get_past, slice_get_read}
use Rattle.std.specs.Bool.{MatchBool}
use Rattle.std.specs.Prelude.{◌↔◌, Contains, IsTrue, ◌==◌, nat_le, nat_lt, option_and_then, option_map, cond, filter, not, IfOk, Option, Some, None, Result, Ok, Err, slice_get}
use Rattle.std.specs.Result.{result_ok}
use Rattle.graph_model.proofs.Members.{IsIn, contains_from_in, in_from_contains}
use Rattle.load_gen.proofs.Counted.{is_drawn_call}
use Rattle.load_gen.specs.Calls.{assoc_add_in, assoc_delete_in, call_in, call_of, obj_add_in}
use Rattle.load_gen.specs.Draws.{below}
use Rattle.load_gen.specs.Kinds.{kind_of}
use Rattle.load_gen.specs.Names.{NameLists, names_of}
use Rattle.load_gen.specs.Requests.{calls_after, openings_from, requests_of}
use Rattle.load_gen.specs.Summary.{is_call}
use Rattle.outcomes.specs.Results.{◌>>=◌}
use Rattle.replies.specs.declared.refusals.NameRefused.{NameRefused}
use Rattle.request_check.specs.Calls.{checked_write, checked_write_call}
use Rattle.request_check.specs.declared.checked.CheckedWrite.{CheckedWrite}
use Rattle.requests.specs.declared.calls.WriteCall.{WriteCall}
use Rattle.requests.specs.declared.request.Request.{Request}
use Rattle.requests.specs.declared.request.Request.TheVariants as request
use Rattle.requests.specs.declared.calls.Call.TheVariants as call
use Rattle.requests.specs.declared.stores.StoreRequest.TheVariants.{Settle}
use Rattle.tao_base.specs.declared.write.Write.{Write}
use Rattle.topology.specs.Config.{Settings}
use Rattle.graph_model.specs.Log.{entry_at}
use Rattle.graph_model.specs.Soundness.{is_client}
use Rattle.tao_base.specs.declared.entry.Entry.{Entry}
use Rattle.tao_base.specs.declared.entry.Origin.TheVariants.{Client, Merge}
use Rattle.write_model.specs.Writes.{FitsWrite}
use Rattle.load_audit.specs.Listed.{IsKnown, IsOfOne, IsStrange, IsWorkload, origin_of, write_in, writes_of}
use Rattle.load_audit.specs.Numbered.{IsFoundBy, IsStrangeAt}
use Rattle.load_audit.specs.Places.{AreAtPlaces, call_at, placed_calls, writes_among}

-- ---- the calls of a workload

no_openings : (session : ℕ) (tiers : List _) (rest : List Request) → filter is_call (openings_from session tiers ++ rest) ≡ filter is_call rest
no_openings session [] rest = refl
no_openings session (tier ∷ tiers) rest = no_openings (session + 1) tiers rest

all_calls : (names : NameLists) (number state count : ℕ) (rest : List Request)
    → filter is_call (calls_after names number state count ++ rest) ≡ calls_after names number state count ++ filter is_call rest
all_calls names number state zero rest = refl
all_calls names number state (suc count) rest =
    let drawn = call_in names (number + 1) state in
    let tail = calls_after names (number + 1) drawn.1 count in
    ap (λ b. cond b (drawn.0 ∷ filter is_call (tail ++ rest)) (filter is_call (tail ++ rest))) (is_drawn_call names (number + 1) state)
    ∙ ap (λ requests. drawn.0 ∷ requests) (all_calls names (number + 1) drawn.1 count rest)

calls_are : (s : Settings) (seed calls : ℕ) → filter is_call (requests_of s seed calls) ≡ calls_after (names_of s) 0 seed calls
calls_are s seed calls =
    ap (filter is_call) (append_assoc (openings_from 1 (names_of s).tiers) (calls_after (names_of s) 0 seed calls) (request.Store Settle ∷ []))
    ∙ no_openings 1 (names_of s).tiers (calls_after (names_of s) 0 seed calls ++ request.Store Settle ∷ [])
    ∙ all_calls (names_of s) 0 seed calls (request.Store Settle ∷ []) ∙ append-nil (calls_after (names_of s) 0 seed calls)

-- ---- their numbers

numbered_as : (s : Settings) (call : WriteCall) (w : CheckedWrite) → result_ok (checked_write_call s call) ≡ Some w → w.seq ≡ call.seq
numbered_as s call w is = by (checked_write s call.write) is
  where
    by : (found : Result Write NameRefused)
        → result_ok (found >>= λ (write : Write). Ok (record { session = call.session; seq = call.seq; write = write })) ≡ Some w → w.seq ≡ call.seq
    by (Ok write) same =
        let whole : CheckedWrite = record { session = call.session; seq = call.seq; write = write } in
        let same_write : w ≡ whole = cc in ap (λ (x : CheckedWrite). x.seq) same_write
    by (Err refused) same = absurd (cc)

-- the number of a request, where it is a write
number_in : Request → Option ℕ
number_in (request.Call (call.Write asked)) = Some asked.seq
number_in other = None

numbered_request : (s : Settings) (r : Request) (number : ℕ) (w : CheckedWrite) → number_in r ≡ Some number → write_in s r ≡ Some w → w.seq ≡ number
unfolding number_in
numbered_request s (request.Call (call.Write asked)) number w same is = let one : asked.seq ≡ number = cc in numbered_as s asked w is ∙ one
numbered_request s (request.Call (call.Read asked)) number w same is = absurd (cc is)
numbered_request s (request.Open opening) number w same is = absurd (cc is)
numbered_request s (request.Plan asked) number w same is = absurd (cc is)
numbered_request s (request.Cache asked) number w same is = absurd (cc is)
numbered_request s (request.Store asked) number w same is = absurd (cc is)
numbered_request s (request.Health asked) number w same is = absurd (cc is)
numbered_request s (request.Link asked) number w same is = absurd (cc is)

-- a call that is drawn by a number of its kind has the call's number, where it is a write
drawn_number : (s : Settings) (names : NameLists) (number kind state : ℕ) (w : CheckedWrite)
    → write_in s (call_of names number (kind_of kind) state).0 ≡ Some w → w.seq ≡ number
unfolding number_in
drawn_number s names number kind state w is = elim (cases_Bool (kind == 0)) [
  | inl adds ↦ numbered_request s (obj_add_in names number state).0 number w refl (rw adds at is)
  | inr no_add ↦ (let i1 = rw no_add at is in elim (cases_Bool (nat_le kind 4)) [
    | inl sets ↦ numbered_request s (assoc_add_in names number state).0 number w refl (rw sets at i1)
    | inr no_set ↦ (let i2 = rw no_set at i1 in elim (cases_Bool (kind == 5)) [
      | inl cuts ↦ numbered_request s (assoc_delete_in names number state).0 number w refl (rw cuts at i2)
      | inr no_cut ↦ (let i3 = rw no_cut at i2 in elim (cases_Bool (kind == 6)) [
        | inl range ↦ (let i4 = rw range at i3 in absurd (cc i4))
        | inr no_range ↦ (let i4 = rw no_range at i3 in elim (cases_Bool (kind == 7)) [
          | inl count ↦ (let i5 = rw count at i4 in absurd (cc i5))
          | inr no_count ↦ (let i5 = rw no_count at i4 in elim (cases_Bool (kind == 8)) [
            | inl delivers ↦ (let i6 = rw delivers at i5 in absurd (cc i6))
            | inr no_deliver ↦ (let i6 = rw no_deliver at i5 in absurd (cc i6))
          ])
        ])
      ])
    ])
  ])
]

numbers_are : (s : Settings) (names : NameLists) (number state count place : ℕ) (w : CheckedWrite)
    → slice_get (map (write_in s) (calls_after names number state count)) place ≡ Some (Some w) → w.seq ≡ number + (place + 1)
numbers_are s names number state zero place w is = absurd (cc)
numbers_are s names number state (suc count) zero w is =
    let same : write_in s (call_in names (number + 1) state).0 ≡ Some w = cc in
    let number_is = drawn_number s names (number + 1) (below 10 state).0 (below 10 state).1 w same in omega arith
numbers_are s names number state (suc count) (suc place) w is =
    let later = numbers_are s names (number + 1) (call_in names (number + 1) state).1 count place w is in omega (arith, later)

pub at_places : (s : Settings) (requests : List Request) → IsWorkload s requests → AreAtPlaces (map (write_in s) (filter is_call requests))
at_places s requests of place w is =
    numbers_are s (names_of s) 0 of.seed of.calls place w
    (subst (λ calls. slice_get (map (write_in s) calls) place ≡ Some (Some w)) (ap (filter is_call) of.is ∙ calls_are s of.seed of.calls) is)
    ∙ omega arith

-- ---- no request but a call is a write

write_is_call : (s : Settings) (r : Request) → is_call r ≡ false → write_in s r ≡ None
write_is_call s (request.Call call) differs = absurd (cc)
write_is_call s (request.Open opening) differs = refl
write_is_call s (request.Plan asked) differs = refl
write_is_call s (request.Cache asked) differs = refl
write_is_call s (request.Store asked) differs = refl
write_is_call s (request.Health asked) differs = refl
write_is_call s (request.Link asked) differs = refl

pub writes_are : (s : Settings) (requests : List Request) → writes_among (map (write_in s) (filter is_call requests)) ≡ writes_of s requests
writes_are s [] = refl
writes_are s (r ∷ requests) = by (writes_are s requests) (is_call r) refl
  where
    by : writes_among (map (write_in s) (filter is_call requests)) ≡ writes_of s requests → (b : Bool) → is_call r ≡ b
        → writes_among (map (write_in s) (cond b (r ∷ filter is_call requests) (filter is_call requests))) ≡ cons_option (write_in s r) (writes_of s requests)
    by before true is = ap (cons_option (write_in s r)) before
    by before false is = before ∙ ap (λ found. cons_option found (writes_of s requests)) (sym (write_is_call s r is))

-- ---- a write by its number

-- a write that is among them stands at the place of its number
pub place_of : (calls : List (Option CheckedWrite)) (w : CheckedWrite) → IsIn w (writes_among calls) → (place : ℕ) × (slice_get calls place ≡ Some (Some w))
place_of [] w here = absurd here
place_of (None ∷ calls) w here = let later = place_of calls w here in (suc later.0, later.1)
place_of (Some other ∷ calls) w (inl same) = (0, ap (λ (x : CheckedWrite). Some (Some x)) same)
place_of (Some other ∷ calls) w (inr here) = let later = place_of calls w here in (suc later.0, later.1)

pub among : (calls : List (Option CheckedWrite)) (place : ℕ) (w : CheckedWrite) → slice_get calls place ≡ Some (Some w) → IsIn w (writes_among calls)
among [] place w is = absurd (cc)
among (None ∷ calls) zero w is = absurd (cc)
among (Some other ∷ calls) zero w is = let same : other ≡ w = cc in inl same
among (None ∷ calls) (suc place) w is = among calls place w is
among (Some other ∷ calls) (suc place) w is = inr (among calls place w is)

-- ---- the call at a place

at_call : (calls : List (Option CheckedWrite)) (place : ℕ) (w : CheckedWrite) → call_at calls place ≡ Some w → slice_get calls place ≡ Some (Some w)
at_call calls place w is = by (slice_get calls place) is
  where
    by : (found : Option (Option CheckedWrite)) → option_and_then (λ (call : Option CheckedWrite). call) found ≡ Some w → found ≡ Some (Some w)
    by None none = absurd (cc)
    by (Some None) none = absurd (cc)
    by (Some (Some other)) same = let one : other ≡ w = cc in ap (λ (x : CheckedWrite). Some (Some x)) one

-- what a look-up at a place found
pub looked_up : {X : Type 0} (xs : List X) (place : ℕ) (x : X) → true ≡ nat_lt place (length xs) → x ≡ get_or xs place x → slice_get xs place ≡ Some x
looked_up xs place x less is = slice_get_read xs (length xs) place x refl (within place (length xs) less) is
  where
    within : (i n : ℕ) → true ≡ nat_lt i n → i < n
    within i n test = grind (arith, nat_tests)

pub looked_past : {X : Type 0} (xs : List X) (place : ℕ) → false ≡ nat_lt place (length xs) → slice_get xs place ≡ None
looked_past xs place past = slice_get_past xs place (beyond place (length xs) past)
  where
    beyond : (i n : ℕ) → false ≡ nat_lt i n → n ≤ i
    beyond i n test = grind (arith, nat_tests)

placed_at : (s : Settings) (calls : List (Bor Request)) (place : ℕ)
    → call_at (placed_calls s calls) place
    ≡ option_and_then (λ (r : Bor Request). write_in s r.now) (slice_get calls place)
placed_at s calls place =
    ap (option_and_then (λ (call : Option CheckedWrite). call))
    (slice_get-map (write_in s) (map (λ (r : Bor Request). r.now) calls) place
    ∙ ap (option_map (write_in s)) (slice_get-map (λ (r : Bor Request). r.now) calls place))
    ∙ by (slice_get calls place)
  where
    by : (found : Option (Bor Request))
        → option_and_then (λ (call : Option CheckedWrite). call) (option_map (write_in s) (option_map (λ (r : Bor Request). r.now) found))
        ≡ option_and_then (λ (r : Bor Request). write_in s r.now) found
    by None = refl
    by (Some r) = refl

-- the write that the call at a place is, and none where there is no call
pub call_placed : (s : Settings) (calls : List (Bor Request)) (place : ℕ) (r : Bor Request) → slice_get calls place ≡ Some r
    → call_at (placed_calls s calls) place ≡ write_in s r.now
call_placed s calls place r is = placed_at s calls place ∙ ap (option_and_then (λ (r : Bor Request). write_in s r.now)) is

pub none_placed : (s : Settings) (calls : List (Bor Request)) (place : ℕ) → slice_get calls place ≡ None → call_at (placed_calls s calls) place ≡ None
none_placed s calls place is = placed_at s calls place ∙ ap (option_and_then (λ (r : Bor Request). write_in s r.now)) is

get_of : {X : Type 0} (xs : List X) (place : ℕ) (x : X) → slice_get xs place ≡ Some x → get_or xs place x ≡ x
get_of [] place x is = absurd (cc)
get_of (y ∷ ys) zero x is = cc
get_of (y ∷ ys) (suc place) x is = get_of ys place x is

got : {X : Type 0} (xs : List X) (place : ℕ) (x : X) → place < length xs → get_or xs place x ≡ x → slice_get xs place ≡ Some x
got [] place x within is = absurd (omega arith)
got (y ∷ ys) zero x within is = ap Some is
got (y ∷ ys) (suc place) x within is = got ys place x (omega arith) is

module _ (calls : List (Option CheckedWrite)) (at : AreAtPlaces calls) where
  stands_at : (w : CheckedWrite) → Contains (writes_among calls) w → (place : ℕ) × (slice_get calls place ≡ Some (Some w)) × (w.seq ≡ place + 1)
  stands_at w has = let found = place_of calls w (in_from_contains (writes_among calls) w has) in (found.0, found.1, at found.0 w found.1)

  -- the write at the place of a number has the number, and no other has
  pub found_by : (seq : ℕ) (found : Option CheckedWrite) → 1 ≤ seq → found ≡ call_at calls (seq - 1) → IsFoundBy seq (writes_among calls) found
  found_by seq found some is = by found refl
    where
      there : (other : CheckedWrite) → Contains (writes_among calls) other → other.seq ≡ seq → Some other ≡ found
      there other has same =
          let stands = stands_at other has in
          let place : stands.0 ≡ seq - 1 = omega (arith, stands.2, same) in
          sym (is ∙ ap (call_at calls) (sym place) ∙ ap (option_and_then (λ (call : Option CheckedWrite). call)) stands.1)

      by : (f : Option CheckedWrite) → found ≡ f → IsFoundBy seq (writes_among calls) f
      by None none = λ other has same. (let some_other = there other has same in absurd (cc))
      by (Some w) same =
          let stands : slice_get calls (seq - 1) ≡ Some (Some w) = at_call calls (seq - 1) w (sym is ∙ same) in
          let number = at (seq - 1) w stands in (
            omega (arith, number),
            contains_from_in (writes_among calls) w (among calls (seq - 1) w stands),
            λ other has number_is. (let some_other = there other has number_is in cc),
          )

  pub found_ok : {E : Type 0} (seq : ℕ) (found : Result (Option CheckedWrite) E) → 1 ≤ seq → IfOk found (λ write. write ≡ call_at calls (seq - 1))
      → IfOk found (IsFoundBy seq (writes_among calls))
  found_ok seq (Ok write) some is = found_by seq write some is
  found_ok seq (Err e) some is = tt

  -- numbers count from 1
  pub none_by : (seq : ℕ) → seq ≡ 0 → IsFoundBy seq (writes_among calls) None
  none_by seq zero_is other has same = let stands = stands_at other has in omega (arith, stands.2)

-- ---- known and strange entries

module _ (writes : List CheckedWrite) (e : Entry) (session seq : ℕ) (origin_is : e.origin ≡ Client session seq) where
  is_clients : IsTrue (is_client e.origin)
  is_clients = subst (λ origin. IsTrue (is_client origin)) (sym origin_is) refl

  -- a write whose entry this is has its number
  number_is : (one : IsOfOne writes e) → one.write.seq ≡ seq
  number_is one = let same : Client one.write.session one.write.seq ≡ Client session seq = sym one.origin_is ∙ origin_is in cc

  pub known_by : (w : CheckedWrite) → IsFoundBy seq writes (Some w) → (e.origin ≡ origin_of w) × FitsWrite e w.write → IsKnown writes e
  known_by w found of = λ client. record { write = w; listed = found.1; origin_is = of.0; fits = of.1 }

  pub strange_by : (w : CheckedWrite) → IsFoundBy seq writes (Some w) → ((e.origin ≡ origin_of w) × FitsWrite e w.write → ⊥) → IsStrange writes e
  strange_by w found none = (
    is_clients,
    λ one.
        let same : one.write ≡ w = found.2 one.write one.listed (number_is one) in
        none (subst (λ (v : CheckedWrite). (e.origin ≡ origin_of v) × FitsWrite e v.write) same (one.origin_is, one.fits)),
  )

  pub strange_of_none : IsFoundBy seq writes None → IsStrange writes e
  strange_of_none none = (is_clients, λ one. none one.write one.listed (number_is one))

  pub strange_unless : (w : CheckedWrite) → IsFoundBy seq writes (Some w) → (is_its : Bool)
      → (IsTrue is_its ↔ ((e.origin ≡ origin_of w) × FitsWrite e w.write)) → MatchBool (not is_its) (IsStrange writes e) (IsKnown writes e)
  strange_unless w found true says = known_by w found (says.0 refl)
  strange_unless w found false says = strange_by w found (λ of. (let no : false ≡ true = says.1 of in absurd (cc)))

-- an entry that a merge made is known
pub known_merge : (writes : List CheckedWrite) (e : Entry) (shard position : ℕ) → e.origin ≡ Merge shard position → IsKnown writes e
known_merge writes e shard position is client = (let no : false ≡ true = subst (λ origin. is_client origin ≡ true) is client in absurd (cc))

-- ---- the first strange entry

module _ (writes : List CheckedWrite) (log : List Entry) (place : ℕ) (all : AllWithin (IsKnown writes) log 0 place) where
  known_before : (other : ℕ) (e : Entry) → other < place + 1 → entry_at log other ≡ Some e → IsKnown writes e
  known_before zero e below is = absurd (cc)
  known_before (suc other) e below is =
      let here = get_of log other e is in subst (IsKnown writes) here (all other e (omega arith) (omega arith))

  pub strange_at : (entry : Entry) → place < length log → entry ≡ get_or log place entry → IsStrange writes entry → IsStrangeAt writes log (place + 1)
  strange_at entry within is strange = record {
    entry = entry;
    stands = rw add-one (got log place entry within (sym is));
    strange = strange;
    before = known_before;
  }
