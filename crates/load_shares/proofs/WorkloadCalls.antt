-- The calls of a workload are of sessions and names that are there, and no two of its writes have one number.
use Rattle.std.proofs.Common.{◌≡◌, ◌∙◌, ℕ, zero, suc, ◌+◌, ◌*◌, ◌^◌, ◌≤◌, ◌<◌, Bool, true, false, List, [], ◌∷◌, ◌++◌, Some, Result, Ok, Err, length, map, ap, sym, subst, refl, inl, inr, arith}
use Rattle.std.specs.Prelude.{◌/◌, ◌==◌, nat_le, All, Contains, IfErr, bytes_eq, filter, position, slice_get, unwrap_or}
use Rattle.std.specs.List.{position_from}
use Rattle.std.proofs.lemmas.Bool.{cases_Bool}
use Rattle.std.proofs.lemmas.Bool.Decides.{Decides-ltb}
use Rattle.std.proofs.lemmas.Iterator.Adapters.{position_from-zero}
use Rattle.std.proofs.lemmas.Nat.{div-mul-add, mod_below}
use Rattle.std.proofs.lemmas.Slice.Eq.{bytes_eq-Decides}
use Rattle.graph_model.proofs.Members.{All-from_in, IsIn, in_append_cases, in_from_contains}
use Rattle.load_audit.proofs.PlaceLemmas.{at_places, place_of as place_among, writes_are}
use Rattle.load_audit.specs.Listed.{IsWorkload, write_in, writes_of}
use Rattle.load_gen.specs.Calls.{assoc_add_in, assoc_count_in, assoc_delete_in, assoc_range_in, call_in, call_of, edge_in, id_in, list_in, numbered, obj_add_in, one_of}
use Rattle.load_gen.specs.Calls.{session_in, shard_in}
use Rattle.load_gen.specs.Draws.{below, next_state}
use Rattle.load_gen.specs.Kinds.{kind_of}
use Rattle.load_gen.specs.Names.{NameLists, names_of}
use Rattle.load_gen.specs.Requests.{calls_after, openings_from, requests_of}
use Rattle.load_gen.specs.Summary.{is_call}
use Rattle.outcomes.specs.Results.{◌>>=◌}
use Rattle.replies.specs.declared.refusals.NameRefused.{NameRefused}
use Rattle.request_check.specs.Calls.{checked_call, checked_query, checked_read_call, checked_write, checked_write_call, configured_ends, edge_type, list_type}
use Rattle.request_check.specs.Names.{atype_named, configured_id, configured_shard, otype_named}
use Rattle.request_check.specs.declared.checked.CheckedWrite.{CheckedWrite}
use Rattle.requests.specs.declared.calls.Call.TheVariants as call
use Rattle.requests.specs.declared.calls.QueryText.TheVariants as query
use Rattle.requests.specs.declared.calls.ReadCall.{ReadCall}
use Rattle.requests.specs.declared.calls.WriteCall.{WriteCall}
use Rattle.requests.specs.declared.calls.WriteText.TheVariants as text
use Rattle.requests.specs.declared.request.Request.{Request}
use Rattle.requests.specs.declared.request.Request.TheVariants as request
use Rattle.requests.specs.declared.stores.StoreRequest.TheVariants.{Settle}
use Rattle.tao_base.specs.Ids.{shard_of}
use Rattle.topology.specs.Config.{Settings}
use Rattle.load_shares.specs.Workloads.{HasChoices, IsConfiguredRequest, IsSession, WorkloadLaws}

-- ---- what is there

-- nothing is refused
abbrev IsFine : {A : Type 0} → Result A NameRefused → Type 0
IsFine found = IfErr found (λ refused. ⊥)

fine_then : {A B : Type 0} (found : Result A NameRefused) (next : A → Result B NameRefused) → IsFine found → ((a : A) → IsFine (next a)) → IsFine (found >>= next)
fine_then (Ok a) next fine there = there a
fine_then (Err refused) next fine there = absurd fine

-- ---- names

found_from : (test : List ℕ → Bool) (names : List (List ℕ)) (i : ℕ) (name : List ℕ) → IsIn name names → test name ≡ true → (place : ℕ) × (position_from test i names ≡ Some place)
found_from test [] i name here passes = absurd here
found_from test (other ∷ names) i name (inl same) passes = (i, rw (subst (λ n. test n ≡ true) (sym same) passes) refl)
found_from test (other ∷ names) i name (inr here) passes = elim (cases_Bool (test other)) [
  | inl first ↦ (i, rw first refl)
  | inr later ↦ (let found = found_from test names (i + 1) name here passes in (found.0, rw later found.1))
]

place_found : (names : List (List ℕ)) (name : List ℕ) → IsIn name names → (place : ℕ) × (position (bytes_eq name) names ≡ Some place)
place_found names name here =
    let found = found_from (bytes_eq name) names 0 name here ((bytes_eq-Decides name name).1 refl) in
    (found.0, position_from-zero (bytes_eq name) names ∙ found.1)

atype_fine : (s : Settings) (name : List ℕ) → IsIn name (names_of s).assocs → IsFine (atype_named s name)
atype_fine s name here = rw (place_found (names_of s).assocs name here).1 tt

otype_fine : (s : Settings) (name : List ℕ) → IsIn name (names_of s).objects → IsFine (otype_named s name)
otype_fine s name here = rw (place_found (names_of s).objects name here).1 tt

-- ---- what is drawn

at_place : (texts : List (List ℕ)) (place : ℕ) → place < length texts → IsIn (unwrap_or (slice_get texts place) []) texts
at_place [] place inside = absurd (omega (arith, inside))
at_place (first ∷ texts) zero inside = inl refl
at_place (first ∷ texts) (suc place) inside = inr (at_place texts place (omega (arith, inside)))

below_is : (n state : ℕ) → 1 ≤ n → (below n state).0 < n
below_is n state some = mod_below (next_state state / 2 ^ 33) n (omega (arith, some))

text_drawn : (texts : List (List ℕ)) (state : ℕ) → 1 ≤ length texts → IsIn (one_of texts state).0 texts
text_drawn texts state some = at_place texts (below (length texts) state).0 (below_is (length texts) state some)

module _ (s : Settings) (c : HasChoices s) where
  abbrev names : NameLists
  names = names_of s

  session_drawn : (state : ℕ) → IsSession s (session_in names state).0
  session_drawn state =
      let inside = below_is (length names.tiers) state c.tiers in
      record { first = omega arith; last = omega (arith, inside) }

  shard_fine : (shard : ℕ) → shard < s.shards → IsFine (configured_shard s shard)
  shard_fine shard inside = rw ((Decides-ltb shard s.shards).1 inside) tt

  shard_drawn : (state : ℕ) → IsFine (configured_shard s (shard_in names state).0)
  shard_drawn state = shard_fine (shard_in names state).0 (below_is s.shards state c.shards)

  -- an id lies on the shard that was drawn
  id_drawn : (state : ℕ) → IsFine (configured_id s (id_in names state).0)
  id_drawn state =
      let shard : ℕ = (shard_in names state).0 in
      let serial : ℕ = (below 50 (shard_in names state).1).0 in
      let few = below_is 50 (shard_in names state).1 (omega arith) in
      let lies : shard_of (shard * 2 ^ 48 + (serial + 1)) ≡ shard = div-mul-add shard (2 ^ 48) (serial + 1) (omega (arith, few)) in
      subst (λ n. IsFine (configured_shard s n)) (sym lies) (shard_drawn state)

  list_drawn : (state : ℕ) → IsFine (list_type s (list_in names state).0)
  list_drawn state =
      let id1 = id_in names state in
      let atype = one_of names.assocs id1.1 in
      fine_then (atype_named s atype.0) _ (atype_fine s atype.0 (text_drawn names.assocs id1.1 c.assocs))
      (λ found. fine_then (configured_id s id1.0) _ (id_drawn state) (λ there. tt))

  edge_drawn : (state : ℕ) → IsFine (edge_type s (edge_in names state).0)
  edge_drawn state =
      let id1 = id_in names state in
      let atype = one_of names.assocs id1.1 in
      let id2 = id_in names atype.1 in
      fine_then (atype_named s atype.0) _ (atype_fine s atype.0 (text_drawn names.assocs id1.1 c.assocs))
      (λ found. fine_then (configured_ends s (edge_in names state).0) _
      (fine_then (configured_id s id1.0) _ (id_drawn state) (λ there. id_drawn atype.1)) (λ there. tt))

  -- ---- a call

  write_fine : (asked : WriteCall) → IsFine (checked_write s asked.write) → IsFine (checked_call s (call.Write asked))
  write_fine asked fine = fine_then (checked_write_call s asked) _ (fine_then (checked_write s asked.write) _ fine (λ write. tt)) (λ write. tt)

  read_fine : (asked : ReadCall) → IsFine (checked_query s asked.query) → IsFine (checked_call s (call.Read asked))
  read_fine asked fine = fine_then (checked_read_call s asked) _ (fine_then (checked_query s asked.query) _ fine (λ found. tt)) (λ read. tt)

  obj_add_drawn : (number state : ℕ) → IsConfiguredRequest s (obj_add_in names number state).0
  obj_add_drawn number state =
      let session = session_in names state in
      let shard = shard_in names session.1 in
      let otype = one_of names.objects shard.1 in
      let asked : WriteCall = record { session = session.0; seq = number; write = text.ObjAdd shard.0 otype.0 (numbered number) } in
      record {
        session = session_drawn state;
        named = write_fine asked (fine_then (otype_named s otype.0) _ (otype_fine s otype.0 (text_drawn names.objects shard.1 c.objects))
            (λ found. fine_then (configured_shard s shard.0) _ (shard_drawn session.1) (λ there. tt)));
      }

  assoc_add_drawn : (number state : ℕ) → IsConfiguredRequest s (assoc_add_in names number state).0
  assoc_add_drawn number state =
      let session = session_in names state in
      let edge = edge_in names session.1 in
      let asked : WriteCall = record { session = session.0; seq = number; write = text.AssocAdd edge.0 (below 1000 edge.1).0 [] } in
      record { session = session_drawn state; named = write_fine asked (fine_then (edge_type s edge.0) _ (edge_drawn session.1) (λ atype. tt)) }

  assoc_delete_drawn : (number state : ℕ) → IsConfiguredRequest s (assoc_delete_in names number state).0
  assoc_delete_drawn number state =
      let session = session_in names state in
      let edge = edge_in names session.1 in
      let asked : WriteCall = record { session = session.0; seq = number; write = text.AssocDelete edge.0 } in
      record { session = session_drawn state; named = write_fine asked (fine_then (edge_type s edge.0) _ (edge_drawn session.1) (λ atype. tt)) }

  assoc_range_drawn : (state : ℕ) → IsConfiguredRequest s (assoc_range_in names state).0
  assoc_range_drawn state =
      let session = session_in names state in
      let list = list_in names session.1 in
      let asked : ReadCall = record { session = session.0; query = query.AssocRange list.0 0 10; critical = false } in
      record { session = session_drawn state; named = read_fine asked (fine_then (list_type s list.0) _ (list_drawn session.1) (λ atype. tt)) }

  assoc_count_drawn : (state : ℕ) → IsConfiguredRequest s (assoc_count_in names state).0
  assoc_count_drawn state =
      let session = session_in names state in
      let list = list_in names session.1 in
      let asked : ReadCall = record { session = session.0; query = query.AssocCount list.0; critical = false } in
      record { session = session_drawn state; named = read_fine asked (fine_then (list_type s list.0) _ (list_drawn session.1) (λ atype. tt)) }

  call_drawn : (number kind state : ℕ) → IsConfiguredRequest s (call_of names number (kind_of kind) state).0
  call_drawn number kind state = elim (cases_Bool (kind == 0)) [
    | inl adds ↦ rw adds (obj_add_drawn number state)
    | inr no_add ↦ rw no_add (elim (cases_Bool (nat_le kind 4)) [
      | inl sets ↦ rw sets (assoc_add_drawn number state)
      | inr no_set ↦ rw no_set (elim (cases_Bool (kind == 5)) [
        | inl cuts ↦ rw cuts (assoc_delete_drawn number state)
        | inr no_cut ↦ rw no_cut (elim (cases_Bool (kind == 6)) [
          | inl range ↦ rw range (assoc_range_drawn state)
          | inr no_range ↦ rw no_range (elim (cases_Bool (kind == 7)) [
            | inl count ↦ rw count (assoc_count_drawn state)
            | inr no_count ↦ rw no_count (elim (cases_Bool (kind == 8)) [ inl delivers ↦ rw delivers tt | inr no_deliver ↦ rw no_deliver tt ])
          ])
        ])
      ])
    ])
  ]

  -- ---- all requests

  calls_fine : (number state count : ℕ) (r : Request) → IsIn r (calls_after names number state count) → IsConfiguredRequest s r
  calls_fine number state zero r here = absurd here
  calls_fine number state (suc count) r (inl same) =
      subst (IsConfiguredRequest s) same (call_drawn (number + 1) (below 10 state).0 (below 10 state).1)
  calls_fine number state (suc count) r (inr here) = calls_fine (number + 1) (call_in names (number + 1) state).1 count r here

  openings_fine : (session : ℕ) (tiers : List _) (r : Request) → IsIn r (openings_from session tiers) → IsConfiguredRequest s r
  openings_fine session [] r here = absurd here
  openings_fine session (tier ∷ tiers) r (inl same) = subst (IsConfiguredRequest s) same tt
  openings_fine session (tier ∷ tiers) r (inr here) = openings_fine (session + 1) tiers r here

  requests_fine : (seed calls : ℕ) (r : Request) → IsIn r (requests_of s seed calls) → IsConfiguredRequest s r
  requests_fine seed calls r here = elim (in_append_cases (openings_from 1 names.tiers ++ calls_after names 0 seed calls) (request.Store Settle ∷ []) r here) [
    | inl before ↦ elim (in_append_cases (openings_from 1 names.tiers) (calls_after names 0 seed calls) r before) [
      | inl opening ↦ openings_fine 1 names.tiers r opening
      | inr call ↦ calls_fine 0 seed calls r call
    ]
    | inr last ↦ settles last
  ]
    where
      settles : IsIn r (request.Store Settle ∷ []) → IsConfiguredRequest s r
      settles (inl same) = subst (IsConfiguredRequest s) same tt
      settles (inr none) = absurd none

all_fine : (s : Settings) (requests : List Request) → HasChoices s → IsWorkload s requests → All (IsConfiguredRequest s) requests
all_fine s requests c of =
    subst (All (IsConfiguredRequest s)) (sym of.is)
    (All-from_in (IsConfiguredRequest s) (requests_of s of.seed of.calls) (λ r here. requests_fine s c of.seed of.calls r here))

-- ---- numbers

alone_by : (s : Settings) (requests : List Request) (write other : CheckedWrite) → IsWorkload s requests → Contains (writes_of s requests) write
    → Contains (writes_of s requests) other → other.seq ≡ write.seq → other ≡ write
alone_by s requests write other of first second same =
    let calls = map (write_in s) (filter is_call requests) in
    let at = at_places s requests of in
    let one = place_among calls write
    (subst (IsIn write) (sym (writes_are s requests)) (in_from_contains (writes_of s requests) write first)) in
    let two = place_among calls other
    (subst (IsIn other) (sym (writes_are s requests)) (in_from_contains (writes_of s requests) other second)) in
    let number = at one.0 write one.1 in
    let again = at two.0 other two.1 in
    let places : two.0 ≡ one.0 = omega (arith, number, again, same) in
    let both : Some (Some other) ≡ Some (Some write) = sym two.1 ∙ (ap (slice_get calls) places ∙ one.1) in
    cc

pub workload_laws : WorkloadLaws
workload_laws = record { configured = all_fine; alone = alone_by }
