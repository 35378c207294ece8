-- How edges stand, with one change more.
use Rattle.std.proofs.Common.{◌≡◌, ◌∙◌, ℕ, Bool, true, false, cond, List, [], ◌∷◌, refl, sym, ap, inl, inr, arith, map, Option, Some}
use Rattle.std.proofs.lemmas.Bool.{cases_Bool}
use Rattle.std.proofs.lemmas.Bool.Decides.{nat_tests}
use Rattle.std.specs.Prelude.{◌==◌, Result, Ok, Err, IfOk}
use Rattle.tao_base.specs.declared.edge.Edge.{Edge}
use Rattle.tao_base.specs.declared.edge.Stamp.{Stamp}
use Rattle.tao_base.specs.declared.entry.Change.TheVariants.{SetEdge, CutEdge}
use Rattle.tao_base.specs.declared.id.Id.{Id}
use Rattle.graph_model.proofs.Lists.{without_same}
use Rattle.graph_model.specs.Edges.{edges_to, insert_edge, is_newer, record_after, without_edge}
use Rattle.list_index.proofs.KeyLemmas.{no_times}
use Rattle.list_index.specs.AtKeys.{times_to}
use Rattle.list_index.specs.ListState.{ListIsAfter, StandAsListed, live_times, record_from, standing_of}
use Rattle.list_index.specs.declared.table.Standing.{Standing}
use Rattle.list_index.specs.declared.table.Standing.TheVariants.{Live, Cut}

-- where no time is of the id nothing is taken out
pub none_taken : (id2 : ℕ) (edges : List Edge) → times_to id2 edges ≡ [] → edges ≡ without_edge id2 edges
none_taken id2 edges h = sym (without_same id2 edges (no_times id2 edges h))

-- the edges to an id, with those to another taken out
to_without : (a b : ℕ) (xs : List Edge) → edges_to a (without_edge b xs) ≡ cond (b == a) [] (edges_to a xs)
to_without a b [] = elim (cases_Bool (b == a)) [ inl h ↦ rw h refl | inr h ↦ rw h refl ]
to_without a b (x ∷ xs) = elim (cases_Bool (b == a)) [
  | inl h ↦ elim (cases_Bool (x.id2 == b)) [
    | inl k ↦ rw (k, to_without a b xs, h) refl
    | inr k ↦ (let apart : (x.id2 == a) ≡ false = grind (arith, nat_tests) in rw (k, apart, to_without a b xs, h) refl)
  ]
  | inr h ↦ elim (cases_Bool (x.id2 == b)) [
    | inl k ↦ (let apart : (x.id2 == a) ≡ false = grind (arith, nat_tests) in rw (k, to_without a b xs, h, apart) refl)
    | inr k ↦ elim (cases_Bool (x.id2 == a)) [
      | inl j ↦ rw (k, j, h) (ap (λ ys. x ∷ ys) (to_without a b xs ∙ ap (λ t. cond t [] (edges_to a xs)) h))
      | inr j ↦ rw (k, j, h) (to_without a b xs ∙ ap (λ t. cond t [] (edges_to a xs)) h)
    ]
  ]
]

-- and with one put in
to_insert_other : (a : ℕ) (e : Edge) (xs : List Edge) → (e.id2 == a) ≡ false → edges_to a (insert_edge e xs) ≡ edges_to a xs
to_insert_other a e [] h = rw h refl
to_insert_other a e (x ∷ xs) h = elim (cases_Bool (is_newer e x)) [
  | inl k ↦ rw (k, h) refl
  | inr k ↦ rw (k, to_insert_other a e xs h) refl
]

to_insert_same : (a : ℕ) (e : Edge) (xs : List Edge) → (e.id2 == a) ≡ true → edges_to a xs ≡ [] → edges_to a (insert_edge e xs) ≡ e ∷ []
to_insert_same a e [] h none = rw h refl
to_insert_same a e (x ∷ xs) h none = elim (cases_Bool (x.id2 == a)) [
  | inl j ↦ (let is : x ∷ edges_to a xs ≡ [] = rw j at none in absurd (cc))
  | inr j ↦ (let rest : edges_to a xs ≡ [] = rw j at none in elim (cases_Bool (is_newer e x)) [
    | inl k ↦ rw (k, h, j, rest) refl
    | inr k ↦ rw (k, j, to_insert_same a e xs h rest) refl
  ])
]

-- the edges to an id after one was set
to_set : (a : ℕ) (e : Edge) (xs : List Edge) → edges_to a (insert_edge e (without_edge e.id2 xs)) ≡ cond (e.id2 == a) (e ∷ []) (edges_to a xs)
to_set a e xs =
    let taken : edges_to a (without_edge e.id2 xs) ≡ cond (e.id2 == a) [] (edges_to a xs) = to_without a e.id2 xs in
    elim (cases_Bool (e.id2 == a)) [
      | inl h ↦ to_insert_same a e (without_edge e.id2 xs) h (taken ∙ ap (λ t. cond t [] (edges_to a xs)) h) ∙ sym (ap (λ t. cond t (e ∷ []) (edges_to a xs)) h)
      | inr h ↦ to_insert_other a e (without_edge e.id2 xs) h ∙ taken ∙ ap (λ t. cond t [] (edges_to a xs)) h
          ∙ sym (ap (λ t. cond t (e ∷ []) (edges_to a xs)) h)
    ]

-- the times and the record where the test says which
times_either : (b : Bool) (s : Option Standing) (here there : List Edge) (now : Standing) → map (λ e. e.time) here ≡ live_times (Some now)
    → map (λ e. e.time) there ≡ live_times s
    → map (λ e. e.time) (cond b here there) ≡ live_times (cond b (Some now) s)
times_either true s here there now h k = h
times_either false s here there now h k = k

set_record : (b : Bool) (e : Edge) (was : Option ℕ) (a : ℕ) (s : Option Standing) (there : List Edge) → (e.id2 == a) ≡ b
    → record_from (cond b (Some (Live e.time)) s) (cond b (e ∷ []) there) ≡ record_after a (SetEdge e was) (record_from s there)
set_record true e was a s there h = let same : (a == e.id2) ≡ true = grind (arith, nat_tests) in rw same refl
set_record false e was a s there h = let apart : (a == e.id2) ≡ false = grind (arith, nat_tests) in rw apart refl

cut_record : (b : Bool) (id2 : ℕ) (stamp : Stamp) (was : Option ℕ) (a : ℕ) (s : Option Standing) (there : List Edge) → (id2 == a) ≡ b
    → record_from (cond b (Some (Cut stamp)) s) (cond b [] there) ≡ record_after a (CutEdge id2 stamp was) (record_from s there)
cut_record true id2 stamp was a s there h = let same : (a == id2) ≡ true = grind (arith, nat_tests) in rw same refl
cut_record false id2 stamp was a s there h = let apart : (a == id2) ≡ false = grind (arith, nat_tests) in rw apart refl

abbrev pub Stands : ℕ → Standing → List (Id × Standing) → List (Id × Standing) → Type 0
Stands id2 standing old new = (other : ℕ) → standing_of other new ≡ cond (id2 == other) (Some standing) (standing_of other old)

-- an edge that is set
pub set_listed : (e : Edge) (edges : List Edge) (old new : List (Id × Standing)) → StandAsListed edges old → Stands e.id2 (Live e.time) old new
    → StandAsListed (insert_edge e (without_edge e.id2 edges)) new
set_listed e edges old new was stands a =
    ap (λ es. map (λ x. x.time) es) (to_set a e edges) ∙ times_either (e.id2 == a) (standing_of a old) (e ∷ []) (edges_to a edges) (Live e.time) refl (was a)
    ∙ sym (ap live_times (stands a))

pub set_after : (e : Edge) (was : Option ℕ) (edges : List Edge) (old new : List (Id × Standing)) → Stands e.id2 (Live e.time) old new
    → ListIsAfter (SetEdge e was) (record { edges = edges; standings = old }) (record { edges = insert_edge e (without_edge e.id2 edges); standings = new })
set_after e was edges old new stands = record {
  edges_are = refl;
  records_are = λ a. (λ i. record_from (stands a i) (to_set a e edges i)) ∙ set_record (e.id2 == a) e was a (standing_of a old) (edges_to a edges) refl;
}

-- an edge that is cut
pub cut_listed : (id2 : ℕ) (stamp : Stamp) (edges : List Edge) (old new : List (Id × Standing)) → StandAsListed edges old → Stands id2 (Cut stamp) old new
    → StandAsListed (without_edge id2 edges) new
cut_listed id2 stamp edges old new was stands a =
    ap (λ es. map (λ x. x.time) es) (to_without a id2 edges) ∙ times_either (id2 == a) (standing_of a old) [] (edges_to a edges) (Cut stamp) refl (was a)
    ∙ sym (ap live_times (stands a))

pub cut_after : (id2 : ℕ) (stamp : Stamp) (was : Option ℕ) (edges : List Edge) (old new : List (Id × Standing)) → Stands id2 (Cut stamp) old new
    → ListIsAfter (CutEdge id2 stamp was) (record { edges = edges; standings = old }) (record { edges = without_edge id2 edges; standings = new })
cut_after id2 stamp was edges old new stands = record {
  edges_are = refl;
  records_are = λ a. (λ i. record_from (stands a i) (to_without a id2 edges i)) ∙ cut_record (id2 == a) id2 stamp was a (standing_of a old)
      (edges_to a edges) refl;
}

-- what holds of each time before holds of one
pub at_was : {T E : Type 0} (result : Result T E) (P : Option ℕ → T → Type 0) (was : Option ℕ) → IfOk result (λ x. (w : Option ℕ) → P w x) → IfOk result (P was)
at_was (Ok x) P was h = h was
at_was (Err e) P was h = h
