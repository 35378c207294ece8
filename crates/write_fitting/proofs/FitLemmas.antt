-- The tests of an entry say whether it is one that a write could have made.
use Rattle.std.proofs.Common.{◌≡◌, ℕ, ◌+◌, ◌<◌, Bool, true, false, List, [], ◌∷◌, length, get_or, refl, sym, ap, ◌∙◌, inl, inr, Decides, arith, below_more}
use Rattle.std.proofs.lemmas.Bool.{and_parts, and_from, cases_Bool, true≢false}
use Rattle.std.proofs.lemmas.List.{same_lists}
use Rattle.std.proofs.lemmas.Slice.Eq.{bytes_eq-Decides, slice_eq-Decides}
use Rattle.std.specs.Prelude.{Option, IsTrue, bytes_eq, min, ◌==◌, ◌&&◌}
use Rattle.tao_base.specs.Ids.{shard_of}
use Rattle.tao_base.specs.declared.data.Pair.{Pair}
use Rattle.tao_base.specs.declared.edge.Edge.{Edge}
use Rattle.tao_base.specs.declared.edge.Object.{Object}
use Rattle.tao_base.specs.declared.edge.Stamp.{Stamp}
use Rattle.tao_base.specs.declared.entry.Change.{Change}
use Rattle.tao_base.specs.declared.entry.Change.TheVariants.{PutObject, DropObject, SetEdge, CutEdge}
use Rattle.tao_base.specs.declared.entry.Entry.{Entry}
use Rattle.tao_base.specs.declared.entry.Touch.{Touch}
use Rattle.tao_base.specs.declared.id.AType.{AType}
use Rattle.tao_base.specs.declared.id.OType.{OType}
use Rattle.tao_base.specs.declared.id.Id.{Id}
use Rattle.tao_base.specs.declared.id.Key.{Key}
use Rattle.tao_base.specs.declared.id.Key.TheVariants.{Obj, List as Assocs}
use Rattle.tao_base.specs.declared.write.Write.{Write}
use Rattle.tao_base.specs.declared.write.Write.TheVariants.{ObjAdd, ObjUpdate, ObjDelete, AssocAdd, AssocDelete, AssocChangeType}
use Rattle.write_model.proofs.graph_model_lemmas.Lists.{eqb-self, eqb-same}
use Rattle.write_model.specs.Writes.{FitsWrite, Names}
use Rattle.tao_base.specs.Writes.{write_kind}
use Rattle.write_fitting.specs.Fitting.{cuts, drops, is_list, names, puts, same_data, same_pair, sets}

-- records of their parts
abbrev pair : List ℕ → List ℕ → Pair
pair key value = record { key = key; value = value }

abbrev atype_at : ℕ → AType
atype_at place = record { 0 = place }

abbrev otype_at : ℕ → OType
otype_at place = record { 0 = place }

abbrev object_of : OType → List Pair → Object
object_of otype payload = record { otype = otype; payload = payload }

abbrev edge_of : Id → ℕ → List Pair → Stamp → Edge
edge_of id2 time payload stamp = record { id2 = id2; time = time; payload = payload; stamp = stamp }

pair_decides : (p q : Pair) → Decides (same_pair p q) (p ≡ q)
pair_decides p q = (
  λ h.
      let parts = and_parts (bytes_eq p.key q.key) (bytes_eq p.value q.value) h in
      let keys : p.key ≡ q.key = (bytes_eq-Decides p.key q.key).0 parts.0 in
      let values : p.value ≡ q.value = (bytes_eq-Decides p.value q.value).0 parts.1 in
      ap (λ k. pair k p.value) keys ∙ ap (λ v. pair q.key v) values,
  λ e.
      and_from (bytes_eq p.key q.key) (bytes_eq p.value q.value) ((bytes_eq-Decides p.key q.key).1 (ap (λ r. r.key) e))
      ((bytes_eq-Decides p.value q.value).1 (ap (λ r. r.value) e)),
)

-- the test of data says whether they are equal
pub data_decides : (ps qs : List Pair) → Decides (same_data ps qs) (ps ≡ qs)
data_decides ps qs = slice_eq-Decides pair_decides ps qs (same_data ps qs) refl

data_is : (ps qs : List Pair) → same_data ps qs ≡ true → ps ≡ qs
data_is ps qs h = (data_decides ps qs).0 h

data_self : (ps : List Pair) → same_data ps ps ≡ true
data_self ps = (data_decides ps ps).1 refl

-- two tests at once
and_three : (a b c : Bool) → (a && b && c) ≡ true → (a ≡ true) × (b ≡ true) × (c ≡ true)
and_three a b c h =
    let front = and_parts (a && b) c h in
    let parts = and_parts a b front.0 in
    (parts.0, parts.1, front.1)

from_three : (a b c : Bool) → a ≡ true → b ≡ true → c ≡ true → (a && b && c) ≡ true
from_three a b c x y z = and_from (a && b) c (and_from a b x y) z

-- what a touch puts
puts_is : (test : Id → Object → Bool) (key : Key) (change : Change) → puts test key change ≡ true
    → (id : Id) × (object : Object) × (key ≡ Obj id) × (change ≡ PutObject object) × (test id object ≡ true)
puts_is test (Obj id) (PutObject object) h = (id, object, refl, refl, h)
puts_is test (Obj id) DropObject h = absurd (true≢false (sym h))
puts_is test (Obj id) (SetEdge edge was) h = absurd (true≢false (sym h))
puts_is test (Obj id) (CutEdge id2 stamp was) h = absurd (true≢false (sym h))
puts_is test (Assocs id1 atype) change h = absurd (true≢false (sym h))

drops_is : (object : Id) (key : Key) (change : Change) → drops object key change ≡ true → (key ≡ Obj object) × (change ≡ DropObject)
drops_is object (Obj id) DropObject h = (ap (λ i. Obj i) (eqb-same id object h), refl)
drops_is object (Obj id) (PutObject other) h = absurd (true≢false (sym h))
drops_is object (Obj id) (SetEdge edge was) h = absurd (true≢false (sym h))
drops_is object (Obj id) (CutEdge id2 stamp was) h = absurd (true≢false (sym h))
drops_is object (Assocs id1 atype) change h = absurd (true≢false (sym h))

list_is : (id1 : Id) (atype : AType) (key : Key) → is_list id1 atype key ≡ true → key ≡ Assocs id1 atype
list_is id1 atype (Assocs id type) h =
    let parts = and_parts (id == id1) (type.0 == atype.0) h in
    ap (λ i. Assocs i type) (eqb-same id id1 parts.0) ∙ ap (λ n. Assocs id1 (atype_at n)) (eqb-same type.0 atype.0 parts.1)
list_is id1 atype (Obj id) h = absurd (true≢false (sym h))

list_from : (id1 : Id) (atype : AType) (key : Key) → key ≡ Assocs id1 atype → is_list id1 atype key ≡ true
list_from id1 atype key e = rw e (and_from (id1 == id1) (atype.0 == atype.0) (eqb-self id1) (eqb-self atype.0))

sets_is : (test : Edge → Bool) (change : Change) → sets test change ≡ true → (edge : Edge) × (was : Option ℕ) × (change ≡ SetEdge edge was) × (test edge ≡ true)
sets_is test (SetEdge edge was) h = (edge, was, refl, h)
sets_is test (CutEdge id2 stamp was) h = absurd (true≢false (sym h))
sets_is test (PutObject object) h = absurd (true≢false (sym h))
sets_is test DropObject h = absurd (true≢false (sym h))

cuts_is : (id2 : Id) (change : Change) → cuts id2 change ≡ true → (stamp : Stamp) × (was : Option ℕ) × (change ≡ CutEdge id2 stamp was)
cuts_is id2 (CutEdge other stamp was) h = (stamp, was, ap (λ i. CutEdge i stamp was) (eqb-same other id2 h))
cuts_is id2 (SetEdge edge was) h = absurd (true≢false (sym h))
cuts_is id2 (PutObject object) h = absurd (true≢false (sym h))
cuts_is id2 DropObject h = absurd (true≢false (sym h))

-- the tests hold only where the touches say what the write names
pub names_is : (write : Write) (ts : List Touch) → names write ts ≡ true → Names write ts
names_is (ObjAdd shard otype payload) [] h = absurd (true≢false (sym h))
names_is (ObjUpdate id payload) [] h = absurd (true≢false (sym h))
names_is (ObjDelete id) [] h = absurd (true≢false (sym h))
names_is (AssocAdd id1 atype id2 time payload) [] h = absurd (true≢false (sym h))
names_is (AssocDelete id1 atype id2) [] h = absurd (true≢false (sym h))
names_is (AssocChangeType id1 atype id2 newtype) [] h = absurd (true≢false (sym h))
names_is (ObjAdd shard otype payload) (t ∷ ts) h =
    let put = puts_is (λ id object. shard_of id == shard && object.otype.0 == otype.0 && same_data object.payload payload) t.key t.change
    (and_parts _ true h).0 in
    let tests = and_three (shard_of put.0 == shard) (put.1.otype.0 == otype.0) (same_data put.1.payload payload) put.4 in
    let types : put.1.otype.0 ≡ otype.0 = eqb-same put.1.otype.0 otype.0 tests.1 in
    let payloads : put.1.payload ≡ payload = data_is put.1.payload payload tests.2 in
    let object : put.1 ≡ object_of otype payload = ap (λ n. object_of (otype_at n) put.1.payload) types ∙ ap (object_of otype) payloads in
    (put.0, eqb-same (shard_of put.0) shard tests.0, put.2, put.3 ∙ ap (λ o. PutObject o) object)
names_is (ObjUpdate id payload) (t ∷ ts) h =
    let put = puts_is (λ other object. other == id && same_data object.payload payload) t.key t.change (and_parts _ true h).0 in
    let tests = and_parts (put.0 == id) (same_data put.1.payload payload) put.4 in
    let payloads : put.1.payload ≡ payload = data_is put.1.payload payload tests.1 in
    let object : put.1 ≡ object_of put.1.otype payload = ap (object_of put.1.otype) payloads in
    (put.1.otype, put.2 ∙ ap (λ i. Obj i) (eqb-same put.0 id tests.0), put.3 ∙ ap (λ o. PutObject o) object)
names_is (ObjDelete id) (t ∷ ts) h = drops_is id t.key t.change (and_parts _ true h).0
names_is (AssocAdd id1 atype id2 time payload) (t ∷ ts) h =
    let parts = and_parts (is_list id1 atype t.key) _ (and_parts _ true h).0 in
    let set = sets_is (λ edge. edge.id2 == id2 && edge.time == time && same_data edge.payload payload) t.change parts.1 in
    let tests = and_three (set.0.id2 == id2) (set.0.time == time) (same_data set.0.payload payload) set.3 in
    let ids : set.0.id2 ≡ id2 = eqb-same set.0.id2 id2 tests.0 in
    let times : set.0.time ≡ time = eqb-same set.0.time time tests.1 in
    let payloads : set.0.payload ≡ payload = data_is set.0.payload payload tests.2 in
    let edge : set.0 ≡ edge_of id2 time payload set.0.stamp =
    ap (λ i. edge_of i set.0.time set.0.payload set.0.stamp) ids ∙ ap (λ n. edge_of id2 n set.0.payload set.0.stamp) times
    ∙ ap (λ p. edge_of id2 time p set.0.stamp) payloads in
    (set.0.stamp, set.1, list_is id1 atype t.key parts.0, set.2 ∙ ap (λ e. SetEdge e set.1) edge)
names_is (AssocDelete id1 atype id2) (t ∷ ts) h =
    let parts = and_parts (is_list id1 atype t.key) (cuts id2 t.change) (and_parts _ true h).0 in
    let cut = cuts_is id2 t.change parts.1 in
    (cut.0, cut.1, list_is id1 atype t.key parts.0, cut.2)
names_is (AssocChangeType id1 atype id2 newtype) (t ∷ []) h = absurd (true≢false (sym (and_parts (is_list id1 atype t.key && cuts id2 t.change) false h).1))
names_is (AssocChangeType id1 atype id2 newtype) (t ∷ s ∷ ts) h =
    let both = and_parts (is_list id1 atype t.key && cuts id2 t.change) (is_list id1 newtype s.key && sets (λ edge. edge.id2 == id2) s.change) h in
    let parts = and_parts (is_list id1 atype t.key) (cuts id2 t.change) both.0 in
    let cut = cuts_is id2 t.change parts.1 in
    let more = and_parts (is_list id1 newtype s.key) (sets (λ edge. edge.id2 == id2) s.change) both.1 in
    let set = sets_is (λ edge. edge.id2 == id2) s.change more.1 in
    let ids : set.0.id2 ≡ id2 = eqb-same set.0.id2 id2 set.3 in
    let edge : set.0 ≡ edge_of id2 set.0.time set.0.payload set.0.stamp = ap (λ i. edge_of i set.0.time set.0.payload set.0.stamp) ids in (
      (cut.0, cut.1, list_is id1 atype t.key parts.0, cut.2),
      (set.0.time, set.0.payload, set.0.stamp, set.1, list_is id1 newtype s.key more.0, set.2 ∙ ap (λ e. SetEdge e set.1) edge),
    )

-- and wherever they say so
pub names_from : (write : Write) (ts : List Touch) → Names write ts → names write ts ≡ true
names_from (ObjAdd shard otype payload) [] n = absurd n
names_from (ObjUpdate id payload) [] n = absurd n
names_from (ObjDelete id) [] n = absurd n
names_from (AssocAdd id1 atype id2 time payload) [] n = absurd n
names_from (AssocDelete id1 atype id2) [] n = absurd n
names_from (AssocChangeType id1 atype id2 newtype) [] n = absurd n.0
names_from (ObjAdd shard otype payload) (t ∷ ts) n =
    rw (n.2, n.3) (and_from _ true (from_three (shard_of n.0 == shard) (otype.0 == otype.0) (same_data payload payload) (rw n.1 (eqb-self shard))
    (eqb-self otype.0) (data_self payload)) refl)
names_from (ObjUpdate id payload) (t ∷ ts) n = rw (n.1, n.2)
    (and_from _ true (and_from (id == id) (same_data payload payload) (eqb-self id) (data_self payload)) refl)
names_from (ObjDelete id) (t ∷ ts) n = rw (n.0, n.1) (and_from (id == id) true (eqb-self id) refl)
names_from (AssocAdd id1 atype id2 time payload) (t ∷ ts) n =
    rw n.3 (and_from _ true (and_from (is_list id1 atype t.key) _ (list_from id1 atype t.key n.2)
    (from_three (id2 == id2) (time == time) (same_data payload payload) (eqb-self id2) (eqb-self time) (data_self payload))) refl)
names_from (AssocDelete id1 atype id2) (t ∷ ts) n =
    rw n.3 (and_from _ true (and_from (is_list id1 atype t.key) (id2 == id2) (list_from id1 atype t.key n.2) (eqb-self id2)) refl)
names_from (AssocChangeType id1 atype id2 newtype) (t ∷ []) n = absurd n.1
names_from (AssocChangeType id1 atype id2 newtype) (t ∷ s ∷ ts) n =
    rw (n.0.3, n.1.5) (and_from _ _ (and_from (is_list id1 atype t.key) (id2 == id2) (list_from id1 atype t.key n.0.2) (eqb-self id2))
    (and_from (is_list id1 newtype s.key) (id2 == id2) (list_from id1 newtype s.key n.1.4) (eqb-self id2)))

-- data that differ at a place are not the same
pub differ_at : (ps qs : List Pair) (i : ℕ) (p q : Pair) → ((d : Pair) → p ≡ get_or ps i d) → ((d : Pair) → q ≡ get_or qs i d) → same_pair p q ≡ false
    → same_data ps qs ≡ false
differ_at ps qs i p q first second other = elim (cases_Bool (same_data ps qs)) [
  | inl same ↦ (
      let here : p ≡ q = first p ∙ ap (λ xs. get_or xs i p) (data_is ps qs same) ∙ sym (second p) in
      let passes : same_pair p q ≡ true = (pair_decides p q).1 here in
      absurd (true≢false (sym passes ∙ other)))
  | inr h ↦ h
]

-- data of one length that agree at each place are the same
pub same_at_all : (ps qs : List Pair) (n : ℕ) → length ps ≡ length qs → n ≡ min (length ps) (length qs)
    → ((k : ℕ) (d : Pair) → k < n → get_or ps k d ≡ get_or qs k d) → same_data ps qs ≡ true
same_at_all ps qs n long is agree = (data_decides ps qs).1 (same_lists ps qs long (λ k d lt. agree k d (omega arith)))

-- one place more at which they agree
pub agree_more : (ps qs : List Pair) (n m : ℕ) (p q : Pair) → ((k : ℕ) (d : Pair) → k < n → get_or ps k d ≡ get_or qs k d) → ((d : Pair) → p ≡ get_or ps n d)
    → ((d : Pair) → q ≡ get_or qs n d)
    → same_pair p q ≡ true → m ≡ n + 1 → (k : ℕ) (d : Pair) → k < m → get_or ps k d ≡ get_or qs k d
agree_more ps qs n m p q agree first second same is k d lt =
    below_more (λ j. (e : Pair) → get_or ps j e ≡ get_or qs j e) n (λ j h e. agree j e h) (λ e. sym (first e) ∙ (pair_decides p q).0 same ∙ second e) k
    (omega arith) d

-- an entry of the write's kind fits it where the test holds of its touches
pub fits_is : (e : Entry) (write : Write) (ts : List Touch) (b : Bool) → e.kind ≡ write_kind write → ts ≡ e.touches → b ≡ names write ts
    → (IsTrue b → FitsWrite e write) × (FitsWrite e write → IsTrue b)
fits_is e write ts b kind is h = (
  λ x. record { kind_is = kind; named = names_is write e.touches (ap (names write) (sym is) ∙ sym h ∙ x) },
  λ f. h ∙ ap (names write) is ∙ names_from write e.touches f.named,
)
