-- A list of a sound log is no longer than its version.
use Rattle.std.proofs.Common.{◌≡◌, ◌≢◌, ℕ, zero, suc, ◌+◌, ◌≤◌, cond, List, [], ◌∷◌, length, take, refl, sym, ap, ◌∙◌, inl, inr, arith}
use Rattle.std.proofs.Common.{length-append, append-nil}
use Rattle.std.proofs.lemmas.Bool.{cases_Bool}
use Rattle.std.specs.List.{list_any}
use Rattle.std.specs.Prelude.{AllPairs, Some, fold, slice_get}
use Rattle.tao_base.specs.declared.edge.Edge.{Edge}
use Rattle.tao_base.specs.declared.entry.Change.{Change}
use Rattle.tao_base.specs.declared.entry.Change.TheVariants.{PutObject, DropObject, SetEdge, CutEdge}
use Rattle.tao_base.specs.declared.entry.Entry.{Entry}
use Rattle.tao_base.specs.declared.entry.Touch.{Touch}
use Rattle.tao_base.specs.declared.id.AType.{AType}
use Rattle.tao_base.specs.declared.id.Id.{Id}
use Rattle.tao_base.specs.declared.id.Key.{Key}
use Rattle.tao_base.specs.declared.id.Key.TheVariants.{List as Assocs}
use Rattle.graph_model.proofs.Applied.{length_insert}
use Rattle.graph_model.proofs.Beginnings.{beginning_of, version_first}
use Rattle.graph_model.proofs.EntryLemmas.{none_else}
use Rattle.graph_model.proofs.Keys.{same_key-same}
use Rattle.graph_model.proofs.Sound.{sound_take}
use Rattle.graph_model.proofs.Versions.{changes_of-append, untouched}
use Rattle.graph_model.specs.Edges.{edge_list, insert_edge, is_at, live_edges, newest_first}
use Rattle.tao_base.specs.Keys.{same_key}
use Rattle.graph_model.specs.Log.{changes_at, changes_of, touches_key, version}
use Rattle.graph_model.specs.Prefixes.{IsExactList}
use Rattle.graph_model.specs.Soundness.{IsSound}
use Rattle.graph_model.specs.VersionLaws.{LengthIsWithinVersion}

-- at most one edge is live for each change
pub live_within : (cs : List Change) → length (live_edges cs) ≤ length cs
live_within [] = omega arith
live_within (SetEdge e was ∷ later) = let rest = live_within later in elim (cases_Bool (list_any (is_at e.id2) later)) [
  | inl k ↦ rw k (omega arith)
  | inr k ↦ rw k (omega arith)
]
live_within (CutEdge id2 stamp was ∷ later) = let rest = live_within later in omega arith
live_within (PutObject object ∷ later) = let rest = live_within later in omega arith
live_within (DropObject ∷ later) = let rest = live_within later in omega arith

length_sorted : (sorted edges : List Edge) → length (fold (λ sorted e. insert_edge e sorted) sorted edges) ≡ length sorted + length edges
length_sorted sorted [] = omega arith
length_sorted sorted (e ∷ es) = let rest = length_sorted (insert_edge e sorted) es in let more = length_insert e sorted in omega arith

length_newest : (edges : List Edge) → length (newest_first edges) ≡ length edges
length_newest edges = let k = length_sorted [] edges in omega arith

-- touches of distinct keys change a key at most once
at_most_once : (k : Key) (ts : List Touch) → AllPairs (λ s t. s.key ≢ t.key) ts → length (changes_at k ts) ≤ 1
at_most_once k [] once = omega arith
at_most_once k (t ∷ ts) once = elim (cases_Bool (same_key k t.key)) [
  | inl on ↦ (
      let same = same_key-same k t.key on in
      let none : changes_at k ts ≡ [] = none_else k ts (λ i d lt q. once zero (suc i) d (omega arith) (omega arith) (sym same ∙ q)) in
      rw (on, none) (omega arith))
  | inr off ↦ rw off (at_most_once k ts (λ i j d lt within. once (suc i) (suc j) d (omega arith) (omega arith)))
]

-- each entry touches no key twice
abbrev EachOnce : List Entry → Type 0
EachOnce log = (n : ℕ) (e : Entry) → slice_get log n ≡ Some e → AllPairs (λ s t. s.key ≢ t.key) e.touches

changes_within : (log : List Entry) (k : Key) → EachOnce log → length (changes_of log k) ≤ version log k
changes_within [] k once = omega arith
changes_within (e ∷ log) k once =
    let rest = changes_within log k (λ n d h. once (suc n) d h) in
    let first = version_first e log k in
    let parts = ap length (changes_of-append (e ∷ []) log k) in
    let sum = length-append (changes_of (e ∷ []) k) (changes_of log k) in
    elim (cases_Bool (touches_key k e)) [
      | inl on ↦ (
          let counted = ap (λ b. cond b 1 0 + version log k) on in
          let here : length (changes_of (e ∷ []) k) ≤ 1 = rw (append-nil e.touches) (at_most_once k e.touches (once zero e refl)) in
          omega arith)
      | inr off ↦ (
          let counted = ap (λ b. cond b 1 0 + version log k) off in
          let none = ap length (untouched e k off) in
          omega arith)
    ]

list_within : (log : List Entry) (id1 : Id) (atype : AType) → IsSound log → length (edge_list log id1 atype) ≤ version log (Assocs id1 atype)
list_within log id1 atype sound =
    let changes = changes_within log (Assocs id1 atype) (λ n e h. (sound n e h).once) in
    let live = live_within (changes_of log (Assocs id1 atype)) in
    let same = length_newest (live_edges (changes_of log (Assocs id1 atype))) in
    omega arith

pub item_within : (log : List Entry) (id1 : Id) (atype : AType) → IsSound log → (v : ℕ) (edges : List Edge) (total : ℕ)
    → IsExactList log id1 atype v edges total → total ≤ v
item_within log id1 atype sound v edges total exact =
    let at = beginning_of log (Assocs id1 atype) v exact.reached in
    let is = (exact.gives at.0 at.2).length_is in
    let le = list_within (take at.0 log) id1 atype (sound_take log at.0 sound) in
    let same = at.2 in
    omega arith

pub length_is_within_version : (log : List Entry) (id1 : Id) (atype : AType) → LengthIsWithinVersion log id1 atype
length_is_within_version log id1 atype = record { list_is = list_within log id1 atype; item_is = item_within log id1 atype }
