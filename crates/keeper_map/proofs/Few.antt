-- A list has at most as many edges as the sound log has entries.
use Rattle.std.proofs.Common.{◌≡◌, ◌≢◌, ℕ, ◌+◌, ◌≤◌, List, [], ◌∷◌, append-nil, length, length-append, ◌∙◌, arith}
use Rattle.std.proofs.lemmas.List.{length-map}
use Rattle.std.proofs.lemmas.List.Elements.{All-from_get_or, filter_passes, recursion_from_All}
use Rattle.std.proofs.lemmas.List.Kept.{AllPairs-filter}
use Rattle.std.proofs.lemmas.Option.{slice_get-get_or}
use Rattle.std.specs.Prelude.{AllPairs, filter, fold}
use Rattle.std.specs.List.{AllByRecursion}
use Rattle.tao_base.specs.declared.edge.Edge.{Edge}
use Rattle.tao_base.specs.declared.entry.Change.{Change}
use Rattle.tao_base.specs.declared.entry.Entry.{Entry}
use Rattle.tao_base.specs.declared.entry.Touch.{Touch}
use Rattle.tao_base.specs.declared.id.AType.{AType}
use Rattle.tao_base.specs.declared.id.Id.{Id}
use Rattle.tao_base.specs.declared.id.Key.{Key}
use Rattle.tao_base.specs.declared.id.Key.TheVariants.{List as Assocs}
use Rattle.graph_model.proofs.Applied.{length_insert}
use Rattle.graph_model.proofs.Versions.{changes_of-append}
use Rattle.graph_model.specs.Edges.{edge_list, insert_edge, live_edges, newest_first}
use Rattle.tao_base.specs.Keys.{same_key}
use Rattle.graph_model.specs.Log.{changes_of}
use Rattle.graph_model.specs.Soundness.{IsSound}
use Rattle.log_index.proofs.Versions.{one_at_most}
use Rattle.graph_model.proofs.Lengths.{live_within}

abbrev AreOnce : List Touch → Type 0
AreOnce touches = AllPairs (λ s t. s.key ≢ t.key) touches

entry_changes : (e : Entry) (k : Key) → AreOnce e.touches → length (changes_of (e ∷ []) k) ≤ 1
entry_changes e k once =
    rw (append-nil e.touches, length-map (filter (λ t. same_key k t.key) e.touches) (λ (t : Touch). t.change))
    (one_at_most k (filter (λ t. same_key k t.key) e.touches)
    (AllPairs-filter (λ (s : Touch) t. s.key ≢ t.key) (λ t. same_key k t.key) e.touches once) (filter_passes (λ (t : Touch). same_key k t.key) e.touches))

few_changes : (log : List Entry) (k : Key) → AllByRecursion (λ e. AreOnce e.touches) log → length (changes_of log k) ≤ length log
few_changes [] k h = omega arith
few_changes (e ∷ log) k h =
    let here : length (changes_of (e ∷ []) k) ≤ 1 = entry_changes e k h.0 in
    let later : length (changes_of log k) ≤ length log = few_changes log k h.1 in
    rw (changes_of-append (e ∷ []) log k, length-append (changes_of (e ∷ []) k) (changes_of log k)) (omega arith)

all_once : (log : List Entry) → IsSound log → AllByRecursion (λ e. AreOnce e.touches) log
all_once [] sound = tt
all_once (e ∷ log) sound =
    recursion_from_All (λ (x : Entry). AreOnce x.touches) (e ∷ log)
    (All-from_get_or (λ (x : Entry). AreOnce x.touches) (e ∷ log) e (λ i lt. (sound i _ (slice_get-get_or (e ∷ log) i e lt)).once))

-- the order leaves the number
length-sorted : (sorted xs : List Edge) → length (fold (λ ys e. insert_edge e ys) sorted xs) ≡ length sorted + length xs
length-sorted sorted [] = omega arith
length-sorted sorted (x ∷ xs) =
    let more : length (insert_edge x sorted) ≡ length sorted + 1 = length_insert x sorted in
    length-sorted (insert_edge x sorted) xs ∙ (omega arith)

pub few_edges : (log : List Entry) (id1 : Id) (atype : AType) (most : ℕ) → IsSound log → length log ≤ most → length (edge_list log id1 atype) ≤ most
few_edges log id1 atype most sound few =
    let cs : List Change = changes_of log (Assocs id1 atype) in
    let changes : length cs ≤ length log = few_changes log (Assocs id1 atype) (all_once log sound) in
    let live : length (live_edges cs) ≤ length cs = live_within cs in
    let same : length (newest_first (live_edges cs)) ≡ 0 + length (live_edges cs) = length-sorted [] (live_edges cs) in
    omega arith
