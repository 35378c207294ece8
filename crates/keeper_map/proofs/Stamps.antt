-- What a log whose stamps are small gives: small stamps, and edges in order.
use Rattle.std.proofs.Common.{◌<◌, ℕ, true, false, cond, List, [], ◌∷◌, ◌++◌, map, take, drop, arith}
use Rattle.std.proofs.lemmas.List.{length-take}
use Rattle.std.proofs.lemmas.List.Elements.{All-drop, All-from_recursion, All-take, recursion_from_All}
use Rattle.std.specs.Prelude.{All, Option, Some, None, filter, filter_map, flat_map, fold}
use Rattle.std.specs.List.{AllByRecursion, last_or, list_any}
use Rattle.tao_base.specs.Stamps.{stamp_of}
use Rattle.tao_base.specs.declared.edge.Edge.{Edge}
use Rattle.tao_base.specs.declared.edge.EdgeState.{EdgeState}
use Rattle.tao_base.specs.declared.entry.Change.{Change}
use Rattle.tao_base.specs.declared.entry.Change.TheVariants.{PutObject, DropObject, SetEdge, CutEdge}
use Rattle.tao_base.specs.declared.entry.Entry.{Entry}
use Rattle.tao_base.specs.declared.entry.Touch.{Touch}
use Rattle.tao_base.specs.declared.id.AType.{AType}
use Rattle.tao_base.specs.declared.id.Id.{Id}
use Rattle.tao_base.specs.declared.id.Key.{Key}
use Rattle.tao_base.specs.declared.id.Key.TheVariants.{List as Assocs}
use Rattle.graph_model.proofs.Later.{all_filter}
use Rattle.graph_model.proofs.Lists.{stretches_in_order}
use Rattle.graph_model.specs.Edges.{edge_list, edge_record, insert_edge, is_at, is_newer, live_edges, newest_first, number_of, state_left}
use Rattle.tao_base.specs.Keys.{same_key}
use Rattle.graph_model.specs.Log.{changes_of}
use Rattle.tao_keeper.specs.Given.{AreGiven, HaveSmallStamps}
use Rattle.tao_keeper.specs.declared.keeper.TheConstants.{STAMP_LIMIT}

abbrev LeavesSmall : Change → Type 0
LeavesSmall c = number_of (state_left c) < STAMP_LIMIT

abbrev HasSmallStamp : Edge → Type 0
HasSmallStamp e = e.stamp.number < STAMP_LIMIT

all_append : {X : Type 0} (P : X → Type 0) (xs ys : List X) → AllByRecursion P xs → AllByRecursion P ys → AllByRecursion P (xs ++ ys)
all_append P [] ys h k = k
all_append P (x ∷ xs) ys h k = (h.0, all_append P xs ys h.1 k)

touches_small : (log : List Entry) → AllByRecursion (λ e. HaveSmallStamps e.touches) log
    → AllByRecursion (λ t. LeavesSmall t.change) (flat_map (λ e. e.touches) log)
touches_small [] h = tt
touches_small (e ∷ log) h =
    all_append (λ t. LeavesSmall t.change) e.touches (flat_map (λ x. x.touches) log)
    (recursion_from_All (λ t. LeavesSmall t.change) e.touches h.0) (touches_small log h.1)

mapped_small : (ts : List Touch) → AllByRecursion (λ t. LeavesSmall t.change) ts → AllByRecursion LeavesSmall (map (λ t. t.change) ts)
mapped_small [] h = tt
mapped_small (t ∷ ts) h = (h.0, mapped_small ts h.1)

changes_small : (log : List Entry) (k : Key) → All (λ e. HaveSmallStamps e.touches) log → AllByRecursion LeavesSmall (changes_of log k)
changes_small log k h =
    let touches : List Touch = flat_map (λ e. e.touches) log in
    mapped_small (filter (λ t. same_key k t.key) touches)
    (all_filter (λ t. LeavesSmall t.change) (λ t. same_key k t.key) touches
    (touches_small log (recursion_from_All (λ e. HaveSmallStamps e.touches) log h)))

-- records
states_small : (cs : List Change) → AllByRecursion LeavesSmall cs → AllByRecursion (λ s. (stamp_of s).number < STAMP_LIMIT) (filter_map state_left cs)
states_small [] h = tt
states_small (SetEdge e was ∷ cs) h = (h.0, states_small cs h.1)
states_small (CutEdge id2 stamp was ∷ cs) h = (h.0, states_small cs h.1)
states_small (PutObject object ∷ cs) h = states_small cs h.1
states_small (DropObject ∷ cs) h = states_small cs h.1

last_small : (found : Option EdgeState) (states : List EdgeState) → number_of found < STAMP_LIMIT
    → AllByRecursion (λ s. (stamp_of s).number < STAMP_LIMIT) states
    → number_of (last_or found states) < STAMP_LIMIT
last_small found [] h k = h
last_small found (s ∷ states) h k = last_small (Some s) states k.0 k.1

pub record_small : (log : List Entry) (id1 : Id) (atype : AType) (id2 : Id) → All (λ e. HaveSmallStamps e.touches) log
    → number_of (edge_record log id1 atype id2) < STAMP_LIMIT
record_small log id1 atype id2 h =
    let cs : List Change = changes_of log (Assocs id1 atype) in
    last_small None (filter_map state_left (filter (is_at id2) cs)) (omega arith)
    (states_small (filter (is_at id2) cs) (all_filter LeavesSmall (is_at id2) cs (changes_small log (Assocs id1 atype) h)))

-- lists
live_small : (cs : List Change) → AllByRecursion LeavesSmall cs → AllByRecursion HasSmallStamp (live_edges cs)
live_small [] h = tt
live_small (SetEdge e was ∷ cs) h =
    let rest = live_small cs h.1 in
    elim (list_any (is_at e.id2) cs) as (λ b. AllByRecursion HasSmallStamp (cond b (live_edges cs) (e ∷ live_edges cs))) [ true ↦ rest | false ↦ (h.0, rest) ]
live_small (CutEdge id2 stamp was ∷ cs) h = live_small cs h.1
live_small (PutObject object ∷ cs) h = live_small cs h.1
live_small (DropObject ∷ cs) h = live_small cs h.1

insert_small : (e : Edge) (xs : List Edge) → HasSmallStamp e → AllByRecursion HasSmallStamp xs → AllByRecursion HasSmallStamp (insert_edge e xs)
insert_small e [] p h = (p, tt)
insert_small e (x ∷ xs) p h =
    elim (is_newer e x) as (λ b. AllByRecursion HasSmallStamp (cond b (e ∷ x ∷ xs) (x ∷ insert_edge e xs)))
    [ true ↦ (p, h) | false ↦ (h.0, insert_small e xs p h.1) ]

newest_small : (sorted xs : List Edge) → AllByRecursion HasSmallStamp sorted → AllByRecursion HasSmallStamp xs
    → AllByRecursion HasSmallStamp (fold (λ sorted e. insert_edge e sorted) sorted xs)
newest_small sorted [] h k = h
newest_small sorted (x ∷ xs) h k = newest_small (insert_edge x sorted) xs (insert_small x sorted k.0 h) k.1

pub part_given : (log : List Entry) (id1 : Id) (atype : AType) (pos most : ℕ) → All (λ e. HaveSmallStamps e.touches) log
    → AreGiven most (take most (drop pos (edge_list log id1 atype)))
part_given log id1 atype pos most h =
    let cs : List Change = changes_of log (Assocs id1 atype) in
    let all : All HasSmallStamp (edge_list log id1 atype) =
    All-from_recursion HasSmallStamp (newest_first (live_edges cs))
    (newest_small [] (live_edges cs) tt (live_small cs (changes_small log (Assocs id1 atype) h))) in
    record {
      few = omega (arith, length-take {A = Edge});
      in_order = stretches_in_order log id1 atype pos most;
      stamps = All-take HasSmallStamp most (drop pos (edge_list log id1 atype)) (All-drop HasSmallStamp pos (edge_list log id1 atype) all);
    }
