-- Reads of a store: fronts of what the keeper gives are fronts of the list, and what is sealed is true of the note's view.
use Rattle.std.proofs.Common.{◌≡◌, ℕ, ◌+◌, ◌≤◌, ◌⊎◌, true, false, List, [], length, take, min, Option, Some, None, refl, sym, ap, ◌∙◌, subst, arith}
use Rattle.std.proofs.Common.{inl, inr, leb}
use Rattle.std.proofs.lemmas.Bool.{cases_Bool, leb-false, leb-true}
use Rattle.std.proofs.lemmas.Bool.Decides.{nat_tests}
use Rattle.std.proofs.lemmas.List.{length-take, take-take, take_all}
use Rattle.tao_base.specs.EdgeTypes.{EdgeTypes}
use Rattle.tao_base.specs.declared.edge.Edge.{Edge}
use Rattle.tao_base.specs.declared.edge.Object.{Object}
use Rattle.tao_base.specs.declared.entry.Entry.{Entry}
use Rattle.tao_base.specs.declared.id.AType.{AType}
use Rattle.tao_base.specs.declared.id.Id.{Id}
use Rattle.tao_base.specs.declared.id.Key.{Key}
use Rattle.tao_base.specs.declared.id.Key.TheVariants.{Obj, List as Assocs}
use Rattle.tao_base.specs.declared.query.Answer.{Answer}
use Rattle.tao_base.specs.declared.query.Query.{Query}
use Rattle.tao_base.specs.declared.query.Query.TheVariants.{ObjGet, AssocGet, AssocCount, AssocRange, AssocTimeRange}
use Rattle.graph_model.specs.Answers.{answer as log_answer, list_answer}
use Rattle.tao_base.specs.Queries.{query_key}
use Rattle.graph_model.specs.Edges.{edge_list}
use Rattle.graph_model.specs.Log.{object, version}
use Rattle.graph_model.specs.Prefixes.{decides}
use Rattle.sealed_item.specs.list_prefix.Fronts.{IsFrontFor, IsLeftOpen, IsShortestFront}
use Rattle.sealed_item.specs.list_prefix.ListPrefix.{ListPrefix, list_prefix}
use Rattle.sealed_item.specs.list_prefix.Verdicts.{IsOfList}
use Rattle.shard_log.proofs.Beginnings.{begins-length}
use Rattle.shard_log.specs.View.{View, Begins}
use Rattle.sealed_item.proofs.Deciding.{contents_answer, fronts_decide}
use Rattle.sealed_item.proofs.FillLemmas.{beginning_is_sealed}
use Rattle.tao_schema.specs.Schema.{key_bound}
use Rattle.sealed_item.specs.Decided.{IsContentFront, content_answer, query_bound}
use Rattle.sealed_item.specs.FillLaws.{front_of}
use Rattle.sealed_item.specs.Fills.{SealedItem, IsExactContent, IsFill, sealed_item}
use Rattle.sealed_item.specs.declared.content.Content.TheVariants.{Object as ObjectIs, List as ListIs}
use Rattle.shard_tables.specs.ReadOuts.{AreNeeded, HasTotal, IsFilled, IsOpenList, needed_count, whole_content, whole_list}
use Rattle.shard_tables.specs.Reads.{AnswersAtVersion}

-- a front of a list's first edges is one of the list
some_stays : (n bound total : ℕ) (query : Query) (list : List Edge) (front : ListPrefix) → IsShortestFront (list_prefix (take n list) total) query bound front
    → IsShortestFront (list_prefix list total) query bound front
some_stays n bound total query list front is =
    let short = is.shortest in
    let cut : length (take n list) ≡ min n (length list) = length-take n list in
    let within : is.count ≤ min (length (take n list)) bound = short.within in
    let inside : is.count ≤ n = omega arith in
    record {
      count = is.count;
      is = is.is ∙ ap (λ xs. list_prefix xs total) (take-take is.count n list inside);
      shortest = record {
        within = omega arith;
        decided = subst (λ xs. decides bound xs total query ≡ true) (take-take is.count n list inside) short.decided;
        least = λ fewer lt. subst (λ xs. decides bound xs total query ≡ false) (take-take fewer n list (omega arith)) (short.least fewer lt);
      };
    }

-- what the first edges up to the bound leave open, the list does
bound_stays : (n bound total : ℕ) (query : Query) (list : List Edge) → n ≡ bound → IsLeftOpen bound (take n list) total query
    → IsLeftOpen bound list total query
bound_stays n bound total query list is left = λ count le.
    let cut : length (take n list) ≡ min n (length list) = length-take n list in
    subst (λ xs. decides bound xs total query ≡ false) (take-take count n list (omega arith)) (left count (omega arith))

-- all of the first edges leave the query undecided
all_open : (n bound total : ℕ) (query : Query) (list : List Edge) → n ≤ bound → IsLeftOpen bound (take n list) total query
    → decides bound (take n list) total query ≡ false
all_open n bound total query list le left =
    let cut : length (take n list) ≡ min n (length list) = length-take n list in
    subst (λ xs. decides bound xs total query ≡ false) (take_all (length (take n list)) (take n list) (omega arith)) (left (length (take n list)) (omega arith))

-- the first edges up to the end of a range decide it
ends_inside : (id1 : Id) (atype : AType) (pos limit bound : ℕ) (list : List Edge)
    → decides bound (take (pos + min limit bound) list) (length list) (AssocRange id1 atype pos limit) ≡ false → ⊥
ends_inside id1 atype pos limit bound list h =
    let cut : length (take (pos + min limit bound) list) ≡ min (pos + min limit bound) (length list) = length-take (pos + min limit bound) list in
    grind (arith, nat_tests)

-- of two numbers one is no greater
at_most : (a b : ℕ) → (a ≤ b) ⊎ (b ≤ a)
at_most a b = elim (cases_Bool (leb a b)) [
  | inl below ↦ inl (leb-true a b below)
  | inr above ↦ inr (let more = leb-false a b above in omega arith)
]

range_stays : (id1 : Id) (atype : AType) (pos limit bound : ℕ) (list : List Edge)
    → IsLeftOpen bound (take (min (pos + min limit bound) bound) list) (length list) (AssocRange id1 atype pos limit)
    → IsLeftOpen bound list (length list) (AssocRange id1 atype pos limit)
range_stays id1 atype pos limit bound list left = elim (at_most (pos + min limit bound) bound) [
  | inl below ↦ (
      let same : min (pos + min limit bound) bound ≡ pos + min limit bound = omega arith in
      absurd (ends_inside id1 atype pos limit bound list
      (subst (λ n. decides bound (take n list) (length list) (AssocRange id1 atype pos limit) ≡ false) same
      (all_open (min (pos + min limit bound) bound) bound (length list) (AssocRange id1 atype pos limit) list (omega arith) left))))
  | inr above ↦ bound_stays (min (pos + min limit bound) bound) bound (length list) (AssocRange id1 atype pos limit) list (omega arith) left
]

open_stays : (bound : ℕ) (query : Query) (list : List Edge) → IsLeftOpen bound (take (needed_count bound query) list) (length list) query
    → IsLeftOpen bound list (length list) query
open_stays bound (ObjGet id) list left = λ count le. refl
open_stays bound (AssocCount id1 atype) list left = let wrong : true ≡ false = left 0 (omega arith) in absurd (cc)
open_stays bound (AssocRange id1 atype pos limit) list left = range_stays id1 atype pos limit bound list left
open_stays bound (AssocTimeRange id1 atype high low limit) list left =
    bound_stays bound bound (length list) (AssocTimeRange id1 atype high low limit) list refl left
open_stays bound (AssocGet id1 atype ids high low) list left = bound_stays bound bound (length list) (AssocGet id1 atype ids high low) list refl left

front_of_first : (bound : ℕ) (query : Query) (list : List Edge) (found : Option ListPrefix)
    → IsFrontFor (list_prefix (take (needed_count bound query) list) (length list)) query bound found
    → IsFrontFor (list_prefix list (length list)) query bound found
front_of_first bound query list (Some front) is = some_stays (needed_count bound query) bound (length list) query list front is
front_of_first bound query list None left = open_stays bound query list left

-- the shortest front of the needed edges is that of the list
front_stays : (bound : ℕ) (query : Query) (list edges : List Edge) (total : ℕ) (found : Option ListPrefix) → AreNeeded bound query list edges total
    → IsFrontFor (list_prefix edges total) query bound found → IsFrontFor (list_prefix list (length list)) query bound found
front_stays bound query list edges total found are is =
    front_of_first bound query list found
    (subst (λ p. IsFrontFor p query bound found) (ap (λ xs. list_prefix xs total) are.edges_are
    ∙ ap (list_prefix (take (needed_count bound query) list)) are.total_is) is)

-- a query whose key is a list is one of a list
of_list : (query : Query) (id1 : Id) (atype : AType) → query_key query ≡ Assocs id1 atype → IsOfList query
of_list (ObjGet id) id1 atype key = absurd (cc)
of_list (AssocGet other a ids high low) id1 atype key = tt
of_list (AssocCount other a) id1 atype key = tt
of_list (AssocRange other a pos limit) id1 atype key = tt
of_list (AssocTimeRange other a high low limit) id1 atype key = tt

-- the list that a key names
abbrev list_at : List Entry → Key → List Edge
list_at log (Assocs id1 atype) = edge_list log id1 atype
list_at log (Obj id) = []

answer_at : (types : EdgeTypes) (log : List Entry) (query : Query) → IsOfList query
    → log_answer types log query ≡ list_answer (key_bound types (query_key query)) (list_at log (query_key query))
    (length (list_at log (query_key query))) query
answer_at types log (ObjGet id) h = absurd h
answer_at types log (AssocGet id1 atype ids high low) h = refl
answer_at types log (AssocCount id1 atype) h = refl
answer_at types log (AssocRange id1 atype pos limit) h = refl
answer_at types log (AssocTimeRange id1 atype high low limit) h = refl

-- how many edges an answer to a query of a list gives at most
bound_is : (types : EdgeTypes) (query : Query) (id1 : Id) (atype : AType) → query_key query ≡ Assocs id1 atype → query_bound types query ≡ types.bound atype
bound_is types query id1 atype key = ap (key_bound types) key

-- what a log answers to a query of a list is what the list answers
answer_is : (types : EdgeTypes) (log : List Entry) (query : Query) (id1 : Id) (atype : AType) → query_key query ≡ Assocs id1 atype
    → log_answer types log query ≡ list_answer (types.bound atype) (edge_list log id1 atype) (length (edge_list log id1 atype)) query
answer_is types log query id1 atype key =
    answer_at types log query (of_list query id1 atype key) ∙ ap (λ k. list_answer (key_bound types k) (list_at log k) (length (list_at log k)) query) key

-- what a log that begins the view has of an object is true of the view
object_sealed : (note : View) (log : List Entry) (id : Id) → Begins log note.entries
    → IsFill note.entries (Obj id) (version log (Obj id)) (length log) (ObjectIs (object log id))
object_sealed note log id begins =
    subst (λ xs. IsFill note.entries (Obj id) (version xs (Obj id)) (length log) (ObjectIs (object xs id))) (sym begins)
    ((beginning_is_sealed note.entries (length log)).object_is id (begins-length log note.entries begins))

list_sealed : (note : View) (log : List Entry) (id1 : Id) (atype : AType) (count : ℕ) → Begins log note.entries
    → IsFill note.entries (Assocs id1 atype) (version log (Assocs id1 atype)) (length log) (ListIs (front_of count log id1 atype))
list_sealed note log id1 atype count begins =
    subst (λ xs. IsFill note.entries (Assocs id1 atype) (version xs (Assocs id1 atype)) (length log) (ListIs (front_of count xs id1 atype))) (sym begins)
    ((beginning_is_sealed note.entries (length log)).list_is id1 atype count (begins-length log note.entries begins))

-- the content of an object's fill
pub object_fill : (note : View) (log later : List Entry) (id : Id) (v n : ℕ) (found : Option Object) → Begins log note.entries
    → v ≡ version log (Obj id) → n ≡ length log → later ≡ log → found ≡ object later id → IsFill note.entries (Obj id) v n (ObjectIs found)
object_fill note log later id v n found begins at of same finds =
    let is : found ≡ object log id = finds ∙ ap (λ l. object l id) same in
    rw (at, of, is) (object_sealed note log id begins)

-- what the keeper gave of a list of the log, and its front
module _ (log later : List Entry) (id1 : Id) (atype : AType) (query : Query) (bound total : ℕ) (edges : List Edge) (same : later ≡ log)
    (needed : AreNeeded bound query (edge_list later id1 atype) edges total) where
  front_in_log : (found : Option ListPrefix) → IsFrontFor (list_prefix edges total) query bound found → IsFrontFor (whole_list log id1 atype) query bound found
  front_in_log found is =
      subst (λ l. IsFrontFor (whole_list l id1 atype) query bound found) same (front_stays bound query (edge_list later id1 atype) edges total found needed is)

  -- the content of a list's fill
  pub list_fill : (note : View) (v n : ℕ) (front : ListPrefix) → Begins log note.entries → v ≡ version log (Assocs id1 atype) → n ≡ length log
      → IsShortestFront (list_prefix edges total) query bound front → IsFill note.entries (Assocs id1 atype) v n (ListIs front)
  list_fill note v n front begins at of is =
      let whole : IsShortestFront (whole_list log id1 atype) query bound front = front_in_log (Some front) is in
      rw (at, of, whole.is) (list_sealed note log id1 atype whole.count begins)

  -- the fill is what the log has
  pub list_filled : (types : EdgeTypes) (note : View) (v n : ℕ) (front : ListPrefix) (fill : SealedItem) → query_key query ≡ Assocs id1 atype
      → bound ≡ types.bound atype
      → v ≡ version log (Assocs id1 atype) → n ≡ length log → IsShortestFront (list_prefix edges total) query bound front
      → fill ≡ sealed_item (Assocs id1 atype) v n (ListIs front) note → IsFilled types log query fill
  list_filled types note v n front fill key bounded at of is made =
      let whole : IsShortestFront (whole_list log id1 atype) query bound front = front_in_log (Some front) is in
      subst (IsFilled types log query) (sym made) (record {
        version_is = at ∙ ap (version log) (sym key);
        as_of_is = of;
        content_is = subst (λ k. IsContentFront types (whole_content log k) query (Some (ListIs front))) (sym key)
            (subst (λ b. IsShortestFront (whole_list log id1 atype) query b front) (bounded ∙ sym (bound_is types query id1 atype key)) whole);
      })

  -- the answer where no front within the bound decides the query
  pub list_past : (types : EdgeTypes) (last : List Entry) (v : ℕ) (answer : Answer) → query_key query ≡ Assocs id1 atype → bound ≡ types.bound atype
      → v ≡ version log (Assocs id1 atype) → IsLeftOpen bound edges total query → last ≡ later
      → answer ≡ list_answer bound (edge_list last id1 atype) (length (edge_list last id1 atype)) query
      → AnswersAtVersion types log query answer v × IsOpenList types log query total
  list_past types last v answer key bounded at is still answers =
      let whole : IsLeftOpen bound (edge_list log id1 atype) (length (edge_list log id1 atype)) query = front_in_log None is in (
        record {
          answer_is = answers ∙ ap (λ l. list_answer bound (edge_list l id1 atype) (length (edge_list l id1 atype)) query) (still ∙ same)
              ∙ ap (λ b. list_answer b (edge_list log id1 atype) (length (edge_list log id1 atype)) query) bounded
              ∙ sym (answer_is types log query id1 atype key);
          version_is = at ∙ ap (version log) (sym key);
        },
        record {
          total_is = subst (λ k. HasTotal (whole_content log k) total) (sym key) (needed.total_is ∙ ap (λ l. length (edge_list l id1 atype)) same);
          left_open = subst (λ k. IsContentFront types (whole_content log k) query None) (sym key)
              (subst (λ b. IsLeftOpen b (edge_list log id1 atype) (length (edge_list log id1 atype)) query)
              (bounded ∙ sym (bound_is types query id1 atype key)) whole);
        },
      )

-- all that a log has at a key is exact at the key's version
whole_exact : (log : List Entry) (key : Key) → IsExactContent log key (version log key) (whole_content log key)
whole_exact log (Obj id) =
    subst (λ l. IsExactContent log (Obj id) (version l (Obj id)) (ObjectIs (object l id))) (take_all (length log) log (omega arith))
    ((beginning_is_sealed log (length log)).object_is id (omega arith)).exact
whole_exact log (Assocs id1 atype) =
    let list : List Edge = edge_list log id1 atype in
    subst (λ es. IsExactContent log (Assocs id1 atype) (version log (Assocs id1 atype)) (ListIs (list_prefix es (length list))))
    (take_all (length list) list (omega arith))
    (subst (λ l. IsExactContent log (Assocs id1 atype) (version l (Assocs id1 atype)) (ListIs (front_of (length list) l id1 atype)))
    (take_all (length log) log (omega arith))
    ((beginning_is_sealed log (length log)).list_is id1 atype (length list) (omega arith)).exact)

-- a fill of what the whole log has answers as the log
pub filled_answers : (types : EdgeTypes) (log : List Entry) (query : Query) (fill : SealedItem) → IsFilled types log query fill
    → content_answer types fill.content query ≡ log_answer types log query
filled_answers types log query fill is =
    let at : ℕ = version log (query_key query) in
    let law = fronts_decide types query (whole_content log (query_key query)) in
    let exact = law.exact log at fill.content is.content_is (whole_exact log (query_key query)) in
    let whole : take (length log) log ≡ log = take_all (length log) log (omega arith) in
    (contents_answer.answers types log query at fill.content exact (law.decided fill.content is.content_is)).gives (length log)
    (ap (λ l. version l (query_key query)) whole)
    ∙ ap (λ l. log_answer types l query) whole
