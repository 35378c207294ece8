-- What a deciding prefix answers.
use Rattle.std.proofs.Common.{◌≡◌, ℕ, ◌&&◌, List, [], ◌∷◌, refl, ap, inl, inr, Option, Result, Ok, Err, length, sym, take, ◌∙◌}
use Rattle.std.proofs.lemmas.Bool.{cases_Bool}
use Rattle.std.specs.Prelude.{filter, ◌==◌, IfOk}
use Rattle.std.specs.List.{list_any}
use Rattle.tao_base.specs.declared.edge.Edge.{Edge}
use Rattle.tao_base.specs.EdgeTypes.{EdgeTypes}
use Rattle.tao_base.specs.declared.entry.Entry.{Entry}
use Rattle.tao_base.specs.declared.id.AType.{AType}
use Rattle.tao_base.specs.declared.id.Id.{Id}
use Rattle.tao_base.specs.declared.id.Key.{Key}
use Rattle.tao_base.specs.declared.id.Key.TheVariants.{Obj, List as Assocs}
use Rattle.tao_base.specs.declared.query.Query.{Query}
use Rattle.tao_base.specs.declared.query.Query.TheVariants.{ObjGet, AssocGet, AssocCount, AssocRange, AssocTimeRange}
use Rattle.graph_model.proofs.Decided.{decides_rightly}
use Rattle.graph_model.proofs.Lists.{in_order_list}
use Rattle.graph_model.specs.Answers.{answer as log_answer, at_least, at_most, list_answer, to_ids, within}
use Rattle.tao_base.specs.Queries.{query_key}
use Rattle.graph_model.specs.Edges.{edge_list}
use Rattle.graph_model.specs.Log.{changes_of}
use Rattle.graph_model.specs.Prefixes.{decides}
use Rattle.list_prefix.specs.ListPrefix.{ListPrefix}
use Rattle.list_prefix.specs.Spans.{is_wanted}
use Rattle.list_prefix.specs.Verdicts.{AnswersEachList, AnswersLog, verdict_of}
use Rattle.list_prefix.specs.declared.prefix.Verdict.{Verdict}
use Rattle.list_prefix.specs.declared.prefix.Verdict.TheVariants.{Decided, Undecided}

-- the edges to the ids within the times, by one test
pub got_is : (ids : List ℕ) (low high : Option ℕ) (xs : List Edge)
    → filter (is_wanted ids low high) xs ≡ within low high (to_ids ids xs)
got_is ids low high [] = refl
got_is ids low high (x ∷ xs) = let rest = got_is ids low high xs in elim (cases_Bool (list_any (λ id. id == x.id2) ids)) [
  | inl asked ↦ elim (cases_Bool (at_least low x.time && at_most high x.time)) [
    | inl timely ↦ rw (timely, asked) (rw timely (ap (λ l. x ∷ l) rest))
    | inr off ↦ rw (off, asked) (rw off rest)
  ]
  | inr off ↦ elim (cases_Bool (at_least low x.time && at_most high x.time)) [ inl timely ↦ rw (timely, off) rest | inr early ↦ rw (early, off) rest ]
]

pub answers_each : (p : ListPrefix) (query : Query) (bound : ℕ) (verdict : Verdict) → verdict ≡ verdict_of p query bound → AnswersEachList p query bound verdict
answers_each p query bound verdict is = elim (cases_Bool (decides bound p.edges p.total query)) [
  | inl is_so ↦ let e : verdict ≡ Decided (list_answer bound p.edges p.total query) = rw is_so at is in rw e (decides_rightly bound p.edges p.total query is_so)
  | inr is_not ↦ let e : verdict ≡ Undecided = rw is_not at is in rw e tt
]

pub each_if_ok : {E : Type 0} (p : ListPrefix) (query : Query) (bound : ℕ) (r : Result Verdict E)
    → IfOk r (λ verdict. verdict ≡ verdict_of p query bound) → IfOk r (AnswersEachList p query bound)
each_if_ok p query bound (Ok verdict) is = answers_each p query bound verdict is
each_if_ok p query bound (Err e) is = tt

-- the list that a key names
abbrev list_at : List Entry → Key → List Edge
list_at log (Assocs id1 atype) = edge_list log id1 atype
list_at log (Obj id) = []

abbrev bound_at : EdgeTypes → Key → ℕ
bound_at types (Assocs id1 atype) = types.bound atype
bound_at types (Obj id) = 0

-- what a log answers to a query of a list is what the list answers
log_answer_is : (types : EdgeTypes) (log : List Entry) (query : Query) (id1 : Id) (atype : AType) → query_key query ≡ Assocs id1 atype
    → log_answer types log query ≡ list_answer (bound_at types (query_key query)) (list_at log (query_key query)) (length (list_at log (query_key query))) query
log_answer_is types log (ObjGet id) id1 atype key = absurd (cc)
log_answer_is types log (AssocGet other a ids high low) id1 atype key = refl
log_answer_is types log (AssocCount other a) id1 atype key = refl
log_answer_is types log (AssocRange other a pos limit) id1 atype key = refl
log_answer_is types log (AssocTimeRange other a high low limit) id1 atype key = refl

answers_log : (p : ListPrefix) (query : Query) (bound : ℕ) (verdict : Verdict) → AnswersEachList p query bound verdict → AnswersLog p query bound verdict
answers_log p query bound (Decided answer) each = λ types log id1 atype v n key same exact at.
    let part : List Entry = take n log in
    let list : List Edge = edge_list part id1 atype in
    let is = each list (exact.gives n at) (in_order_list (changes_of part (Assocs id1 atype))) in
    is ∙ ap (λ b. list_answer b list (length list) query) (sym same)
    ∙ sym (log_answer_is types part query id1 atype key ∙ ap (λ k. list_answer (bound_at types k) (list_at part k) (length (list_at part k)) query) key)
answers_log p query bound Undecided each = tt

pub log_if_ok : {E : Type 0} (p : ListPrefix) (query : Query) (bound : ℕ) (r : Result Verdict E)
    → IfOk r (λ verdict. verdict ≡ verdict_of p query bound) → IfOk r (AnswersLog p query bound)
log_if_ok p query bound (Ok verdict) is = answers_log p query bound verdict (answers_each p query bound verdict is)
log_if_ok p query bound (Err e) is = tt
