-- The index of a log with one more entry.
use Rattle.std.proofs.Common.{◌≡◌, ◌∙◌, ℕ, ◌+◌, ◌<◌, ◌≤◌, List, [], ◌∷◌, ◌++◌, ap, arith, get_or, length, subst, sym, take}
use Rattle.std.proofs.lemmas.List.{length-take, take_all, take_more}
use Rattle.tao_base.specs.declared.entry.Entry.{Entry}
use Rattle.log_index.specs.IndexOf.{IsIndexOf}
use Rattle.log_index.specs.declared.index.Index.{Index}

pub index_none : (log : List Entry) (index : Index) → IsIndexOf [] index → IsIndexOf (take 0 log) index
index_none [] index is = is
index_none (e ∷ log) index is = is

pub index_more : (log : List Entry) (place : ℕ) (e : Entry) (old new : Index) → place < length log → e ≡ get_or log place e
    → ((before : List Entry) → place + 1 ≡ length before + 1 → IsIndexOf before old → IsIndexOf (before ++ e ∷ []) new)
    → IsIndexOf (take place log) old → IsIndexOf (take (place + 1) log) new
index_more log place e old new lt is step was =
    let whole : length (take place log) ≡ place = omega (arith, length-take place log) in
    subst (λ entries. IsIndexOf entries new) (ap (λ x. take place log ++ x ∷ []) is ∙ sym (take_more log place e lt))
    (step (take place log) (omega (arith, whole)) was)

pub index_all : (log : List Entry) (place : ℕ) (index : Index) → length log ≤ place → IsIndexOf (take place log) index → IsIndexOf log index
index_all log place index le is = subst (λ entries. IsIndexOf entries index) (take_all place log le) is
