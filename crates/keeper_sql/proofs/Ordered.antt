-- Edges that stand in the order of lists, with one more before them.
use Rattle.std.proofs.Common.{◌≡◌, ◌≢◌, ◌≤◌, ◌<◌, ◌+◌, ◌∙◌, ℕ, Bool, List, [], ◌∷◌, true, false, arith, cond, ap, drop, get_or, length, refl, subst, suc, sym}
use Rattle.std.proofs.Math.Seq.{drop-cons}
use Rattle.std.specs.BTreeMap.{is_at}
use Rattle.std.specs.BTreeSet.{BTreeSet, Updates, contains}
use Rattle.std.specs.List.{AllByRecursion}
use Rattle.std.specs.Ordering.{nat_cmp}
use Rattle.std.specs.Prelude.{not}
use Rattle.graph_model.proofs.Lists.{newer_trans}
use Rattle.graph_model.specs.Edges.{IsNewestFirst, Without, is_newer}
use Rattle.keeper_sql.specs.MetIds.{IsMet}
use Rattle.tao_base.specs.declared.edge.Edge.{Edge}
use Rattle.tao_base.specs.declared.id.Id.{Id}

-- what stands before an edge stands before all behind it
before_later : (edge next : Edge) (xs : List Edge) → is_newer edge next ≡ true → AllByRecursion (λ x. is_newer next x ≡ true) xs
    → AllByRecursion (λ x. is_newer edge x ≡ true) xs
before_later edge next [] h all = tt
before_later edge next (x ∷ xs) h all = (newer_trans edge next x h all.0, before_later edge next xs h all.1)

pub before_all : (edge next : Edge) (xs : List Edge) → 1 ≤ length xs → next ≡ get_or xs 0 next → is_newer edge next ≡ true → IsNewestFirst xs
    → AllByRecursion (λ x. is_newer edge x ≡ true) xs
before_all edge next [] some is h newest = absurd (omega (arith, some))
before_all edge next (x ∷ xs) some is h newest =
    let front : is_newer edge x ≡ true = subst (λ (e : Edge). is_newer edge e ≡ true) is h in
    (front, before_later edge x xs front newest.0)

-- no edge goes to an id that wasn't met
none_to : (met : BTreeSet Id) (id2 : Id) (xs : List Edge) → contains nat_cmp met id2 ≡ false → AllByRecursion (λ e. contains nat_cmp met e.id2 ≡ true) xs
    → Without id2 xs
none_to met id2 [] none all = tt
none_to met id2 (x ∷ xs) none all =
    (λ same. (let both : true ≡ false = sym all.0 ∙ ap (contains nat_cmp met) same ∙ none in absurd (cc)), none_to met id2 xs none all.1)

pub new_id : (known : Bool) → not known ≡ true → known ≡ false
new_id true h = absurd (cc)
new_id false h = refl

either : (b c : Bool) → c ≡ true → cond b true c ≡ true
either true c h = refl
either false c h = h

-- what was met stays so
still_met : (id2 : Id) (old new : BTreeSet Id) → Updates nat_cmp old new id2 true → (xs : List Edge)
    → AllByRecursion (λ e. contains nat_cmp old e.id2 ≡ true) xs
    → AllByRecursion (λ e. contains nat_cmp new e.id2 ≡ true) xs
still_met id2 old new after [] all = tt
still_met id2 old new after (x ∷ xs) all =
    (after.0 x.id2 ∙ either (is_at (nat_cmp id2) x.id2) (contains nat_cmp old x.id2) all.0, still_met id2 old new after xs all.1)

-- one edge more, before those that stand in order, to an id that wasn't met
pub one_more : (edge : Edge) (later : List Edge) (old new : BTreeSet Id)
    → (IsNewestFirst later → AllByRecursion (λ e. is_newer edge e ≡ true) later)
    → contains nat_cmp old edge.id2 ≡ false
    → Updates nat_cmp old new edge.id2 true
    → IsMet old later
    → IsMet new (edge ∷ later)
one_more edge later old new before unmet after met = record {
  in_order = record {
    newest_first = (before met.in_order.newest_first, met.in_order.newest_first);
    distinct = (none_to old edge.id2 later unmet met.ids, met.in_order.distinct);
  };
  ids = (after.1, still_met edge.id2 old new after later met.ids);
}

-- before the last edge nothing was met
pub none_met : (met : BTreeSet Id) → IsMet met []
none_met met = record { in_order = record { newest_first = tt; distinct = tt }; ids = tt }

-- those from a place on are the edge there, and those behind it
pub met_front : (met : BTreeSet Id) (xs : List Edge) (at : ℕ) (edge : Edge) → at < length xs → edge ≡ get_or xs at edge
    → IsMet met (edge ∷ drop (at + 1) xs)
    → IsMet met (drop at xs)
met_front met xs at edge below is all =
    let one : suc at ≡ at + 1 = omega arith in
    let front : drop at xs ≡ edge ∷ drop (suc at) xs = subst (λ (e : Edge). drop at xs ≡ e ∷ drop (suc at) xs) (sym is) (drop-cons xs at edge below) in
    subst (IsMet met) (sym (front ∙ ap (λ (n : ℕ). edge ∷ drop n xs) one)) all
