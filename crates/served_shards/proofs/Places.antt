-- The shard at a place is the served one of its number.
use Rattle.std.proofs.Common.{◌≡◌, ℕ, zero, suc, ◌<◌, ◌≤◌, true, false, List, [], ◌∷◌, length, set, get_or, Option, Some, None, Result, Ok, Err}
use Rattle.std.proofs.Common.{IfOk, refl, sym, ◌∙◌, ap, subst, arith, inl, inr}
use Rattle.std.proofs.lemmas.Bool.{cases_Bool, cases_lt, lt-ltb}
use Rattle.std.proofs.lemmas.List.Quantifiers.{position-Some}
use Rattle.std.specs.List.{position_or_len}
use Rattle.std.specs.Prelude.{◌==◌, IfSome, is_some, map, position}
use Rattle.shard_log.specs.graph_model.Soundness.{IsSound}
use Rattle.shard_log.specs.graph_model.Told.{WhereTold}
use Rattle.shard_log.specs.View.{LogName, View, Grows, longer_view}
use Rattle.served_shards.specs.Fields.{is_of_shard, served_of}
use Rattle.served_shards.specs.Meetings.{Meets, MeetsAt}
use Rattle.served_shards.specs.Served.{ServedShard, changed_at, log_at, served_at, view_at}
use Rattle.served_shards.specs.declared.shards.Shard.{Shard}

found_in : (n : ℕ) (ss : List Shard) (i : ℕ) (d : Shard) → i < length ss → is_of_shard n (get_or ss i d) ≡ true
    → ((k : ℕ) → k < i → is_of_shard n (get_or ss k d) ≡ false)
    → served_at n (map served_of ss) ≡ Some (served_of (get_or ss i d))
found_in n [] i d h on before = absurd (omega arith)
found_in n (s ∷ ss) zero d h on before = rw on refl
found_in n (s ∷ ss) (suc i) d h on before = rw (before zero (omega arith)) (found_in n ss i d (omega arith) on (λ k l. before (suc k) (omega arith)))

-- where a shard stands, the node serves it
pub served_found : (n : ℕ) (ss : List Shard) (i : ℕ) (d : Shard) → position (is_of_shard n) ss ≡ Some i
    → served_at n (map served_of ss) ≡ Some (served_of (get_or ss i d))
served_found n ss i d found = let p = position-Some (is_of_shard n) ss i d found in found_in n ss i d p.0 p.1 p.2

set_in : (n : ℕ) (f : ServedShard → ServedShard) (ss : List Shard) (i : ℕ) (d new : Shard) → served_of new ≡ f (served_of (get_or ss i d)) → i < length ss
    → is_of_shard n (get_or ss i d) ≡ true
    → ((k : ℕ) → k < i → is_of_shard n (get_or ss k d) ≡ false) → map served_of (set ss i new) ≡ changed_at n f (map served_of ss)
set_in n f [] i d new is h on before = absurd (omega arith)
set_in n f (s ∷ ss) zero d new is h on before = rw on (ap (λ x. x ∷ map served_of ss) is)
set_in n f (s ∷ ss) (suc i) d new is h on before =
    rw (before zero (omega arith)) (ap (λ l. served_of s ∷ l) (set_in n f ss i d new is (omega arith) on (λ k l. before (suc k) (omega arith))))

-- a shard written at the place changes what is had of it
pub set_found : (n : ℕ) (f : ServedShard → ServedShard) (ss : List Shard) (i : ℕ) (d new : Shard) → position (is_of_shard n) ss ≡ Some i
    → served_of new ≡ f (served_of (get_or ss i d))
    → map served_of (set ss i new) ≡ changed_at n f (map served_of ss)
set_found n f ss i d new found is = let p = position-Some (is_of_shard n) ss i d found in set_in n f ss i d new is p.0 p.1 p.2

past : (n : ℕ) (ss : List Shard) → length ss ≤ position_or_len (is_of_shard n) ss → served_at n (map served_of ss) ≡ None
past n [] h = refl
past n (s ∷ ss) h = elim (cases_Bool (is_of_shard n s)) [
  | inl t ↦ (let none = rw t at h in absurd (omega (arith, none)))
  | inr f ↦ (let more = rw f at h in rw f (past n ss (omega (arith, more))))
]

-- where none stands, it isn't served
pub served_none : (n : ℕ) (ss : List Shard) → position (is_of_shard n) ss ≡ None → served_at n (map served_of ss) ≡ None
served_none n ss none = elim (cases_lt (position_or_len (is_of_shard n) ss) (length ss)) [
  | inl found ↦ (let some = rw (lt-ltb _ _ found) at none in absurd (cc))
  | inr beyond ↦ past n ss beyond
]

pub unchanged : (n : ℕ) (f : ServedShard → ServedShard) (ss : List ServedShard) → served_at n ss ≡ None → changed_at n f ss ≡ ss
unchanged n f [] h = refl
unchanged n f (s ∷ ss) h = elim (cases_Bool (s.shard == n)) [
  | inl t ↦ absurd (let some : Some s ≡ None = rw t at h in cc)
  | inr g ↦ rw g (ap (λ xs. s ∷ xs) (unchanged n f ss (rw g at h)))
]

pub changed_same : (n : ℕ) (f : ServedShard → ServedShard) (ss : List ServedShard) → ((s : ServedShard) → f s ≡ s) → changed_at n f ss ≡ ss
changed_same n f [] same = refl
changed_same n f (s ∷ ss) same = elim (cases_Bool (s.shard == n)) [
  | inl t ↦ rw t (ap (λ x. x ∷ ss) (same s))
  | inr g ↦ rw g (ap (λ xs. s ∷ xs) (changed_same n f ss same))
]

pub log_found : (n : ℕ) (ss : List Shard) (i : ℕ) (d : Shard) (log : LogName) → position (is_of_shard n) ss ≡ Some i
    → IfSome (log_at n (map served_of ss)) (λ other. other ≡ log) → (get_or ss i d).note.log ≡ log
log_found n ss i d log found same = rw (served_found n ss i d found) at same

pub view_found : (n : ℕ) (ss : List Shard) (i : ℕ) (d : Shard) (view : View) → position (is_of_shard n) ss ≡ Some i → view ≡ (get_or ss i d).note
    → view_at n (map served_of ss) ≡ Some view
view_found n ss i d view found is = rw (served_found n ss i d found) (ap Some (sym is))

pub meets_found : (n : ℕ) (ss : List Shard) (i : ℕ) (d : Shard) (note : View) → position (is_of_shard n) ss ≡ Some i → Meets (served_of (get_or ss i d)) note
    → MeetsAt n note (map served_of ss)
meets_found n ss i d note found met = record {
  meets = λ s at.
      let e : Some (served_of (get_or ss i d)) ≡ Some s = sym (served_found n ss i d found) ∙ at in
      let same : served_of (get_or ss i d) ≡ s = cc in
      subst (λ s. Meets s note) same met;
}

pub meets_none : (n : ℕ) (ss : List Shard) (note : View) → position (is_of_shard n) ss ≡ None → MeetsAt n note (map served_of ss)
meets_none n ss note none = record { meets = λ s at. absurd (let e : None ≡ Some s = sym (served_none n ss none) ∙ at in cc) }

pub serves_is : (n : ℕ) (ss : List Shard) → is_some (position (is_of_shard n) ss) ≡ is_some (served_at n (map served_of ss))
serves_is n [] = refl
serves_is n (s ∷ ss) = by_place (position (is_of_shard n) (s ∷ ss)) refl
  where
    by_place : (o : Option ℕ) → position (is_of_shard n) (s ∷ ss) ≡ o → is_some o ≡ is_some (served_at n (map served_of (s ∷ ss)))
    by_place None none = rw (served_none n (s ∷ ss) none) refl
    by_place (Some i) found = rw (served_found n (s ∷ ss) i s found) refl

-- a met note's view is the longer one
pub met_once : (s : ServedShard) (note w : View) → w ≡ longer_view s.view note → Grows s.view w → Grows note w → WhereTold w.log.told (IsSound w.entries)
    → Meets s note
met_once s note w is grows from sound = record {
  grows = subst (Grows s.view) is grows;
  from_note = subst (Grows note) is from;
  sound = λ told. subst (λ v. IsSound v.entries) is (sound (ap (λ v. v.log.told) is ∙ told));
}

pub split_views : {E : Type 0} (n : ℕ) (ss : List Shard) (i : ℕ) (d : Shard) (r : Result View E) → position (is_of_shard n) ss ≡ Some i
    → IfOk r (λ note. note ≡ (get_or ss i d).note)
    → IfOk r (λ note. view_at n (map served_of ss) ≡ Some note)
split_views n ss i d (Ok note) found is = view_found n ss i d note found is
split_views n ss i d (Err e) found is = tt
