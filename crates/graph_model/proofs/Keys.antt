-- Keys are told apart by their test.
use Rattle.std.proofs.Common.{◌≡◌, ◌≢◌, ℕ, true, false, refl, ap, inl, inr, arith}
use Rattle.std.proofs.lemmas.Bool.{cases_Bool}
use Rattle.std.proofs.lemmas.Bool.Decides.{nat_tests}
use Rattle.std.specs.Prelude.{◌==◌, ◌&&◌}
use Rattle.tao_base.specs.declared.id.AType.{AType}
use Rattle.tao_base.specs.declared.id.Key.{Key}
use Rattle.tao_base.specs.declared.id.Key.TheVariants.{Obj, List as Assocs}
use Rattle.graph_model.proofs.Lists.{eqb-same, eqb-self}
use Rattle.tao_base.specs.Keys.{same_key}

pub same_key-self : (k : Key) → same_key k k ≡ true
same_key-self (Obj id) = eqb-self id
same_key-self (Assocs id1 atype) = rw (eqb-self id1, eqb-self atype.0) refl

same_lists : (id1 : ℕ) (atype : AType) (other : ℕ) (type2 : AType) → (id1 == other && atype.0 == type2.0) ≡ true → Assocs id1 atype ≡ Assocs other type2
same_lists id1 atype other type2 h =
    let id : id1 ≡ other = grind (arith, nat_tests) in
    let place : atype.0 ≡ type2.0 = grind (arith, nat_tests) in
    λ i. Assocs (id i) (record { 0 = place i })

pub same_key-same : (j k : Key) → same_key j k ≡ true → j ≡ k
same_key-same (Obj id) (Obj other) h = ap Obj (eqb-same id other h)
same_key-same (Obj id) (Assocs other type2) h = absurd (cc)
same_key-same (Assocs id1 atype) (Obj other) h = absurd (cc)
same_key-same (Assocs id1 atype) (Assocs other type2) h = same_lists id1 atype other type2 h

pub same_key-apart : (j k : Key) → j ≢ k → same_key j k ≡ false
same_key-apart j k ne = elim (cases_Bool (same_key j k)) [ inl h ↦ absurd (ne (same_key-same j k h)) | inr h ↦ h ]
