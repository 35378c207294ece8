-- In a sound log each origin comes once.
use Rattle.std.proofs.Common.{◌≡◌, ◌≢◌, ◌<◌, ◌∷◌, [], ℕ, zero, suc, List, Some, take, ap, arith, inl, inr, subst, sym}
use Rattle.std.proofs.lemmas.Bool.{cases_order}
use Rattle.std.proofs.lemmas.List.Elements.{recursion_from_All}
use Rattle.std.specs.List.{AllByRecursion}
use Rattle.std.specs.Prelude.{slice_get}
use Rattle.core_model.proofs.Places.{one_some}
use Rattle.graph_model.specs.Log.{entry_at}
use Rattle.graph_model.specs.Soundness.{IsSound}
use Rattle.tao_base.specs.declared.entry.Entry.{Entry}

-- what holds of each element of a beginning of a list holds of the one at a place in it
front_at : {X : Type 0} (P : X → Type 0) (xs : List X) (m n : ℕ) (x : X) → AllByRecursion P (take m xs) → slice_get xs n ≡ Some x → n < m → P x
front_at P [] m n x all at lt = absurd (cc)
front_at P (y ∷ ys) zero n x all at lt = absurd (omega (arith, lt))
front_at P (y ∷ ys) (suc m) zero x all at lt = subst P (one_some y x at) all.0
front_at P (y ∷ ys) (suc m) (suc n) x all at lt = front_at P ys m n x all.1 at (omega (arith, lt))

-- no entry has the origin of an earlier one
later_differs : (log : List Entry) → IsSound log → (m n : ℕ) (d e : Entry) → slice_get log m ≡ Some d → slice_get log n ≡ Some e → d.origin ≡ e.origin
    → m < n → ⊥
later_differs log sound m n d e at here same lt =
    front_at (λ old. old.origin ≢ e.origin) log n m d (recursion_from_All (λ old. old.origin ≢ e.origin) (take n log) (sound n e here).new_origin) at lt same

pub once_at : (log : List Entry) → IsSound log → (first second : ℕ) (d e : Entry) → entry_at log first ≡ Some d → entry_at log second ≡ Some e
    → d.origin ≡ e.origin → first ≡ second
once_at log sound zero second d e at here same = absurd (cc)
once_at log sound (suc m) zero d e at here same = absurd (cc)
once_at log sound (suc m) (suc n) d e at here same = elim (cases_order m n) [
  | inl is ↦ ap suc is
  | inr apart ↦ elim apart [
    | inl lt ↦ absurd (later_differs log sound m n d e at here same lt)
    | inr gt ↦ absurd (later_differs log sound n m e d here at (sym same) gt)
  ]
]
