-- What is so of the entries of a sound log: each origin comes once, and the touches are few, and of the log's shard.
use Rattle.std.proofs.Common.{◌≡◌, ◌≢◌, ◌<◌, ◌≤◌, ◌∷◌, [], ℕ, zero, suc, List, Some, length, length-append, take, ap, arith, inl, inr, ◌∙◌, subst, sym}
use Rattle.std.proofs.Math.Logic.{∥∥₁_elim}
use Rattle.std.proofs.Props.{props}
use Rattle.std.proofs.lemmas.Bool.{cases_order}
use Rattle.std.proofs.lemmas.List.Elements.{recursion_from_All}
use Rattle.std.specs.List.{AllByRecursion}
use Rattle.std.specs.Prelude.{All, slice_get}
use Rattle.core_model.proofs.Places.{one_some}
use Rattle.graph_model.specs.Log.{entry_at}
use Rattle.graph_model.specs.Soundness.{AreInOrder, IsOneEnd, IsSound, IsSoundOf, KeepsEnds}
use Rattle.plain_promise.specs.Promise.{HasEachOnce}
use Rattle.tao_base.specs.EdgeTypes.{EdgeTypes}
use Rattle.tao_base.specs.Keys.{key_shard}
use Rattle.tao_base.specs.declared.entry.Entry.{Entry}
use Rattle.tao_base.specs.declared.entry.Touch.{Touch}

-- what holds of each element of a list, or of a beginning of it, holds of the one at a place
at_place : {X : Type 0} (P : X → Type 0) (xs : List X) (n : ℕ) (x : X) → AllByRecursion P xs → slice_get xs n ≡ Some x → P x
at_place P [] n x all at = absurd (cc)
at_place P (y ∷ ys) zero x all at = subst P (one_some y x at) all.0
at_place P (y ∷ ys) (suc n) x all at = at_place P ys n x all.1 at

front_at : {X : Type 0} (P : X → Type 0) (xs : List X) (m n : ℕ) (x : X) → AllByRecursion P (take m xs) → slice_get xs n ≡ Some x → n < m → P x
front_at P [] m n x all at lt = absurd (cc)
front_at P (y ∷ ys) zero n x all at lt = absurd (omega (arith, lt))
front_at P (y ∷ ys) (suc m) zero x all at lt = subst P (one_some y x at) all.0
front_at P (y ∷ ys) (suc m) (suc n) x all at lt = front_at P ys m n x all.1 at (omega (arith, lt))

-- ---- origins

-- no entry has the origin of an earlier one
later_differs : (log : List Entry) → IsSound log → (m n : ℕ) (d e : Entry) → slice_get log m ≡ Some d → slice_get log n ≡ Some e → d.origin ≡ e.origin
    → m < n → ⊥
later_differs log sound m n d e at here same lt =
    front_at (λ old. old.origin ≢ e.origin) log n m d (recursion_from_All (λ old. old.origin ≢ e.origin) (take n log) (sound n e here).new_origin) at lt same

once_at : (log : List Entry) → IsSound log → (first second : ℕ) (d e : Entry) → entry_at log first ≡ Some d → entry_at log second ≡ Some e
    → d.origin ≡ e.origin → first ≡ second
once_at log sound zero second d e at here same = absurd (cc)
once_at log sound (suc m) zero d e at here same = absurd (cc)
once_at log sound (suc m) (suc n) d e at here same = elim (cases_order m n) [
  | inl is ↦ ap suc is
  | inr apart ↦ elim apart [
    | inl lt ↦ absurd (later_differs log sound m n d e at here same lt)
    | inr gt ↦ absurd (later_differs log sound n m e d here at (sym same) gt)
  ]
]

pub each_once : (log : List Entry) → IsSound log → HasEachOnce log
each_once log sound = record { once = once_at log sound }

-- ---- touches

end_few : (ts : List Touch) → IsOneEnd ts → length ts ≤ 2
end_few [] h = omega arith
end_few (t ∷ []) h = omega arith
end_few (s ∷ t ∷ []) h = omega arith
end_few (a ∷ b ∷ c ∷ ts) h = absurd h

order_few : (ts : List Touch) → AreInOrder ts → length ts ≤ 8
order_few ts h =
    let first = end_few h.first h.first_end in
    let second = end_few h.second h.second_end in
    let long = ap length h.joined ∙ length-append h.first h.second in
    omega (arith, first, second, long)

-- an entry's touches are few, and lie on its shard
pub record HasFewTouches (shard : ℕ) (e : Entry) : Type 0 where
  pub here : All (λ t. key_shard t.key ≡ shard) e.touches
  pub few : length e.touches ≤ 8

pub entry_few : (types : EdgeTypes) (shard : ℕ) (log : List Entry) → IsSoundOf types shard log → (position : ℕ) (e : Entry) → entry_at log position ≡ Some e
    → HasFewTouches shard e
entry_few types shard log sound zero e at = absurd (cc)
entry_few types shard log sound (suc n) e at = record {
  here = (at_place (KeepsEnds types shard) log n e (recursion_from_All (KeepsEnds types shard) log sound.ends) at).here;
  few = ∥∥₁_elim (sound.sound n e at).ordered (hlevel props) (order_few e.touches);
}
