-- The shards that a node serves, each of which it serves once.
use Rattle.std.proofs.Common.{◌≡◌, ℕ, zero, suc, ◌+◌, ◌<◌, Bool, false, List, [], ◌∷◌, Some, None, refl, sym, ◌∙◌, subst, inl, inr, arith}
use Rattle.std.proofs.lemmas.Bool.{cases_Bool, eq-eqb, eqb-true, ne_eqb}
use Rattle.std.specs.List.{AllByRecursion, range_with_len}
use Rattle.std.specs.Prelude.{◌==◌, filter, map}
use Rattle.graph_model.proofs.Later.{all_filter}
use Rattle.served_shards.specs.Served.{ServedShard, served_at}

-- each number is below all later ones
abbrev pub Rises : List ℕ → Type 0
Rises [] = Unit {0}
Rises (n ∷ ns) = AllByRecursion (λ m. n < m) ns × Rises ns

range_above : (n first count : ℕ) → n < first → AllByRecursion (λ m. n < m) (range_with_len first count)
range_above n first zero lt = tt
range_above n first (suc count) lt = (lt, range_above n (first + 1) count (omega (arith, lt)))

pub range_rises : (p : ℕ → Bool) (first count : ℕ) → Rises (filter p (range_with_len first count))
range_rises p first zero = tt
range_rises p first (suc count) = elim (cases_Bool (p first)) [
  | inl passes ↦ rw passes (
    all_filter (λ m. first < m) p (range_with_len (first + 1) count) (range_above first (first + 1) count (omega arith)),
    range_rises p (first + 1) count,
  )
  | inr fails ↦ rw fails (range_rises p (first + 1) count)
]

not_served : (n : ℕ) (served : List ServedShard) → AllByRecursion (λ m. n < m) (map (λ t. t.shard) served) → served_at n served ≡ None
not_served n [] above = refl
not_served n (t ∷ ts) above =
    let lt = above.0 in
    let other : (t.shard == n) ≡ false = ne_eqb t.shard n (λ same. omega arith) in
    rw other (not_served n ts above.1)

-- what is so of what is had of each shard is so of each served shard
pub each_served : (P : ℕ → ServedShard → Type 0) (served : List ServedShard) → Rises (map (λ t. t.shard) served)
    → ((shard : ℕ) (t : ServedShard) → served_at shard served ≡ Some t → P shard t) → AllByRecursion (λ t. P t.shard t) served
each_served P [] rises each = tt
each_served P (t ∷ ts) rises each = (
  each t.shard t (rw (eq-eqb t.shard t.shard refl) refl),
  each_served P ts rises.1 (λ shard u at. each shard u (elim (cases_Bool (t.shard == shard)) [
    | inl same ↦ (
        let none = not_served t.shard ts rises.0 in
        let there : served_at t.shard ts ≡ Some u = subst (λ n. served_at n ts ≡ Some u) (sym (eqb-true t.shard shard same)) at in
        absurd (let clash : None ≡ Some u = sym none ∙ there in cc))
    | inr other ↦ rw other at
  ])),
)
