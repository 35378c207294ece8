-- Lists of what a function gives of each shard.
use Rattle.std.proofs.Common.{◌≡◌, ◌≢◌, ℕ, zero, suc, ◌+◌, ◌<◌, ◌≤◌, List, [], ◌∷◌, length, get_or, refl, sym, ap, ◌∙◌, arith}
use Rattle.std.specs.Prelude.{slice_set}
use Rattle.tao_base.specs.declared.entry.Entry.{Entry}
use Rattle.master_tables.specs.Masters.{each_shard}

pub each_length : (f : ℕ → List Entry) (from n : ℕ) → length (each_shard f from n) ≡ n
each_length f from zero = refl
each_length f from (suc n) = let e = each_length f (from + 1) n in omega (arith, e)

pub each_at : (f : ℕ → List Entry) (from n i : ℕ) → i < n → get_or (each_shard f from n) i [] ≡ f (from + i)
each_at f from zero i lt = absurd (omega (arith, lt))
each_at f from (suc n) zero lt = ap f (let e : from ≡ from + 0 = omega arith in e)
each_at f from (suc n) (suc i) lt = each_at f (from + 1) n i (omega (arith, lt)) ∙ ap f (let e : from + 1 + i ≡ from + suc i = omega arith in e)

pub each_same : (f g : ℕ → List Entry) (from n : ℕ) → ((i : ℕ) → from ≤ i → g i ≡ f i) → each_shard g from n ≡ each_shard f from n
each_same f g from zero same = refl
each_same f g from (suc n) same = λ k. same from (omega arith) k ∷ each_same f g (from + 1) n (λ i le. same i (omega (arith, le))) k

pub each_set : (f g : ℕ → List Entry) (from n s : ℕ) → s < n → ((i : ℕ) → i ≢ from + s → g i ≡ f i)
    → each_shard g from n ≡ slice_set (each_shard f from n) s (g (from + s))
each_set f g from zero s lt same = absurd (omega (arith, lt))
each_set f g from (suc n) zero lt same =
    let here : from ≡ from + 0 = omega arith in
    λ k. g (here k) ∷ each_same f g (from + 1) n (λ i le. same i (λ e. absurd (omega (arith, le, e)))) k
each_set f g from (suc n) (suc s) lt same =
    let there : from + 1 + s ≡ from + suc s = omega arith in
    (λ k. same from (λ e. absurd (omega (arith, e))) k ∷ each_set f g (from + 1) n s (omega (arith, lt)) (λ i ne. same i (λ e. ne (e ∙ sym there))) k)
    ∙ ap (λ i. f from ∷ slice_set (each_shard f (from + 1) n) s (g i)) there
