-- Beginnings of lists of entries.
use Rattle.std.proofs.Common.{◌≡◌, ◌≤◌, Bool, true, false, List, ◌++◌, length, take, drop, refl, sym, ap, ◌∙◌, arith}
use Rattle.std.proofs.lemmas.Bool.{leb-true, leb-false}
use Rattle.std.proofs.lemmas.List.{length-take, take-append-drop, take-append-le, take-take, take_all}
use Rattle.std.specs.Prelude.{if◌then◌else◌, nat_le}
use Rattle.tao_base.specs.declared.entry.Entry.{Entry}
use Rattle.shard_log.specs.View.{Begins, longer}

pub begins-self : (xs : List Entry) → Begins xs xs
begins-self xs = sym (take_all (length xs) xs (omega arith))

-- a beginning isn't longer than the whole
pub begins-length : (xs ys : List Entry) → Begins xs ys → length xs ≤ length ys
begins-length xs ys p = let cut = length-take (length xs) ys in let same = ap length p in omega arith

pub begins-trans : (xs ys zs : List Entry) → Begins xs ys → Begins ys zs → Begins xs zs
begins-trans xs ys zs p q = p ∙ (ap (take (length xs)) q ∙ take-take (length xs) (length ys) zs (begins-length xs ys p))

pub begins-append : (xs ys zs : List Entry) → Begins xs ys → Begins xs (ys ++ zs)
begins-append xs ys zs p = p ∙ sym (take-append-le (length xs) ys zs (begins-length xs ys p))

-- of two beginnings of one list the shorter begins the longer
pub begins-shorter : (xs ys zs : List Entry) → Begins xs zs → Begins ys zs → length xs ≤ length ys → Begins xs ys
begins-shorter xs ys zs p q le = p ∙ (sym (take-take (length xs) (length ys) zs le) ∙ ap (take (length xs)) (sym q))

-- a beginning that is as long as the whole is the whole
pub begins-whole : (xs ys : List Entry) → Begins xs ys → length ys ≤ length xs → xs ≡ ys
begins-whole xs ys p le = p ∙ take_all (length xs) ys le

pub longer_cases : (P : List Entry → Type 0) (xs ys : List Entry) → (length xs ≤ length ys → P ys) → (length ys ≤ length xs → P xs) → P (longer xs ys)
longer_cases P xs ys in_first in_second = by_test (nat_le (length xs) (length ys)) refl
  where
    by_test : (b : Bool) → nat_le (length xs) (length ys) ≡ b → P (if b then ys else xs)
    by_test true e = in_first (leb-true (length xs) (length ys) e)
    by_test false e = in_second (let lt = leb-false (length xs) (length ys) e in omega arith)

-- the longer of two beginnings of one list begins it too, and both begin the longer
pub longer_begins : (xs ys zs : List Entry) → Begins xs zs → Begins ys zs → Begins (longer xs ys) zs × Begins xs (longer xs ys) × Begins ys (longer xs ys)
longer_begins xs ys zs p q = longer_cases (λ ls. Begins ls zs × Begins xs ls × Begins ys ls) xs ys
    (λ le. (q, begins-shorter xs ys zs p q le, begins-self ys))
    (λ le. (p, begins-self xs, begins-shorter ys xs zs q p le))

-- a list that the other begins is the longer
pub longer_whole : (xs ys : List Entry) → Begins xs ys → longer xs ys ≡ ys
longer_whole xs ys p = longer_cases (λ ls. ls ≡ ys) xs ys (λ le. refl) (begins-whole xs ys p)

-- the whole list is the beginning and the rest
pub begins-rest : (xs ys : List Entry) → Begins xs ys → xs ++ drop (length xs) ys ≡ ys
begins-rest xs ys p = ap (λ front. front ++ drop (length xs) ys) p ∙ take-append-drop (length xs) ys
