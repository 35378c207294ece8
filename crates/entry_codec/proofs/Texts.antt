-- What a test of a text says of a field, and the last of the pairs.
use Rattle.std.proofs.Common.{◌≡◌, ℕ, suc, ◌-◌, ◌≤◌, Bool, false, List, [], ◌∷◌, length, get_or, Option, Some, None, Result, Ok, Err, refl, sym, ap}
use Rattle.std.proofs.Common.{◌∙◌, inl, inr, arith}
use Rattle.std.specs.Cmp.Lexicographic.{slice_cmp}
use Rattle.std.specs.List.{last_or}
use Rattle.std.specs.Ordering.{is_lt, nat_cmp}
use Rattle.std.specs.Str.{IsUtf8, is_utf8}
use Rattle.std.proofs.lemmas.Bool.{cases_Bool}
use Rattle.std.proofs.lemmas.Str.{IsUtf8-from_is_utf8, is_utf8-from_IsUtf8}
use Rattle.tao_base.specs.declared.data.Pair.{Pair}
use Rattle.entry_codec.specs.Fields.{Rest, kept_if}
use Rattle.entry_codec.specs.Reading.{is_next_key}

pub text_kept : (place : ℕ) (read : Result (List ℕ × Rest) ℕ) (bytes text : List ℕ) (next : Rest) → read ≡ Ok (bytes, next) → text ≡ bytes → IsUtf8 bytes
    → kept_if (λ r. is_utf8 r.0) place read ≡ Ok (text, next)
text_kept place read bytes text next is same utf8 = rw (is, same, is_utf8-from_IsUtf8 bytes utf8) refl

not_utf8 : (bytes : List ℕ) → (IsUtf8 bytes → ⊥) → is_utf8 bytes ≡ false
not_utf8 bytes broken = elim (cases_Bool (is_utf8 bytes)) [ inl e ↦ absurd (broken (IsUtf8-from_is_utf8 bytes e)) | inr e ↦ e ]

pub text_refused : (place at : ℕ) (read : Result (List ℕ × Rest) ℕ) (bytes : List ℕ) (next : Rest) → read ≡ Ok (bytes, next) → (IsUtf8 bytes → ⊥) → at ≡ place
    → kept_if (λ r. is_utf8 r.0) place read ≡ Err at
text_refused place at read bytes next is broken same = rw (is, not_utf8 bytes broken, same) refl

last_is : (o : Option Pair) (pairs : List Pair) (p : Pair) → 1 ≤ length pairs → p ≡ get_or pairs (length pairs - 1) p → last_or o pairs ≡ Some p
last_is o [] p some is = absurd (omega arith)
last_is o (q ∷ []) p some is = ap Some (sym is)
last_is o (q ∷ r ∷ pairs) p some is = last_is (Some q) (r ∷ pairs) p (omega arith) (is ∙ here)
  where
    here : get_or (q ∷ r ∷ pairs) (length (q ∷ r ∷ pairs) - 1) p ≡ get_or (r ∷ pairs) (length (r ∷ pairs) - 1) p
    here = let one : length (q ∷ r ∷ pairs) - 1 ≡ suc (length (r ∷ pairs) - 1) = omega arith in rw one refl

pub above_last : (pairs : List Pair) (p : Pair) (key : List ℕ) (above : Bool) → 1 ≤ length pairs → p ≡ get_or pairs (length pairs - 1) p
    → above ≡ is_lt (slice_cmp nat_cmp p.key key) → above ≡ is_next_key pairs key
above_last pairs p key above some is tells = rw (last_is None pairs p some is) tells
