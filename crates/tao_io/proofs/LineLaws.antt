-- Laws of the lines of bytes, and of what is held of a line.
use Rattle.std.proofs.Common.{◌≡◌, ℕ, ◌+◌, ◌-◌, ◌<◌, ◌≤◌, zero, suc, nat_lt, List, [], ◌∷◌, ◌++◌, Some, inl, inr, min, length, take, drop, get_or}
use Rattle.std.proofs.Common.{Bool, Option, None, true, false, refl, ap, not, ◌∙◌, sym, subst, arith, append_assoc, append-nil, length-take}
use Rattle.std.proofs.lemmas.Bool.{cases_Bool, true≢false, ltb-true, ltb-false, lt-ltb, eqb-true, false_from_ne_true, not-false, not-true}
use Rattle.std.proofs.lemmas.Grind.{get_or_default_zero}
use Rattle.std.proofs.lemmas.List.Elements.{All-nil}
use Rattle.std.proofs.lemmas.List.{take_all, take_min, take_rest, get_or-take, drop-take, drop-drop, drop_more, take-append-drop}
use Rattle.std.proofs.Math.Seq.{take-append-add}
use Rattle.std.proofs.lemmas.List.Sums.{fails_before_first, passes_at_first}
use Rattle.std.proofs.lemmas.List.Splits.{slice_split_none, slice_split_at}
use Rattle.std.specs.List.{position_or_len, position}
use Rattle.std.specs.Option.{is_some}
use Rattle.tao_io.specs.Lines.{is_line_end, lines_of}
use Rattle.memchr.specs.Find.{IsFirstByte, Nowhere, Passes, is_byte}
use Rattle.tao_io.specs.LineParts.{NoLineEnd, EndsAlone, EndsLineAt, HoldsLine, HoldsNoLine, StartsLineAt, held, TakesToEnd}

-- the front of a front, gone on with, is the front of the whole
take_take-append : (n : ℕ) (xs ys : List ℕ) → take n (take n xs ++ ys) ≡ take n (xs ++ ys)
take_take-append zero xs ys = refl
take_take-append (suc n) [] ys = refl
take_take-append (suc n) (x ∷ xs) ys = ap (λ l. x ∷ l) (take_take-append n xs ys)

-- what is held of a line that goes on needs no more than what was held of it
pub held-append : (line piece : List ℕ) → held (held line ++ piece) ≡ held (line ++ piece)
unfolding held
held-append line piece = take_take-append 1048577 line piece

-- so much of a piece is held as there is room for
pub held_with : (line piece : List ℕ) → length line ≤ 1048577 → line ++ take (min (1048577 - length line) (length piece)) piece ≡ held (line ++ piece)
unfolding held
held_with line piece small =
    let whole : length line + (1048577 - length line) ≡ 1048577 = omega arith in
    ap (λ rest. line ++ rest) (take_min (1048577 - length line) piece) ∙ sym (take-append-add line piece (1048577 - length line))
    ∙ ap (λ n. take n (line ++ piece)) whole

-- how much is held
pub length-held : (line : List ℕ) → length (held line) ≡ min 1048577 (length line)
unfolding held
length-held line = length-take 1048577 line

-- a short line is held whole
pub held-short : (line : List ℕ) → length line ≤ 1048577 → held line ≡ line
unfolding held
held-short line short = take_all 1048577 line short

-- no line ends before a place behind which none of its ends was found
NoLineEnd-before : (bytes : List ℕ) (n : ℕ) → Nowhere (Passes is_line_end bytes) 0 n → NoLineEnd (take n bytes)
NoLineEnd-before bytes n nowhere k d small =
    let below : k < n = omega (arith, length-take n bytes) in
    let within : k < length bytes = omega (arith, length-take n bytes) in
    ap is_line_end (get_or-take n bytes k d below ∙ get_or_default_zero bytes k d within) ∙ false_from_ne_true _ (nowhere k (omega arith) below)

-- the first byte 10 is the first end of a line
pub first-ends : (bytes : List ℕ) (found : Option ℕ) → IsFirstByte (is_byte 10) bytes found → EndsLineAt bytes found
first-ends bytes None none = λ k d small. ap is_line_end (get_or_default_zero bytes k d small) ∙ false_from_ne_true _ (none k (omega arith) small)
first-ends bytes (Some at) first =
    let within : at < length bytes = first.0.high in
    let ten : get_or bytes at 0 ≡ 10 = eqb-true _ _ first.1 in (
      within,
      NoLineEnd-before bytes at first.0.before,
      subst (λ b. bytes ≡ take at bytes ++ b ∷ drop (at + 1) bytes) ten (sym (take-append-drop at bytes) ∙ ap (λ l. take at bytes ++ l) (drop_more bytes at 0 within)),
    )

-- the first byte that isn't an end of a line starts one
pub position-starts : (bytes : List ℕ) → StartsLineAt bytes (position (λ byte. not (is_line_end byte)) bytes)
position-starts bytes =
    let starts : ℕ → Bool = λ byte. not (is_line_end byte) in
    let at = position_or_len starts bytes in
    elim (cases_Bool (nat_lt at (length bytes))) [
      | inl found ↦
          let within : at < length bytes = ltb-true at (length bytes) found in
          rw found (
            within,
            λ k d small.
                let below : k < at = omega (arith, length-take at bytes) in
                ap is_line_end (get_or-take at bytes k d below) ∙ not-false _ (fails_before_first starts bytes k d below),
            not-true _ (passes_at_first starts bytes 0 within),
          )
      | inr none ↦
          let past : length bytes ≤ at = ltb-false at (length bytes) none in
          rw none (λ k d small. let before : k < at = omega arith in not-false _ (fails_before_first starts bytes k d before))
    ]

-- a line starts at that place: it stands whole where an end of it follows, and else nothing behind it ends a line
module _ (bytes : List ℕ) (start : ℕ) (starts : StartsLineAt bytes (Some start)) where
  not_at_once : EndsLineAt (drop start bytes) (Some 0) → ⊥
  not_at_once ends =
      let ten : get_or bytes start 0 ≡ 10 = ap (λ l. get_or l 0 0) (sym (drop_more bytes start 0 starts.0) ∙ ends.2) in
      true≢false (sym (ap is_line_end ten) ∙ starts.2)

  some_line : (n : ℕ) → EndsLineAt (drop start bytes) (Some n) → 0 < length (take n (drop start bytes))
  some_line zero ends = absurd (not_at_once ends)
  some_line (suc n) ends = omega (arith, ends.0, length-take (suc n) (drop start bytes))

  -- what a slice from that place on has of ends
  rest_ends : (found : Option ℕ) → EndsLineAt (take (length bytes - start) (drop start bytes)) found → EndsLineAt (drop start bytes) found
  rest_ends found ends = subst (λ l. EndsLineAt l found) (take_rest bytes start) ends

  holds_whole : (found : Option ℕ) → EndsLineAt (drop start bytes) found → is_some found ≡ true → HoldsLine bytes
  holds_whole None none says = absurd (true≢false (sym says))
  holds_whole (Some n) ends says = (
    take start bytes,
    take n (drop start bytes),
    drop (n + 1) (drop start bytes),
    starts.1,
    ends.1,
    some_line n ends,
    sym (take-append-drop start bytes) ∙ ap (λ l. take start bytes ++ l) ends.2
        ∙ sym (append_assoc (take start bytes) (take n (drop start bytes)) (10 ∷ drop (n + 1) (drop start bytes))),
  )

  holds_part : (found : Option ℕ) → EndsLineAt (drop start bytes) found → is_some found ≡ false → HoldsNoLine bytes
  holds_part None none says = (take start bytes, drop start bytes, starts.1, none, sym (take-append-drop start bytes))
  holds_part (Some n) ends says = absurd (true≢false says)

  pub holds_line : (found : Option ℕ) → EndsLineAt (take (length bytes - start) (drop start bytes)) found → is_some found ≡ true → HoldsLine bytes
  holds_line found ends says = holds_whole found (rest_ends found ends) says

  pub holds_no_line : (found : Option ℕ) → EndsLineAt (take (length bytes - start) (drop start bytes)) found → is_some found ≡ false → HoldsNoLine bytes
  holds_no_line found ends says = holds_part found (rest_ends found ends) says

-- bytes that each end a line hold none
pub holds_none : (bytes : List ℕ) → EndsAlone bytes → HoldsNoLine bytes
holds_none bytes ends = (bytes, [], ends, All-nil (λ byte. is_line_end byte ≡ false), sym (append-nil bytes))

-- a line and its end, and then the lines of what follows
pub lines_of-ended : (line rest : List ℕ) → NoLineEnd line → 0 < length line → lines_of (line ++ 10 ∷ rest) ≡ line ∷ lines_of rest
unfolding lines_of
lines_of-ended line rest clear some = rw (slice_split_at is_line_end line 10 rest clear refl) (rw (lt-ltb 0 (length line) some) refl)

-- an end alone makes no line
pub lines_of-skip : (rest : List ℕ) → lines_of (10 ∷ rest) ≡ lines_of rest
unfolding lines_of
lines_of-skip rest = refl

-- the last line needs no end
pub lines_of-last : (line : List ℕ) → NoLineEnd line → 0 < length line → lines_of line ≡ line ∷ []
unfolding lines_of
lines_of-last line clear some = rw (slice_split_none is_line_end line clear) (rw (lt-ltb 0 (length line) some) refl)

-- no bytes have no lines
pub lines_of-nil : lines_of [] ≡ []
unfolding lines_of
lines_of-nil = refl

-- what is left of a stretch of a chunk after some of its bytes
pub drop-stretch : (chunk : List ℕ) (at end n : ℕ) → at + n ≤ end → drop n (take (end - at) (drop at chunk)) ≡ take (end - (at + n)) (drop (at + n) chunk)
drop-stretch chunk at end n within =
    let parts : end - at ≡ n + (end - (at + n)) = omega arith in
    ap (λ m. drop n (take m (drop at chunk))) parts ∙ drop-take n (end - (at + n)) (drop at chunk) ∙ ap (take (end - (at + n))) (drop-drop n at chunk)

-- a line went on by the bytes before its end, and what is left of the stretch follows
pub takes_to_end : (chunk line line' : List ℕ) (at end n : ℕ) → at + n < end → EndsLineAt (take (end - at) (drop at chunk)) (Some n)
    → line' ≡ held (line ++ take n (take (end - at) (drop at chunk)))
    → TakesToEnd (take (end - at) (drop at chunk)) (take (end - (at + (n + 1))) (drop (at + (n + 1)) chunk)) line line'
takes_to_end chunk line line' at end n within ends goes =
    let ahead = take (end - at) (drop at chunk) in
    let rest : drop (n + 1) ahead ≡ take (end - (at + (n + 1))) (drop (at + (n + 1)) chunk) = drop-stretch chunk at end (n + 1) (omega arith) in
    (take n ahead, ends.1, ends.2 ∙ ap (λ l. take n ahead ++ 10 ∷ l) rest, goes)
