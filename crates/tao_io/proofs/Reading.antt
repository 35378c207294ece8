-- A line in the making, while its bytes are read chunk by chunk.
use Rattle.std.proofs.Common.{◌≡◌, ℕ, ◌+◌, ◌<◌, ◌≤◌, false, nat_lt, List, [], ◌∷◌, ◌++◌, Option, Some, None, inl, inr, length, refl, ap, ◌∙◌, sym}
use Rattle.std.proofs.Common.{subst, arith, append_assoc, append-nil, length-append}
use Rattle.std.proofs.lemmas.Bool.{cases_Bool, ltb-true, ltb-false}
use Rattle.std.proofs.lemmas.List.Elements.{All-nil, All-append}
use Rattle.std.specs.Io.KnownBytes.{Keeps, IsAtEnd, prepend_known}
use Rattle.tao_io.specs.Lines.{is_line_end, lines_of, GivesLines, NextLineIs, UsesSome}
use Rattle.tao_io.specs.LineParts.{NoLineEnd, held, TakesAll, TakesToEnd, line_kind}
use Rattle.tao_io.proofs.LineLaws.{held-append, length-held, held-short, lines_of-ended, lines_of-skip, lines_of-last, lines_of-nil}

-- some bytes of a line were seen and no end of it, and its first ones are held; all that could be given was
-- `most` when it began, and is `still` now
pub record Reading (before now : Option (List ℕ)) (line : List ℕ) (most still : ℕ) : Type 0 where
  pub seen : List ℕ
  pub holds : line ≡ held seen
  pub clear : NoLineEnd seen
  pub same : GivesLines before (prepend_known seen now) []
  pub used : still + length seen ≤ most

held-nil : [] ≡ held []
held-nil = sym (held-short [] (omega arith))

-- nothing was seen at the start
pub Reading-start : (now : Option (List ℕ)) (most : ℕ) → Reading now now [] most most
Reading-start None most = record { seen = []; holds = held-nil; clear = All-nil _; same = tt; used = omega arith }
Reading-start (Some bytes) most = record { seen = []; holds = held-nil; clear = All-nil _; same = refl; used = omega arith }

same-kept : (before now now' : Option (List ℕ)) (seen : List ℕ) → GivesLines before (prepend_known seen now) [] → Keeps now now'
    → GivesLines before (prepend_known seen now') []
same-kept None now now' seen same kept = tt
same-kept (Some bytes) None now' seen same kept = absurd same
same-kept (Some bytes) (Some left) None seen same kept = absurd kept
same-kept (Some bytes) (Some left) (Some left') seen same kept = same ∙ ap (λ l. lines_of (seen ++ l)) (sym kept)

-- a chunk was taken
pub Reading-kept : (before now now' : Option (List ℕ)) (line : List ℕ) (most still still' : ℕ) → Reading before now line most still → Keeps now now'
    → still' ≤ still → Reading before now' line most still'
Reading-kept before now now' line most still still' r kept less =
    record { seen = r.seen; holds = r.holds; clear = r.clear; same = same-kept before now now' r.seen r.same kept; used = omega (arith, r.used) }

same-moved : (before left : Option (List ℕ)) (seen seen' ahead ahead' : List ℕ)
    → ((more : List ℕ) → lines_of (seen ++ (ahead ++ more)) ≡ lines_of (seen' ++ (ahead' ++ more)))
    → GivesLines before (prepend_known seen (prepend_known ahead left)) [] → GivesLines before (prepend_known seen' (prepend_known ahead' left)) []
same-moved None left seen seen' ahead ahead' moved same = tt
same-moved (Some bytes) None seen seen' ahead ahead' moved same = absurd same
same-moved (Some bytes) (Some left) seen seen' ahead ahead' moved same = same ∙ moved left

holds-more : (line line' seen piece : List ℕ) → line ≡ held seen → line' ≡ held (line ++ piece) → line' ≡ held (seen ++ piece)
holds-more line line' seen piece holds more = more ∙ ap (λ l. held (l ++ piece)) holds ∙ held-append seen piece

-- all that was ahead went into the line
pub Reading-all : (before left : Option (List ℕ)) (line line' ahead ahead' : List ℕ) (most rest : ℕ)
    → Reading before (prepend_known ahead left) line most (length ahead + rest) → TakesAll ahead ahead' line line'
    → Reading before (prepend_known ahead' left) line' most (length ahead' + rest)
Reading-all before left line line' ahead ahead' most rest r all =
    let none : length ahead' ≡ 0 = ap length all.1 in
    record {
      seen = r.seen ++ ahead;
      holds = holds-more line line' r.seen ahead r.holds all.2;
      clear = All-append (λ byte. is_line_end byte ≡ false) r.seen ahead r.clear all.0;
      same = same-moved before left r.seen (r.seen ++ ahead) ahead ahead'
          (λ more. ap lines_of (sym (append_assoc r.seen ahead more) ∙ ap (λ l. (r.seen ++ ahead) ++ (l ++ more)) (sym all.1))) r.same;
      used = omega (arith, r.used, none, length-append r.seen ahead);
    }

-- the bytes of a piece, a line's end and what follows
regroup : (seen piece ahead' more : List ℕ) → seen ++ ((piece ++ 10 ∷ ahead') ++ more) ≡ (seen ++ piece) ++ 10 ∷ (ahead' ++ more)
regroup seen piece ahead' more = ap (λ l. seen ++ l) (append_assoc piece (10 ∷ ahead') more) ∙ sym (append_assoc seen piece (10 ∷ (ahead' ++ more)))

held-none : (seen : List ℕ) → held seen ≡ [] → seen ≡ []
held-none [] e = refl
held-none (b ∷ seen) e = absurd (omega (arith, ap length e, length-held (b ∷ seen)))

-- an empty line ended
pub Reading-skip : (before left : Option (List ℕ)) (line line' ahead ahead' : List ℕ) (most rest : ℕ)
    → Reading before (prepend_known ahead left) line most (length ahead + rest) → TakesToEnd ahead ahead' line line'
    → line' ≡ [] → Reading before (prepend_known ahead' left) line' most (length ahead' + rest)
Reading-skip before left line line' ahead ahead' most rest r ends empty =
    let none : r.seen ++ ends.0 ≡ [] = held-none (r.seen ++ ends.0) (sym (holds-more line line' r.seen ends.0 r.holds ends.3) ∙ empty) in
    record {
      seen = [];
      holds = empty ∙ held-nil;
      clear = All-nil _;
      same = same-moved before left r.seen [] ahead ahead'
          (λ more. ap (λ l. lines_of (r.seen ++ (l ++ more))) ends.2
          ∙ ap lines_of (regroup r.seen ends.0 ahead' more ∙ ap (λ l. l ++ 10 ∷ (ahead' ++ more)) none) ∙ lines_of-skip (ahead' ++ more)) r.same;
      used = omega (arith, r.used, ap length ends.2, length-append ends.0 (10 ∷ ahead'));
    }

-- a line that was seen whole is told by what is held of it
kind-is : (before now : Option (List ℕ)) (line seen : List ℕ) → line ≡ held seen → 0 < length line → GivesLines before now (seen ∷ [])
    → NextLineIs (line_kind line) before now line
kind-is before now [] seen holds some gives = absurd (omega arith)
kind-is before now (b ∷ bs) seen holds some gives =
    let size : length (b ∷ bs) ≡ length (held seen) = ap length holds in
    elim (cases_Bool (nat_lt 1048576 (length (b ∷ bs)))) [
      | inl long ↦
          let more : 1048576 < length (b ∷ bs) = ltb-true 1048576 (length (b ∷ bs)) long in
          rw long (seen, omega (arith, size, more, length-held seen), gives)
      | inr short ↦
          let less : length (b ∷ bs) ≤ 1048576 = ltb-false 1048576 (length (b ∷ bs)) short in
          let within : length seen ≤ 1048577 = omega (arith, size, less, length-held seen) in
          rw short (less, subst (λ l. GivesLines before now (l ∷ [])) (sym (holds ∙ held-short seen within)) gives)
    ]

uses-some : (line : List ℕ) (most still : ℕ) → still < most → UsesSome (line_kind line) most still
uses-some [] most still less = tt
uses-some (b ∷ bs) most still less = elim (cases_Bool (nat_lt 1048576 (length (b ∷ bs)))) [ inl long ↦ rw long less | inr short ↦ rw short less ]

gives-one : (before left : Option (List ℕ)) (seen ahead ahead' whole : List ℕ)
    → ((more : List ℕ) → lines_of (seen ++ (ahead ++ more)) ≡ whole ∷ lines_of (ahead' ++ more))
    → GivesLines before (prepend_known seen (prepend_known ahead left)) [] → GivesLines before (prepend_known ahead' left) (whole ∷ [])
gives-one None left seen ahead ahead' whole one same = tt
gives-one (Some bytes) None seen ahead ahead' whole one same = absurd same
gives-one (Some bytes) (Some left) seen ahead ahead' whole one same = same ∙ one left

held-some : (seen : List ℕ) → 0 < length (held seen) → 0 < length seen
held-some seen some = omega (arith, some, length-held seen)

-- a line ended
pub Reading-line : (before left : Option (List ℕ)) (line line' ahead ahead' : List ℕ) (most rest : ℕ)
    → Reading before (prepend_known ahead left) line most (length ahead + rest) → TakesToEnd ahead ahead' line line'
    → 0 < length line' → NextLineIs (line_kind line') before (prepend_known ahead' left) line' × UsesSome (line_kind line') most (length ahead' + rest)
Reading-line before left line line' ahead ahead' most rest r ends some =
    let whole = r.seen ++ ends.0 in
    let holds : line' ≡ held whole = holds-more line line' r.seen ends.0 r.holds ends.3 in
    let clear : NoLineEnd whole = All-append (λ byte. is_line_end byte ≡ false) r.seen ends.0 r.clear ends.1 in
    let some_seen : 0 < length whole = held-some whole (subst (λ l. 0 < length l) holds some) in (
      kind-is before (prepend_known ahead' left) line' whole holds some
          (gives-one before left r.seen ahead ahead' whole
          (λ more. ap (λ l. lines_of (r.seen ++ (l ++ more))) ends.2 ∙ ap lines_of (regroup r.seen ends.0 ahead' more)
          ∙ lines_of-ended whole (ahead' ++ more) clear some_seen) r.same),
      uses-some line' most (length ahead' + rest) (omega (arith, r.used, ap length ends.2, length-append ends.0 (10 ∷ ahead'))),
    )

gives-last : (before now : Option (List ℕ)) (seen : List ℕ) → NoLineEnd seen → 0 < length seen → IsAtEnd now → GivesLines before (prepend_known seen now) []
    → GivesLines before now (seen ∷ [])
gives-last None now seen clear some end same = tt
gives-last (Some bytes) None seen clear some end same = absurd same
gives-last (Some bytes) (Some left) seen clear some end same =
    same ∙ ap (λ l. lines_of (seen ++ l)) end ∙ ap lines_of (append-nil seen) ∙ lines_of-last seen clear some
    ∙ ap (λ l. seen ∷ l) (sym (ap lines_of end ∙ lines_of-nil))

gives-none : (before now : Option (List ℕ)) (seen : List ℕ) → seen ≡ [] → GivesLines before (prepend_known seen now) [] → GivesLines before now []
gives-none None now seen empty same = tt
gives-none (Some bytes) None seen empty same = absurd same
gives-none (Some bytes) (Some left) seen empty same = same ∙ ap (λ l. lines_of (l ++ left)) empty

-- the source ended
pub Reading-end : (before now : Option (List ℕ)) (line : List ℕ) (most still : ℕ) → Reading before now line most still → IsAtEnd now
    → NextLineIs (line_kind line) before now line × UsesSome (line_kind line) most still
Reading-end before now [] most still r end = ((end, gives-none before now r.seen (held-none r.seen (sym r.holds)) r.same), tt)
Reading-end before now (b ∷ bs) most still r end =
    let some : 0 < length (b ∷ bs) = omega arith in
    let some_seen : 0 < length r.seen = held-some r.seen (subst (λ l. 0 < length l) r.holds some) in (
      kind-is before now (b ∷ bs) r.seen r.holds some (gives-last before now r.seen r.clear some_seen end r.same),
      uses-some (b ∷ bs) most still (omega (arith, r.used, some_seen)),
    )
