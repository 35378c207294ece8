-- Laws of known bytes that are taken piece by piece.
use Rattle.std.proofs.Common.{◌≡◌, ℕ, ◌+◌, ◌-◌, ◌<◌, List, [], ◌++◌, Option, min, length, take, drop, ap, ◌∙◌, sym, subst, arith, length-append}
use Rattle.std.proofs.Common.{length-drop, take-append-drop}
use Rattle.std.proofs.lemmas.List.{take_rest, drop-drop, drop_all}
use Rattle.std.proofs.Math.Seq.{take-add, take-append-add}
use Rattle.std.specs.Io.KnownBytes.{Appends}
use Rattle.std.proofs.KnownBytes.{Appends-trans}
use Rattle.tao_io.specs.Sink.{AppendsFront}

-- a front of the bytes was taken, and then more of the rest
pub Appends-more : (a b c : Option (List ℕ)) (bytes : List ℕ) (at n : ℕ) → Appends a b (take at bytes)
    → Appends b c (take n (take (length bytes - at) (drop at bytes)))
    → Appends a c (take (at + n) bytes)
Appends-more a b c bytes at n front more =
    let both : take at bytes ++ take n (take (length bytes - at) (drop at bytes)) ≡ take (at + n) bytes =
    ap (λ rest. take at bytes ++ take n rest) (take_rest bytes at) ∙ sym (take-add at n bytes) in
    subst (Appends a c) both (Appends-trans a b c _ _ front more)

-- some bytes were taken, and then a front of others
pub AppendsFront-after : (a b c : Option (List ℕ)) (bytes more : List ℕ) → Appends a b bytes → AppendsFront b c more → AppendsFront a c (bytes ++ more)
AppendsFront-after a b c bytes more first front = (
  length bytes + front.0,
  omega (arith, front.1, length-append bytes more),
  subst (Appends a c) (sym (take-append-add bytes more front.0)) (Appends-trans a b c bytes (take front.0 more) first front.2),
)

-- the bytes that were copied are those at the place, and none are copied into room only where there are none
pub took_front : (bytes into : List ℕ) (at n : ℕ) → n ≡ min (length into) (length (take (length bytes - at) (drop at bytes)))
    → take n into ≡ take n (take (length bytes - at) (drop at bytes))
    → (drop at bytes ≡ take n into ++ drop (at + n) bytes) × (n ≡ 0 → 0 < length into → drop (at + n) bytes ≡ [])
took_front bytes into at n count front =
    let rest : take (length bytes - at) (drop at bytes) ≡ drop at bytes = take_rest bytes at in
    let same : take n into ≡ take n (drop at bytes) = front ∙ ap (take n) rest in (
      sym (take-append-drop n (drop at bytes)) ∙ cc (same, drop-drop n at bytes),
      λ none room.
          let fits : n ≡ min (length into) (length bytes - at) = count ∙ ap (λ l. min (length into) (length l)) rest
          ∙ ap (min (length into)) (length-drop at bytes) in
          drop_all (at + n) bytes (omega arith),
    )
