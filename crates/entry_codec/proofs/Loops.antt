-- One more pair or touch is read, as in a loop over their number.
use Rattle.std.proofs.Common.{◌≡◌, ℕ, suc, ◌+◌, ◌-◌, ◌<◌, List, [], ◌∷◌, ◌++◌, Result, Ok, refl, sym, ap, subst, ◌∙◌, arith}
use Rattle.tao_base.specs.declared.data.Pair.{Pair}
use Rattle.tao_base.specs.declared.entry.Touch.{Touch}
use Rattle.entry_codec.specs.declared.refusal.EntryRefusal.{EntryRefusal}
use Rattle.entry_codec.specs.declared.refusal.EntryRefusal.TheVariants.{BadEntry, OutOfMemory}
use Rattle.entry_codec.specs.Fields.{Rest, Field, and_then}
use Rattle.entry_codec.specs.Gives.{IsRefused}
use Rattle.entry_codec.specs.Reading.{spelled_pair, spelled_pairs, spelled_touch, spelled_touches}

-- a refused field refuses what goes on from it
refuses : {X Y : Type 0} (refusal : EntryRefusal) (read : Result (X × Rest) ℕ) (next : X → Field Y) → IsRefused refusal read
    → IsRefused refusal (and_then read next)
refuses (BadEntry at) read next refused = rw refused refl
refuses OutOfMemory read next refused = tt

pub pair_refused : (refusal : EntryRefusal) (end count i : ℕ) (earlier : List Pair) (rest : Rest) (all : Result (List Pair × Rest) ℕ) → i < count
    → IsRefused refusal (spelled_pair end earlier rest)
    → spelled_pairs end (count - i) earlier rest ≡ all → IsRefused refusal all
pair_refused refusal end count i earlier rest all lt refused so_far =
    let k : count - i ≡ suc (count - (i + 1)) = omega arith in
    subst (IsRefused refusal) (sym (ap (λ n. spelled_pairs end n earlier rest) k) ∙ so_far)
    (refuses refusal (spelled_pair end earlier rest) (λ pair. spelled_pairs end (count - (i + 1)) (earlier ++ pair ∷ [])) refused)

pub pair_more : (end count i : ℕ) (earlier new : List Pair) (pair : Pair) (rest next : Rest) (all : Result (List Pair × Rest) ℕ) → i < count
    → spelled_pair end earlier rest ≡ Ok (pair, next)
    → spelled_pairs end (count - i) earlier rest ≡ all → new ≡ earlier ++ pair ∷ [] → spelled_pairs end (count - (i + 1)) new next ≡ all
pair_more end count i earlier new pair rest next all lt read so_far is =
    let k : count - i ≡ suc (count - (i + 1)) = omega arith in
    rw is (sym (ap (λ r. and_then r (λ pair. spelled_pairs end (count - (i + 1)) (earlier ++ pair ∷ []))) read)
    ∙ sym (ap (λ n. spelled_pairs end n earlier rest) k) ∙ so_far)

pub touch_refused : (refusal : EntryRefusal) (count i : ℕ) (earlier : List Touch) (rest : Rest) (all : Result (List Touch × Rest) ℕ) → i < count
    → IsRefused refusal (spelled_touch earlier rest)
    → spelled_touches (count - i) earlier rest ≡ all → IsRefused refusal all
touch_refused refusal count i earlier rest all lt refused so_far =
    let k : count - i ≡ suc (count - (i + 1)) = omega arith in
    subst (IsRefused refusal) (sym (ap (λ n. spelled_touches n earlier rest) k) ∙ so_far)
    (refuses refusal (spelled_touch earlier rest) (λ touch. spelled_touches (count - (i + 1)) (earlier ++ touch ∷ [])) refused)

pub touch_more : (count i : ℕ) (earlier new : List Touch) (touch : Touch) (rest next : Rest) (all : Result (List Touch × Rest) ℕ) → i < count
    → spelled_touch earlier rest ≡ Ok (touch, next)
    → spelled_touches (count - i) earlier rest ≡ all → new ≡ earlier ++ touch ∷ [] → spelled_touches (count - (i + 1)) new next ≡ all
touch_more count i earlier new touch rest next all lt read so_far is =
    let k : count - i ≡ suc (count - (i + 1)) = omega arith in
    rw is (sym (ap (λ r. and_then r (λ touch. spelled_touches (count - (i + 1)) (earlier ++ touch ∷ []))) read)
    ∙ sym (ap (λ n. spelled_touches n earlier rest) k) ∙ so_far)
