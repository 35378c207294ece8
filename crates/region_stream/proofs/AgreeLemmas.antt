-- Two logs, compared entry by entry.
use Rattle.std.proofs.Common.{◌≡◌, ℕ, zero, suc, ◌<◌, ◌≤◌, List, [], ◌∷◌, length, refl, sym, ap, arith}
use Rattle.std.specs.Prelude.{None, Some, slice_get}
use Rattle.tao_base.specs.declared.entry.Entry.{Entry}
use Rattle.shard_log.specs.View.{Begins}
use Rattle.region_stream.specs.Agreeing.{AgreeBelow, DifferencesTell, DiffersFirst}

-- a log of which the other has each entry begins it
pub agree_begins : (log master : List Entry) (n : ℕ) → length log ≤ n → AgreeBelow log master n → Begins log master
agree_begins [] master n long agree = refl
agree_begins (e ∷ log) [] n long agree = let none : Some e ≡ None = agree 0 (omega (arith, long)) in absurd (cc)
agree_begins (e ∷ log) (m ∷ master) n long agree =
    let same : Some e ≡ Some m = agree 0 (omega (arith, long)) in
    let first : e ≡ m = cc in
    λ i. first i ∷ agree_begins log master (length log) (omega arith) (λ k lt. agree (suc k) (omega (arith, long, lt))) i

-- a log that begins the master's differs nowhere
begins_everywhere : (log master : List Entry) (n : ℕ) → Begins log master → n < length log → slice_get master n ≡ slice_get log n
begins_everywhere [] master n begins lt = absurd (omega (arith, lt))
begins_everywhere (e ∷ log) [] n begins lt = absurd (cc)
begins_everywhere (e ∷ log) (m ∷ master) zero begins lt = let same : e ≡ m = cc in ap (λ x. Some x) (sym same)
begins_everywhere (e ∷ log) (m ∷ master) (suc n) begins lt = let rest : Begins log master = cc in begins_everywhere log master n rest (omega (arith, lt))

pub differences_tell : DifferencesTell
differences_tell = record { tell = tell }
  where
    tell : (log master : List Entry) (position : ℕ) → Begins log master → DiffersFirst log master position → ⊥
    tell log master zero begins differs = let some = differs.some in absurd (omega (arith, some))
    tell log master (suc n) begins differs = differs.differs (begins_everywhere log master n begins (let within = differs.within in omega (arith, within)))
