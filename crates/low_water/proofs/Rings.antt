-- Lemmas on the ring of bits and the marks that it shows.
use Rattle.std.proofs.Common.{◌≡◌, ◌≢◌, ℕ, ◌+◌, ◌-◌, ◌%◌, ◌<◌, ◌≤◌, Bool, true, false, List, [], get_or, sym, ◌∙◌, ap, arith, inl, inr}
use Rattle.std.specs.Prelude.{max}
use Rattle.std.proofs.lemmas.Bool.{cases_lt}
use Rattle.low_water.specs.Marks.{marks, IsWindow, inserted, marks_from, top_of, with_mark}
use Rattle.low_water.specs.RingWords.{bit, ahead_of, IsClear, IsClearAbove, PutsBit, Absorbs}
use Rattle.low_water.proofs.AddedMarks.{near_is}
use Rattle.low_water.proofs.Positions.{none_of, each_fails, rising_past, near-filter, filter-inserted, filter-raised, fold_max-filter}

-- two positions of one window with one place are one
pub same_slot : (p q : ℕ) → p % 1024 ≡ q % 1024 → p ≤ q → q < p + 1024 → p ≡ q
same_slot p q e l h = omega arith

apart_slots : (p q : ℕ) → p ≢ q → p < q + 1024 → q < p + 1024 → p % 1024 ≢ q % 1024
apart_slots p q ne l h e = elim (cases_lt p q) [
  | inl below ↦ ne (same_slot p q e (omega arith) h)
  | inr over ↦ ne (sym (same_slot q p (sym e) over l))
]

-- the bits of a window around the one that is put stay
pub others_stay : (old new : List Bool) (p q : ℕ) (b : Bool) → PutsBit old new p b → p ≢ q → p < q + 1024 → q < p + 1024 → bit new q ≡ bit old q
others_stay old new p q b puts ne l h = puts.others q (apart_slots p q ne l h)

pub bit_around : (ring : List Bool) (q : ℕ) → bit ring (q + 1024) ≡ bit ring q
bit_around ring q = let e : (q + 1024) % 1024 ≡ q % 1024 = omega arith in ap (λ i. get_or ring i false) e

-- a position of the window stands at each place
pub clear_all : (ring : List Bool) (low : ℕ) → IsClearAbove ring low low → IsClear ring
clear_all ring low off q =
    let p : ℕ = low + 1 + (q % 1024 + 1024 - (low + 1) % 1024) % 1024 in
    let same : p % 1024 ≡ q % 1024 = omega arith in
    ap (λ i. get_or ring i false) (sym same) ∙ off p (omega arith) (omega arith)

pub ahead_of_clear : (ring : List Bool) (low : ℕ) → IsClear ring → ahead_of ring low ≡ []
unfolding ahead_of
ahead_of_clear ring low off = none_of (bit ring) (low + 1) 1024 (λ q l h. off q)

-- no position ahead: no bit is set
pub clear_from : (ring : List Bool) (low : ℕ) → ahead_of ring low ≡ [] → IsClear ring
unfolding ahead_of
clear_from ring low none = clear_all ring low (λ q l h. each_fails (bit ring) (low + 1) 1024 none q (omega arith) (omega arith))

pub ring_window : (ring : List Bool) (low : ℕ) → bit ring (low + 1) ≡ false → IsWindow (marks low (ahead_of ring low))
unfolding ahead_of
ring_window ring low next = record {
  rising = rising_past (bit ring) (low + 1) 1024 next;
  near = near-filter (bit ring) (low + 1024) (low + 1) 1024 (omega arith);
}

pub ring_top : (ring : List Bool) (low top : ℕ) → low ≤ top → top ≤ low + 1024 → (low < top → bit ring top ≡ true) → IsClearAbove ring low top
    → top ≡ top_of (marks low (ahead_of ring low))
unfolding ahead_of
ring_top ring low top low_top near top_set above =
    sym (fold_max-filter (bit ring) low top (low + 1) 1024 low_top (omega arith) (λ l. omega arith) (λ l. top_set (omega arith))
    (λ q l h. above q l (omega arith)))

-- a bit of the window that is set is a position put in
ahead_of_put : (ring with : List Bool) (low p : ℕ) → PutsBit ring with p true → low < p → p ≤ low + 1024 → inserted p (ahead_of ring low) ≡ ahead_of with low
unfolding ahead_of
ahead_of_put ring with low p puts over near =
    filter-inserted (bit ring) (bit with) p (low + 1) 1024 (omega arith) (omega arith) puts.put
    (λ q l h ne. others_stay ring with p q true puts (λ e. ne (sym e)) (omega arith) (omega arith))

-- the bits that were cleared raise the low-water mark
ahead_of_absorbed : (old new : List Bool) (low top at : ℕ) → top ≤ low + 1024 → Absorbs old new low top at
    → marks_from low (ahead_of old low) ≡ marks at (ahead_of new at)
unfolding ahead_of
ahead_of_absorbed old new low top at near absorbs =
    filter-raised (bit old) (bit new) low at 1024 1024 absorbs.from (omega (arith, absorbs.to))
    (omega (arith, absorbs.from)) absorbs.gone absorbs.rest absorbs.fresh absorbs.next

module _ (ring with new : List Bool) (low top at p : ℕ) (over : low < p) (near : p ≤ low + 1024) (low_top : low ≤ top) (top_near : top ≤ low + 1024)
    (puts : PutsBit ring with p true) (absorbs : Absorbs with new low (max top p) at) where
  pub ring_mark : marks at (ahead_of new at) ≡ with_mark p (marks low (ahead_of ring low))
  ring_mark =
      sym (near_is (marks low (ahead_of ring low)) p over near ∙ ap (marks_from low) (ahead_of_put ring with low p puts over near)
      ∙ ahead_of_absorbed with new low (max top p) at (omega arith) absorbs)

  -- the bit of the new top is set where it is above the low-water mark
  pub top_set_after : (low < top → bit ring top ≡ true) → at < max top p → bit new (max top p) ≡ true
  top_set_after was_set l = absorbs.rest (max top p) l (omega arith) ∙ elim (cases_lt p top) [
    | inl below ↦
        let e : max top p ≡ top = omega arith in
        rw e (others_stay ring with p top true puts (λ is. omega arith) (omega arith) (omega arith) ∙ was_set (omega (arith, absorbs.from)))
    | inr above ↦ let e : max top p ≡ p = omega arith in rw e puts.put
  ]

  -- those above the new top are clear
  pub above_after : IsClearAbove ring low top → IsClearAbove new at (max top p)
  above_after was_clear q l h = elim (cases_lt (low + 1024) q) [
    | inl past ↦ absorbs.fresh q past h
    | inr close ↦ absorbs.rest q (omega (arith, absorbs.to)) close ∙ others_stay ring with p q true puts (λ is. omega arith) (omega arith) (omega arith)
        ∙ was_clear q (omega arith) close
  ]
