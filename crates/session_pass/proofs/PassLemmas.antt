-- What stays true of a pass.
use Rattle.std.proofs.Common.{◌≡◌, ℕ, zero, suc, Bool, true, false, List, [], ◌∷◌, Option, Some, None, IfSome, IsSomeAnd, MatchOption, max}
use Rattle.std.proofs.Common.{slice_get, slice_index_or, slice_set, refl, sym, ap, subst, ◌∙◌, arith}
use Rattle.std.proofs.lemmas.Bool.{false≢true}
use Rattle.tao_base.proofs.SameKeys.{same_key-Decides}
use Rattle.tao_base.specs.Keys.{key_shard, same_key}
use Rattle.tao_base.specs.declared.id.Key.{Key}
use Rattle.shard_log.proofs.GrowthLemmas.{versions_stay}
use Rattle.shard_log.specs.View.{Grows, View, longer_view}
use Rattle.session_pass.proofs.FloorLemmas.{learns}
use Rattle.session_pass.specs.Floors.{floor_at, with_learnt}
use Rattle.session_pass.specs.Passes.{HasReached, IsNoteOf, IsPass, MeetsNote, ReachesIn, SeenPass, after_meeting, learnt}

-- what is reached in a view is reached in each that it grew into
reaches_on : (key : Key) (at : ℕ) (v w : View) → Grows v w → ReachesIn v key at → ReachesIn w key at
reaches_on key at v w grows reaches told =
    let before = reaches (ap (λ l. l.told) (sym grows.log_is) ∙ told) in let rises = versions_stay.version_rises v w key grows in omega (arith, before, rises)

-- a fact of the view at each place holds on where one place is set
set_holds : (F : View → Type 0) (Z : Type 0) (notes : List View) (s k : ℕ) (own w : View) → slice_get notes s ≡ Some own → (k ≡ s → F own → F w)
    → MatchOption (slice_get notes k) Z F → MatchOption (slice_get (slice_set notes s w) k) Z F
set_holds F Z [] s k own w at rises holds = absurd cc
set_holds F Z (v ∷ vs) zero zero own w at rises holds = rises refl (subst (IfSome' F) at holds)
  where
    IfSome' : (View → Type 0) → Option View → Type 0
    IfSome' F o = IfSome o F
set_holds F Z (v ∷ vs) zero (suc k) own w at rises holds = holds
set_holds F Z (v ∷ vs) (suc s) zero own w at rises holds = holds
set_holds F Z (v ∷ vs) (suc s) (suc k) own w at rises holds = set_holds F Z vs s k own w at (λ e. rises (ap suc e)) holds

-- the view at the place that was set
set_there : (notes : List View) (s : ℕ) (own w : View) → slice_get notes s ≡ Some own → slice_get (slice_set notes s w) s ≡ Some w
set_there [] s own w at = absurd cc
set_there (v ∷ vs) zero own w at = refl
set_there (v ∷ vs) (suc s) own w at = set_there vs s own w at

index_at : (notes : List View) (s : ℕ) (own d : View) → slice_get notes s ≡ Some own → slice_index_or notes s d ≡ own
index_at [] s own d at = absurd cc
index_at (v ∷ vs) zero own d at = subst (λ o. IfSome o (λ x. v ≡ x)) at refl
index_at (v ∷ vs) (suc s) own d at = index_at vs s own d at

-- the pass's own view of a shard that is configured
pub record Own (shard : ℕ) (note : View) (notes : List View) : Type 0 where
  pub own : View
  pub at : slice_get notes shard ≡ Some own
  pub grows : Grows own (longer_view own note)
  pub from_note : Grows note (longer_view own note)

pub own_of : (shard : ℕ) (note : View) (notes : List View) → IsNoteOf shard note notes → MeetsNote shard note notes → Own shard note notes
own_of shard note notes = by (slice_get notes shard) refl
  where
    by : (o : Option View) → slice_get notes shard ≡ o → IsSomeAnd o (λ own. own.log ≡ note.log)
        → IfSome o (λ own. Grows own (longer_view own note) × Grows note (longer_view own note)) → Own shard note notes
    by None e known meets = absurd known
    by (Some own) e known meets = record { own = own; at = e; grows = meets.0; from_note = meets.1 }

module _ (shard : ℕ) (note : View) (notes : List View) (o : Own shard note notes) where
  met : after_meeting shard note notes ≡ slice_set notes shard (longer_view o.own note)
  met = ap (λ v. slice_set notes shard (longer_view v note)) (index_at notes shard o.own note o.at)

  -- what a key had reached it has reached
  pub reached_on : (key : Key) (at : ℕ) → HasReached notes key at → HasReached (after_meeting shard note notes) key at
  reached_on key at = rw met (set_holds (λ v. ReachesIn v key at) (at ≡ 0) notes shard (key_shard key) o.own (longer_view o.own note) o.at
      (λ e. reaches_on key at o.own (longer_view o.own note) o.grows))

  -- and what it has reached in the note
  pub reached_by_note : (key : Key) (at : ℕ) → key_shard key ≡ shard → ReachesIn note key at → HasReached (after_meeting shard note notes) key at
  reached_by_note key at here reaches =
      rw met (rw here (rw (set_there notes shard o.own (longer_view o.own note) o.at) (reaches_on key at note (longer_view o.own note) o.from_note reaches)))

-- of two versions that a key has reached it has reached the greater
pub both_reached : (notes : List View) (key : Key) (m n : ℕ) → HasReached notes key m → HasReached notes key n → HasReached notes key (max m n)
both_reached notes key m n = by (slice_get notes (key_shard key))
  where
    by : (o : Option View) → MatchOption o (m ≡ 0) (λ v. ReachesIn v key m) → MatchOption o (n ≡ 0) (λ v. ReachesIn v key n)
        → MatchOption o (max m n ≡ 0) (λ v. ReachesIn v key (max m n))
    by None a b = omega (arith, a, b)
    by (Some v) a b = λ told. let p = a told in let q = b told in omega (arith, p, q)

pub sees : (pass : SeenPass) (shard : ℕ) (note : View) → IsNoteOf shard note pass.notes → MeetsNote shard note pass.notes → IsPass pass
    → IsPass (record pass { notes = after_meeting shard note pass.notes })
sees pass shard note known meets keeps = record {
  reached = λ key. reached_on shard note pass.notes (own_of shard note pass.notes known meets) key
      (floor_at pass.floors key) (keeps.reached key);
}

pub learnt_pass : (pass : SeenPass) (key : Key) (at : ℕ) (note : View) (spare : ℕ) → IsNoteOf (key_shard key) note pass.notes
    → MeetsNote (key_shard key) note pass.notes
    → ReachesIn note key at → IsPass pass → IsPass (learnt key at note spare pass)
learnt_pass pass key at note spare known meets reaches keeps = record { reached = λ k. by k (same_key k key) refl }
  where
    o : Own (key_shard key) note pass.notes
    o = own_of (key_shard key) note pass.notes known meets

    by : (k : Key) (b : Bool) → same_key k key ≡ b → HasReached (after_meeting (key_shard key) note pass.notes) k (floor_at (with_learnt key at pass.floors) k)
    by k true e = rw ((same_key-Decides k key).0 e) (rw ((learns pass.floors key at).here) (both_reached _ key (floor_at pass.floors key) at
        (reached_on (key_shard key) note pass.notes o key (floor_at pass.floors key) (keeps.reached key))
        (reached_by_note (key_shard key) note pass.notes o key at refl reaches)))
    by k false e = rw ((learns pass.floors key at).others k (λ same. absurd (false≢true (sym e ∙ (same_key-Decides k key).1 same))))
        (reached_on (key_shard key) note pass.notes o k (floor_at pass.floors k) (keeps.reached k))
