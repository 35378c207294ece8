-- What the passes of a thread have seen, as one of them goes on.
use Rattle.std.proofs.Common.{◌≡◌, ℕ, zero, suc, ◌<◌, List, [], ◌∷◌, Some, length, sym, subst}
use Rattle.std.specs.Prelude.{All, IsSomeAnd, Option, get_or, slice_get, slice_set}
use Rattle.std.specs.List.{AllByRecursion}
use Rattle.std.proofs.lemmas.List.Elements.{All-from_recursion, recursion_from_All}
use Rattle.std.proofs.lemmas.Option.{slice_get-get_or}
use Rattle.session_pass.specs.Passes.{SeenPass}
use Rattle.shard_log.proofs.Beginnings.{begins-trans}
use Rattle.shard_log.specs.View.{Begins, Grows}
use Rattle.shared_tiers.specs.locked_nodes.Passes.{PassGoesOn}
use Rattle.tao_base.specs.declared.entry.Entry.{Entry}
use Rattle.load_shares.proofs.Additions.{some_parts}
use Rattle.load_shares.specs.Seen.{AllBegin, BeginLogs, SeeOn}

pub some_and : {X : Type 0} (P : X → Type 0) (o : Option X) (x : X) → o ≡ Some x → P x → IsSomeAnd o P
some_and P o x at p = subst (λ q. IsSomeAnd q P) (sym at) p

-- logs that begin with what a pass sees begin with what it saw before
pub saw : (old new : SeenPass) → PassGoesOn old new → (logs : List (List Entry)) → BeginLogs logs new.notes → BeginLogs logs old.notes
saw old new on logs begin shard note at =
    let grown = some_parts (Grows note) (slice_get new.notes shard) (on.notes shard note at) in
    let log = some_parts (Begins grown.0.entries) (slice_get logs shard) (begin shard grown.0 grown.1) in
    some_and (Begins note.entries) (slice_get logs shard) log.0 log.1 (begins-trans note.entries grown.0.entries log.0 grown.2.begins log.2)

-- ---- one pass of several

module _ (P : SeenPass → Type 0) (old new : SeenPass) where
  same_of : (p : SeenPass) → Some p ≡ Some old → p ≡ old
  same_of p is = cc

  was : (passes : List SeenPass) (place : ℕ) → slice_get passes place ≡ Some old → (P new → P old)
      → AllByRecursion P (slice_set passes place new) → AllByRecursion P passes
  was [] place at back all = absurd (cc)
  was (p ∷ ps) zero at back all = (subst P (sym (same_of p at)) (back all.0), all.1)
  was (p ∷ ps) (suc k) at back all = (all.0, was ps k at back all.1)

  here : (passes : List SeenPass) (place : ℕ) → slice_get passes place ≡ Some old → AllByRecursion P (slice_set passes place new) → P new
  here [] place at all = absurd (cc)
  here (p ∷ ps) zero at all = all.0
  here (p ∷ ps) (suc k) at all = here ps k at all.1

  changed : (passes : List SeenPass) (place : ℕ) → slice_get passes place ≡ Some old → P new → AllByRecursion P passes
      → AllByRecursion P (slice_set passes place new)
  changed [] place at so all = all
  changed (p ∷ ps) zero at so all = (so, all.1)
  changed (p ∷ ps) (suc k) at so all = (all.0, changed ps k at so all.1)

-- the passes see on where one of them goes on
pub see_on : (passes : List SeenPass) (place : ℕ) (old new : SeenPass) → slice_get passes place ≡ Some old → PassGoesOn old new
    → SeeOn passes (slice_set passes place new)
see_on passes place old new at on logs all =
    let P : SeenPass → Type 0 = λ pass. BeginLogs logs pass.notes in
    All-from_recursion P passes (was P old new passes place at (saw old new on logs) (recursion_from_All P (slice_set passes place new) all))

-- logs that begin with what all passes see begin with what the one sees
pub begin_here : (passes : List SeenPass) (place : ℕ) (old new : SeenPass) → slice_get passes place ≡ Some old → (logs : List (List Entry))
    → AllBegin logs (slice_set passes place new) → BeginLogs logs new.notes
begin_here passes place old new at logs all =
    let P : SeenPass → Type 0 = λ pass. BeginLogs logs pass.notes in
    here P old new passes place at (recursion_from_All P (slice_set passes place new) all)

-- what is so of each pass stays so where it is so of the one
pub still_each : (P : SeenPass → Type 0) (passes : List SeenPass) (place : ℕ) (old new : SeenPass) → slice_get passes place ≡ Some old → P new
    → All P passes → All P (slice_set passes place new)
still_each P passes place old new at so all =
    All-from_recursion P (slice_set passes place new) (changed P old new passes place at so (recursion_from_All P passes all))

-- ---- by its place

pub see_at : (passes : List SeenPass) (place : ℕ) (d new : SeenPass) → place < length passes → PassGoesOn (get_or passes place d) new
    → SeeOn passes (slice_set passes place new)
see_at passes place d new inside on = see_on passes place (get_or passes place d) new (slice_get-get_or passes place d inside) on

pub begin_at : (passes : List SeenPass) (place : ℕ) (new : SeenPass) → place < length passes → (logs : List (List Entry))
    → AllBegin logs (slice_set passes place new) → BeginLogs logs new.notes
begin_at passes place new inside logs all =
    begin_here passes place (get_or passes place new) new (slice_get-get_or passes place new inside) logs all
