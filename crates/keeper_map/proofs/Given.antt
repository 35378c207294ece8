-- What the entries of a sound log keep: their places, their versions and small stamps.
use Rattle.std.proofs.Common.{◌≡◌, ℕ, zero, suc, ◌+◌, ◌<◌, ◌≤◌, List, length, take, subst, arith}
use Rattle.std.proofs.lemmas.List.{length-take}
use Rattle.std.proofs.lemmas.List.Elements.{All-get_or}
use Rattle.std.proofs.lemmas.List.Sums.{count_by-le-length}
use Rattle.std.proofs.lemmas.Option.{get_or_from_slice_get, slice_get_within}
use Rattle.std.specs.Prelude.{All, IfSome, Some, slice_get}
use Rattle.tao_base.specs.declared.entry.Entry.{Entry}
use Rattle.tao_base.specs.declared.entry.Origin.{Origin}
use Rattle.tao_base.specs.declared.entry.Touch.{Touch}
use Rattle.graph_model.proofs.Members.{if_some}
use Rattle.graph_model.specs.Log.{entry_at, touches_key, version}
use Rattle.graph_model.specs.Soundness.{CanFollow, IsSound, TouchFollows}
use Rattle.tao_keeper.specs.Given.{HaveSmallStamps, IsGivenEntry}
use Rattle.tao_keeper.specs.declared.keeper.TheConstants.{MOST_ENTRIES}

-- a version counts entries up to its own
few_versions : (log : List Entry) (n : ℕ) (origin : Origin) (t : Touch) → n < length log → length log ≤ MOST_ENTRIES → TouchFollows (take n log) origin t
    → t.version ≤ MOST_ENTRIES
few_versions log n origin t within few follows =
    let is : t.version ≡ version (take n log) t.key + 1 = follows.version_is in
    omega (arith, count_by-le-length (touches_key t.key) (take n log), length-take n log)

-- an entry that stands in the log
stands_given : (log : List Entry) (n : ℕ) (e : Entry) → IsSound log → length log ≤ MOST_ENTRIES → All (λ x. HaveSmallStamps x.touches) log
    → slice_get log n ≡ Some e → IsGivenEntry e
stands_given log n e sound few small h =
    let follows : CanFollow (take n log) e = sound n e h in
    let within : n < length log = slice_get_within log n e h in
    let shorter : length (take n log) ≤ n = omega (arith, length-take n log) in
    let at : e.position ≡ length (take n log) + 1 = follows.position_is in
    record {
      position = (omega arith, omega arith);
      versions = λ i d lt. few_versions log n e.origin _ within few (follows.touches i d lt);
      stamps = subst (λ (x : Entry). HaveSmallStamps x.touches) (get_or_from_slice_get log n e e h)
          (All-get_or (λ (x : Entry). HaveSmallStamps x.touches) log n e within small);
    }

-- the entry at a position
pub entry_given : (log : List Entry) (position : ℕ) → IsSound log → length log ≤ MOST_ENTRIES → All (λ x. HaveSmallStamps x.touches) log
    → IfSome (entry_at log position) IsGivenEntry
entry_given log zero sound few small = tt
entry_given log (suc n) sound few small = if_some IsGivenEntry (slice_get log n) (λ e h. stands_given log n e sound few small h)
