-- What a run acknowledged stands after each run that follows it.
use Rattle.std.proofs.Common.{◌≡◌, ◌∙◌, ◌⊎◌, ℕ, List, [], ◌∷◌, true, refl, sym, ap, subst, inl, inr}
use Rattle.core_model.specs.Stores.{stores_in}
use Rattle.plain_promise.proofs.AcknowledgedLemmas.{acknowledged_stands, stands_grown}
use Rattle.plain_promise.specs.Acknowledged.{StandsAtPosition}
use Rattle.plain_promise.specs.Promise.{HasEachOnce, IsWellKept, client_write_of}
use Rattle.headline_kept.proofs.promise_kept_lemmas.Going.{each_grows}
use Rattle.request_check.specs.declared.checked.CheckedWrite.{CheckedWrite}
use Rattle.tao_base.specs.Writes.{write_shard}
use Rattle.tao_core.specs.Opened.{AreAsBefore}
use Rattle.tao_keeper.specs.Growing.{LogsGrow}
use Rattle.tao_keeper.specs.Table.{Stays, Tables}
use Rattle.tao_schema.specs.Schema.{types_of}
use Rattle.tao_top.proofs.Promised.{opened_stores}
use Rattle.tao_top.specs.Across.{Follows, HasAcknowledged, HaveAcknowledged, HaveSettings, IsBy, Ran, RunsStandAcross}
use Rattle.tao_top.specs.Kept.{MayBegin, StillBegin}
use Rattle.tao_top.specs.Promised.{AreAsPromised, IsConfigured, at_first}
use Rattle.tao_top.specs.Step.{Given, ReplyLine, line_read, request_made}
use Rattle.topology.specs.Config.{Settings}
use Rattle.write_model.specs.Merges.{Stores, log_of}

-- ---- one run

-- the logs are well kept
abbrev Kept : Settings → Tables → Type 0
Kept s tables = IsWellKept (types_of s.schema) (stores_in s tables)

-- what a run acknowledged stands after it, and the logs are well kept then
record StandsKept (s : Settings) (tables : Tables) (write : CheckedWrite) (position : ℕ) : Type 0 where
  stands : StandsAtPosition (stores_in s tables) write position
  kept : Kept s tables

stands_after : (old : Tables) (given : List Given) (replies : List ReplyLine) (new : Tables) (run : AreAsPromised old given replies new) (s : Settings)
    (write : CheckedWrite) (position : ℕ) → HaveAcknowledged old given replies new run s write position → StandsKept s new write position
stands_after old (line_read line ∷ given) replies new (inl configured) s write position has =
    let own = configured.settings in
    let runs = configured.runs in
    let law = acknowledged_stands (types_of own.schema) (at_first own old) runs.saids runs.last in
    subst (λ (x : Settings). StandsKept x new write position) has.0 (record {
      stands = subst (λ (stores : Stores). StandsAtPosition stores write position) runs.stores (law.stands write position runs.runs has.1);
      kept = subst (IsWellKept (types_of own.schema)) runs.stores (law.kept write position runs.runs has.1);
    })
stands_after old (line_read line ∷ given) replies new (inr not) s write position has = absurd has
stands_after old (request_made request ∷ given) replies new none s write position has = absurd has
stands_after old [] replies new none s write position has = absurd has

-- tables with the same logs and jobs are well kept alike
kept_same : (s : Settings) (old new : Tables) → AreAsBefore old new → Kept s old → Kept s new
kept_same s old new same was = subst (IsWellKept (types_of s.schema)) (sym (opened_stores s old new (record { logs = same.logs; jobs = same.jobs }))) was

-- a run by the same configuration, or by none, leaves the logs well kept
kept_after : (old : Tables) (given : List Given) (replies : List ReplyLine) (new : Tables) (run : AreAsPromised old given replies new) (s : Settings)
    → HaveSettings old given replies new run s → Kept s old → Kept s new
kept_after old (line_read line ∷ given) replies new (inl configured) s is was =
    let own = configured.settings in
    let runs = configured.runs in
    let kept = (acknowledged_stands (types_of own.schema) (at_first own old) runs.saids runs.last).stays runs.runs
    (subst (λ (x : Settings). Kept x old) (sym is) was) in
    subst (λ (x : Settings). Kept x new) is (subst (IsWellKept (types_of own.schema)) runs.stores kept)
kept_after old (line_read line ∷ given) replies new (inr not) s is was = kept_same s old new not.same was
kept_after old (request_made request ∷ given) replies new none s is was = absurd none
kept_after old [] [] new same s is was = kept_same s old new same was
kept_after old [] (reply ∷ []) new said s is was = kept_same s old new said.1 was
kept_after old [] (reply ∷ another ∷ replies) new none s is was = absurd none

-- ---- two runs

module _ (first second : Ran) (follows : Follows first second) where
  -- between them no table changed
  same_tables : second.old ≡ first.new
  same_tables = λ i at. follows at i

  begins : StillBegin first.old second.new
  begins line may = second.still line (subst (MayBegin line) (sym same_tables) (first.still line may))

  module _ (s : Settings) (write : CheckedWrite) (position : ℕ) (has : HasAcknowledged first s write position) where
    after_first : StandsKept s second.old write position
    after_first = subst (λ tables. StandsKept s tables write position) (sym same_tables)
        (stands_after first.old first.promise.given first.promise.replies first.new first.promise.promised s write position has)

    stands : StandsAtPosition (stores_in s second.new) write position
    stands = stands_grown (types_of s.schema) (stores_in s second.old) (stores_in s second.new) write position
        (each_grows s second.old second.new second.histories) after_first.stands

    once : IsBy second s → HasEachOnce (log_of (stores_in s second.new).logs (write_shard write.write))
    once by =
        (kept_after second.old second.promise.given second.promise.replies second.new second.promise.promised s by after_first.kept).once
        (write_shard write.write)

    -- two entries of one write are one
    again : (told : ℕ) → HasAcknowledged second s write told → told ≡ position
    again told has_again =
        let later = stands_after second.old second.promise.given second.promise.replies second.new second.promise.promised s write told has_again in
        let one = later.stands in
        let other = stands in
        let same = (later.kept.once (write_shard write.write)).once one.entry.position other.entry.position one.entry other.entry one.stands.stands
        other.stands.stands (one.stands.origin_is ∙ sym other.stands.origin_is) in
        sym one.position_is ∙ same ∙ other.position_is

pub runs_stand_across : RunsStandAcross
runs_stand_across = record {
  begins = begins;
  stands = stands;
  once = once;
  again = λ first second follows s write position told has has_again. again first second follows s write position has told has_again;
}
