-- A whole run: its first line, and then all others.
use Rattle.std.proofs.Common.{◌≡◌, ℕ, ◌+◌, ◌<◌, ◌≤◌, ◌^◌, Bool, List, [], ◌∷◌, length, length-append, Option, Some, None, Result, Ok, IfSome, inr, refl, sym}
use Rattle.std.proofs.Common.{ap, subst, ◌∙◌, arith}
use Rattle.std.proofs.lemmas.List.{nil_from_length}
use Rattle.std.specs.Io.KnownBytes.{Appends, IsAtEnd, prepend_known}
use Rattle.command_words.specs.declared.Words.{Words}
use Rattle.command_words.specs.declared.Words.TheVariants.{Gen, Run}
use Rattle.command_words.specs.declared.WordsRefusal.{WordsRefusal}
use Rattle.counts.proofs.Rises.{Rose-earlier}
use Rattle.config_json.specs.Config.{config_in}
use Rattle.graph_model.specs.Told.{WhereTold}
use Rattle.tao_core.specs.Core.{CoreState}
use Rattle.core_nodes.specs.Opening.{MayOpen}
use Rattle.tao_io.specs.LineReader.{most_ahead}
use Rattle.tao_io.specs.Lines.{CountsTaken, GivesLines}
use Rattle.tao_keeper.specs.Table.{Tables}
use Rattle.first_line.specs.First.{EndsAtFirst, RefusesFirst}
use Rattle.first_line.specs.Interrupts.{AppendsPart, Faults, FaultsGrow, InterruptHasCause, InterruptsWriting}
use Rattle.tao_top.proofs.Answering.{answered_whole}
use Rattle.tao_top.proofs.FirstLine.{GivesOne, begun_part, ends_at_first, refuses_first, refuses_line, stops_opening, stores_disagree}
use Rattle.tao_top.proofs.GoingOn.{GivesLines-begin}
use Rattle.tao_top.specs.Begun.{Begins, RefusesLine, RepliesFirst, ConfiguredInPart, SaysDisagreement}
use Rattle.tao_top.specs.Kept.{MayRun}
use Rattle.core_nodes.specs.Outside.{Outside}
use Rattle.tao_top.specs.Served.{AtOpeningOrLater, Done, DoneInPart, EndsInPart, FailsOpening, LinesBegin, OpensInPart, RefusesConfiguration}
use Rattle.tao_top.specs.Served.{StopsOpening, StoresDisagree, ends_with, serves, start, streams}
use Rattle.tao_top.specs.Stop.{StopHasCause, stop_code}
use Rattle.tao_top.specs.Taken.{TakesAll, TakesAsked, TakesFirst}
use Rattle.first_line.specs.declared.Interrupt.{Interrupt}
use Rattle.first_line.specs.declared.Interrupt.TheVariants.{Source, Sink, Memory, InputTooLong}
use Rattle.tao_top.specs.declared.stop.Stop.{Stop}
use Rattle.tao_top.specs.declared.stop.Stop.TheVariants.{Configuration, Keepers, Stores, Interrupted}
use Rattle.topology.specs.Config.{Settings}

-- ---- the first line

module _ (tells : Bool) (around : Outside) (known left rest before after : Option (List ℕ)) (is : known ≡ left) where
  pub first_in_part : (words : Words) → EndsAtFirst known rest before after → DoneInPart (Ok words) tells around around (streams left before) after
  first_in_part words ends =
      subst (λ l. DoneInPart (Ok words) tells around around (streams l before) after) is (ends_at_first known rest before after tells around words ends)

  pub first_refused : RefusesFirst known rest before after → RefusesConfiguration tells around around left before after
  first_refused refuses =
      subst (λ l. RefusesConfiguration tells around around l before after) is (refuses_first known rest before after tells around refuses)

-- it was read, and nothing was written until its reply
module _ (tells : Bool) (old mid : Outside) (known left rest before silent after : Option (List ℕ)) (line : List ℕ) (is : known ≡ left) (same : silent ≡ before)
    (read : GivesLines known rest (line ∷ [])) where
  pub begun_in_part : (words : Words) (code : ℕ)
      → AtOpeningOrLater code (OpensInPart tells old mid line silent after) (ConfiguredInPart words tells old mid line (AppendsPart silent after))
      → EndsInPart (ends_with code (Ok words)) tells old mid (streams left before) after
  begun_in_part words code part =
      let ending = ends_with code (Ok words) in
      subst (λ l. EndsInPart ending tells old mid (streams l before) after) is
      (subst (λ w. EndsInPart ending tells old mid (streams known w) after) same (begun_part tells old mid known rest silent after line read words code part))

  pub begun_opening : OpensInPart tells old mid line silent after → StopsOpening tells old mid left before after
  begun_opening opens =
      subst (λ l. StopsOpening tells old mid l before after) is
      (subst (λ w. StopsOpening tells old mid known w after) same (stops_opening tells old mid known rest silent after line read opens))

  pub begun_refused : RefusesLine tells old mid line silent after → RefusesConfiguration tells old mid left before after
  begun_refused refuses = subst (λ l. RefusesConfiguration tells old mid l before after) is
      (subst (λ w. RefusesConfiguration tells old mid known w after) same (refuses_line tells old mid known rest silent after line read refuses))

  pub begun_disagree : SaysDisagreement tells old mid line silent after → StoresDisagree tells old mid left before after
  begun_disagree tell = subst (λ l. StoresDisagree tells old mid l before after) is
      (subst (λ w. StoresDisagree tells old mid known w after) same (stores_disagree tells old mid known rest silent after line read tell))

  pub begun_well : (words : Words) (core : CoreState) → RepliesFirst words tells (start old) line (serves core mid) (Appends silent after)
      → Begins words tells old (serves core mid) (streams left before) (streams rest after)
  begun_well words core replied = record {
    line = line;
    read = subst (λ l. GivesLines l rest (line ∷ [])) is read;
    replied = subst (λ w. RepliesFirst words tells (start old) line (serves core mid) (Appends w after)) same replied;
  }

-- ---- what is done

-- what is done whole is done in part
pub done_whole : (asked : Result Words WordsRefusal) (tells : Bool) (old now : Outside) (left before after : Option (List ℕ))
    → Done asked tells old now (streams left before) after → DoneInPart asked tells old now (streams left before) after
done_whole asked tells old now left before after d = inr (answered_whole asked tells (start old) (serves d.core now) left before after d.answered)

-- ---- the cause of a stop

-- what interrupts a later part of a run interrupts the run
pub interrupt_later : (old mid new : Faults) (i : Interrupt) → FaultsGrow old mid → InterruptHasCause mid new i → InterruptHasCause old new i
interrupt_later old mid new Source grew cause = Rose-earlier old.source mid.source new.source grew.source cause
interrupt_later old mid new Sink grew cause = Rose-earlier old.sink mid.sink new.sink grew.sink cause
interrupt_later old mid new Memory grew cause = tt
interrupt_later old mid new InputTooLong grew cause = tt

-- so does what interrupts the writing of a line
pub interrupt_writing : (old new : Faults) (mid : ℕ) (i : Interrupt) → old.sink ≤ mid → InterruptsWriting mid new.sink i → InterruptHasCause old new i
interrupt_writing old new mid Source grew cause = absurd cause
interrupt_writing old new mid Sink grew cause = Rose-earlier old.sink mid new.sink grew cause
interrupt_writing old new mid Memory grew cause = tt
interrupt_writing old new mid InputTooLong grew cause = absurd cause

-- ---- how long the input is, by what was taken of it

pub short_input : (a b : Option (List ℕ)) (ahead : List ℕ) (k n : ℕ) → k ≡ 0 → CountsTaken a b k n → IsAtEnd (prepend_known ahead b) → n < 2 ^ 40
    → IfSome a (λ bytes. length bytes < 2 ^ 40)
short_input None b ahead k n none taken end short = tt
short_input (Some x) None ahead k n none taken end short = absurd taken.consumed
short_input (Some x) (Some y) ahead k n none taken end short =
    let size : length x ≡ length taken.bytes + length y = ap length taken.consumed ∙ length-append taken.bytes y in
    let rest : length ahead + length y ≡ 0 = sym (length-append ahead y) ∙ ap length end in
    let count = taken.count in
    omega arith

-- ---- what was taken of it

-- nothing is left where nothing is to come
pub end_of_source : (ahead : List ℕ) (left : Option (List ℕ)) → IsAtEnd (prepend_known ahead left) → IsAtEnd left
end_of_source ahead None end = tt
end_of_source ahead (Some bytes) end = let long : length bytes ≡ 0 = omega (arith, length-append ahead bytes, ap length end) in nil_from_length bytes long

pub takes_first : (known left rest : Option (List ℕ)) (ahead : List ℕ) → known ≡ left → length ahead ≤ most_ahead → GivesOne known (prepend_known ahead rest)
    → TakesFirst left rest
takes_first known left rest ahead is near one =
    subst (λ l. TakesFirst l rest) is (record { lines = one.0; past = ahead; read = one.2; one = one.1; short = near })

-- what the words ask for was taken
pub takes_run : (words : Words) (sql : Option (List ℕ)) (before after : Option (List ℕ)) → words ≡ Run sql → TakesAll before after
    → TakesAsked (Ok words) before after
takes_run words sql before after is all = subst (λ w. TakesAsked (Ok w) before after) (sym is) all

pub takes_gen : (words : Words) (seed calls : ℕ) (before after : Option (List ℕ)) → words ≡ Gen seed calls → TakesFirst before after
    → TakesAsked (Ok words) before after
takes_gen words seed calls before after is first = subst (λ w. TakesAsked (Ok w) before after) (sym is) first

-- ---- the first line may be opened

pub may_open : (tells : Bool) (tables : Tables) (known left rest : Option (List ℕ)) (line : List ℕ) (s : Settings) → known ≡ left
    → GivesLines known rest (line ∷ []) → config_in line ≡ Ok s
    → WhereTold tells (MayRun left tables) → WhereTold tells (MayOpen s line tables)
may_open tells tables known left rest line s is read configured may =
    λ told. may told line (subst (λ l. LinesBegin l (line ∷ [])) is (GivesLines-begin known rest (line ∷ []) read)) s configured

-- ---- a run that failed at the opening of its stores, or found that they disagree

only_keepers : (stop : Stop) → stop_code stop ≡ 6 → stop ≡ Keepers
only_keepers Configuration is = absurd (omega arith)
only_keepers Keepers is = refl
only_keepers Stores is = absurd (omega arith)
only_keepers (Interrupted Source) is = absurd (omega arith)
only_keepers (Interrupted Sink) is = absurd (omega arith)
only_keepers (Interrupted Memory) is = absurd (omega arith)
only_keepers (Interrupted InputTooLong) is = absurd (omega arith)

pub only_stores : (stop : Stop) → stop_code stop ≡ 8 → stop ≡ Stores
only_stores Configuration is = absurd (omega arith)
only_stores Keepers is = absurd (omega arith)
only_stores Stores is = refl
only_stores (Interrupted Source) is = absurd (omega arith)
only_stores (Interrupted Sink) is = absurd (omega arith)
only_stores (Interrupted Memory) is = absurd (omega arith)
only_stores (Interrupted InputTooLong) is = absurd (omega arith)

pub fails_opening : (tells : Bool) (old now : Outside) (left before after : Option (List ℕ)) (old_faults new_faults : Faults) (stop : Stop) → stop_code stop ≡ 6
    → (stop ≡ Keepers → StopsOpening tells old now left before after) → StopHasCause old_faults new_faults old.keepers.faults now.keepers.faults stop
    → FailsOpening tells old now left before after
fails_opening tells old now left before after old_faults new_faults stop is opening cause =
    let same = only_keepers stop is in record {
      opening = opening same;
      rose = subst (StopHasCause old_faults new_faults old.keepers.faults now.keepers.faults) same cause;
    }
