-- The first line of a run: taken as its configuration, or refused.
use Rattle.std.proofs.Common.{◌≡◌, ◌≤◌, ℕ, Bool, List, [], ◌∷◌, length, Option, Ok, Err, inl, inr, refl, sym, subst, codes, arith}
use Rattle.tao_keeper.proofs.Later.{later_self}
use Rattle.tao_keeper.specs.KeeperState.{KeeperState, IsLater}
use Rattle.std.specs.Io.KnownBytes.{Appends}
use Rattle.command_words.specs.declared.Words.{Words}
use Rattle.config_json.specs.Config.{config_in}
use Rattle.config_json.specs.declared.refusal.ConfigRefusal.TheVariants.{BadConfig}
use Rattle.graph_model.specs.Told.{WhereTold}
use Rattle.replies.specs.declared.opening.OpenRefusal.TheVariants.{Disagree}
use Rattle.replies.specs.declared.reply.Reply.TheVariants.{BadConfiguration, BadStores, Configured}
use Rattle.tao_core.specs.Core.{CoreState, IsCoreOf, IsNewCore}
use Rattle.core_nodes.specs.Beginning.{AreAtStores}
use Rattle.core_nodes.specs.Opening.{IsOpened, IsOpenedInPart, IsOtherLine, RefusesOpening}
use Rattle.tao_base.specs.declared.id.StoreName.{StoreName}
use Rattle.tao_link.specs.Shown.{LinkShown}
use Rattle.tao_io.specs.Lines.{GivesLines}
use Rattle.first_line.specs.First.{EndsAtFirst, FirstHasCause, FirstWriting, RefusesFirst, RefusesFor, RefusesSo, refusal_line}
use Rattle.first_line.specs.Interrupts.{AppendsPart, Faults}
use Rattle.first_line.specs.declared.FirstStop.{FirstStop}
use Rattle.first_line.specs.declared.FirstStop.TheVariants as at_first
use Rattle.first_line.specs.declared.Interrupt.{Interrupt}
use Rattle.tao_top.proofs.Answering.{answered_first, answered_none, printed_configured, printed_first}
use Rattle.tao_top.proofs.GoingOn.{GivesLines-all, GivesLines-begin, still_refl}
use Rattle.tao_top.specs.Begun.{RefusesLine, RepliesFirst, ConfiguredInPart, SaysDisagreement, StopsBeginning}
use Rattle.core_nodes.specs.Outside.{Outside, outside}
use Rattle.tao_top.specs.Served.{DoneInPart, EndsInPart, OpensInPart, RefusesConfiguration, StopsOpening, ends_with, printed, serves}
use Rattle.tao_top.specs.Served.{AtOpeningOrLater, StoresDisagree, disagreement_line}
use Rattle.tao_top.specs.Served.{start, streams, said_configured, unless_configured}
use Rattle.tao_top.specs.Stop.{StopHasCause, stop_first}
use Rattle.tao_top.specs.declared.stop.Stop.TheVariants.{Configuration, Interrupted, Keepers, Stores}
use Rattle.tao_top.specs.Step.{ReplyLine, State, disagreeing, ended, Configures, Disagreement, Step, line_at, line_read}
use Rattle.topology.specs.Config.{Settings}

-- the run has refused its configuration
abbrev pub refusing : Outside → State
refusing now = record { stage = ended; outside = now }

-- the run has found that its stores disagree
abbrev pub parting : Settings → Outside → State
parting s now = record { stage = disagreeing s; outside = now }

-- a line that is no configuration is refused
no_step : (tells : Bool) (around : Outside) (line field : List ℕ) → config_in line ≡ Err (BadConfig field)
    → Step tells (start around) (line_read line) (BadConfiguration field) (refusing around)
no_step tells around line field is = record { does = inl (record { refused = is; same = refl }); later = later_self around.keepers }

-- its refusal is a first reply
refused_first : (words : Words) (tells : Bool) (around : Outside) (line : List ℕ) (before after : Option (List ℕ)) → RefusesFor line (AppendsPart before after)
    → RepliesFirst words tells (start around) line (refusing around) (AppendsPart before after)
refused_first words tells around line before after refused = (
  BadConfiguration refused.0,
  no_step tells around line refused.0 refused.1,
  subst (AppendsPart before after) (sym (printed_first words line (line_at ended (BadConfiguration refused.0)) refl)) refused.2,
)

-- ---- the stop at the first line

pub first_configuration : (first : FirstStop) → stop_first first ≡ Configuration → first ≡ at_first.Configuration
first_configuration at_first.Configuration is = refl
first_configuration (at_first.Interrupted i) is = absurd (cc is)

pub first_interrupted : (first : FirstStop) (i : Interrupt) → stop_first first ≡ Interrupted i → first ≡ at_first.Interrupted i
first_interrupted at_first.Configuration i is = absurd (cc is)
first_interrupted (at_first.Interrupted j) i is = cc is

-- it isn't at the opening of the stores
pub first_keepers : (first : FirstStop) → stop_first first ≡ Keepers → ⊥
first_keepers at_first.Configuration is = absurd (cc is)
first_keepers (at_first.Interrupted i) is = absurd (cc is)

pub first_stores : (first : FirstStop) → stop_first first ≡ Stores → ⊥
first_stores at_first.Configuration is = absurd (cc is)
first_stores (at_first.Interrupted i) is = absurd (cc is)

pub first_cause : (old new : Faults) (before now : ℕ) (first : FirstStop) → FirstHasCause old new first → StopHasCause old new before now (stop_first first)
first_cause old new before now at_first.Configuration cause = tt
first_cause old new before now (at_first.Interrupted i) cause = cause

pub first_writing : (sink_before sink_now before now : ℕ) (first : FirstStop) → FirstWriting sink_before sink_now first
    → StopsBeginning sink_before sink_now before now (stop_first first)
first_writing sink_before sink_now before now at_first.Configuration cause = tt
first_writing sink_before sink_now before now (at_first.Interrupted i) cause = cause

-- ---- the reading of the first line

-- at most one line came out of the known bytes
abbrev pub GivesOne : Option (List ℕ) → Option (List ℕ) → Type 0
GivesOne left rest = (lines : List (List ℕ)) × (length lines ≤ 1) × GivesLines left rest lines

module _ (left rest : Option (List ℕ)) where
  pub gives_one : (line : List ℕ) → GivesLines left rest (line ∷ []) → GivesOne left rest
  gives_one line read = (line ∷ [], omega arith, read)

  module _ (before after : Option (List ℕ)) where
    pub gives_refused : RefusesFirst left rest before after → GivesOne left rest
    gives_refused (inl lacks) = ([], omega arith, lacks.0.0)
    gives_refused (inr came) = gives_one came.0 came.1

    module _ (tells : Bool) (around : Outside) where
      pub refuses_first : RefusesFirst left rest before after → RefusesConfiguration tells around around left before after
      refuses_first (inl lacks) =
          record { field = []; refused = inl (GivesLines-all left rest [] lacks.0.0 lacks.0.1, refl, refl); written = lacks.1 }
      refuses_first (inr came) = record {
        field = came.2.0;
        refused = inr (came.0, GivesLines-begin left rest (came.0 ∷ []) came.1, inl (record { refused = came.2.1; same = refl }));
        written = came.2.2;
      }

      module _ (words : Words) where
        abbrev InPart : Type 0
        InPart = DoneInPart (Ok words) tells around around (streams left before) after

        refused_in_part : RefusesSo left rest (AppendsPart before after) → InPart
        refused_in_part (inl lacks) = inl (record { read = GivesLines-all left rest [] lacks.0.0 lacks.0.1; written = lacks.1; same = refl })
        refused_in_part (inr came) =
            inr (answered_first words tells (start around) (refusing around) around left rest before after came.0 came.1
            (refused_first words tells around came.0 before after came.2) (still_refl tells around (refusing around) refl))

        pub ends_at_first : EndsAtFirst left rest before after → InPart
        ends_at_first (inl nothing) =
            inr (answered_none (Ok words) tells (start around) around left before after nothing (still_refl tells around (start around) refl))
        ends_at_first (inr refused) = refused_in_part refused

-- ---- the opening of the stores

module _ (tells : Bool) (old now : Outside) (line : List ℕ) (s : Settings) (configured : config_in line ≡ Ok s) (later : IsLater old.keepers now.keepers)
    (stays : now.link ≡ old.link) where
  pub takes : (core : CoreState) → core.settings ≡ s → IsNewCore core → IsCoreOf tells now.keepers.told core
      → WhereTold tells (AreAtStores now.keepers.told core.fleet)
      → WhereTold tells (IsOpened s line old.keepers.told now.keepers.told) → Step tells (start old) (line_read line) Configured (serves core now)
  takes core is begun of_core ends opened = record {
    does = record {
      configured = subst (λ t. config_in line ≡ Ok t) (sym is) configured;
      begun = begun;
      opened = λ told. subst (λ t. IsOpened t line old.keepers.told now.keepers.told) (sym is) (opened told);
      of_core = of_core;
      ends = ends;
      link = stays;
    };
    later = later;
  }

  pub other_line : WhereTold tells (IsOtherLine s line old.keepers.told now.keepers.told)
      → Configures tells old line (BadConfiguration (codes "file")) ended now
  other_line other = inr (record { settings = s; configured = configured; field_is = refl; other = other; link = stays })

  module _ (words : Words) (before after : Option (List ℕ)) where
    -- a reply other than that the configuration was taken is printed
    first_written : (r : ReplyLine) → unless_configured r.reply r.text ≡ r.text → AppendsPart before after r.text
        → AppendsPart before after (printed (Ok words) (line_read line ∷ []) (r ∷ []))
    first_written r is written = subst (AppendsPart before after) (sym (printed_first words line r is)) written

    pub begins : (core : CoreState) → core.settings ≡ s → IsNewCore core → IsCoreOf tells now.keepers.told core
        → WhereTold tells (AreAtStores now.keepers.told core.fleet)
        → WhereTold tells (IsOpened s line old.keepers.told now.keepers.told) → Appends before after (said_configured words core)
        → RepliesFirst words tells (start old) line (serves core now) (Appends before after)
    begins core is begun of_core ends opened written =
        (Configured, takes core is begun of_core ends opened, subst (Appends before after) (sym (printed_configured words line core)) written)

    pub begun_silent : (core : CoreState) → core.settings ≡ s → IsNewCore core → IsCoreOf tells now.keepers.told core
        → WhereTold tells (AreAtStores now.keepers.told core.fleet)
        → WhereTold tells (IsOpened s line old.keepers.told now.keepers.told) → AppendsPart before after (said_configured words core)
        → (code : ℕ) → AtOpeningOrLater code (OpensInPart tells old now line before after) (ConfiguredInPart words tells old now line (AppendsPart before after))
    begun_silent core is begun of_core ends opened written code = inr (
      serves core now,
      (Configured, takes core is begun of_core ends opened, subst (AppendsPart before after) (sym (printed_configured words line core)) written),
      still_refl tells now (serves core now) refl,
    )

    pub begun_other : WhereTold tells (IsOtherLine s line old.keepers.told now.keepers.told) → AppendsPart before after (refusal_line (codes "file"))
        → (code : ℕ) → AtOpeningOrLater code (OpensInPart tells old now line before after) (ConfiguredInPart words tells old now line (AppendsPart before after))
    begun_other other written code = inr (
      refusing now,
      (BadConfiguration (codes "file"), record { does = other_line other; later = later }, first_written (line_at ended (BadConfiguration (codes "file"))) refl written),
      still_refl tells now (refusing now) refl,
    )

    pub refuses_other : WhereTold tells (IsOtherLine s line old.keepers.told now.keepers.told) → Appends before after (refusal_line (codes "file"))
        → RefusesLine tells old now line before after
    refuses_other other written = record { field = codes "file"; refused = other_line other; written = written }

    module _ (store : StoreName) (position : ℕ) (disagree : RefusesOpening tells s line old.keepers now.keepers (Disagree store position)) where
      abbrev disagreement : Disagreement
      disagreement = record { settings = s; store = store; position = position }

      pub begun_disagreeing : AppendsPart before after (disagreement_line disagreement)
          → (code : ℕ) → AtOpeningOrLater code (OpensInPart tells old now line before after) (ConfiguredInPart words tells old now line (AppendsPart before after))
      begun_disagreeing written code = inr (
        parting s now,
        (
          BadStores store position,
          record { does = record { configured = configured; disagree = disagree; link = stays }; later = later },
          first_written (line_at (disagreeing s) (BadStores store position)) refl written,
        ),
        still_refl tells now (parting s now) refl,
      )

      pub says_disagreement : Appends before after (disagreement_line disagreement) → SaysDisagreement tells old now line before after
      says_disagreement written = record {
        found = disagreement;
        disagree = record { configured = configured; disagree = disagree; link = stays };
        written = written;
      }

    pub opens_in_part : WhereTold tells (IsOpenedInPart s line old.keepers.told now.keepers.told) → Appends before after []
        → OpensInPart tells old now line before after
    opens_in_part opened written = record { settings = s; configured = configured; opened = opened; later = later; link = stays; written = written }

-- so its reply was begun, whatever a link shows
pub begun_whatever : (words : Words) (tells : Bool) (old now : KeeperState) (line : List ℕ) (s : Settings) (configured : config_in line ≡ Ok s)
    (later : IsLater old now) (before after : Option (List ℕ)) (core : CoreState)
    → core.settings ≡ s → IsNewCore core → IsCoreOf tells now.told core → WhereTold tells (AreAtStores now.told core.fleet)
    → WhereTold tells (IsOpened s line old.told now.told)
    → AppendsPart before after (said_configured words core)
    → (code : ℕ) (link : LinkShown) → AtOpeningOrLater code (OpensInPart tells (outside old link) (outside now link) line before after)
    (ConfiguredInPart words tells (outside old link) (outside now link) line (AppendsPart before after))
begun_whatever words tells old now line s configured later before after core is begun of_core ends opened written code link =
    begun_silent tells (outside old link) (outside now link) line s configured later refl words before after core is begun of_core ends opened written code

-- ---- both

module _ (tells : Bool) (old now : Outside) (left rest before after : Option (List ℕ)) (line : List ℕ) (read : GivesLines left rest (line ∷ [])) where
  pub stops_opening : OpensInPart tells old now line before after → StopsOpening tells old now left before after
  stops_opening opens = (line, GivesLines-begin left rest (line ∷ []) read, opens)

  pub begun_part : (words : Words) (code : ℕ)
      → AtOpeningOrLater code (OpensInPart tells old now line before after) (ConfiguredInPart words tells old now line (AppendsPart before after))
      → EndsInPart (ends_with code (Ok words)) tells old now (streams left before) after
  begun_part words code (inl opens) = inl (opens.0, stops_opening opens.1)
  begun_part words code (inr said) = inr (inr (answered_first words tells (start old) said.0 now left rest before after line read said.1 said.2))

  pub refuses_line : RefusesLine tells old now line before after → RefusesConfiguration tells old now left before after
  refuses_line r = record { field = r.field; refused = inr (line, GivesLines-begin left rest (line ∷ []) read, r.refused); written = r.written }

  pub stores_disagree : SaysDisagreement tells old now line before after → StoresDisagree tells old now left before after
  stores_disagree tell = record {
    line = line;
    read = GivesLines-begin left rest (line ∷ []) read;
    found = tell.found;
    disagree = tell.disagree;
    written = tell.written;
  }
