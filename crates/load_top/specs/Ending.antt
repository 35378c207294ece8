-- How a load ends.
use Rattle.std.specs.Prelude.{ℕ, ◌≡◌, ◌<◌, true, List, length, Option, Ok}
use Rattle.std.specs.List.{AllByRecursion}
use Rattle.std.specs.Io.KnownBytes.{Appends}
use Rattle.command_words.specs.declared.LoadWords.{LoadWords}
use Rattle.config_json.specs.Config.{config_in}
use Rattle.core_model.specs.Stores.{master_log, store_count}
use Rattle.first_line.specs.First.{GivesFirst}
use Rattle.first_line.specs.Interrupts.{AppendsPart}
use Rattle.keepers.specs.Steady.{shown_steady}
use Rattle.keepers.specs.declared.steady.SteadyKeeper.{SteadyKeeper}
use Rattle.load_audit.specs.Audits.{IsFirstStranger}
use Rattle.load_gen.specs.Requests.{requests_of}
use Rattle.load_top.specs.Lines.{IsLoadLine, bad_line, summary_line}
use Rattle.load_top.specs.declared.ended.Came.{Came}
use Rattle.load_top.specs.declared.ended.Came.TheVariants.{Settled, Strange, Stuck}
use Rattle.new_stores.specs.Empty.{HasNoStores, tables_of}
use Rattle.new_stores.specs.Streams.{Streams}
use Rattle.requests.specs.declared.request.Request.{Request}
use Rattle.tao_busy.specs.Load.{HasFullLog, LeavesLoad, RefusesLoad}
use Rattle.tao_busy.specs.Refusing.{HasRoomToWrite}
use Rattle.tao_busy.specs.declared.asked.BusyRefusal.{BusyRefusal}
use Rattle.tao_busy.specs.declared.asked.LoadAsked.{LoadAsked}
use Rattle.tao_busy.specs.declared.asked.LoadSummary.{LoadSummary}
use Rattle.tao_keeper.specs.Table.{Tables}
use Rattle.topology.specs.Config.{Settings}

-- the requests that the words ask for, over a configuration
abbrev pub requests_by : LoadWords → Settings → List Request
requests_by words s = requests_of s words.seed words.calls

-- a log has a client's entry that is of none of the requests
abbrev pub HasStranger : Settings → List Request → Tables → Type 0
HasStranger s requests tables = (shard : ℕ) × (position : ℕ) × IsFirstStranger s tables requests shard position

-- no call was refused, where each log has fewer entries than it may, and no record in one has the last number of a stamp
abbrev pub RefusesNone : Settings → Tables → LoadSummary → Type 0
RefusesNone s tables summary = ((shard : ℕ) → shard < s.shards → HasRoomToWrite s (master_log s tables shard)) → summary.refused ≡ 0

-- what came of a load's requests, as the tables tell it, and its line is written so: its summary, or that no good came of it, since a log is full or has a
-- stranger
abbrev pub CameSo : Settings → List Request → Tables → Came → (List ℕ → Type 0) → Type 0
CameSo s requests tables Settled Writes =
    (summary : LoadSummary) × LeavesLoad s requests tables summary × RefusesNone s tables summary × Writes (summary_line summary)
CameSo s requests tables Stuck Writes = HasFullLog s tables × Writes bad_line
CameSo s requests tables Strange Writes = HasStranger s requests tables × Writes bad_line

-- a load over new keepers, one for each store, came to this, as these tell it, and its line is written so
pub record EndsLoad (s : Settings) (requests : List Request) (came : Came) (keepers : List SteadyKeeper) (Writes : List ℕ → Type 0) : Type 0 where
  pub many : length keepers ≡ store_count s
  pub so : CameSo s requests (tables_of s keepers) came Writes

-- a front of a load's line was written
abbrev pub WritesPart : Option (List ℕ) → Option (List ℕ) → Type 0
WritesPart before after = (line : List ℕ) × IsLoadLine line × AppendsPart before after line

-- ---- with the first line

-- the first line is a configuration, and the load of its requests came to this, as its keepers tell, and its line was written
pub record EndsAs (words : LoadWords) (came : Came) (old new : Streams) (keepers : List SteadyKeeper) : Type 0 where
  pub line : List ℕ
  pub settings : Settings
  pub read : GivesFirst old.left new.left line
  pub configured : config_in line ≡ Ok settings
  pub ends : EndsLoad settings (requests_by words settings) came keepers (Appends old.written new.written)

-- ---- why there is no summary

-- a load over new keepers came to no summary
pub record RefusesNew (asked : LoadAsked) (why : BusyRefusal SteadyKeeper) : Type 0 where
  pub old : List SteadyKeeper
  pub none : AllByRecursion HasNoStores old
  pub refused : RefusesLoad true shown_steady asked old why
