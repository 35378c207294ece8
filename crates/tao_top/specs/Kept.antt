-- What a run asks of the keepers' tables, what it keeps while it serves, and what it leaves.
use Rattle.std.specs.Prelude.{ℕ, ◌≡◌, Bool, List, [], ◌∷◌, Option, Some, Ok}
use Rattle.config_json.specs.Config.{config_in}
use Rattle.graph_model.specs.Told.{WhereTold}
use Rattle.tao_core.specs.Core.{CoreState, IsCoreOf}
use Rattle.core_nodes.specs.Opening.{MayOpen}
use Rattle.core_model.specs.Stores.{IsConfiguredStore}
use Rattle.tao_base.specs.declared.id.StoreName.{StoreName}
use Rattle.tao_keeper.specs.Growing.{LogsGrow}
use Rattle.tao_keeper.specs.KeeperState.{KeeperState}
use Rattle.tao_keeper.specs.Table.{Table, Tables}
use Rattle.tao_top.specs.Served.{LinesBegin}
use Rattle.topology.specs.Config.{Settings}

-- a run may begin with the line: where it is a configuration, and every store takes it, the logs are sound with its types, and covered, and each store has
-- come to the cuts of its shard's logs
abbrev pub MayBegin : List ℕ → Tables → Type 0
MayBegin line tables = (s : Settings) → config_in line ≡ Ok s → MayOpen s line tables

-- a run may begin with the first of the known lines, and with any line where they aren't known
abbrev pub MayRun : Option (List ℕ) → Tables → Type 0
MayRun left tables = (line : List ℕ) → LinesBegin left (line ∷ []) → MayBegin line tables

-- a run may begin with any line
abbrev pub MayBeginAny : Tables → Type 0
MayBeginAny tables = (line : List ℕ) → MayBegin line tables

-- a run may begin with each line with which one could before
abbrev pub StillBegin : Tables → Tables → Type 0
StillBegin old new = (line : List ℕ) → MayBegin line old → MayBegin line new

-- what a part of a run leaves of the tables: logs only grew, and a run may begin with each line with which one could before
pub record LeavesTables (tells : Bool) (old new : KeeperState) : Type 0 where
  pub histories : LogsGrow tells old.told new.told
  pub still : WhereTold tells (StillBegin old.told new.told)

-- the store was first opened with the configuration
pub record IsOpenedWith (s : Settings) (table : Table) : Type 0 where
  pub line : List ℕ
  pub first : table.line ≡ Some line
  pub configured : config_in line ≡ Ok s

-- each store of the configuration was first opened with it
abbrev pub AreOpenedWith : Settings → Tables → Type 0
AreOpenedWith s tables = (at : StoreName) → IsConfiguredStore s at → IsOpenedWith s (tables at)

-- a core serves from these tables: its stores were opened with its configuration
pub record MayServe (tells : Bool) (core : CoreState) (tables : Tables) : Type 0 where
  pub of_core : IsCoreOf tells tables core
  pub opened : WhereTold tells (AreOpenedWith core.settings tables)
