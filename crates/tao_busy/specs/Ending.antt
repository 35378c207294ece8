-- What the end of a load comes to.
use Rattle.std.specs.Prelude.{ℕ, ◌≡◌, Bool, List, Result, Ok, Err, Vec, length}
use Rattle.core_model.specs.Stores.{store_count}
use Rattle.graph_model.specs.Told.{WhereTold}
use Rattle.keepers.specs.Shown.{told_in}
use Rattle.requests.specs.declared.request.Request.{Request}
use Rattle.tao_base.specs.declared.id.StoreName.{StoreName}
use Rattle.tao_keeper.specs.KeeperState.{KeeperState}
use Rattle.tao_keeper.specs.Table.{Tables}
use Rattle.topology.specs.Config.{Settings}
use Rattle.replies.specs.declared.opening.OpenRefusal.TheVariants.{OutOfMemory as NoMemory}
use Rattle.tao_busy.specs.Load.{LeavesLoad, RefusesRun, requests_asked}
use Rattle.tao_busy.specs.Refusing.{IsWayClear, cuts_in}
use Rattle.tao_busy.specs.declared.asked.BusyRefusal.{BusyRefusal}
use Rattle.tao_busy.specs.declared.asked.BusyRefusal.TheVariants.{Open}
use Rattle.tao_busy.specs.declared.asked.LoadAsked.{LoadAsked}
use Rattle.tao_busy.specs.declared.asked.LoadSummary.{LoadSummary}

-- no table changed
abbrev pub KeepsLogs : Tables → Tables → Type 0
KeepsLogs old new = (at : StoreName) → new at ≡ old at

-- a summary with one keeper for each store
pub record Leaves {M : Type 0} (tells : Bool) (state : M → KeeperState) (s : Settings) (requests : List Request) (summary : LoadSummary) (keepers : List M)
    : Type 0 where
  pub many : length keepers ≡ store_count s
  pub leaves : WhereTold tells (LeavesLoad s requests (told_in state s.shards keepers) summary)

-- no call was refused where nothing was in its way, of the logs that keepers tell at last, where so many of their entries were old at first
abbrev pub CountsNone : {M : Type 0} → Bool → (M → KeeperState) → Settings → (ℕ → ℕ) → LoadSummary → List M → Type 0
CountsNone tells state s cut summary keepers = WhereTold tells (IsWayClear state s cut (told_in state s.shards keepers) → summary.refused ≡ 0)

-- how often the keepers of a load had failed at first, added up, and how many entries of each shard's log were old
pub record LoadStart : Type 0 where
  pub faults : ℕ
  pub cut : ℕ → ℕ

-- a load that begins so
abbrev pub load_start : ℕ → (ℕ → ℕ) → LoadStart
load_start faults cut = record { faults = faults; cut = cut }

-- a summary of what the keepers tell, or the cause why there is none, where the load began so
abbrev pub ComesToEnd : {M A : Type 0} → Bool → (M → KeeperState) → Settings → List Request → LoadStart → Result (LoadSummary × Vec M A) (BusyRefusal M) → Type 0
ComesToEnd tells state s requests start (Ok left) =
    Leaves tells state s requests left.0 left.1.items × CountsNone tells state s start.cut left.0 left.1.items
ComesToEnd tells state s requests start (Err refusal) = RefusesRun tells state s requests start.faults refusal

-- how a load begins over stores that were opened with these keepers, which had failed so often
abbrev pub start_over : {M : Type 0} → (M → KeeperState) → Settings → List M → ℕ → LoadStart
start_over state s opened before = load_start before (cuts_in s (told_in state s.shards opened))

-- the same of a load over stores that were opened with these keepers: where no cluster was made of them, they come back as they were
abbrev pub EndsLoad : {M A : Type 0} → Bool → (M → KeeperState) → LoadAsked → List M → ℕ → Result (LoadSummary × Vec M A) (BusyRefusal M) → Type 0
EndsLoad tells state asked opened before (Err (Open fail)) = (fail.why ≡ NoMemory) × (fail.keepers.items ≡ opened)
EndsLoad tells state asked opened before result =
    ComesToEnd tells state asked.config.now (requests_asked asked) (start_over state asked.config.now opened before) result
