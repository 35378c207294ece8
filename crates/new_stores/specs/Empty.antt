-- Keepers with no stores.
use Rattle.std.specs.Prelude.{ℕ, ◌≡◌, true, List}
use Rattle.std.specs.List.{AllByRecursion}
use Rattle.cluster_opening.specs.Opening.{RefusesOver, shown_in}
use Rattle.cluster_opening.specs.declared.opening.OpenFail.{OpenFail}
use Rattle.counts.specs.Count.{Rose}
use Rattle.keepers.specs.Shown.{told_in, total}
use Rattle.keepers.specs.Steady.{shown_steady}
use Rattle.keepers.specs.declared.steady.SteadyKeeper.{SteadyKeeper}
use Rattle.replies.specs.declared.opening.OpenRefusal.TheVariants.{KeeperFault}
use Rattle.tao_base.specs.declared.id.StoreName.{StoreName}
use Rattle.tao_keeper.specs.Table.{Tables, empty_table}
use Rattle.topology.specs.Config.{Settings}

-- the keeper has no store
abbrev pub HasNoStores : SteadyKeeper → Type 0
HasNoStores keeper = (at : StoreName) → (shown_steady keeper).told at ≡ empty_table

-- the tables that keepers in memory tell, of a configuration's stores
abbrev pub tables_of : Settings → List SteadyKeeper → Tables
tables_of s keepers = told_in shown_steady s.shards keepers

-- how often keepers in memory failed, added up
abbrev pub steady_faults : List SteadyKeeper → ℕ
steady_faults keepers = total (λ keeper. (shown_steady keeper).faults) 0 keepers

-- new keepers couldn't be opened, for one of the causes that any have
pub record RefusesNewStores (s : Settings) (line : List ℕ) (fail : OpenFail SteadyKeeper) : Type 0 where
  pub old : List SteadyKeeper
  pub none : AllByRecursion HasNoStores old
  pub refused : RefusesOver true s line (shown_in shown_steady s.shards 0 old) (λ strays. shown_in shown_steady s.shards strays fail.keepers.items) fail.why
  pub own : fail.why ≡ KeeperFault → Rose (steady_faults old) (steady_faults fail.keepers.items)
