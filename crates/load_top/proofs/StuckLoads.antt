-- A load over new stores: these never fail, and none of their entries is old.
use Rattle.std.proofs.Common.{ℕ, ◌≡◌, ◌<◌, List, true, ap, refl}
use Rattle.std.specs.List.{AllByRecursion}
use Rattle.core_model.specs.Stores.{master_store}
use Rattle.counts.specs.Count.{Rose}
use Rattle.keepers.specs.Steady.{shown_steady}
use Rattle.keepers.specs.declared.steady.SteadyKeeper.{SteadyKeeper}
use Rattle.load_top.specs.Ending.{RefusesNone}
use Rattle.new_stores.proofs.EmptyStores.{none_rose, told_none}
use Rattle.new_stores.specs.Empty.{HasNoStores, tables_of}
use Rattle.replies.specs.declared.refusals.UnsettledWhy.{UnsettledWhy}
use Rattle.replies.specs.declared.refusals.UnsettledWhy.TheVariants as why
use Rattle.tao_busy.specs.Load.{HasFullLog, IsStuckFor, faults_in}
use Rattle.tao_busy.specs.Refusing.{IsWayClear, cuts_in}
use Rattle.tao_busy.specs.declared.asked.LoadSummary.{LoadSummary}
use Rattle.tao_keeper.specs.Table.{Table}
use Rattle.topology.specs.Config.{Settings}

-- a settle is stuck at a full log
pub full_log : (s : Settings) (old new : List SteadyKeeper) (shard : ℕ) (reason : UnsettledWhy) → shard < s.shards
    → IsStuckFor true (Rose (faults_in shown_steady old) (faults_in shown_steady new)) s (tables_of s new) shard reason → HasFullLog s (tables_of s new)
full_log s old new shard why.LogFull here stuck = record { shard = shard; configured = here; owes = stuck refl }
full_log s old new shard why.KeeperFault here stuck = absurd (none_rose old new stuck)
full_log s old new shard why.LinkFault here stuck = absurd stuck

-- nothing is in the way of calls, where no log came to its end
pub none_refused : (s : Settings) (old new : List SteadyKeeper) (summary : LoadSummary) → AllByRecursion HasNoStores old
    → (IsWayClear shown_steady s (cuts_in s (tables_of s old)) (tables_of s new) → summary.refused ≡ 0) → RefusesNone s (tables_of s new) summary
none_refused s old new summary none clear room = clear
    (record {
      steady = λ keeper. refl;
      uncut = λ shard here. ap (λ (t : Table). t.cut) (told_none s.shards old none (master_store s shard));
      room = room;
    })
