-- The statuses of a run, and when it can only succeed.
use Rattle.std.specs.Prelude.{◌≡◌, ◌⊎◌, ◌<◌, ◌^◌, ℕ, Bool, true, List, [], ◌∷◌, length, Option, Some, Contains, IsOk, Ok}
use Rattle.tao_keeper.specs.KeeperState.{KeeperState}
use Rattle.command_words.specs.Read.{words_in}
use Rattle.counts.specs.Count.{Rose}
use Rattle.config_json.specs.Config.{config_in}
use Rattle.core_model.specs.Stores.{IsConfiguredStore, master_log, store_count}
use Rattle.core_nodes.specs.Opening.{AreReady}
use Rattle.first_line.specs.Interrupts.{Faults}
use Rattle.shard_log.specs.View.{Begins}
use Rattle.tao_base.specs.declared.id.StoreName.{StoreName}
use Rattle.tao_io.specs.Lines.{lines_of}
use Rattle.tao_keeper.specs.Table.{Tables}
use Rattle.topology.specs.Config.{Settings}

-- the statuses that a run may end with
abbrev pub IsStatus : ℕ → Type 0
IsStatus code = Contains (0 ∷ 2 ∷ 3 ∷ 4 ∷ 5 ∷ 6 ∷ 7 ∷ 8 ∷ 9 ∷ []) code

-- the words ask for a run, the input is short enough, and its first line is a configuration that each of its stores can be opened with
pub record IsGood (tells : Bool) (words : List (List ℕ)) (keepers : KeeperState) (left : Option (List ℕ)) : Type 0 where
  pub bytes : List ℕ
  pub first : List ℕ
  pub others : List (List ℕ)
  pub settings : Settings
  pub asked : IsOk (words_in words)
  pub known : left ≡ Some bytes
  pub short : length bytes < 2 ^ 40
  pub lines : lines_of bytes ≡ first ∷ others
  pub accepted : config_in first ≡ Ok settings
  pub told : tells ≡ true
  pub ready : AreReady settings first (store_count settings) keepers.told

-- nothing failed
pub record NoFault (old new : Faults) (keepers_before keepers_now : ℕ) : Type 0 where
  pub source : ¬ Rose old.source new.source
  pub sink : ¬ Rose old.sink new.sink
  pub keepers : ¬ Rose keepers_before keepers_now

-- the log of each store begins its master's
abbrev pub StoresAgree : Settings → Tables → Type 0
StoresAgree s tables = (at : StoreName) → IsConfiguredStore s at → Begins (tables at).log (master_log s tables at.shard)

-- where nothing but out of memory stops it, a run with these stores ends with 0 where they agree, and with 8 where they don't
pub record EndsByStores (s : Settings) (tables : Tables) (code : ℕ) : Type 0 where
  pub agree : StoresAgree s tables → (code ≡ 0) ⊎ (code ≡ 7)
  pub disagree : (StoresAgree s tables → ⊥) → (code ≡ 8) ⊎ (code ≡ 7)
