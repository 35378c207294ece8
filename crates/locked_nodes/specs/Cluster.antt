-- The cluster that a call is on, as contracts speak of it.
use Rattle.std.specs.Prelude.{◌≡◌, Bool}
use Rattle.log_names.specs.Names.{LogNames}
use Rattle.shared_nodes.specs.shared_stores.Making.{Making}
use Rattle.tao_keeper.specs.KeeperState.{KeeperState}

-- keepers of the type may fail: not each of them shows that it never did
abbrev pub MayFail : {M : Type 0} → (M → KeeperState) → Type 0
MayFail state = ¬ ((keeper : _) → (state keeper).faults ≡ 0)

-- the cluster that a call is on: whether its keepers tell their tables, what each of them shows, what it was made with, and its logs' names
pub record OnCluster (M : Type 0) : Type 0 where
  pub tells : Bool
  pub state : M → KeeperState
  pub making : Making
  pub log : LogNames

-- a cluster over keepers of that kind
abbrev pub on_cluster : {M : Type 0} → Bool → (M → KeeperState) → Making → LogNames → OnCluster M
on_cluster tells state making log = record { tells = tells; state = state; making = making; log = log }
