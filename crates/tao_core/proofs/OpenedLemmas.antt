-- An opening changes no log and no job, whatever comes of it, and leaves no node behind a cut.
use Rattle.std.proofs.Common.{Bool}
use Rattle.std.specs.Prelude.{List, ℕ, ◌+◌}
use Rattle.core_model.proofs.PastCuts.{node_at_stores}
use Rattle.core_model.specs.Consistent.{IsConsistent}
use Rattle.core_model.specs.Cuts.{ArePastCuts}
use Rattle.core_model.specs.Fleet.{Fleet, named}
use Rattle.core_model.specs.Pens.{pens_of}
use Rattle.core_model.specs.Stores.{store_count, store_place}
use Rattle.core_nodes.proofs.FleetSettles.{follower_named, leader_named}
use Rattle.core_nodes.proofs.OpenedLogs.{opened_keep}
use Rattle.core_nodes.proofs.RegionNames.{configured_region}
use Rattle.core_nodes.specs.Beginning.{AreAtStores}
use Rattle.core_nodes.specs.Opening.{AreOpened, IsOpened, RefusesOpening}
use Rattle.graph_model.specs.Told.{WhereTold}
use Rattle.replies.specs.declared.opening.OpenRefusal.{OpenRefusal}
use Rattle.replies.specs.declared.opening.OpenRefusal.TheVariants as refusal
use Rattle.tao_core.specs.Opened.{AreAsBefore}
use Rattle.tao_keeper.specs.KeeperState.{KeeperState}
use Rattle.tao_keeper.specs.Table.{Tables}
use Rattle.topology.specs.Config.{Settings}

-- however many stores were opened
opened_so : (s : Settings) (line : List ℕ) (count : ℕ) (old new : Tables) → AreOpened s line count old new → AreAsBefore old new
opened_so s line count old new opened =
    let kept = opened_keep s line count old new opened in
    record { logs = kept.logs; jobs = kept.jobs }

-- all of them
pub opened_as : (tells : Bool) (s : Settings) (line : List ℕ) (old new : Tables) → WhereTold tells (IsOpened s line old new)
    → WhereTold tells (AreAsBefore old new)
opened_as tells s line old new opened = λ told. opened_so s line (store_count s) old new (opened told).opened

-- as many as were open when it was refused
pub refused_as : (tells : Bool) (s : Settings) (line : List ℕ) (old new : KeeperState) (refused : OpenRefusal) → RefusesOpening tells s line old new refused
    → WhereTold tells (AreAsBefore old.told new.told)
refused_as tells s line old new refusal.KeeperFault h = λ told. opened_so s line (h.1 told).count old.told new.told (h.1 told).opened
refused_as tells s line old new refusal.OtherLine h =
    λ told. opened_so s line (store_place s (h told).store + 1) old.told new.told (h told).opened
refused_as tells s line old new (refusal.Disagree at position) h =
    λ told. opened_so s line (store_count s) old.told new.told (h.1 told).opened.opened
refused_as tells s line old new refusal.OutOfMemory h = λ told. opened_so s line (h told).count old.told new.told (h told).opened

-- nodes at the ends of their regions' stores lie behind no cut
pub opened_past : (tells : Bool) (s : Settings) (tables : Tables) (f : Fleet) → IsConsistent tells s tables f → WhereTold tells (AreAtStores tables f)
    → WhereTold tells (ArePastCuts tables f)
opened_past tells s tables f is ends told = record {
  leaders = λ place name node at.
      node_at_stores s (pens_of f.stores) tables name node (is.stores.cuts told)
      (configured_region s name (leader_named s f place (named name node) is.fleet at))
      (is.fleet.leaders place name node at) ((ends told).leaders place name node at);
  followers = λ place name follower at.
      node_at_stores s (pens_of f.stores) tables name follower.node (is.stores.cuts told)
      (configured_region s name (follower_named s f place (named name follower) is.fleet at))
      (is.fleet.followers place name follower at).node ((ends told).followers place name follower at);
}
