-- Nodes once their stores were settled, and once they have caught up.
use Rattle.std.proofs.Common.{◌≡◌, ℕ, ◌≤◌, ◌<◌, Bool, true, List, [], Option, Some, None, Result, Ok, Err, length, refl, ap, sym, subst, ◌∙◌, inl, inr, arith}
use Rattle.std.specs.List.{AllByRecursion}
use Rattle.std.specs.Option.{option_map_or}
use Rattle.std.specs.Prelude.{Vec}
use Rattle.cache_items.specs.Node.{Node}
use Rattle.cache_node.specs.True.{IsServed}
use Rattle.core_model.proofs.NodesSeen.{node_rises, served-at}
use Rattle.core_model.proofs.PastCuts.{nodes_stay_past_cuts}
use Rattle.core_model.proofs.Reaching.{up_to}
use Rattle.core_model.proofs.Refilling.{followers_stay}
use Rattle.core_model.proofs.Settled.{node_tells, pen_of}
use Rattle.core_model.proofs.Turns.{turn_of}
use Rattle.core_model.specs.Consistent.{HasReached, IsConsistent, IsFleetOf, IsNodeOf}
use Rattle.core_model.specs.Cuts.{ArePastCuts}
use Rattle.core_model.specs.Fleet.{Fleet, region_of}
use Rattle.core_model.specs.Growing.{StoresGrow}
use Rattle.core_model.specs.Pens.{pens_of}
use Rattle.core_model.specs.Stores.{AreStoresOf, AreWhole, HaveMasterRegions, region_store, store_length, stores_in}
use Rattle.core_nodes.proofs.CatchLemmas.{so_before}
use Rattle.core_nodes.proofs.CaughtUp.{nodes_catch_up}
use Rattle.core_nodes.proofs.FleetBegins.{follower_regions, leader_regions}
use Rattle.core_nodes.proofs.GrowingLemmas.{stays_stores, stores_in_turn}
use Rattle.core_nodes.specs.Outside.{Outside}
use Rattle.core_nodes.specs.Settling.{IsLaterLink, StopsLengths}
use Rattle.core_nodes.specs.declared.settling.SettleStop.{SettleStop}
use Rattle.core_nodes.specs.declared.settling.SettleStop.TheVariants as stop
use Rattle.core_repairs.specs.Repairs.{SettlesLogs}
use Rattle.graph_model.specs.Told.{WhereTold}
use Rattle.log_names.specs.Names.{LogNames}
use Rattle.low_water.specs.Marks.{is_marked, marks}
use Rattle.node_name.specs.declared.NodeName.{NodeName}
use Rattle.replies.specs.declared.refusals.UnsettledWhy.TheVariants as why
use Rattle.served_shards.specs.Served.{ServedShard, served_at}
use Rattle.shard_log.proofs.Beginnings.{begins-length}
use Rattle.shard_log.specs.View.{View}
use Rattle.shard_tables.specs.StoreView.{Store}
use Rattle.shared_stores.specs.Locked.{IsSharedStore, KeepsMaster, KeepsSlave, locked}
use Rattle.shared_stores.specs.Making.{Making}
use Rattle.tao_base.specs.EdgeTypes.{InversesMatch}
use Rattle.tao_keeper.proofs.Later.{later_trans}
use Rattle.tao_keeper.specs.KeeperState.{IsLater}
use Rattle.tao_keeper.specs.Table.{Stays, Tables}
use Rattle.tao_schema.specs.Schema.{types_of}
use Rattle.tao_link.specs.Shown.{LinkShown}
use Rattle.topology.specs.Config.{Settings}
use Rattle.topology.specs.States.{all_up}
use Rattle.write_model.proofs.Paired.{no_jobs_are_paired}
use Rattle.write_model.specs.Steps.{HaveNoJobs}
use Rattle.unlocked_nodes.specs.Settling.{CatchesUpAll, ClosedNow, ComesTo, GoesOnClosed, HasStopCause, LeavesNodes, MovesStores, RestsWhole, closed_now}
use Rattle.unlocked_nodes.specs.Settling.{stores_now}
use Rattle.unlocked_nodes.specs.Unlocked.{IsMet, IsUnlocked, fleet_with}
use Rattle.unlocked_nodes.proofs.MetNodes.{named_so}
use Rattle.unlocked_nodes.proofs.MovedStores.{earlier_cause, settles_none}

-- ---- a node whose region's stores have the whole logs

module _ (s : Settings) (tables : Tables) (stores : List Store) (regions : HaveMasterRegions s) (are : AreStoresOf true s tables stores) (whole : AreWhole s tables)
  where
    reached_by : (name : NodeName) (node : Node) → IsNodeOf s (pens_of stores) name node → region_of name < length s.regions
        → (shard position : ℕ) (o : Option ServedShard) → served_at shard node.served ≡ o
        → is_marked (option_map_or (λ t. t.marks) o (marks 0 [])) position ≡ true → position ≤ store_length tables (region_of name) shard
    reached_by name node is here shard position None found on = let low = up_to 0 position on in omega (arith, low)
    reached_by name node is here shard position (Some t) found on =
        let served : IsServed node.served shard = rw found refl in
        let lt = (turn_of s (pens_of stores) name node shard is served).0 in
        let truth = is.truth.told (node_tells s tables stores name node regions are is) in
        let within = (truth.served shard t found).within position on in
        let seen = begins-length t.view.entries (pens_of stores shard).entries (served-at (pens_of stores) shard node.served t is.seen found).begins in
        let pen = ap length (pen_of s tables stores shard regions are lt).0 in
        let all = ap length (whole (region_store (region_of name) shard) (record { region = here; shard = lt })) in
        omega (arith, within, seen, pen, all)

    reached : (name : NodeName) (node : Node) → IsNodeOf s (pens_of stores) name node → region_of name < length s.regions
        → HasReached tables (region_of name) node
    reached name node is here shard position on = reached_by name node is here shard position (served_at shard node.served) refl on

-- ---- once the stores were moved

module _ (tells : Bool) (m : Making) (log : LogNames) (f : Fleet) (stores : List Store) (before after : Outside)
    (moves : MovesStores tells m.settings (stores_now f.stores before) (stores_now stores after)) (met : IsMet tells m log before.keepers.told f)
    (regions : HaveMasterRegions m.settings) where
  abbrev s : Settings
  s = m.settings

  -- the nodes that were there stand before the stores again
  abbrev moved : Fleet
  moved = fleet_with f.leaders f.followers stores

  fleet_is : IsFleetOf s moved
  fleet_is = record {
    leader_names = met.fleet.leader_names;
    follower_names = met.fleet.follower_names;
    leaders = λ place name node at.
        node_rises s (pens_of f.stores) (pens_of stores) name node moves.rise (met.fleet.leaders place name node at);
    followers = λ place name follower at.
        (followers_stay s (pens_of f.stores) name).rises (pens_of stores) follower moves.rise (met.fleet.followers place name follower at);
  }

  past_is : WhereTold tells (ArePastCuts after.keepers.told moved)
  past_is told = record {
    leaders = λ place name node at. record {
      past = λ shard t found. (
          let cut = moves.grows.cuts.cuts told (region_store (region_of name) shard) in
          let was = ((met.past told).leaders place name node at).past shard t found in
          omega (arith, cut, was));
    };
    followers = λ place name follower at. record {
      past = λ shard t found. (
          let cut = moves.grows.cuts.cuts told (region_store (region_of name) shard) in
          let was = ((met.past told).followers place name follower at).past shard t found in
          omega (arith, cut, was));
    };
  }

  pub moved_met : IsMet tells m log after.keepers.told moved
  moved_met = record {
    stores = moves.stores;
    logs = λ shard lt. (moves.rise shard).log_is ∙ met.logs shard lt;
    fleet = fleet_is;
    past = past_is;
  }

  -- once every store has its shard's whole log they are consistent
  pub moved_consistent : WhereTold tells (RestsWhole s after.keepers.told) → IsConsistent tells s after.keepers.told moved
  moved_consistent rests = record {
    stores = moves.stores;
    fleet = fleet_is;
    reached = λ told. (
        let are = subst (λ b. AreStoresOf b s after.keepers.told stores) told moves.stores in
        let whole = (rests told).whole in
        record {
          leaders = λ place name node at. reached s after.keepers.told stores regions are whole name node (fleet_is.leaders place name node at)
              (named_so (λ n. region_of n < length s.regions) f.leaders place name node
              (subst (AllByRecursion (λ n. region_of n < length s.regions)) (sym met.fleet.leader_names) (leader_regions s)) at);
          followers = λ place name follower at. reached s after.keepers.told stores regions are whole name follower.node
              (fleet_is.followers place name follower at).node
              (named_so (λ n. region_of n < length s.regions) f.followers place name follower
              (subst (AllByRecursion (λ n. region_of n < length s.regions)) (sym met.fleet.follower_names) (follower_regions s)) at);
        });
  }

  pub moved_past : WhereTold tells (ArePastCuts after.keepers.told moved)
  moved_past = past_is

  went : GoesOnClosed tells s (closed_now f before) (closed_now moved after)
  went = record { grows = moves.grows; settles = moves.settles; later = moves.later; link = moves.link }

  -- it stopped there
  pub stops_moved : (A : Type 0) (given : SettleStop) → HasStopCause tells s given before after
      → ComesTo {A = A} tells s (Err given) (closed_now f before) (closed_now moved after)
  stops_moved A given cause = record { goes = went; cause = cause; nodes = inl refl }

  -- ---- and once the nodes caught up

  module _ {A : Type 0} (r : Result (Vec ℕ A) SettleStop) (now : ClosedNow) (rests : WhereTold tells (RestsWhole s after.keepers.told))
      (catches : CatchesUpAll tells s r (closed_now moved after) now) where
    pub caught_met : IsMet tells m log now.outside.keepers.told now.fleet
    caught_met = record {
      stores = catches.consistent.stores;
      logs = λ shard lt. (catches.goes.rise shard).log_is ∙ moved_met.logs shard lt;
      fleet = catches.consistent.fleet;
      past = λ told.
          (nodes_stay_past_cuts s after.keepers.told now.outside.keepers.told moved now.fleet).stay regions
          (subst (λ b. IsConsistent b s after.keepers.told moved) told (moved_consistent rests)) catches.goes
          (subst (λ b. StoresGrow b s after.keepers.told now.outside.keepers.told) told (stays_stores tells s after.keepers now.outside.keepers catches.reads.tables))
          (past_is told);
    }

    goes_on : GoesOnClosed tells s (closed_now f before) now
    goes_on = record {
      grows = stores_in_turn tells s before.keepers.told after.keepers.told now.outside.keepers.told moves.grows
          (stays_stores tells s after.keepers now.outside.keepers catches.reads.tables);
      settles = λ told. so_before (SettlesLogs s before.keepers.told) now.outside.keepers.told after.keepers.told (λ at. sym (catches.reads.tables told at))
          (moves.settles told);
      later = later_trans before.keepers after.keepers now.outside.keepers moves.later catches.reads.keepers;
      link = record {
        carries = (let p = moves.link.carries in let q = catches.reads.link.carries in omega (arith, p, q));
        faults = (let p = moves.link.faults in let q = catches.reads.link.faults in omega (arith, p, q));
        cuts = catches.reads.link.cuts ∙ moves.link.cuts;
      };
    }

    same_now : tells ≡ true → after.keepers.told ≡ now.outside.keepers.told
    same_now told i at = sym (catches.reads.tables told at) i

  -- what came of it
  pub comes_caught : {A : Type 0} (r : Result (Vec ℕ A) SettleStop) (now : ClosedNow) → InversesMatch (types_of s.schema)
      → WhereTold tells (RestsWhole s after.keepers.told) → CatchesUpAll tells s r (closed_now moved after) now → ComesTo tells s r (closed_now f before) now
  comes_caught (Ok logs) now match rests catches = record {
    goes = goes_on (Ok logs) now rests catches;
    caught = λ told. record { leaders = (catches.caught told).leaders; followers = (catches.caught told).followers };
    settled = λ told. (
        let same = same_now (Ok logs) now rests catches told in
        let none = subst (λ (t : Tables). HaveNoJobs (stores_in s t)) same (rests told).none in
        record {
          none = none;
          paired = no_jobs_are_paired.paired (types_of s.schema) (stores_in s now.outside.keepers.told) match (catches.consistent.stores.kept told) none;
          whole = subst (AreWhole s) same (rests told).whole;
          lengths = catches.lengths told;
          ends = (nodes_catch_up s now.outside.keepers.told).caught (all_up s) moved now.fleet (catches.caught told);
        });
  }
  comes_caught (Err given) now match rests catches = record {
    goes = goes_on (Err given) now rests catches;
    cause = earlier_cause tells s before after now.outside given moves.later moves.link catches.cause;
    nodes = left catches.nodes;
  }
    where
      left : LeavesNodes tells s (closed_now moved after) now → LeavesNodes tells s (closed_now f before) now
      left (inl same) = inl same
      left (inr on) = inr (record { leaders = on.leaders; followers = on.followers })

-- ---- under settings that are those of the locks

module _ (tells : Bool) (m : Making) (log : LogNames) (f left : Fleet) (stores : List Store) (before after : Outside) (s : Settings) (made : s ≡ m.settings)
    (met : IsMet tells m log before.keepers.told f) (same : left ≡ fleet_with f.leaders f.followers stores) where
  abbrev Moves : Settings → Type 0
  Moves x = MovesStores tells x (stores_now f.stores before) (stores_now stores after)

  abbrev Rests : Settings → Type 0
  Rests x = WhereTold tells (RestsWhole x after.keepers.told)

  pub left_consistent : Moves s → HaveMasterRegions s → Rests s → IsConsistent tells s after.keepers.told left
  left_consistent = subst (λ x. Moves x → HaveMasterRegions x → Rests x → IsConsistent tells x after.keepers.told left) (sym made) (λ moves regions rests.
      subst (IsConsistent tells m.settings after.keepers.told) (sym same) (moved_consistent tells m log f stores before after moves met regions rests))

  pub left_past : Moves s → HaveMasterRegions s → WhereTold tells (ArePastCuts after.keepers.told left)
  left_past = subst (λ x. Moves x → HaveMasterRegions x → WhereTold tells (ArePastCuts after.keepers.told left)) (sym made) (λ moves regions.
      subst (λ g. WhereTold tells (ArePastCuts after.keepers.told g)) (sym same) (moved_past tells m log f stores before after moves met regions))

  pub left_met : Moves s → HaveMasterRegions s → IsMet tells m log after.keepers.told left
  left_met = subst (λ x. Moves x → HaveMasterRegions x → IsMet tells m log after.keepers.told left) (sym made) (λ moves regions.
      subst (IsMet tells m log after.keepers.told) (sym same) (moved_met tells m log f stores before after moves met regions))

  pub left_stops : (A : Type 0) (given : SettleStop) → Moves s → HaveMasterRegions s → HasStopCause tells s given before after
      → ComesTo {A = A} tells s (Err given) (closed_now f before) (closed_now left after)
  left_stops A given =
      subst (λ x. Moves x → HaveMasterRegions x → HasStopCause tells x given before after
      → ComesTo {A = A} tells x (Err given) (closed_now f before) (closed_now left after)) (sym made) (λ moves regions cause.
      subst (λ g. ComesTo {A = A} tells m.settings (Err given) (closed_now f before) (closed_now g after)) (sym same)
      (stops_moved tells m log f stores before after moves met regions A given cause))

  module _ {A : Type 0} (r : Result (Vec ℕ A) SettleStop) (now : ClosedNow) where
    abbrev Catches : Settings → Type 0
    Catches x = CatchesUpAll tells x r (closed_now left after) now

    pub left_caught : Moves s → HaveMasterRegions s → Rests s → Catches s → IsMet tells m log now.outside.keepers.told now.fleet
    left_caught = subst (λ x. Moves x → HaveMasterRegions x → Rests x → Catches x → IsMet tells m log now.outside.keepers.told now.fleet) (sym made)
        (λ moves regions rests catches. caught_met tells m log f stores before after moves met regions r now rests
        (subst (λ g. CatchesUpAll tells m.settings r (closed_now g after) now) same catches))

    pub left_comes : Moves s → HaveMasterRegions s → InversesMatch (types_of s.schema) → Rests s → Catches s → ComesTo tells s r (closed_now f before) now
    left_comes = subst (λ x. Moves x → HaveMasterRegions x → InversesMatch (types_of x.schema) → Rests x → Catches x → ComesTo tells x r (closed_now f before) now)
        (sym made) (λ moves regions match rests catches. comes_caught tells m log f stores before after moves met regions r now match rests
        (subst (λ g. CatchesUpAll tells m.settings r (closed_now g after) now) same catches))

-- ---- while keepers were only read

module _ (tells : Bool) (s : Settings) (f : Fleet) (old mid : Outside) (stays : WhereTold tells (Stays old.keepers.told mid.keepers.told))
    (later : IsLater old.keepers mid.keepers) (link : mid.link ≡ old.link) where
  read_link : IsLaterLink old.link mid.link
  read_link = record { carries = omega (arith, ap (λ (l : LinkShown). l.carries) link); faults = omega (arith, ap (λ (l : LinkShown). l.faults) link); cuts = ap (λ (l : LinkShown). l.cuts) link }

  read_on : (new : ClosedNow) → GoesOnClosed tells s (closed_now f mid) new → GoesOnClosed tells s (closed_now f old) new
  read_on new goes = record {
    grows = stores_in_turn tells s old.keepers.told mid.keepers.told new.outside.keepers.told (stays_stores tells s old.keepers mid.keepers stays) goes.grows;
    settles = λ told. subst (λ (t : Tables). SettlesLogs s t new.outside.keepers.told) (λ i at. stays told at i) (goes.settles told);
    later = later_trans old.keepers mid.keepers new.outside.keepers later goes.later;
    link = record {
      carries = (let p = goes.link.carries in omega (arith, p, ap (λ (l : LinkShown). l.carries) link));
      faults = (let p = goes.link.faults in omega (arith, p, ap (λ (l : LinkShown). l.faults) link));
      cuts = goes.link.cuts ∙ ap (λ (l : LinkShown). l.cuts) link;
    };
  }

  -- what came of it then, came of it from before on
  pub comes_after : {A : Type 0} (r : Result (Vec ℕ A) SettleStop) (new : ClosedNow) → ComesTo tells s r (closed_now f mid) new
      → ComesTo tells s r (closed_now f old) new
  comes_after (Ok logs) new comes = record { goes = read_on new comes.goes; caught = comes.caught; settled = comes.settled }
  comes_after (Err given) new comes = record {
    goes = read_on new comes.goes;
    cause = earlier_cause tells s old mid new.outside given later read_link comes.cause;
    nodes = comes.nodes;
  }

  looked_cause : (given : SettleStop) → StopsLengths s old.keepers mid.keepers given → HasStopCause tells s given old mid
  looked_cause (stop.Unsettled shard why.KeeperFault) is = is
  looked_cause (stop.Unsettled shard why.LinkFault) is = absurd is
  looked_cause (stop.Unsettled shard why.LogFull) is = absurd is
  looked_cause (stop.NoServer shard) is = absurd is
  looked_cause stop.OutOfMemory is = tt

  -- it stopped while they were read
  pub stops_looking : (A : Type 0) (given : SettleStop) (left : Fleet) → left ≡ f → StopsLengths s old.keepers mid.keepers given
      → ComesTo {A = A} tells s (Err given) (closed_now f old) (closed_now left mid)
  stops_looking A given left same stops = subst (λ x. ComesTo {A = A} tells s (Err given) (closed_now f old) (closed_now x mid)) (sym same) (record {
    goes = record {
      grows = stays_stores tells s old.keepers mid.keepers stays;
      settles = λ told. settles_none s old.keepers.told mid.keepers.told (stays told);
      later = later;
      link = read_link;
    };
    cause = looked_cause given stops;
    nodes = inl refl;
  })

-- ---- what lay behind locks, while keepers were only read

shared_stays : (tells : Bool) (m : Making) (log : LogNames) (old new : Tables) (store : Store) (notes : List View) → WhereTold tells (Stays old new)
    → IsSharedStore tells m log (locked store old notes) → IsSharedStore tells m log (locked store new notes)
shared_stays tells m log old new store notes stays shared = record {
  is = shared.is;
  log_is = shared.log_is;
  told_is = shared.told_is;
  notes = shared.notes;
  past_cut = λ told. subst (λ (t : Tables). m.cut store.name.shard ≤ length (t store.name).log) (same told) (shared.past_cut told);
  master = λ told is. subst (λ (t : Tables). KeepsMaster m (locked store t notes)) (same told) (shared.master told is);
  slave = λ told is. subst (λ (t : Tables). KeepsSlave m (locked store t notes)) (same told) (shared.slave told is);
}
  where
    same : tells ≡ true → old ≡ new
    same told i at = sym (stays told at) i

pub unlocked_stays : (tells : Bool) (m : Making) (log : LogNames) (old new : Tables) (f g : Fleet) (noted left : List (List View)) → g ≡ f → left ≡ noted
    → WhereTold tells (Stays old new) → IsUnlocked tells m log old f noted → IsUnlocked tells m log new g left
unlocked_stays tells m log old new f g noted left same notes stays unlocked =
    subst (λ x. IsUnlocked tells m log new x left) (sym same) (subst (IsUnlocked tells m log new f) (sym notes) (record {
      many = unlocked.many;
      noted_long = unlocked.noted_long;
      stores = λ place store own at has is. shared_stays tells m log old new store own stays (unlocked.stores place store own at has is);
      leaders = unlocked.leaders;
      followers = unlocked.followers;
    }))
