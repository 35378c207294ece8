-- What a trim of a store's log does to it and to the nodes before it.
use Rattle.std.specs.Prelude.{ℕ, ◌≡◌, Bool, List, [], ◌∷◌, All, filter, length, map}
use Rattle.core_mail.specs.Inboxes.{AreInboxesOf, HaveArrived, Inboxes, LosesAll}
use Rattle.core_model.specs.Consistent.{GoesOn, IsConsistent}
use Rattle.core_model.specs.Cuts.{ArePastCuts}
use Rattle.core_model.specs.Emptied.{EmptiesCache, RegionTables, at_stores, region_tables}
use Rattle.core_model.specs.Evictions.{IsCacheOf}
use Rattle.core_model.specs.Fleet.{ChangesNode, Fleet, region_of}
use Rattle.core_model.specs.Growing.{TablesGoOn}
use Rattle.core_model.specs.Pens.{Pens, pens_of}
use Rattle.core_steps.specs.core_nodes.Emptying.{IsRestart}
use Rattle.core_steps.specs.core_nodes.Trimming.{cut_to, least_mark, names_behind}
use Rattle.core_steps.specs.World.{World}
use Rattle.core_steps.specs.declared.nodes.Nodes.{Nodes}
use Rattle.graph_model.specs.Told.{WhereTold}
use Rattle.node_name.specs.declared.NodeName.{NodeName}
use Rattle.replies.specs.declared.nodes.Trimmed.{Trimmed}
use Rattle.tao_base.specs.declared.id.StoreName.{StoreName}
use Rattle.tao_keeper.specs.KeeperState.{IsLater}
use Rattle.tao_keeper.specs.Table.{Becomes, Tables, after_cut}
use Rattle.topology.specs.Config.{Settings}
use Rattle.topology.specs.States.{NodeStates, is_up}
use Rattle.core_trims.specs.declared.trims.Reset.{Reset}

-- ---- nodes that are reset

-- the leader or follower of that name loses all that it holds, and the messages that wait for it, and begins anew at its region's stores
pub record ResetsNode (over : RegionTables) (name : NodeName) (old new : World) : Type 0 where
  pub empties : EmptiesCache name (pens_of old.fleet.stores) (at_stores over) old.fleet new.fleet
  pub messages : ChangesNode name LosesAll old.inboxes new.inboxes
  pub rest : new ≡ record old { fleet = new.fleet; inboxes = new.inboxes }

-- each of these leaders and followers loses all that it holds and the messages that wait for it, and begins anew, one after another, the last one first
abbrev pub ResetEach : RegionTables → List NodeName → World → World → Type 0
ResetEach over [] old new = new ≡ old
ResetEach over (name ∷ names) old new = (between : World) × ResetEach over names old between × ResetsNode over name between new

-- the names of the nodes that are to be reset
abbrev pub names_of : List Reset → List NodeName
names_of resets = map (λ (r : Reset). r.node) resets

-- the node of the name is a leader or follower of the region, and this is what it begins with at the region's stores
pub record IsPrepared (s : Settings) (pens : Pens) (over : RegionTables) (reset : Reset) : Type 0 where
  pub cache : IsCacheOf s reset.node
  pub region_is : region_of reset.node ≡ over.region
  pub restart : IsRestart s pens over reset.node reset.stand

-- each of these names a leader or follower of the region, and what that begins with at the region's stores
abbrev pub ArePrepared : Settings → Pens → RegionTables → List Reset → Type 0
ArePrepared s pens over resets = All (IsPrepared s pens over) resets

-- each of the names is of a leader or follower of the region
abbrev pub AreOfRegion : Settings → ℕ → List NodeName → Type 0
AreOfRegion s region names = All (λ name. IsCacheOf s name × (region_of name ≡ region)) names

-- how many of the nodes are up
abbrev pub count_up : NodeStates → List NodeName → ℕ
count_up states names = length (filter (is_up states) names)

-- ---- all

-- the store's log is cut at the least of the position and of the lengths of all stores of its shard, unless its cut is past that already: no entry, job or
-- other table changes. Each leader and follower of the store's region that serves the shard and lies behind begins anew at its region's stores; of those the
-- ones that are up are counted. Nothing else changes
pub record TrimsOver (tells : Bool) (s : Settings) (at : StoreName) (position : ℕ) (trimmed : Trimmed) (old new : World) : Type 0 where
  pub least : ℕ
  pub least_is : WhereTold tells (least ≡ least_mark s old.keepers.told at.shard position)
  pub cut_is : WhereTold tells (trimmed.cut ≡ cut_to old.keepers.told at least)
  pub tables : WhereTold tells (Becomes old.keepers.told new.keepers.told at (after_cut (old.keepers.told at) trimmed.cut))
  pub resets : ResetEach (region_tables tells new.keepers.told at.region) (names_behind s old.fleet at least) (record old { keepers = new.keepers }) new
  pub reset_is : trimmed.reset ≡ count_up old.states (names_behind s old.fleet at least)

-- the nodes are consistent with keepers that tell these tables, and each message that waits is one for its node, whose store has come to it
pub record AreSteady (tells : Bool) (s : Settings) (tables : Tables) (fleet : Fleet) (mail : Inboxes) : Type 0 where
  pub consistent : IsConsistent tells s tables fleet
  pub inboxes : AreInboxesOf s (pens_of fleet.stores) mail
  pub arrived : WhereTold tells (HaveArrived tables mail)

-- what resets leave: what is in order stays so, the nodes go on, and no store changes
pub record ResetsOn (tells : Bool) (s : Settings) (tables : Tables) (old new : Nodes) : Type 0 where
  pub order : AreSteady tells s tables new.fleet new.mail
  pub goes : GoesOn old.fleet new.fleet
  pub stores : new.fleet.stores ≡ old.fleet.stores

-- what a trim leaves: what is consistent stays so, also messages and who is up, the nodes go on, none lies behind a cut, of tables no log, job or line
-- changes, and no count falls
pub record TrimsOn (tells : Bool) (s : Settings) (old new : World) : Type 0 where
  pub order : AreSteady tells s new.keepers.told new.fleet new.inboxes
  pub states : new.states ≡ old.states
  pub goes : GoesOn old.fleet new.fleet
  pub past : WhereTold tells (ArePastCuts new.keepers.told new.fleet)
  pub on : TablesGoOn tells s old.keepers.told new.keepers.told
  pub later : IsLater old.keepers new.keepers
