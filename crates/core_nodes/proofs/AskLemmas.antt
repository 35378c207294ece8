-- What the stage of a read at a leader leaves, and what it gives.
use Rattle.std.proofs.Common.{◌≡◌, ℕ, Bool, true, false, List, Option, Some, None, IfOk, OnErr, Result, Ok, Err, refl, ap, sym, ◌∙◌, subst, inl, inr}
use Rattle.std.specs.Prelude.{◌<◌, ⊤, if◌then◌else◌, nat_lt}
use Rattle.std.specs.Bool.{OnTrue}
use Rattle.std.specs.Option.{option_map}
use Rattle.cache_items.specs.Node.{Node}
use Rattle.graph_model.specs.Told.{WhereTold}
use Rattle.core_model.specs.leader_tier.LeaderReads.{IsLegalAt, at_floor}
use Rattle.node_name.specs.declared.NodeName.{NodeName}
use Rattle.served_shards.specs.Served.{ServedShard, log_at, served_at, view_at}
use Rattle.shard_log.proofs.GrowthLemmas.{grows-self}
use Rattle.shard_log.specs.View.{Grows, View}
use Rattle.shard_tables.specs.ReadOuts.{read_note}
use Rattle.shard_tables.specs.StoreView.{Store}
use Rattle.shard_tables.specs.Stores.{note_of, seen_by}
use Rattle.shard_tables.specs.declared.leader_answer.LeaderAnswer.{LeaderAnswer}
use Rattle.shard_tables.specs.declared.leader_answer.LeaderAnswer.TheVariants.{Filled, Past, Behind}
use Rattle.shard_tables.specs.declared.read_out.ReadOut.{ReadOut}
use Rattle.shard_tables.specs.declared.read_out.ReadOut.TheVariants as out
use Rattle.shard_tables.specs.declared.refusal.StoreRefusal.{StoreRefusal}
use Rattle.shard_tables.specs.declared.store.StoreRole.{StoreRole}
use Rattle.shard_tables.specs.declared.store.StoreRole.TheVariants.{Master, Slave}
use Rattle.tao_base.specs.EdgeTypes.{EdgeTypes}
use Rattle.tao_base.specs.Queries.{query_shard}
use Rattle.tao_keeper.specs.KeeperState.{KeeperState, KeepsTables}
use Rattle.tao_base.specs.declared.id.StoreName.{StoreName}
use Rattle.tao_keeper.specs.Table.{Stays, Tables}
use Rattle.tao_schema.specs.Schema.{types_of}
use Rattle.topology.specs.Config.{Settings}
use Rattle.core_model.proofs.FoundStores.{stores_are_found}
use Rattle.core_model.proofs.NamedNodes.{changes_so}
use Rattle.core_model.proofs.Reaching.{nodes_reach}
use Rattle.core_model.proofs.KeptStores.{kept_stays}
use Rattle.core_model.proofs.Legal.{reads_are_legal}
use Rattle.core_model.proofs.MarkingOn.{nodes_mark_on}
use Rattle.core_model.proofs.NodesSeen.{nodes_stay_seen}
use Rattle.core_model.proofs.PastCuts.{come_same}
use Rattle.core_model.proofs.Staying.{nodes_stay}
use Rattle.core_model.proofs.Turns.{serves_its_turn}
use Rattle.core_model.specs.Consistent.{GoesOn, IsConsistent, IsFleetOf, IsNodeOf}
use Rattle.core_model.specs.Fleet.{ChangesNode, Fleet, region_of, serves}
use Rattle.core_model.specs.Pens.{IsSeen, Pens, pens_of, store_in}
use Rattle.core_model.specs.Reads.{IsGivenAnswer, LeaderAnswers, StoreCalls, Wanted, store_calls}
use Rattle.core_model.specs.Serving.{IsLeaderFor, IsLeaderIn}
use Rattle.core_model.specs.Stores.{AreStores, AreStoresOf, FollowMasters, region_store, store_count, store_place}
use Rattle.core_model.specs.declared.named.Named.{Named}
use Rattle.node_stages.specs.Stages.{LeaderDoes}
use Rattle.core_nodes.specs.Stages.{NodeIs}
use Rattle.core_nodes.proofs.FleetLemmas.{goes_self, kind_reaches, leader_step, reach_stays, the_leaders}
use Rattle.core_nodes.proofs.ReadLemmas.{log_of_shard}
use Rattle.core_nodes.proofs.StoreLemmas.{seen_stay}

-- ---- where no table changes

pub stores_here : (tells : Bool) (s : Settings) (old new : Tables) (stores : List Store) → AreStoresOf tells s old stores → WhereTold tells (Stays old new)
    → AreStoresOf tells s new stores
stores_here tells s old new stores are stays = record {
  configured = are.configured;
  kept = λ told. kept_stays s old new (stays told) (are.kept told);
  cuts = λ told. come_same s old new (stays told) (are.cuts told);
  seen = seen_stay tells old new stores are.seen stays;
  follow = are.follow;
}

pub still_consistent : (tells : Bool) (s : Settings) (old new : Tables) (f : Fleet) → IsConsistent tells s old f → WhereTold tells (Stays old new)
    → IsConsistent tells s new f
still_consistent tells s old new f is stays = record {
  stores = stores_here tells s old new f.stores is.stores stays;
  fleet = is.fleet;
  reached = reach_stays tells old new f stays is.reached;
}

-- ---- what a leader that may be asked has seen

-- it is of the log of the store that its region has
pub leader_log : (s : Settings) (f : Fleet) (region shard : ℕ) (name : NodeName) → IsFleetOf s f → AreStores s (store_count s) f.stores
    → FollowMasters f.stores → IsLeaderFor s shard name
    → NodeIs name (λ (node : Node). (store : Store) → store_in f.stores (region_store region shard) ≡ Some store
    → log_at shard node.served ≡ Some store.view.log) f.leaders
leader_log s f region shard name fleet are follow is place node first at = λ store there.
    let was = fleet.leaders place name node at in
    let found = (stores_are_found s f.stores).called (region_store region shard) store are there in
    let seen : Grows store.view (pens_of f.stores shard) =
    subst (λ (n : StoreName). Grows store.view (pens_of f.stores n.shard)) found.name_is
    (follow (store_place s (region_store region shard)) store found.stands) in
    log_of_shard (pens_of f.stores) shard s name node was ((serves_its_turn s (pens_of f.stores) name node shard).serves was is.here is.serves)
    ∙ ap Some seen.log_is

-- the same where the leaders and the stores were lent
pub lent_log : (s : Settings) (f : Fleet) (region shard : ℕ) (name : NodeName) (leaders : List (Named Node)) (stores : List Store) → leaders ≡ f.leaders
    → stores ≡ f.stores → IsFleetOf s f → AreStores s (store_count s) f.stores → FollowMasters f.stores → IsLeaderFor s shard name
    → NodeIs name (λ (node : Node). (store : Store) → store_in stores (region_store region shard) ≡ Some store
    → log_at shard node.served ≡ Some store.view.log) leaders
lent_log s f region shard name leaders stores own same fleet are follow is =
    let Logs : List Store → List (Named Node) → Type 0 =
    λ xs ls. NodeIs name (λ (node : Node). (x : Store) → store_in xs (region_store region shard) ≡ Some x → log_at shard node.served ≡ Some x.view.log) ls in
    subst (Logs stores) (sym own) (subst (λ xs. Logs xs f.leaders) (sym same) (leader_log s f region shard name fleet are follow is))

-- the same of one that may stand in for another, where it serves the shard
pub lent_log_where : (s : Settings) (f : Fleet) (region shard : ℕ) (name : NodeName) (preferred : Bool) (leaders : List (Named Node)) (stores : List Store)
    → leaders ≡ f.leaders → stores ≡ f.stores → IsFleetOf s f → AreStores s (store_count s) f.stores → FollowMasters f.stores → shard < s.shards
    → IsLeaderIn s region name → preferred ≡ serves s name shard
    → OnTrue preferred (NodeIs name (λ (node : Node). (store : Store) → store_in stores (region_store region shard) ≡ Some store
    → log_at shard node.served ≡ Some store.view.log) leaders)
lent_log_where s f region shard name true leaders stores own same fleet are follow here is which =
    lent_log s f region shard name leaders stores own same fleet are follow (record { here = here; configured = is.configured; serves = sym which })
lent_log_where s f region shard name false leaders stores own same fleet are follow here is which = tt

view_found : (pens : Pens) (shard : ℕ) (served : List ServedShard) (note : View) (found : Option ServedShard) → served_at shard served ≡ found
    → ((s : ServedShard) → served_at shard served ≡ Some s → IsSeen pens shard s.view) → view_at shard served ≡ Some note → IsSeen pens shard note
view_found pens shard served note None at seen is = (let none : None ≡ Some note = sym (ap (option_map (λ x. x.view)) at) ∙ is in absurd (cc))
view_found pens shard served note (Some s) at seen is =
    let same : Some s.view ≡ Some note = sym (ap (option_map (λ x. x.view)) at) ∙ is in
    let one : s.view ≡ note = cc in
    subst (IsSeen pens shard) one (seen s at)

-- what a store's note has seen begins its shard's log
store_seen : (s : Settings) (stores : List Store) (at : StoreName) (store : Store) → AreStores s (store_count s) stores → FollowMasters stores
    → store_in stores at ≡ Some store → IsSeen (pens_of stores) at.shard (note_of store)
store_seen s stores at store are follow there =
    let found = (stores_are_found s stores).called at store are there in
    let seen : Grows store.view (pens_of stores at.shard) =
    subst (λ (n : StoreName). Grows store.view (pens_of stores n.shard)) found.name_is (follow (store_place s at) store found.stands) in
    by_role store.role store.view seen
  where
    by_role : (role : StoreRole) (v : View) → Grows v (pens_of stores at.shard) → Grows (seen_by role v) (pens_of stores at.shard)
    by_role Master v grows = record { log_is = grows.log_is; begins = grows.begins }
    by_role Slave v grows = grows

-- what was given was seen
abbrev IsSeenAnswer : Pens → ℕ → LeaderAnswer → Type 0
IsSeenAnswer pens shard (Filled fill) = IsSeen pens shard fill.note
IsSeenAnswer pens shard (Past answer version total note) = IsSeen pens shard note
IsSeenAnswer pens shard (Behind version) = ⊤

floor_seen : (pens : Pens) (shard : ℕ) (behind : Bool) (version : ℕ) (given : LeaderAnswer) → IsSeenAnswer pens shard given
    → IsSeenAnswer pens shard (if behind then Behind version else given)
floor_seen pens shard true version given seen = tt
floor_seen pens shard false version given seen = seen

out_seen : (pens : Pens) (shard floor : ℕ) (read : ReadOut) → IsSeen pens shard (read_note read) → IsSeenAnswer pens shard (at_floor floor read)
out_seen pens shard floor (out.Filled fill) seen = floor_seen pens shard (nat_lt fill.version floor) fill.version (Filled fill) seen
out_seen pens shard floor (out.Past answer version total note) seen = floor_seen pens shard (nat_lt version floor) version (Past answer version total note) seen

given_seen : (s : Settings) (name : NodeName) (read : Wanted) (given : LeaderAnswer) (calls : StoreCalls) (from to : Node)
    → LeaderAnswers (types_of s.schema) read given calls from to → IsNodeOf s (pens_of calls.stores) name from
    → AreStores s (store_count s) calls.stores → FollowMasters calls.stores
    → IsSeenAnswer (pens_of calls.stores) (query_shard read.query) given
given_seen s name read given calls from to does is are follow =
    let pens = pens_of calls.stores in
    let shard = query_shard read.query in
    elim does.answers [
      | inl own ↦
          let seen = view_found pens shard from.served own.fill.note (served_at shard from.served) refl
          (λ t at. nodes_stay_seen.at pens shard from.served t is.seen at) own.serves.1.note_is in
          subst (IsSeenAnswer pens shard) (sym own.given_is) seen
      | inr reads ↦
          let seen = store_seen s calls.stores (region_store calls.region shard) does.store are follow does.stands in
          subst (IsSeenAnswer pens shard) (sym reads.given_is) (out_seen pens shard read.floor reads.out (subst (IsSeen pens shard) (sym reads.note_is) seen))
    ]

is_given : (types : EdgeTypes) (pens : Pens) (read : Wanted) (given : LeaderAnswer) → IsLegalAt types read.query read.floor given
    → IsSeenAnswer pens (query_shard read.query) given
    → IsGivenAnswer types pens read given
is_given types pens read (Filled fill) legal seen =
    record { key_is = legal.key_is; decides = legal.decides; within = legal.within; reaches = λ told. legal.reaches; seen = seen }
is_given types pens read (Past answer version total note) legal seen =
    ((reads_are_legal types (λ shard. note) read).given note answer version legal.1 (λ told. legal.0) (grows-self note), seen)
is_given types pens read (Behind version) legal seen = legal

-- ---- ask

-- a leader, and the region whose store it asks
pub record AskedLeader : Type 0 where
  pub leader : NodeName
  pub region : ℕ

abbrev pub asked_leader : NodeName → ℕ → AskedLeader
asked_leader leader region = record { leader = leader; region = region }

-- the keepers and the nodes of a core, before a call and after it
pub record NodesCall : Type 0 where
  pub before : KeeperState
  pub after : KeeperState
  pub old : Fleet
  pub new : Fleet

abbrev pub nodes_call : KeeperState → KeeperState → Fleet → Fleet → NodesCall
nodes_call before after old new = record { before = before; after = after; old = old; new = new }

pub record AskStep (tells : Bool) (s : Settings) (asked : AskedLeader) (read : Wanted) (call : NodesCall) (r : Result LeaderAnswer StoreRefusal)
    : Type 0 where
  pub answers : IfOk r (λ given.
      ChangesNode asked.leader (LeaderAnswers (types_of s.schema) read given (store_calls asked.region call.old.stores call.before call.after))
      call.old.leaders call.new.leaders)
  pub consistent : IsConsistent tells s call.after.told call.new
  pub goes : GoesOn call.old call.new
  pub given : IfOk r (IsGivenAnswer (types_of s.schema) (pens_of call.new.stores) read)

pub ask_step : (tells : Bool) (s : Settings) (asked : AskedLeader) (read : Wanted) (before after : KeeperState) (old : Fleet) (ls : List (Named Node))
    (r : Result LeaderAnswer StoreRefusal)
    → IsConsistent tells s before.told old
    → IfOk r (λ given. ChangesNode asked.leader
    (LeaderDoes (LeaderAnswers (types_of s.schema) read given (store_calls asked.region old.stores before after))) old.leaders ls)
    → IfOk r (IsLegalAt (types_of s.schema) read.query read.floor) → OnErr r (ls ≡ old.leaders) → KeepsTables tells before after
    → AskStep tells s asked read (nodes_call before after old (record old { leaders = ls })) r
ask_step tells s asked read before after old ls (Ok given) is change legal err stays =
    let name = asked.leader in
    let types = types_of s.schema in
    let calls = store_calls asked.region old.stores before after in
    let Does = LeaderAnswers types read given calls in
    let seen = given_seen s name read given calls change.from change.to change.by.does
    (is.fleet.leaders change.place name change.from change.stands) is.stores.configured is.stores.follow in
    let of_read = is_given types (pens_of old.stores) read given legal seen in
    let step = leader_step (LeaderDoes Does) s old name ls is.fleet change
    (λ from to by was.
    (nodes_stay s (pens_of old.stores) name).answers read given calls from to by.does of_read by.apart by.truth was)
    (λ from to by. nodes_mark_on.answers types read given calls from to by.does) in
    record {
      answers = changes_so (LeaderDoes Does) Does name old.leaders ls (λ from to by. by.does) change;
      consistent = record {
        stores = stores_here tells s before.told after.told old.stores is.stores stays;
        fleet = step.fleet;
        reached = reach_stays tells before.told after.told (record old { leaders = ls }) stays
            (λ told. kind_reaches the_leaders before.told old ls name (LeaderDoes Does) change
            (λ from to by. (nodes_reach before.told (region_of name)).answers types read given calls from to by.does) (is.reached told));
      };
      goes = step.goes;
      given = of_read;
    }
ask_step tells s asked read before after old ls (Err e) is change legal err stays =
    let there : AskStep tells s asked read (nodes_call before after old old) (Err e) = record {
      answers = tt;
      consistent = still_consistent tells s before.told after.told old is stays;
      goes = goes_self old;
      given = tt;
    } in
    subst (λ l. AskStep tells s asked read (nodes_call before after old (record old { leaders = l })) (Err e)) (sym err) there
