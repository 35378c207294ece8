-- A slave's store that takes an entry, and the nodes of its region that process it.
use Rattle.std.proofs.Common.{◌≡◌, ◌≢◌, ℕ, ◌≤◌, ◌<◌, Bool, true, false, [], ◌∷◌, Contains, length, Option, Some, None, IfSome, Ok}
use Rattle.std.proofs.Common.{refl, sym, ap, ◌∙◌, subst, arith}
use Rattle.std.proofs.lemmas.Bool.{and_parts}
use Rattle.std.proofs.lemmas.List.{length-append, length-map}
use Rattle.std.specs.Prelude.{MatchBool}
use Rattle.maint_msg.proofs.MaintLemmas.{is_maint}
use Rattle.maint_msg.specs.Maints.{SeenMaint}
use Rattle.node_name.specs.declared.NodeName.{NodeName}
use Rattle.replies.specs.declared.nodes.StreamVerdict.{StreamVerdict}
use Rattle.replies.specs.declared.nodes.StreamVerdict.TheVariants as verdict
use Rattle.shard_log.specs.View.{View}
use Rattle.shard_tables.specs.Written.{LiesOn, StandsIn}
use Rattle.tao_base.specs.EdgeTypes.{EdgeTypes}
use Rattle.tao_base.specs.declared.entry.Entry.{Entry}
use Rattle.tao_base.specs.declared.id.StoreName.{StoreName}
use Rattle.tao_keeper.specs.Table.{Table, Tables}
use Rattle.topology.specs.Config.{Settings}
use Rattle.topology.specs.Counts.{counts_of}
use Rattle.topology.specs.States.{NodeStates, is_up}
use Rattle.core_mail.proofs.Arrivals.{arrived_stay, notified_of_store}
use Rattle.core_mail.specs.Inboxes.{AreInboxesOf, HaveArrived, Inboxes, Sends, entry_message}
use Rattle.core_model.proofs.NamedNodes.{all_set}
use Rattle.core_model.proofs.Reaching.{nodes_reach}
use Rattle.core_model.proofs.Turns.{choices_serve}
use Rattle.core_model.specs.Consistent.{GoesOn, HasReached, HaveReached, IsFleetOf}
use Rattle.core_model.specs.Evictions.{IsCacheOf}
use Rattle.core_model.specs.Fleet.{ChangesNode, EachIs, Fleet, leader_names, region_of, regions_of}
use Rattle.core_model.specs.Messages.{Delivers, DeliversAt, IsMessageFor, notified_of}
use Rattle.core_model.specs.Pens.{IsSeen, Pens, pens_of}
use Rattle.core_model.specs.Serving.{IsLeaderIn}
use Rattle.core_model.specs.Stores.{IsConfiguredStore, store_length}
use Rattle.core_nodes.proofs.FleetLemmas.{goes_self}
use Rattle.core_nodes.specs.Streams.{StreamsTo, UnlessApplied}
use Rattle.core_steps.specs.Streams.{IsLeaderMessage, LeaderProcesses, ProcessesEntry, ProcessesMessage, TakesAs, region_leader}
use Rattle.core_steps.specs.World.{World, world}
use Rattle.core_steps.specs.declared.nodes.Nodes.{Nodes}
use Rattle.tao_keeper.specs.KeeperState.{KeeperState}
use Rattle.tao_link.specs.Shown.{LinkShown}

-- ---- the leader that a store's region prefers

-- a store's region is one of the states'
pub region_there : (s : Settings) (states : NodeStates) (region : ℕ) → states.regions ≡ regions_of s → region < length s.regions
    → region < length states.regions
region_there s states region own here =
    let many : length states.regions ≡ length s.regions = ap length own ∙ length-map s.regions counts_of in
    omega (arith, here, many)

-- a leader of the configuration is one of its caches
pub cached : (s : Settings) (region : ℕ) (leader : NodeName) → IsLeaderIn s region leader → IsCacheOf s leader
cached s region leader is =
    subst (IsCacheOf s) (sym is.name_is) (subst (λ n. Contains (leader_names s) n) is.name_is is.configured)

module _ (at : StoreName) (states : NodeStates) where
  -- it processed a message
  pub leader_processed : (types : EdgeTypes) (leader : NodeName) (m : SeenMaint) (dropped : ℕ) (old new : Fleet) → leader ≡ region_leader states at
      → DeliversAt types m dropped leader old new → ProcessesMessage (region_leader states at) (Some m) old new
  leader_processed types leader m dropped old new is delivers =
      let there : DeliversAt types m dropped (region_leader states at) old new = subst (λ n. DeliversAt types m dropped n old new) is delivers in
      ((dropped, there.0), there.1)

  -- of what it was notified of, where it is up
  pub processes_entry : (e : Entry) (note : View) (message : Option SeenMaint) (old new : Fleet)
      → IsLeaderMessage states at (entry_message at.shard e note) message → ProcessesMessage (region_leader states at) message old new
      → LeaderProcesses states at e old new
  processes_entry e note message old new is processes = by_state (is_up states (region_leader states at)) is
    where
      by_state : (up : Bool) → MatchBool up (message ≡ Some (entry_message at.shard e note)) (message ≡ None)
          → MatchBool up (ProcessesEntry (region_leader states at) at.shard e old new) (new.leaders ≡ old.leaders)
      by_state true said =
          let there : ProcessesMessage (region_leader states at) (Some (entry_message at.shard e note)) old new =
          subst (λ m. ProcessesMessage (region_leader states at) m old new) said processes in
          record { note = note; dropped = there.0.0; processes = there.0.1 }
      by_state false said =
          let there : ProcessesMessage (region_leader states at) None old new =
          subst (λ m. ProcessesMessage (region_leader states at) m old new) said processes in
          ap (λ (f : Fleet). f.leaders) there

-- its message is one for it
pub message_for : (s : Settings) (pens : Pens) (states : NodeStates) (at : StoreName) (e : Entry) (note : View) (message : Option SeenMaint)
    → states.regions ≡ regions_of s → IsConfiguredStore s at → IsSeen pens at.shard note → StandsIn note e → LiesOn note at.shard e
    → IsLeaderMessage states at (entry_message at.shard e note) message → IfSome message (IsMessageFor s pens (region_leader states at))
message_for s pens states at e note message own here seen stands lies is = by_state (is_up states (region_leader states at)) refl is
  where
    by_state : (up : Bool) → is_up states (region_leader states at) ≡ up → MatchBool up (message ≡ Some (entry_message at.shard e note)) (message ≡ None)
        → IfSome message (IsMessageFor s pens (region_leader states at))
    by_state true up said =
        let serves = (choices_serve s states).leader at.region at.shard own here.shard (and_parts _ _ up).0 in
        subst (λ m. IfSome m (IsMessageFor s pens (region_leader states at))) (sym said)
        (record { here = here.shard; serves = serves.serves; seen = seen; names = is_maint e at.shard note stands lies })
    by_state false up said = subst (λ m. IfSome m (IsMessageFor s pens (region_leader states at))) (sym said) tt

-- ---- what was taken is in the store

-- a store that took the entry has come to its position
pub taken_within : (s : Settings) (at : StoreName) (e : Entry) (old new : Tables) → StreamsTo s at e (Ok verdict.Applied) old new
    → e.position ≤ store_length new at.region at.shard
taken_within s at e old new streams =
    let grown = ap (λ (t : Table). length t.log) streams.1.gains.here in
    let more = length-append (old at).log (e ∷ []) in
    let position = streams.0 in
    omega (arith, grown, more, position)

-- where the leader processed it, no node has marked what its region's store hasn't
pub region_reaches : (tables : Tables) (states : NodeStates) (at : StoreName) (e : Entry) (old new : Fleet)
    → e.position ≤ store_length tables at.region at.shard
    → LeaderProcesses states at e old new → new.followers ≡ old.followers → HaveReached tables old → HaveReached tables new
region_reaches tables states at e old new within processes same reached = record {
  leaders = by_state (is_up states (region_leader states at)) processes;
  followers = subst (EachIs (λ name f. HasReached tables (region_of name) f.node)) (sym same) reached.followers;
}
  where
    by_state : (up : Bool) → MatchBool up (ProcessesEntry (region_leader states at) at.shard e old new) (new.leaders ≡ old.leaders)
        → EachIs (λ name node. HasReached tables (region_of name) node) new.leaders
    by_state true is =
        let change = is.processes in
        subst (EachIs (λ name node. HasReached tables (region_of name) node)) (sym change.is)
        (all_set (λ name node. HasReached tables (region_of name) node) old.leaders change.place (region_leader states at) change.to reached.leaders
        ((nodes_reach tables at.region).delivers (entry_message at.shard e is.note) is.dropped change.from change.to change.by within
        (reached.leaders change.place (region_leader states at) change.from change.stands)))
    by_state false rests = subst (EachIs (λ name node. HasReached tables (region_of name) node)) (sym rests) reached.leaders

-- and so has the store of each that is notified
pub region_arrived : (tables : Tables) (states : NodeStates) (at : StoreName) (e : Entry) (note : View) (old new : Inboxes)
    → e.position ≤ store_length tables at.region at.shard → Sends (notified_of states at.region at.shard) (entry_message at.shard e note) old new
    → HaveArrived tables old → HaveArrived tables new
region_arrived tables states at e note old new within sends =
    (arrived_stay tables).sends (notified_of states at.region at.shard) (entry_message at.shard e note) old new sends
    ((notified_of_store tables states at.shard (entry_message at.shard e note)).of at.region within)

-- ---- the nodes of the region

-- a leader that processed a message changed alone
pub message_rest : (leader : NodeName) (message : Option SeenMaint) (old new : Fleet) → ProcessesMessage leader message old new
    → new ≡ record old { leaders = new.leaders }
message_rest leader None old new same = subst (λ (f : Fleet). f ≡ record old { leaders = f.leaders }) (sym same) refl
message_rest leader (Some m) old new is = is.1

-- first the fleet changed in its leaders, and then the inboxes did
pub rest_in_turn : (old mid new : Nodes) → mid ≡ record old { fleet = mid.fleet } → mid.fleet ≡ record old.fleet { leaders = mid.fleet.leaders }
    → new ≡ record mid { mail = new.mail } → new ≡ record old { fleet = record old.fleet { leaders = new.fleet.leaders }; mail = new.mail }
rest_in_turn old mid new first leaders then =
    let mid_is : mid ≡ record old { fleet = record old.fleet { leaders = mid.fleet.leaders } } = first ∙ ap (λ (f : Fleet). record old { fleet = f }) leaders in
    let same : new.fleet.leaders ≡ mid.fleet.leaders = ap (λ (n : Nodes). n.fleet.leaders) then in
    then ∙ ap (λ (n : Nodes). record n { mail = new.mail }) mid_is
    ∙ ap (λ ls. record old { fleet = record old.fleet { leaders = ls }; mail = new.mail }) (sym same)

-- what the nodes of a region leave, which process what the store says of an entry
pub record RegionDone (s : Settings) (at : StoreName) (e : Entry) (said : StreamVerdict) (old new : Nodes) : Type 0 where
  pub takes : (keepers : KeeperState) (link : LinkShown) → TakesAs said at e (world old keepers link) (world new keepers link)
  pub rest : new ≡ record old { fleet = record old.fleet { leaders = new.fleet.leaders }; mail = new.mail }
  pub fleet : IsFleetOf s new.fleet
  pub goes : GoesOn old.fleet new.fleet
  pub inboxes : AreInboxesOf s (pens_of new.fleet.stores) new.mail

-- the leader processed its message, and then the followers were notified
pub region_done : (s : Settings) (at : StoreName) (e : Entry) (note : View) (message : Option SeenMaint) (old mid new : Nodes)
    → IsLeaderMessage old.topology at (entry_message at.shard e note) message
    → ProcessesMessage (region_leader old.topology at) message old.fleet mid.fleet → mid ≡ record old { fleet = mid.fleet } → IsFleetOf s mid.fleet
    → GoesOn old.fleet mid.fleet → Sends (notified_of mid.topology at.region at.shard) (entry_message at.shard e note) mid.mail new.mail
    → new ≡ record mid { mail = new.mail } → AreInboxesOf s (pens_of old.fleet.stores) new.mail → RegionDone s at e verdict.Applied old new
region_done s at e note message old mid new is processes first fleet goes sends then inboxes =
    let leaders = message_rest (region_leader old.topology at) message old.fleet mid.fleet processes in
    let rest = rest_in_turn old mid new first leaders then in
    let same : new.fleet ≡ mid.fleet = ap (λ (n : Nodes). n.fleet) then in
    let stores : new.fleet.stores ≡ old.fleet.stores = ap (λ (n : Nodes). n.fleet.stores) rest in
    let sent : Sends (notified_of old.topology at.region at.shard) (entry_message at.shard e note) old.mail new.mail =
    subst (λ (n : Nodes). Sends (notified_of n.topology at.region at.shard) (entry_message at.shard e note) n.mail new.mail) first sends in
    record {
      takes = λ keepers link. record {
        leader = subst (LeaderProcesses old.topology at e old.fleet) (sym same)
            (processes_entry at old.topology e note message old.fleet mid.fleet is processes);
        followers = ap (λ (n : Nodes). n.fleet.followers) rest;
        note = note;
        notified = sent;
      };
      rest = rest;
      fleet = subst (IsFleetOf s) (sym same) fleet;
      goes = subst (GoesOn old.fleet) (sym same) goes;
      inboxes = subst (λ xs. AreInboxesOf s (pens_of xs) new.mail) (sym stores) inboxes;
    }

-- a store that took nothing leaves them as they were
pub none_done : (s : Settings) (at : StoreName) (e : Entry) (said : StreamVerdict) (old : Nodes) → said ≢ verdict.Applied → IsFleetOf s old.fleet
    → AreInboxesOf s (pens_of old.fleet.stores) old.mail → RegionDone s at e said old old
none_done s at e said old none fleet inboxes = record {
  takes = λ keepers link. rests said none (world old keepers link);
  rest = refl;
  fleet = fleet;
  goes = goes_self old.fleet;
  inboxes = inboxes;
}
  where
    rests : (said : StreamVerdict) → said ≢ verdict.Applied → (now : World) → TakesAs said at e now now
    rests verdict.Applied none now = absurd (none refl)
    rests verdict.Old none now = (refl, refl)
    rests verdict.Gap none now = (refl, refl)
    rests verdict.None none now = (refl, refl)

-- ---- the store and the nodes of its region

-- what the leader processed, seen from other stores
leader_before : (states : NodeStates) (at : StoreName) (e : Entry) (mid old new : Fleet) → mid.leaders ≡ old.leaders → LeaderProcesses states at e mid new
    → LeaderProcesses states at e old new
leader_before states at e mid old new same processes = by_state (is_up states (region_leader states at)) processes
  where
    by_state : (up : Bool) → MatchBool up (ProcessesEntry (region_leader states at) at.shard e mid new) (new.leaders ≡ mid.leaders)
        → MatchBool up (ProcessesEntry (region_leader states at) at.shard e old new) (new.leaders ≡ old.leaders)
    by_state true is = record {
      note = is.note;
      dropped = is.dropped;
      processes = subst (λ ls. ChangesNode (region_leader states at) (Delivers (entry_message at.shard e is.note) is.dropped) ls new.leaders) same
          is.processes;
    }
    by_state false rests = rests ∙ same

-- what the region took of an entry, seen from before the store took it
pub takes_before : (said : StreamVerdict) (at : StoreName) (e : Entry) (old mid new : World) → mid.fleet ≡ record old.fleet { stores = mid.fleet.stores }
    → UnlessApplied (Ok said) (mid.fleet ≡ old.fleet) → mid.inboxes ≡ old.inboxes → mid.states ≡ old.states → TakesAs said at e mid new
    → TakesAs said at e old new
takes_before verdict.Applied at e old mid new rest rests mail states takes = record {
  leader = leader_before old.states at e mid.fleet old.fleet new.fleet (ap (λ (f : Fleet). f.leaders) rest)
      (subst (λ (n : NodeStates). LeaderProcesses n at e mid.fleet new.fleet) states takes.leader);
  followers = takes.followers ∙ ap (λ (f : Fleet). f.followers) rest;
  note = takes.note;
  notified = subst (λ i. Sends (notified_of old.states at.region at.shard) (entry_message at.shard e takes.note) i new.inboxes) mail
      (subst (λ (n : NodeStates). Sends (notified_of n at.region at.shard) (entry_message at.shard e takes.note) mid.inboxes new.inboxes) states
      takes.notified);
}
takes_before verdict.Old at e old mid new rest rests mail states takes = (takes.0 ∙ rests, takes.1 ∙ mail)
takes_before verdict.Gap at e old mid new rest rests mail states takes = (takes.0 ∙ rests, takes.1 ∙ mail)
takes_before verdict.None at e old mid new rest rests mail states takes = (takes.0 ∙ rests, takes.1 ∙ mail)

-- no node has marked what its region's store hasn't, and the stores have come to what waits
module _ (s : Settings) (at : StoreName) (e : Entry) (before after : Tables) (old new : World) where
  pub reaches_as : (said : StreamVerdict) → StreamsTo s at e (Ok said) before after → TakesAs said at e old new → HaveReached after old.fleet
      → HaveReached after new.fleet
  reaches_as verdict.Applied streams takes reached =
      region_reaches after old.states at e old.fleet new.fleet (taken_within s at e before after streams) takes.leader takes.followers reached
  reaches_as verdict.Old streams takes reached = subst (HaveReached after) (sym takes.0) reached
  reaches_as verdict.Gap streams takes reached = subst (HaveReached after) (sym takes.0) reached
  reaches_as verdict.None streams takes reached = absurd streams

  pub arrived_as : (said : StreamVerdict) → StreamsTo s at e (Ok said) before after → TakesAs said at e old new → HaveArrived after old.inboxes
      → HaveArrived after new.inboxes
  arrived_as verdict.Applied streams takes have =
      region_arrived after old.states at e takes.note old.inboxes new.inboxes (taken_within s at e before after streams) takes.notified have
  arrived_as verdict.Old streams takes have = subst (HaveArrived after) (sym takes.1) have
  arrived_as verdict.Gap streams takes have = subst (HaveArrived after) (sym takes.1) have
  arrived_as verdict.None streams takes have = absurd streams
