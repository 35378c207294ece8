-- Nodes that go down or come up, and leaders that a tier suspects or trusts: what is replied, and that the core may be used as before.
use Rattle.std.proofs.Common.{◌≡◌, ◌≢◌, ℕ, ◌<◌, Bool, true, false, List, Some, Err, ap, length, refl, subst, sym, ◌∙◌, inl, inr}
use Rattle.std.specs.Prelude.{◌↔◌, ◌&&◌, IsFalse, IsTrue, map, nat_lt, not, slice_get, slice_set}
use Rattle.std.specs.Result.{IsErrOf}
use Rattle.std.proofs.lemmas.Bool.{lt-ltb}
use Rattle.std.proofs.lemmas.List.{length-map}
use Rattle.cache_items.specs.Node.{Node}
use Rattle.core_mail.proofs.Arrivals.{arrived_stay}
use Rattle.core_mail.specs.Inboxes.{AreInboxesOf, Inboxes, LosesAll}
use Rattle.core_model.proofs.Places.{get_set}
use Rattle.core_model.proofs.Reaching.{nodes_reach}
use Rattle.core_model.specs.Consistent.{GoesOn, IsConsistent, IsFleetOf}
use Rattle.core_model.specs.Emptied.{Anew, BeginsAnew, EmptiesCache, IsAtStore, at_marks, at_stores, region_tables}
use Rattle.core_model.specs.Evictions.{IsCacheOf}
use Rattle.core_model.specs.Fleet.{ChangesNode, EachIs, Fleet, named, region_of}
use Rattle.core_model.specs.Pens.{Pens, pens_of}
use Rattle.core_model.specs.States.{AreStatesOf, ComesUp}
use Rattle.core_model.specs.declared.named.Named.{Named}
use Rattle.core_nodes.proofs.GrowingLemmas.{stays_stores}
use Rattle.core_plans.proofs.AsksHeld.{empty_opens_none, same_opens_none}
use Rattle.core_plans.specs.Held.{OpensNone}
use Rattle.core_steps.proofs.LeaderNames.{leader_region}
use Rattle.core_steps.specs.ReadSteps.{AskFails}
use Rattle.store_replies.specs.Refused.{refused_as}
use Rattle.counts.specs.Count.{Rose}
use Rattle.follower_cache.specs.Seen.{FollowerState}
use Rattle.node_name.specs.declared.NodeName.{NodeName}
use Rattle.node_name.specs.declared.NodeName.TheVariants.{Store as StoreName_, Leader, Follower}
use Rattle.replies.specs.declared.refusals.Refusal.{Refusal}
use Rattle.replies.specs.declared.refusals.Refusal.TheVariants.{Memory}
use Rattle.replies.specs.declared.reply.Reply.{Reply}
use Rattle.replies.specs.declared.reply.Reply.TheVariants.{Refused}
use Rattle.request_check.specs.Health.{IsPlacedLeader}
use Rattle.request_check.specs.Placed.{IsPlacedNode}
use Rattle.request_check.specs.declared.health.LeaderPlace.{LeaderPlace}
use Rattle.shard_tables.specs.Refusals.{IsOfReads}
use Rattle.shard_tables.specs.declared.refusal.StoreRefusal.{StoreRefusal}
use Rattle.shard_tables.specs.declared.refusal.StoreRefusal.TheVariants.{KeeperFault, OutOfMemory, LogFull, ShardFull, StampFull, SeqReused, TooOld}
use Rattle.tao_keeper.proofs.Growing.{growing_laws}
use Rattle.tao_keeper.proofs.Later.{later_self}
use Rattle.tao_keeper.specs.KeeperState.{IsLater, KeeperState, KeepsTables}
use Rattle.tao_keeper.specs.Table.{Tables}
use Rattle.tao_link.specs.Shown.{LinkShown}
use Rattle.topology.proofs.Found.{follower_known, leader_known}
use Rattle.topology.specs.Config.{Settings}
use Rattle.topology.specs.Counts.{NodeCounts, counts_of, tier_count}
use Rattle.topology.specs.States.{NodeStates, SetsUp, is_cache, is_up}
use Rattle.topology.specs.Suspicions.{ChangesTrust, SetsTrust, Suspicion, is_leader, may_suspect, suspects}
use Rattle.words.specs.declared.HealthWord.{HealthWord}
use Rattle.words.specs.declared.HealthWord.TheVariants.{Down, Up}
use Rattle.tao_core.specs.Core.{ComeUp, CoreState, IsCoreOf, StaysUsable, moment}
use Rattle.tao_core.specs.Health.{AnswersDown, AnswersTrust, AnswersUp, health_said, suspicion_at}
use Rattle.tao_core.proofs.Arriving.{empties_reach}
use Rattle.tao_core.proofs.Delivering.{of_region}
use Rattle.tao_core.proofs.HeldOn.{comes_not, core_goes_on, core_unchanged, same_held}
use Rattle.tao_core.proofs.Keeping.{core_stays, going_core, nodes_core, with_states}
use Rattle.core_model.proofs.NamesOnce.{StandAlone, follows_none, leaders_alone, leads_none, stand_alone}
use Rattle.tao_core.proofs.StayOpen.{same_open}

-- ---- the node is one of the configuration

pub placed_cache : (s : Settings) (states : NodeStates) (node : NodeName) → AreStatesOf s states → IsPlacedNode s node
    → IsTrue (is_cache states.regions node)
placed_cache s states (StoreName_ store) are here = absurd here
placed_cache s states (Leader region index) are here =
    subst (λ regions. IsTrue (is_cache regions (Leader region index))) (sym are.regions) (leader_known s.regions region index here)
placed_cache s states (Follower region tier index) are here =
    subst (λ regions. IsTrue (is_cache regions (Follower region tier index))) (sym are.regions) (follower_known s.regions region tier index here)

leader_placed : (s : Settings) (region tier : ℕ) (node : NodeName) → IsPlacedLeader s (record { region = region; tier = tier; node = node })
    → IsTrue (is_leader (map counts_of s.regions) node)
leader_placed s region tier (StoreName_ store) placed = absurd placed.configured
leader_placed s region tier (Leader home index) placed = leader_known s.regions home index placed.configured
leader_placed s region tier (Follower home of index) placed = (let no : false ≡ true = placed.leads in absurd (cc))

-- and of one of its regions
pub placed_region : (s : Settings) (node : NodeName) → IsCacheOf s node → region_of node < length s.regions
placed_region s (StoreName_ store) there = absurd there
placed_region s (Leader region index) there = leader_region s (Leader region index) there
placed_region s (Follower region tier index) there =
    subst (λ n. region < n) (length-map s.regions counts_of) (of_region s (Follower region tier index) there)

-- ---- nothing changed

module _ (core seen after : CoreState) (own : core ≡ seen) (same : after ≡ core) where
  pub unchanged_usable : (tells : Bool) (keepers : KeeperState) → IsCoreOf tells keepers.told seen → StaysUsable tells keepers keepers seen after
  unchanged_usable tells keepers of = subst (StaysUsable tells keepers keepers seen) (sym (same ∙ own)) (core_unchanged tells keepers seen of)

  unchanged_now : (keepers : KeeperState) (link : LinkShown) → moment after keepers link ≡ moment seen keepers link
  unchanged_now keepers link = ap (λ x. moment x keepers link) (same ∙ own)

  pub was_down : (node : NodeName) (keepers : KeeperState) (link : LinkShown) (reply : Reply) → reply ≡ health_said Down false
      → is_up core.states node ≡ false → AnswersDown node (moment seen keepers link) reply (moment after keepers link)
  was_down node keepers link reply said down = inr (inl (record {
    was_down = subst (λ (x : CoreState). is_up x.states node ≡ false) own down;
    so = record { reply_is = said; same = unchanged_now keepers link };
  }))

  pub down_wants : (node : NodeName) (keepers : KeeperState) (link : LinkShown) (reply : Reply) → reply ≡ Refused (Memory 0)
      → AnswersDown node (moment seen keepers link) reply (moment after keepers link)
  down_wants node keepers link reply said = inr (inr (record { reply_is = said; same = unchanged_now keepers link }))

  pub was_up : (tells : Bool) (node : NodeName) (keepers : KeeperState) (link : LinkShown) (reply : Reply) → reply ≡ health_said Up false
      → is_up core.states node ≡ true → AnswersUp tells node (moment seen keepers link) reply (moment after keepers link)
  was_up tells node keepers link reply said up = inr (inl (record {
    was_up = subst (λ (x : CoreState). is_up x.states node ≡ true) own up;
    so = record { reply_is = said; same = unchanged_now keepers link };
  }))

-- ---- who comes up

up_stays : (name node : NodeName) (up : Bool) (old new : NodeStates) → SetsUp node up old new → name ≢ node → ComesUp name old new → ⊥
up_stays name node up old new sets differs comes =
    let same = sets.others name differs in
    let was = comes.down in
    let now = comes.up in
    absurd (cc)

-- nobody does as a node goes down
down_none : (name node : NodeName) (old new : NodeStates) → SetsUp node false old new → ComesUp name old new → ⊥
down_none name node old new sets comes =
    up_stays name node false old new sets
    (λ same. let here : is_up new node ≡ true = subst (λ n. is_up new n ≡ true) same comes.up in let down = sets.here in absurd (cc)) comes

-- nor as a leader is suspected or trusted
suspected_up : (old : NodeStates) (suspected : List Bool) (name : NodeName) → is_up (record old { suspected = suspected }) name ≡ is_up old name
suspected_up old suspected (StoreName_ store) = refl
suspected_up old suspected (Leader region index) = refl
suspected_up old suspected (Follower region tier index) = refl

trust_none : (s : Suspicion) (trusted : Bool) (name : NodeName) (old new : NodeStates) → SetsTrust s trusted old new → ComesUp name old new → ⊥
trust_none s trusted name old new sets comes =
    let same : is_up new name ≡ is_up old name = ap (λ (x : NodeStates). is_up x name) sets.rest ∙ suspected_up old new.suspected name in
    let was = comes.down in
    let now = comes.up in
    absurd (cc)

no_one_comes : (tells : Bool) (tables : Tables) (old new : CoreState) → ((name : NodeName) → ComesUp name old.states new.states → ⊥)
    → ComeUp tells tables old new
no_one_comes tells tables old new none told = record {
  leaders = λ place name node at comes. absurd (none name comes);
  followers = λ place name follower at comes. absurd (none name comes);
}

-- ---- the states are still those of the configuration

set_states : (s : Settings) (node : NodeName) (up : Bool) (old new : NodeStates) → SetsUp node up old new → AreStatesOf s old → AreStatesOf s new
set_states s node up old new sets are = subst (AreStatesOf s) (sym sets.rest) (record { regions = are.regions; masters = are.masters })

trusted_states : (s : Settings) (of : Suspicion) (trusted : Bool) (old new : NodeStates) → SetsTrust of trusted old new → AreStatesOf s old
    → AreStatesOf s new
trusted_states s of trusted old new sets are = subst (AreStatesOf s) (sym sets.rest) (record { regions = are.regions; masters = are.masters })

-- ---- an emptied node

emptied_stores : (node : NodeName) (pens : Pens) (at : Anew) (old new : Fleet) → EmptiesCache node pens at old new → new.stores ≡ old.stores
emptied_stores (StoreName_ store) pens at old new empties = absurd empties
emptied_stores (Leader region index) pens at old new empties = ap (λ (f : Fleet). f.stores) empties.1
emptied_stores (Follower region tier index) pens at old new empties = ap (λ (f : Fleet). f.stores) empties.1

pub emptied_opens : (node : NodeName) (pens : Pens) (at : Anew) (old new : Fleet) → EmptiesCache node pens at old new → OpensNone old.followers new.followers
emptied_opens (StoreName_ store) pens at old new empties = absurd empties
emptied_opens (Leader region index) pens at old new empties = same_opens_none old.followers new.followers (ap (λ (f : Fleet). f.followers) empties.1)
emptied_opens (Follower region tier index) pens at old new empties =
    empty_opens_none (Follower region tier index) old.followers new.followers pens at empties.0

-- ---- down

module _ (node : NodeName) (core seen : CoreState) (own : core ≡ seen) (fleet : Fleet) (mail : Inboxes) (states : NodeStates)
    (empties : EmptiesCache node (pens_of core.fleet.stores) at_marks core.fleet fleet) (is_fleet : IsFleetOf core.settings fleet)
    (goes : GoesOn core.fleet fleet) (messages : ChangesNode node LosesAll core.mail mail)
    (inboxes : AreInboxesOf core.settings (pens_of core.fleet.stores) mail) (sets : SetsUp node false core.states states) where
  abbrev Fallen : CoreState
  Fallen = record core { fleet = fleet; mail = mail; states = states }

  pub goes_down : (keepers : KeeperState) (link : LinkShown) (reply : Reply) → reply ≡ health_said Down true → is_up core.states node ≡ true
      → AnswersDown node (moment seen keepers link) reply (moment Fallen keepers link)
  goes_down keepers link reply said up =
      subst (λ x. AnswersDown node (moment x keepers link) reply (moment Fallen keepers link)) own (inl (record {
        was_up = up;
        reply_is = said;
        states = sets;
        empties = empties;
        messages = messages;
        rest = refl;
      }))

  pub down_usable : (tells : Bool) (keepers : KeeperState) → IsCoreOf tells keepers.told seen → StaysUsable tells keepers keepers seen Fallen
  down_usable tells keepers of_seen =
      let of = subst (IsCoreOf tells keepers.told) (sym own) of_seen in
      let was = of.is_consistent in
      let nodes = nodes_core tells keepers.told core was fleet mail is_fleet (emptied_stores node _ at_marks core.fleet fleet empties) inboxes
      (λ told. record {
        reached = empties_reach keepers.told node (pens_of core.fleet.stores) core.fleet fleet empties (was.consistent.reached told);
        arrived = (arrived_stay keepers.told).loses node core.mail mail messages (was.arrived told);
      }) in
      subst (λ x. StaysUsable tells keepers keepers x Fallen) own (core_goes_on tells keepers keepers core Fallen of (record {
        is_consistent = with_states tells keepers.told (record core { fleet = fleet; mail = mail }) states nodes
            (set_states core.settings node false core.states states sets was.states);
        on = record { goes = goes; opens = emptied_opens node (pens_of core.fleet.stores) at_marks core.fleet fleet empties };
        comes = no_one_comes tells keepers.told core Fallen (λ name. down_none name node core.states states sets);
        grows = stays_stores tells core.settings keepers keepers (λ told at. refl);
        later = later_self keepers;
      }) refl refl (same_open core.sessions core.sessions refl))

-- ---- up

module _ (tells : Bool) (node : NodeName) (before now : Tables) (old new : NodeStates) (sets : SetsUp node true old new) where
  -- of a list that it stands in, the node alone comes up, and that is at its store
  changed_comes : {N : Type 0} (node_of : N → Node) (By : N → N → Type 0) (nodes later : List (Named N)) → StandAlone nodes → ChangesNode node By nodes later
      → ((from to : N) → By from to → IsAtStore now (region_of node) (node_of to))
      → EachIs (λ name one. ComesUp name old new → IsAtStore now (region_of name) (node_of one)) later
  changed_comes {N} node_of By nodes later alone change is place name one at comes =
      let there : slice_get (slice_set nodes change.place (named node change.to)) place ≡ Some (named name one) =
      subst (λ xs. slice_get xs place ≡ Some (named name one)) change.is at in
      elim (get_set nodes change.place (named node change.to) place (named name one) there) [
        | inl other ↦ absurd (up_stays name node true old new sets (λ same. other.0
            (alone place change.place node one change.from (subst (λ (n : NodeName). slice_get nodes place ≡ Some (named n one)) same other.1) change.stands))
            comes)
        | inr here ↦ subst (λ (n : Named N). IsAtStore now (region_of n.name) (node_of n.node)) here.1 (is change.from change.to change.by)
      ]

  -- of another list none does
  others_come : {N : Type 0} (node_of : N → Node) (nodes : List (Named N))
      → ((place : ℕ) (one : N) → slice_get nodes place ≡ Some (named node one) → ⊥)
      → EachIs (λ name one. ComesUp name old new → IsAtStore now (region_of name) (node_of one)) nodes
  others_come node_of nodes none place name one at comes =
      absurd (up_stays name node true old new sets
      (λ same. none place one (subst (λ (n : NodeName). slice_get nodes place ≡ Some (named n one)) same at)) comes)

-- a node that begins anew at its region's stores has processed what they have, which no call has changed
at_its_store : (tells : Bool) (region : ℕ) (pens : Pens) (before now : KeeperState) (from to : Node) → tells ≡ true → KeepsTables tells before now
    → BeginsAnew pens (at_stores (region_tables tells before.told region)) from to → IsAtStore now.told region to
at_its_store tells region pens before now from to told keeps begins =
    let same : now.told ≡ before.told = λ i at. keeps told at i in
    subst (λ tables. IsAtStore tables region to) (sym same)
    ((nodes_reach before.told region).comes_up pens from to
    (subst (λ b. BeginsAnew pens (at_stores (region_tables b before.told region)) from to) told begins))

come_up_at : (tells : Bool) (s : Settings) (node : NodeName) (before now : KeeperState) (core fallen : CoreState) → IsFleetOf s core.fleet
    → EmptiesCache node (pens_of core.fleet.stores) (at_stores (region_tables tells before.told (region_of node))) core.fleet fallen.fleet
    → KeepsTables tells before now → SetsUp node true core.states fallen.states → ComeUp tells now.told core fallen
come_up_at tells s (StoreName_ store) before now core fallen of empties keeps sets told = absurd empties
come_up_at tells s (Leader region index) before now core fallen of empties keeps sets told = record {
  leaders = changed_comes tells (Leader region index) before.told now.told core.states fallen.states sets (λ n. n) _ core.fleet.leaders fallen.fleet.leaders
      (leaders_alone s core.fleet.leaders of.leader_names) empties.0
      (λ from to. at_its_store tells region (pens_of core.fleet.stores) before now from to told keeps);
  followers = others_come tells (Leader region index) before.told now.told core.states fallen.states sets (λ (f : FollowerState). f.node)
      fallen.fleet.followers (λ place one at.
      leads_none s core.fleet.followers place region index one of.follower_names
      (subst (λ xs. slice_get xs place ≡ Some (named (Leader region index) one)) (ap (λ (f : Fleet). f.followers) empties.1) at));
}
come_up_at tells s (Follower region tier index) before now core fallen of empties keeps sets told = record {
  leaders = others_come tells (Follower region tier index) before.told now.told core.states fallen.states sets (λ n. n)
      fallen.fleet.leaders (λ place one at.
      follows_none s core.fleet.leaders place region tier index one of.leader_names
      (subst (λ xs. slice_get xs place ≡ Some (named (Follower region tier index) one)) (ap (λ (f : Fleet). f.leaders) empties.1) at));
  followers = changed_comes tells (Follower region tier index) before.told now.told core.states fallen.states sets (λ (f : FollowerState). f.node) _
      core.fleet.followers fallen.fleet.followers (stand_alone s core.fleet.followers of.follower_names) empties.0
      (λ from to by. at_its_store tells region (pens_of core.fleet.stores) before now from.node to.node told keeps by.node);
}

module _ (tells : Bool) (node : NodeName) (core seen : CoreState) (own : core ≡ seen) (before now : KeeperState)
    (of_seen : IsCoreOf tells before.told seen) (fleet : Fleet) (tables : KeepsTables tells before now) (later : IsLater before now) where
  came : IsCoreOf tells before.told core
  came = subst (IsCoreOf tells before.told) (sym own) of_seen

  module _ (states : NodeStates) (empties : EmptiesCache node (pens_of core.fleet.stores)
      (at_stores (region_tables tells before.told (region_of node))) core.fleet fleet) (consistent : IsConsistent tells core.settings now.told fleet)
      (goes : GoesOn core.fleet fleet) (sets : SetsUp node true core.states states) where
    abbrev Risen : CoreState
    Risen = record core { fleet = fleet; states = states }

    pub comes_up : (link : LinkShown) (reply : Reply) → reply ≡ health_said Up true → is_up core.states node ≡ false
        → AnswersUp tells node (moment seen before link) reply (moment Risen now link)
    comes_up link reply said down =
        subst (λ x. AnswersUp tells node (moment x before link) reply (moment Risen now link)) own (inl (record {
          was_down = down;
          reply_is = said;
          states = sets;
          empties = empties;
          tables = tables;
          rest = refl;
        }))

    pub up_usable : StaysUsable tells before now seen Risen
    up_usable =
        subst (λ x. StaysUsable tells before now x Risen) own (core_goes_on tells before now core Risen came (record {
          is_consistent = with_states tells now.told (record core { fleet = fleet }) states
              (going_core tells before.told core came.is_consistent now.told fleet consistent goes
              (growing_laws.stays tells before.told now.told tables))
              (set_states core.settings node true core.states states sets came.is_consistent.states);
          on = record { goes = goes; opens = emptied_opens node (pens_of core.fleet.stores) _ core.fleet fleet empties };
          comes = come_up_at tells core.settings node before now core Risen came.is_consistent.consistent.fleet empties tables sets;
          grows = stays_stores tells core.settings before now tables;
          later = later;
        }) refl refl (same_open core.sessions core.sessions refl))

  -- it stays down
  module _ (same : fleet ≡ core.fleet) where
    abbrev Left : CoreState
    Left = record core { fleet = fleet }

    left_is : Left ≡ core
    left_is = ap (λ f. record core { fleet = f }) same

    pub stays_down : (link : LinkShown) (reply : Reply) (refusal : Refusal) → reply ≡ Refused refusal → AskFails refusal before now
        → is_up core.states node ≡ false → AnswersUp tells node (moment seen before link) reply (moment Left now link)
    stays_down link reply refusal told fails down =
        subst (λ x. AnswersUp tells node (moment x before link) reply (moment Left now link)) own (inr (inr (record {
          was_down = down;
          refusal = refusal;
          reply_is = told;
          fails = fails;
          tables = tables;
          rest = ap (λ x. moment x now link) left_is;
        })))

    pub down_stays_usable : StaysUsable tells before now seen Left
    down_stays_usable =
        subst (λ x. StaysUsable tells before now seen x) (sym (left_is ∙ own))
        (core_goes_on tells before now seen seen of_seen (record {
          is_consistent = core_stays tells before.told now.told seen of_seen.is_consistent tables;
          on = same_held seen.fleet;
          comes = no_one_comes tells now.told seen seen
              (λ name comes. let was = comes.down in let up = comes.up in absurd (cc));
          grows = stays_stores tells seen.settings before now tables;
          later = later;
        }) refl refl (same_open seen.sessions seen.sessions refl))

-- how it is refused where a keeper was asked
pub fails_to_ask : {T : Type 0} (r : StoreRefusal) (before now : KeeperState) → IsOfReads r
    → (IsErrOf {T = T} (Err r) KeeperFault → Rose before.faults now.faults) → AskFails (refused_as now.faults r) before now
fails_to_ask KeeperFault before now of rose = (refl, rose refl)
fails_to_ask OutOfMemory before now of rose = refl
fails_to_ask (LogFull length) before now of rose = absurd of
fails_to_ask (ShardFull length) before now of rose = absurd of
fails_to_ask (StampFull number) before now of rose = absurd of
fails_to_ask (TooOld cut position) before now of rose = absurd of
fails_to_ask (SeqReused position) before now of rose = absurd of

-- ---- suspect and trust

both_true : (b c : Bool) → IsTrue b → IsTrue c → IsTrue (b && c)
both_true true c one two = two
both_true false c one two = absurd (cc)

other_bool : (b c : Bool) → (b ≡ c → ⊥) → b ≡ not c
other_bool true true differs = absurd (differs refl)
other_bool true false differs = refl
other_bool false true differs = refl
other_bool false false differs = absurd (differs refl)

module _ (word : HealthWord) (trusted : Bool) (place : LeaderPlace) (core seen : CoreState) (own : core ≡ seen) (states : NodeStates) (changed : Bool)
    (changes : IsTrue changed ↔ ChangesTrust (suspicion_at place) trusted core.states)
    (sets : IsTrue changed → SetsTrust (suspicion_at place) trusted core.states states) (same : IsFalse changed → states ≡ core.states) where
  abbrev Judged : CoreState
  Judged = record core { states = states }

  may_here : AreStatesOf core.settings core.states → IsPlacedLeader core.settings place
      → IsTrue (may_suspect core.states.regions (suspicion_at place))
  may_here are placed =
      let regions = map counts_of core.settings.regions in
      subst (λ (xs : List NodeCounts). IsTrue (may_suspect xs (suspicion_at place))) (sym are.regions)
      (both_true (nat_lt place.tier (tier_count regions place.region)) (is_leader regions place.node) (lt-ltb place.tier _ placed.seer.within)
      (leader_placed core.settings place.region place.tier place.node placed))

  judges : (b : Bool) → changed ≡ b → (keepers : KeeperState) (link : LinkShown) (reply : Reply) → reply ≡ health_said word b
      → AreStatesOf core.settings core.states → IsPlacedLeader core.settings place
      → AnswersTrust word trusted place (moment core keepers link) reply (moment Judged keepers link)
  judges true is keepers link reply said are placed = inl (record {
    was = (changes.0 is).differs;
    reply_is = said;
    states = sets is;
    rest = refl;
  })
  judges false is keepers link reply said are placed = inr (record {
    was = other_bool (suspects core.states (suspicion_at place)) trusted (λ differs.
        let yes : changed ≡ true = changes.1 (record { may = may_here are placed; differs = differs }) in
        absurd (cc));
    so = record { reply_is = said; same = ap (λ x. moment (record core { states = x }) keepers link) (same is) };
  })

  pub trusts : (keepers : KeeperState) (link : LinkShown) (reply : Reply) → reply ≡ health_said word changed
      → AreStatesOf seen.settings seen.states → IsPlacedLeader seen.settings place
      → AnswersTrust word trusted place (moment seen keepers link) reply (moment Judged keepers link)
  trusts keepers link reply said are placed =
      subst (λ x. AnswersTrust word trusted place (moment x keepers link) reply (moment Judged keepers link)) own
      (judges changed refl keepers link reply said (subst (λ (x : CoreState). AreStatesOf x.settings x.states) (sym own) are)
      (subst (λ (x : CoreState). IsPlacedLeader x.settings place) (sym own) placed))

  judged_states : (b : Bool) → changed ≡ b → AreStatesOf core.settings core.states → AreStatesOf core.settings states
  judged_states true is are = trusted_states core.settings (suspicion_at place) trusted core.states states (sets is) are
  judged_states false is are = subst (AreStatesOf core.settings) (sym (same is)) are

  none_judged : (b : Bool) → changed ≡ b → (name : NodeName) → ComesUp name core.states states → ⊥
  none_judged true is name = trust_none (suspicion_at place) trusted name core.states states (sets is)
  none_judged false is name = comes_not name core.states states (same is)

  pub trust_usable : (tells : Bool) (keepers : KeeperState) → IsCoreOf tells keepers.told seen → StaysUsable tells keepers keepers seen Judged
  trust_usable tells keepers of_seen =
      let of = subst (IsCoreOf tells keepers.told) (sym own) of_seen in
      subst (λ x. StaysUsable tells keepers keepers x Judged) own (core_goes_on tells keepers keepers core Judged of (record {
        is_consistent = with_states tells keepers.told core states of.is_consistent (judged_states changed refl of.is_consistent.states);
        on = same_held core.fleet;
        comes = no_one_comes tells keepers.told core Judged (none_judged changed refl);
        grows = stays_stores tells core.settings keepers keepers (λ told at. refl);
        later = later_self keepers;
      }) refl refl (same_open core.sessions core.sessions refl))
