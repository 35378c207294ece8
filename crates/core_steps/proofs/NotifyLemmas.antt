-- Who is notified of what was written, and that the stores of their regions have come to it.
use Rattle.std.proofs.Common.{◌≡◌, ℕ, ◌≤◌, ◌<◌, ◌%◌, ◌++◌, Bool, true, false, List, [], ◌∷◌, Option, Some, None, IfSome, ap, sym, subst, ◌∙◌, arith, refl}
use Rattle.std.proofs.lemmas.Bool.{ltb-true}
use Rattle.std.proofs.lemmas.List.Elements.{Contains-append_left}
use Rattle.std.proofs.lemmas.Option.{unwrap_or-slice_get}
use Rattle.std.specs.Prelude.{Contains, IsTrue, filter, if◌then◌else◌, length, nat_lt, slice_index}
use Rattle.graph_model.specs.Log.{entry_at}
use Rattle.graph_model.specs.Told.{WhereTold}
use Rattle.maint_msg.specs.Maints.{SeenMaint}
use Rattle.node_name.specs.declared.NodeName.{NodeName}
use Rattle.node_name.specs.declared.NodeName.TheVariants.{Leader}
use Rattle.shard_tables.specs.StoreView.{Store}
use Rattle.shard_tables.specs.Written.{StandsIn}
use Rattle.tao_base.specs.declared.entry.Entry.{Entry}
use Rattle.tao_keeper.specs.Growing.{LogsGrow}
use Rattle.tao_keeper.specs.Table.{Tables}
use Rattle.topology.specs.Choices.{chosen_leader, master_region, preferred_leader}
use Rattle.topology.specs.Config.{Settings}
use Rattle.topology.specs.Counts.{NodeCounts, leader_count}
use Rattle.topology.specs.States.{NodeStates, is_cache, is_up}
use Rattle.write_model.proofs.Growing.{entry_at-within}
use Rattle.core_mail.proofs.Arrivals.{arrived_stay, notified_of_store}
use Rattle.core_mail.proofs.InboxLemmas.{names_kept}
use Rattle.core_mail.specs.Inboxes.{HaveArrived, Inboxes, Sends, cache_names, entry_message}
use Rattle.maint_msg.specs.Inbox.{IsSent}
use Rattle.core_model.proofs.Turns.{choices_serve, named_leader}
use Rattle.core_model.specs.Fleet.{HasNode, follower_names, leader_names, node_names, regions_of, serves_in_turn}
use Rattle.core_model.specs.Messages.{notified_besides, notified_by, notified_of}
use Rattle.core_model.specs.Pens.{pens_of}
use Rattle.core_model.specs.Serving.{IsLeaderFor, IsLeaderIn}
use Rattle.core_model.specs.States.{AreStatesOf}
use Rattle.core_model.specs.Stores.{AreStoresOf, HaveMasterRegions, master_log, master_of, store_length}
use Rattle.core_steps.proofs.ReadLemmas.{log_is}
use Rattle.core_steps.specs.OtherEnds.{master_leader}
use Rattle.core_steps.specs.Posting.{NotifiesOfNew}
use Rattle.core_steps.specs.Writes.{new_entry}
use Rattle.core_steps.specs.declared.routes.TierPlace.{TierPlace}

-- ---- the preferred leader of the master's region

pub master_is : (s : Settings) (states : NodeStates) (shard : ℕ) → states.masters ≡ s.masters → master_region states shard ≡ master_of s shard
master_is s states shard same =
    ap (λ (ms : List ℕ). slice_index ms (shard % length ms)) same ∙ sym (unwrap_or-slice_get s.masters (shard % length s.masters) 0)

-- it serves the shard
pub merging_leads : (s : Settings) (states : NodeStates) (region shard : ℕ) (leader : NodeName) → states.regions ≡ regions_of s → shard < s.shards
    → leader ≡ preferred_leader states region shard → IsTrue (is_cache states.regions leader) → IsLeaderFor s shard leader
merging_leads s states region shard leader own here is cache =
    subst (IsLeaderFor s shard) (sym is) ((choices_serve s states).leader region shard own here
    (subst (λ n. IsTrue (is_cache states.regions n)) is cache))

-- is one of its region
pub leads_in : (s : Settings) (states : NodeStates) (region shard : ℕ) (leader : NodeName) → states.regions ≡ regions_of s
    → leader ≡ preferred_leader states region shard → IsTrue (is_cache states.regions leader) → IsLeaderIn s region leader
leads_in s states region shard leader own is cache =
    let index : ℕ = shard % leader_count states.regions region in
    let known : IsTrue (is_cache (regions_of s) (Leader region index)) =
    subst (λ (rs : List NodeCounts). IsTrue (is_cache rs (Leader region index))) own (subst (λ n. IsTrue (is_cache states.regions n)) is cache) in
    subst (IsLeaderIn s region) (sym is) (record { index = index; name_is = refl; configured = named_leader s region index known })

-- and has an inbox
pub leader_has : (s : Settings) (shard : ℕ) (leader : NodeName) (inboxes : Inboxes) → node_names inboxes ≡ cache_names s → IsLeaderFor s shard leader
    → HasNode leader inboxes
leader_has s shard leader inboxes names leads =
    subst (λ l. Contains l leader) (sym names) (Contains-append_left (leader_names s) (follower_names s) leader leads.configured)

-- ---- the leader that is chosen where the shard's master is

-- the shard is configured, and the leader is one of the master's region, and up
pub record LeadsAtMaster (s : Settings) (states : NodeStates) (shard : ℕ) (leader : NodeName) : Type 0 where
  pub here : shard < s.shards
  pub leads : IsLeaderIn s (master_of s shard) leader
  pub up : is_up states leader ≡ true

chosen_within : (here : Bool) (found : Option NodeName) (leader : NodeName) → (if here then found else None) ≡ Some leader
    → (here ≡ true) × (found ≡ Some leader)
chosen_within true found leader is = (refl, is)
chosen_within false found leader is = absurd (cc)

pub chosen_leads : (s : Settings) (states : NodeStates) (by : TierPlace) (shard : ℕ) (leader : NodeName) → AreStatesOf s states
    → master_leader s states by shard ≡ Some leader → LeadsAtMaster s states shard leader
chosen_leads s states by shard leader of chosen =
    let found = chosen_within (nat_lt shard s.shards) (chosen_leader states (by.region, by.tier) (master_region states shard) shard) leader chosen in
    let serves = (choices_serve s states).stand_in (by.region, by.tier) (master_region states shard) shard leader of.regions found.1 in
    record {
      here = ltb-true shard s.shards found.0;
      leads = subst (λ r. IsLeaderIn s r leader) (master_is s states shard of.masters) serves.0;
      up = serves.1;
    }

-- ---- messages that are sent

-- the inboxes keep their names
pub sends_named : (names : List NodeName) (m : SeenMaint) (old new : Inboxes) → Sends names m old new → node_names new ≡ node_names old
sends_named [] m old new same = ap node_names same
sends_named (name ∷ names) m old new sends =
    sends_named names m sends.0 new sends.2 ∙ names_kept (IsSent m) name old sends.0 sends.1

-- some nodes are notified, and then others
pub sends_both : (a b : List NodeName) (m : SeenMaint) (old mid new : Inboxes) → Sends a m old mid → Sends b m mid new → Sends (a ++ b) m old new
sends_both [] b m old mid new one two = subst (λ x. Sends b m x new) one two
sends_both (name ∷ a) b m old mid new one two = (one.0, one.1, sends_both a b m one.0 mid new one.2 two)

-- the preferred leader is notified where it is up
pub besides_up : (states : NodeStates) (shard region : ℕ) (leader : NodeName) (m : SeenMaint) (old new : Inboxes) → region ≡ master_region states shard
    → leader ≡ preferred_leader states region shard → is_up states leader ≡ true → Sends (leader ∷ []) m old new
    → Sends (notified_besides states shard) m old new
besides_up states shard region leader m old new region_is is up sends =
    let leads : leader ≡ preferred_leader states (master_region states shard) shard = is ∙ ap (λ r. preferred_leader states r shard) region_is in
    let alone : filter (is_up states) (leader ∷ []) ≡ leader ∷ [] = ap (λ b. if b then leader ∷ [] else []) up in
    subst (λ n. Sends (filter (is_up states) (n ∷ [])) m old new) leads (subst (λ l. Sends l m old new) (sym alone) sends)

-- the followers are notified, and the leader that another stands in for
pub notified_more : (s : Settings) (states : NodeStates) (shard region : ℕ) (leader : NodeName) (m : SeenMaint) (old mid new : Inboxes)
    → states.regions ≡ regions_of s → region ≡ master_region states shard → serves_in_turn (regions_of s) leader shard ≡ false
    → Sends (notified_of states region shard) m old mid → Sends (notified_besides states shard) m mid new → Sends (notified_by states leader shard) m old new
notified_more s states shard region leader m old mid new own region_is serves sent more =
    let first = notified_of states (master_region states shard) shard in
    let besides : (if serves_in_turn states.regions leader shard then [] else notified_besides states shard) ≡ notified_besides states shard =
    ap (λ b. if b then [] else notified_besides states shard) (ap (λ (rs : List NodeCounts). serves_in_turn rs leader shard) own ∙ serves) in
    subst (λ l. Sends l m old new) (sym (ap (λ l. first ++ l) besides))
    (sends_both first (notified_besides states shard) m old mid new (subst (λ r. Sends (notified_of states r shard) m old mid) region_is sent) more)

-- ---- the stores have come to it

pub arrived_grows : (tells : Bool) (old new : Tables) (inboxes : Inboxes) → LogsGrow tells old new → WhereTold tells (HaveArrived old inboxes)
    → WhereTold tells (HaveArrived new inboxes)
arrived_grows tells old new inboxes grow have = λ told. (arrived_stay old).grows new inboxes (subst (λ b. LogsGrow b old new) told grow) (have told)

module _ (tells : Bool) (s : Settings) (tables : Tables) (stores : List Store) (shard : ℕ) (regions : HaveMasterRegions s)
    (are : AreStoresOf tells s tables stores) (here : shard < s.shards) where
  -- the master's store has the entries that stand in the shard's log
  pub within_master : (e : Entry) → StandsIn (pens_of stores shard) e → WhereTold tells (e.position ≤ store_length tables (master_of s shard) shard)
  within_master e stands = λ told.
      let log = log_is tells s tables stores shard regions are here in
      let at : entry_at (master_log s tables shard) e.position ≡ Some e =
      subst (λ (l : List Entry). entry_at l e.position ≡ Some e) (log.entries_is told) (stands (log.told_is ∙ told)) in
      let within = entry_at-within (master_log s tables shard) e.position e at in
      omega (arith, within)

  pub arrived_notified : (states : NodeStates) (leader : NodeName) (entry : Option Entry) (old new : Inboxes) → AreStatesOf s states
      → IfSome entry (StandsIn (pens_of stores shard)) → NotifiesOfNew states leader shard entry old new → WhereTold tells (HaveArrived tables old)
      → WhereTold tells (HaveArrived tables new)
  arrived_notified states leader None old new of stands sent have = subst (λ i. WhereTold tells (HaveArrived tables i)) (sym sent) have
  arrived_notified states leader (Some e) old new of stands sent have = λ told.
      let m : SeenMaint = entry_message shard e sent.0 in
      (arrived_stay tables).sends (notified_by states leader shard) m old new sent.1
      ((notified_of_store tables states shard m).by leader
      (subst (λ r. e.position ≤ store_length tables r shard) (sym (master_is s states shard of.masters)) (within_master e stands told)))
      (have told)

-- what is so of an entry is so where it is new
pub of_new : (P : Entry → Type 0) (retry : Bool) (entry : Option Entry) → IfSome entry P → IfSome (new_entry retry entry) P
of_new P true entry is = tt
of_new P false entry is = is
