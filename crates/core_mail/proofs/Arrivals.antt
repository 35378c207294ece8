-- The store of each node's region has come to the messages that wait for the node.
use Rattle.std.proofs.Common.{◌≡◌, ℕ, ◌≤◌, true, List, [], ◌∷◌, map, Option, IfSome, refl, sym, subst, inl, inr, arith}
use Rattle.std.specs.List.{AllByRecursion}
use Rattle.std.specs.Prelude.{slice_get}
use Rattle.std.proofs.lemmas.Bool.{cases_Bool}
use Rattle.graph_model.proofs.Later.{all_append, all_filter, all_map}
use Rattle.maint_msg.specs.Inbox.{IsSent}
use Rattle.maint_msg.specs.Maints.{SeenMaint}
use Rattle.node_name.specs.declared.NodeName.{NodeName}
use Rattle.shard_log.proofs.Beginnings.{begins-length}
use Rattle.tao_keeper.specs.Growing.{LogsGrow}
use Rattle.tao_keeper.specs.Table.{Tables}
use Rattle.topology.specs.Choices.{master_region, preferred_leader, round_from, serving_follower}
use Rattle.topology.specs.Counts.{tier_count}
use Rattle.topology.specs.States.{NodeStates, is_up}
use Rattle.core_model.specs.Fleet.{ChangesNode, named, region_of, serves_in_turn}
use Rattle.core_model.specs.Messages.{IsOfStore, notified_besides, notified_by, notified_of}
use Rattle.core_model.specs.Stores.{region_store, store_length}
use Rattle.core_model.proofs.NamedNodes.{all_set}
use Rattle.core_mail.specs.Inboxes.{HaveArrived, Inboxes, LosesAll, Sends, TakesOut}
use Rattle.core_mail.specs.Laws.{ArrivedStay, NotifiedOfStore}
use Rattle.core_mail.proofs.InboxLemmas.{all_at, all_of_image, all_removed, empty_at}

module _ (tables : Tables) where
  abbrev AreOfStore : NodeName → List SeenMaint → Type 0
  AreOfStore name waiting = AllByRecursion (IsOfStore tables name) waiting

  change_arrived : (By : List SeenMaint → List SeenMaint → Type 0) (name : NodeName) (old new : Inboxes) → ChangesNode name By old new
      → ((from to : List SeenMaint) → By from to → AreOfStore name from → AreOfStore name to) → HaveArrived tables old → HaveArrived tables new
  change_arrived By name old new change keeps have =
      let was = have change.place name change.from change.stands in
      subst (HaveArrived tables) (sym change.is) (all_set AreOfStore old change.place name change.to have (keeps change.from change.to change.by was))

  sent_arrived : (name : NodeName) (m : SeenMaint) (from to : List SeenMaint) → IsOfStore tables name m → IsSent m from to → AreOfStore name from
      → AreOfStore name to
  sent_arrived name m from to is (inl sent) all =
      subst (AreOfStore name) (sym sent.1) (all_append (IsOfStore tables name) from (m ∷ []) all (is, tt))
  sent_arrived name m from to is (inr lost) all = subst (AreOfStore name) (sym lost) all

  pub sends_arrived : (names : List NodeName) (m : SeenMaint) (old new : Inboxes) → Sends names m old new
      → AllByRecursion (λ name. IsOfStore tables name m) names → HaveArrived tables old → HaveArrived tables new
  sends_arrived [] m old new same all have = subst (HaveArrived tables) (sym same) have
  sends_arrived (name ∷ names) m old new sends all have =
      sends_arrived names m sends.0 new sends.2 all.1
      (change_arrived (IsSent m) name old sends.0 sends.1 (λ from to sent was. sent_arrived name m from to all.0 sent was) have)

  -- what stands at a place of an inbox
  arrived_at : (name : NodeName) (place at : ℕ) (waiting : List SeenMaint) (message : Option SeenMaint) (inboxes : Inboxes)
      → slice_get inboxes at ≡ Option.Some (named name waiting) → message ≡ slice_get waiting place → HaveArrived tables inboxes
      → IfSome message (IsOfStore tables name)
  arrived_at name place at waiting message inboxes stands same have =
      subst (λ m. IfSome m (IsOfStore tables name)) (sym same) (all_at (IsOfStore tables name) waiting place (have at name waiting stands))

  grown_store : (later : Tables) (name : NodeName) (m : SeenMaint) → LogsGrow true tables later → IsOfStore tables name m → IsOfStore later name m
  grown_store later name m grow is =
      let at = region_store (region_of name) m.shard in
      let longer = begins-length (tables at).log (later at).log (grow.begins refl at) in
      omega arith

  pub arrived_stay : ArrivedStay tables
  arrived_stay = record {
    grows = λ later inboxes grow have place name waiting stands.
        all_map (IsOfStore tables name) (IsOfStore later name) (λ m is. grown_store later name m grow is) waiting (have place name waiting stands);
    sends = sends_arrived;
    takes = λ name place message old new change have.
        change_arrived (TakesOut place message) name old new change
        (λ from to takes all. subst (AreOfStore name) (sym takes.rest) (all_removed (IsOfStore tables name) from place all)) have;
    taken = λ name place message old new change have.
        arrived_at name place change.place change.from message old change.stands change.by.message_is have;
    copied = λ name place message inboxes waits have.
        arrived_at name place waits.inbox.0 waits.waiting message inboxes waits.inbox.2 waits.message_is have;
    loses = λ name old new change have.
        change_arrived LosesAll name old new change (λ from to none all. subst (AreOfStore name) (sym none) tt) have;
    empty = λ inboxes none place name waiting stands. subst (AreOfStore name) (sym (empty_at inboxes place name waiting none stands)) tt;
  }

-- ---- who is notified

module _ (tables : Tables) (states : NodeStates) (shard : ℕ) (m : SeenMaint) where
  abbrev IsOf : NodeName → Type 0
  IsOf name = IsOfStore tables name m

  followers_of : (region : ℕ) → m.position ≤ store_length tables region m.shard → AllByRecursion IsOf (notified_of states region shard)
  followers_of region within =
      let tiers = round_from 0 (tier_count states.regions region) in
      all_filter IsOf (is_up states) (map (λ t. serving_follower states.regions region t shard) tiers)
      (all_of_image IsOf (λ t. serving_follower states.regions region t shard) (λ t. within) tiers)

  leader_of : m.position ≤ store_length tables (master_region states shard) m.shard → AllByRecursion IsOf (notified_besides states shard)
  leader_of within = all_filter IsOf (is_up states) (preferred_leader states (master_region states shard) shard ∷ []) (within, tt)

  all_notified_by : (leader : NodeName) → m.position ≤ store_length tables (master_region states shard) m.shard
      → AllByRecursion IsOf (notified_by states leader shard)
  all_notified_by leader within = elim (cases_Bool (serves_in_turn states.regions leader shard)) [
    | inl serves ↦ rw serves (all_append IsOf (notified_of states (master_region states shard) shard) [] (followers_of (master_region states shard) within) tt)
    | inr stands_in ↦ rw stands_in (all_append IsOf (notified_of states (master_region states shard) shard) (notified_besides states shard)
        (followers_of (master_region states shard) within) (leader_of within))
  ]

  pub notified_of_store : NotifiedOfStore tables states shard m
  notified_of_store = record { of = followers_of; besides = leader_of; by = all_notified_by }
