-- What nodes that are up answer, where stores and nodes are settled, has the last version of its key.
use Rattle.std.proofs.Common.{◌≡◌, ℕ, ◌<◌, true, List, Option, Some, None, refl, sym, ◌∙◌, subst, inl, inr, arith}
use Rattle.std.proofs.lemmas.Bool.{cases_Bool, ltb-true}
use Rattle.std.specs.Prelude.{◌&&◌, nat_le, nat_lt}
use Rattle.cache_items.specs.HandedOn.{IsFrontHeld}
use Rattle.cache_items.specs.Kept.{item_of}
use Rattle.cache_items.specs.Look.{look_of}
use Rattle.cache_items.specs.Node.{Node, item_at}
use Rattle.cache_items.specs.declared.item.Item.{Item}
use Rattle.cache_items.specs.declared.look.Look.TheVariants.{Hit}
use Rattle.core_model.specs.follower_cache.Seen.{FollowerState}
use Rattle.graph_model.specs.Log.{version}
use Rattle.graph_model.specs.Told.{WhereTold}
use Rattle.core_model.specs.leader_tier.LeaderReads.{at_floor}
use Rattle.node_name.specs.declared.NodeName.{NodeName}
use Rattle.node_name.specs.declared.NodeName.TheVariants.{Store as StoreName_, Leader, Follower}
use Rattle.sealed_item.specs.Decided.{content_decides}
use Rattle.shard_tables.specs.ReadOuts.{IsReadOutOf}
use Rattle.shard_tables.specs.StoreView.{Store}
use Rattle.shard_tables.specs.declared.leader_answer.LeaderAnswer.{LeaderAnswer}
use Rattle.shard_tables.specs.declared.leader_answer.LeaderAnswer.TheVariants as leader
use Rattle.shard_tables.specs.declared.read_out.ReadOut.{ReadOut}
use Rattle.shard_tables.specs.declared.read_out.ReadOut.TheVariants as store
use Rattle.tao_base.specs.EdgeTypes.{EdgeTypes}
use Rattle.tao_base.specs.Queries.{query_key, query_shard}
use Rattle.tao_base.specs.declared.entry.Entry.{Entry}
use Rattle.tao_base.specs.declared.id.StoreName.{StoreName}
use Rattle.tao_base.specs.declared.query.Answer.{Answer}
use Rattle.tao_base.specs.declared.query.Query.{Query}
use Rattle.tao_keeper.specs.KeeperState.{KeeperState}
use Rattle.tao_schema.specs.Schema.{types_of}
use Rattle.topology.specs.Config.{Settings}
use Rattle.topology.specs.States.{NodeStates, is_up}
use Rattle.core_model.specs.Consistent.{IsConsistent}
use Rattle.core_model.proofs.FoundStores.{stores_are_found}
use Rattle.core_model.specs.Fleet.{ChangesNode, Fleet, region_of}
use Rattle.core_model.specs.Pens.{store_in}
use Rattle.core_model.specs.Reads.{LeaderAnswers, LooksFirst, StoreAnswers, Wanted, store_calls}
use Rattle.core_model.specs.States.{AreSettled, nodes_now}
use Rattle.core_model.specs.Stores.{IsConfiguredStore, master_log, region_store, store_place}
use Rattle.core_model.specs.declared.named.Named.{Named}
use Rattle.core_nodes.specs.Ends.{AllHoldLast, HoldsLast}
use Rattle.core_nodes.proofs.CaughtUp.{nodes_catch_up}
use Rattle.core_steps.specs.Reads.{AnswersThere, leader_calls}
use Rattle.core_steps.specs.World.{World}

-- ---- the item of which a node answered

-- it is held, and has this version
pub record IsOfItem (found : Option Item) (at : ℕ) : Type 0 where
  pub item : Item
  pub held : found ≡ Some item
  pub version_is : at ≡ item.version

look_item : (types : EdgeTypes) (found : Option Item) (query : Query) (floor at : ℕ) (answer : Answer) → Hit answer at ≡ look_of types found query floor
    → IsOfItem found at
look_item types None query floor at answer is = absurd (cc)
look_item types (Some item) query floor at answer is =
    elim (cases_Bool (nat_le floor item.version && content_decides types item.content query)) [
      | inl serves ↦ (
          let hit = rw serves at is in
          record { item = item; held = refl; version_is = cc })
      | inr serves ↦ (let miss = rw serves at is in absurd (cc))
    ]

front_item : (types : EdgeTypes) (found : Option Item) (query : Query) (floor : ℕ) (front : Item) → IsFrontHeld types query floor found (Some front)
    → IsOfItem found front.version
front_item types None query floor front is = absurd (cc)
front_item types (Some item) query floor front is = record { item = item; held = refl; version_is = is.1 }

-- ---- what was given

-- it has the last version; a leader that is behind tells that the last version is below the floor
abbrev pub GivesLast : ℕ → ℕ → LeaderAnswer → Type 0
GivesLast floor last (leader.Filled fill) = fill.version ≡ last
GivesLast floor last (leader.Past answer at total note) = at ≡ last
GivesLast floor last (leader.Behind at) = last < floor

-- so has what was read of a log
read_last : (types : EdgeTypes) (log : List Entry) (query : Query) (floor : ℕ) (out : ReadOut) → IsReadOutOf types log query out
    → GivesLast floor (version log (query_key query)) (at_floor floor out)
read_last types log query floor (store.Filled fill) is = elim (cases_Bool (nat_lt fill.version floor)) [
  | inl behind ↦ rw behind (let lt = ltb-true fill.version floor behind in let same = is.version_is in omega arith)
  | inr reached ↦ rw reached is.version_is
]
read_last types log query floor (store.Past answer at total note) is = elim (cases_Bool (nat_lt at floor)) [
  | inl behind ↦ rw behind (let lt = ltb-true at floor behind in let same = is.0.version_is in omega arith)
  | inr reached ↦ rw reached is.0.version_is
]

-- ---- stores and nodes that are settled

module _ (s : Settings) (read : Wanted) (keepers : KeeperState) (f : Fleet) (states : NodeStates) (are : IsConsistent true s keepers.told f)
    (settled : AreSettled s keepers.told (nodes_now f states)) where
  abbrev types : EdgeTypes
  types = types_of s.schema

  abbrev log : List Entry
  log = master_log s keepers.told (query_shard read.query)

  held_last : AllHoldLast s keepers.told (nodes_now f states)
  held_last = (nodes_catch_up s keepers.told).last (nodes_now f states) are settled

  -- the own answer of a follower that is up
  pub hit_last : (name : NodeName) (answer : Answer) (at : ℕ) (ask : Option ℕ) (new : List (Named FollowerState)) → is_up states name ≡ true
      → ChangesNode name (LooksFirst types read (Hit answer at) ask) f.followers new → at ≡ version log (query_key read.query)
  hit_last name answer at ask new up change =
      let of = look_item types (item_at change.from.node.items (query_key read.query)) read.query read.floor at answer change.by.look_is in
      let holds = held_last.followers change.place name change.from change.stands up in
      of.version_is ∙ holds (query_key read.query) of.item of.held

  -- what a region's store read, it read of the whole log
  of_log : (region : ℕ) (x : Store) (out : ReadOut) → store_in f.stores (region_store region (query_shard read.query)) ≡ Some x
      → WhereTold x.view.log.told (IsReadOutOf types (keepers.told x.name).log read.query out) → IsReadOutOf types log read.query out
  of_log region x out found reads =
      let at : StoreName = region_store region (query_shard read.query) in
      let there = (stores_are_found s f.stores).called at x are.stores.configured found in
      let here = subst (IsConfiguredStore s) there.name_is (are.stores.configured.each (store_place s at) x there.stands).here in
      let own = subst (λ (name : StoreName). IsReadOutOf types (keepers.told name).log read.query out) there.name_is
      (reads (are.stores.seen (store_place s at) x there.stands).told_is) in
      subst (λ (l : List Entry). IsReadOutOf types l read.query out) (settled.whole at here) own

  answers_last : (region : ℕ) (given : LeaderAnswer) (after : KeeperState) (from to : Node) → HoldsLast s keepers.told from
      → LeaderAnswers types read given (store_calls region f.stores keepers after) from to → GivesLast read.floor (version log (query_key read.query)) given
  answers_last region given after from to holds does = elim does.answers [
    | inl own ↦
        let of = front_item types (item_at from.items (query_key read.query)) read.query read.floor (item_of own.fill) own.serves.0 in
        let filled : own.fill.version ≡ version log (query_key read.query) = of.version_is ∙ holds (query_key read.query) of.item of.held in
        subst (GivesLast read.floor (version log (query_key read.query))) (sym own.given_is) filled
    | inr reads ↦
        let of_read = read_last types log read.query read.floor reads.out (of_log region does.store reads.out does.stands reads.reads) in
        subst (GivesLast read.floor (version log (query_key read.query))) (sym reads.given_is) of_read
  ]

  -- the answer of a region's store
  pub store_last : (region : ℕ) (given : LeaderAnswer) (after : KeeperState) → StoreAnswers types read given (store_calls region f.stores keepers after)
      → GivesLast read.floor (version log (query_key read.query)) given
  store_last region given after does =
      let of_read = read_last types log read.query read.floor does.out (of_log region does.reads.store does.out does.reads.stands does.reads.reads) in
      subst (GivesLast read.floor (version log (query_key read.query))) (sym does.given_is) of_read

  -- the answer of a leader that is up
  pub given_last : (name : NodeName) (given : LeaderAnswer) (after : KeeperState) (new : List (Named Node)) → is_up states name ≡ true
      → ChangesNode name (LeaderAnswers types read given (leader_calls name f.stores keepers after)) f.leaders new
      → GivesLast read.floor (version log (query_key read.query)) given
  given_last name given after new up change =
      answers_last (region_of name) given after change.from change.to (held_last.leaders change.place name change.from change.stands up) change.by

-- the answer of who was asked, and is up
pub asked_last : (s : Settings) (read : Wanted) (states : NodeStates) (old new : World) (node : NodeName) (given : LeaderAnswer)
    → IsConsistent true s old.keepers.told old.fleet → AreSettled s old.keepers.told (nodes_now old.fleet states) → is_up states node ≡ true
    → AnswersThere (types_of s.schema) node read given old new
    → GivesLast read.floor (version (master_log s old.keepers.told (query_shard read.query)) (query_key read.query)) given
asked_last s read states old new (Leader region index) given are settled up does =
    given_last s read old.keepers old.fleet states are settled (Leader region index) given new.keepers new.fleet.leaders up does
asked_last s read states old new (StoreName_ at) given are settled up does =
    store_last s read old.keepers old.fleet states are settled at.region given new.keepers does.0
asked_last s read states old new (Follower region tier index) given are settled up does = absurd does
