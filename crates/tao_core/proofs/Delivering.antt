-- What the words of messages, of refills and of held items come to.
use Rattle.std.proofs.Common.{true, ◌≡◌, ℕ, zero, suc, ◌+◌, ◌<◌, ◌≤◌, List, [], ◌∷◌, length, Bool, false, Option, Some, None}
use Rattle.std.proofs.Common.{refl, ap, sym, ◌∙◌, subst, inl, inr, arith}
use Rattle.std.specs.List.{range_with_len, remove}
use Rattle.std.specs.Option.{option_map}
use Rattle.std.specs.Prelude.{Contains, map, option_and_then, slice_get, slice_set}
use Rattle.cache_items.specs.Node.{Node, item_at}
use Rattle.cache_items.specs.declared.item.Item.{Item}
use Rattle.core_mail.proofs.InboxLemmas.{inboxes_stay}
use Rattle.core_mail.specs.Inboxes.{AreInboxesOf, Inboxes, TakesOut, WaitsAt, shown_message}
use Rattle.core_model.proofs.Places.{set_same}
use Rattle.core_model.proofs.Turns.{turn_of}
use Rattle.core_model.specs.Consistent.{GoesOn, HaveReached, IsConsistent, IsFleetOf, IsNodeOf}
use Rattle.core_model.specs.Evictions.{IsCacheOf}
use Rattle.core_model.specs.Fleet.{ChangesNode, Fleet, HasNode, follower_names, followers_from, named, region_of, regions_of, tiers_from}
use Rattle.core_model.specs.Messages.{DeliversAt, IsRefillFor, TakesRefill}
use Rattle.core_model.specs.Pens.{pens_of}
use Rattle.core_model.specs.Reads.{wanted}
use Rattle.core_model.specs.Stores.{AreStoresOf, HaveMasterRegions, master_log}
use Rattle.core_plans.proofs.AsksHeld.{refill_opens_none}
use Rattle.core_nodes.specs.Shown.{IsCacheNode, IsHeldAt, IsMarkAt}
use Rattle.core_steps.specs.ReadSteps.{IsReached}
use Rattle.core_steps.specs.Replies.{refilled_as}
use Rattle.follower_cache.specs.declared.queue.Refill.{Refill}
use Rattle.graph_model.proofs.Members.{IsIn, in_append_cases, in_from_contains, in_map_parts}
use Rattle.graph_model.specs.Log.{version}
use Rattle.graph_model.specs.Told.{WhereTold}
use Rattle.maint_msg.specs.Maints.{SeenMaint}
use Rattle.node_name.specs.declared.NodeName.{NodeName}
use Rattle.node_name.specs.declared.NodeName.TheVariants.{Store as StoreName_, Leader, Follower}
use Rattle.replies.specs.declared.lists.Message.{Message}
use Rattle.replies.specs.declared.nodes.CacheReply.TheVariants.{Delivered}
use Rattle.replies.specs.declared.nodes.NodeReply.TheVariants.{Cache}
use Rattle.replies.specs.declared.nodes.Shown.{Shown as ShownAs}
use Rattle.replies.specs.declared.refusals.NodeRefused.TheVariants.{NoRefill}
use Rattle.replies.specs.declared.refusals.Refusal.TheVariants.{Node as OfNode}
use Rattle.replies.specs.declared.reply.Reply.{Reply}
use Rattle.replies.specs.declared.reply.Reply.TheVariants.{Refused, Node as AtNode}
use Rattle.sealed_item.specs.Fills.{IsExactContent}
use Rattle.served_shards.specs.Served.{low_at, served_at}
use Rattle.tao_base.specs.EdgeTypes.{EdgeTypes}
use Rattle.tao_base.specs.Keys.{key_shard}
use Rattle.tao_base.specs.Queries.{query_key, query_shard}
use Rattle.tao_base.specs.declared.entry.Entry.{Entry}
use Rattle.tao_base.specs.declared.id.Key.{Key}
use Rattle.tao_keeper.proofs.Growing.{growing_laws}
use Rattle.tao_keeper.specs.KeeperState.{KeeperState}
use Rattle.tao_keeper.specs.Table.{Tables}
use Rattle.tao_link.specs.Shown.{LinkShown}
use Rattle.topology.specs.Config.{Settings}
use Rattle.tao_schema.specs.Schema.{types_of}
use Rattle.topology.specs.Counts.{NodeCounts, counts_of}
use Rattle.topology.specs.States.{is_up}
use Rattle.shard_tables.specs.StoreView.{Store}
use Rattle.words.specs.declared.DeliveryWord.{DeliveryWord}
use Rattle.words.specs.declared.DeliveryWord.TheVariants as word
use Rattle.tao_core.specs.Core.{CoreState, IsConsistentCore, LeavesCore, Moment, StaysHeld, moment}
use Rattle.tao_core.specs.Deliveries.{AnswersDeliver, AnswersRefill, AnswersSecond, IsExactNow, IsMarkSaid, IsProcessed, IsShown}
use Rattle.tao_core.specs.Deliveries.{refill_plan, shown_item}
use Rattle.tao_core.specs.HeldCalls.{DoesAtOnce}
use Rattle.core_plans.specs.Held.{IsUnderWay}
use Rattle.core_nodes.proofs.GrowingLemmas.{stays_stores}
use Rattle.tao_keeper.proofs.Later.{later_self}
use Rattle.std.proofs.lemmas.List.{length-map}
use Rattle.core_steps.proofs.ReadLemmas.{log_is}
use Rattle.core_steps.proofs.Repeats.{held_exact}
use Rattle.tao_core.proofs.HeldOn.{delivers_held, held_on, none_come, same_held}
use Rattle.tao_core.proofs.Arriving.{refill_reaches}
use Rattle.tao_core.proofs.Keeping.{going_core}

-- ---- messages

-- each leader and follower of the configuration has an inbox
pub inbox_has : (core : CoreState) (node : NodeName) → AreInboxesOf core.settings (pens_of core.fleet.stores) core.mail → IsCacheOf core.settings node
    → HasNode node core.mail
inbox_has core node inboxes cache = (inboxes_stay core.settings (pens_of core.fleet.stores) core.mail).cache_has node cache inboxes

-- nothing is taken out past the end
remove_none : {X : Type 0} (xs : List X) (place : ℕ) → None ≡ slice_get xs place → remove xs place ≡ xs
remove_none [] zero h = refl
remove_none [] (suc place) h = refl
remove_none (x ∷ xs) zero h = absurd (cc)
remove_none (x ∷ xs) (suc place) h = ap (λ l. x ∷ l) (remove_none xs place h)

-- no message waited at the place
pub none_waits : (node : NodeName) (place : ℕ) (old new : Inboxes) → ChangesNode node (TakesOut place None) old new → WaitsAt node place None old
none_waits node place old new change = record {
  waiting = change.from;
  inbox = (change.place, change.first, change.stands);
  message_is = change.by.message_is;
}

-- and none was taken
pub none_taken : (node : NodeName) (place : ℕ) (old new : Inboxes) → ChangesNode node (TakesOut place None) old new → new ≡ old
none_taken node place old new change =
    change.is ∙ ap (λ x. slice_set old change.place (named node x)) (change.by.rest ∙ remove_none change.from place change.by.message_is)
    ∙ set_same old change.place (named node change.from) change.stands

deliver_stores : (types : EdgeTypes) (m : SeenMaint) (dropped : ℕ) (node : NodeName) (old new : Fleet) → DeliversAt types m dropped node old new
    → new.stores ≡ old.stores
deliver_stores types m dropped (StoreName_ store) old new h = absurd h
deliver_stores types m dropped (Leader region index) old new h = ap (λ (f : Fleet). f.stores) h.1
deliver_stores types m dropped (Follower region tier index) old new h = ap (λ (f : Fleet). f.stores) h.1

-- a message that is processed changes no store
pub processed_stores : (asked : DeliveryWord) (node : NodeName) (m : SeenMaint) (old new : CoreState) (reply : Reply)
    → IsProcessed asked node m old reply new → new.fleet.stores ≡ old.fleet.stores
processed_stores asked node m old new (AtNode (Cache (Delivered told))) does =
    deliver_stores (types_of old.settings.schema) m told.dropped node old.fleet new.fleet does.1.delivers
processed_stores asked node m old new reply does = absurd does

-- what a node that processes a message leaves, and how it is replied
pub record ProcessLeaves (asked : DeliveryWord) (node : NodeName) (m : SeenMaint) (old : CoreState) (reply : Reply) (new : CoreState) : Type 0 where
  pub does : IsProcessed asked node m old reply new
  pub fleet : IsFleetOf old.settings new.fleet
  pub on : StaysHeld old.fleet new.fleet
  pub rest : new ≡ record old { fleet = new.fleet }

-- the message was processed, and its node has a mark
pub processed : (asked : DeliveryWord) (node : NodeName) (m : SeenMaint) (told : Message) (dropped mark : ℕ) (core now : CoreState) (own : core ≡ now)
    (left : Fleet) → told ≡ shown_message m → DeliversAt (types_of core.settings.schema) m dropped node core.fleet left
    → IsMarkSaid (record core { fleet = left }) node m.shard mark → IsFleetOf core.settings left → GoesOn core.fleet left
    → ProcessLeaves asked node m now (AtNode (Cache (Delivered (record { word = asked; dropped = dropped; mark = mark; message = told }))))
    (record core { fleet = left })
processed asked node m told dropped mark core now own left is delivers at fleet goes =
    let reply : Reply = AtNode (Cache (Delivered (record { word = asked; dropped = dropped; mark = mark; message = told }))) in
    subst (λ x. ProcessLeaves asked node m x reply (record core { fleet = left })) own (record {
      does = (
        refl,
        record {
          delivers = delivers;
          mark = at;
          message_is = is;
        },
      );
      fleet = fleet;
      on = record { goes = goes; opens = delivers_held _ _ _ node core.fleet left delivers };
      rest = refl;
    })

-- the message that was taken out was processed
pub taken_answers : (node : NodeName) (place : ℕ) (m : SeenMaint) (old between new : CoreState) (reply : Reply) → between ≡ record old { mail = between.mail }
    → ChangesNode node (TakesOut place (Some m)) old.mail between.mail → new.mail ≡ between.mail → IsProcessed word.Deliver node m between reply new
    → AnswersDeliver node place old reply new
taken_answers node place m old between new (AtNode (Cache (Delivered told))) was change same does =
    let there = subst (λ x. IsProcessed word.Deliver node m x (AtNode (Cache (Delivered told))) new) was does in (
      m,
      subst (ChangesNode node (TakesOut place (Some m)) old.mail) (sym same) change,
      (there.0, record { delivers = there.1.delivers; mark = there.1.mark; message_is = there.1.message_is }),
    )
taken_answers node place m old between new reply was change same does = absurd does

-- the message that stays was processed
pub copied_answers : (node : NodeName) (place : ℕ) (m : SeenMaint) (old new : CoreState) (reply : Reply)
    → WaitsAt node place (Some m) old.mail → new.mail ≡ old.mail → IsProcessed word.Again node m old reply new → AnswersSecond node place old reply new
copied_answers node place m old new (AtNode (Cache (Delivered told))) waits same does = (m, waits, same, does)
copied_answers node place m old new reply waits same does = absurd does

-- ---- items

-- each leader and follower of the configuration is one of the nodes
none_found : (s : Settings) (f : Fleet) (name : NodeName) → IsFleetOf s f → IsCacheOf s name → IsCacheNode name f None → ⊥
none_found s f (StoreName_ store) fleet cache is = absurd cache
none_found s f (Leader region index) fleet cache is = is (subst (λ names. Contains names (Leader region index)) (sym fleet.leader_names) cache)
none_found s f (Follower region tier index) fleet cache is =
    is (subst (λ names. Contains names (Follower region tier index)) (sym fleet.follower_names) cache)

not_none : (s : Settings) (f : Fleet) (name : NodeName) (shard : ℕ) (node : Option Node) → IsFleetOf s f → IsCacheOf s name → IsCacheNode name f node
    → None ≡ option_map (λ n. low_at shard n.served) node → ⊥
not_none s f name shard None fleet cache is h = none_found s f name fleet cache is
not_none s f name shard (Some node) fleet cache is h = absurd (cc)

-- and has a mark
pub has_mark : (s : Settings) (f : Fleet) (name : NodeName) (shard : ℕ) → IsFleetOf s f → IsCacheOf s name → IsMarkAt f name shard None → ⊥
has_mark s f name shard fleet cache mark = not_none s f name shard mark.node fleet cache mark.is mark.mark_is

node_is : (s : Settings) (f : Fleet) (name : NodeName) (node : Node) → IsFleetOf s f → IsCacheNode name f (Some node)
    → IsNodeOf s (pens_of f.stores) name node
node_is s f (StoreName_ store) node fleet is = absurd (cc)
node_is s f (Leader region index) node fleet is = fleet.leaders is.0 (Leader region index) node is.2
node_is s f (Follower region tier index) node fleet is =
    subst (IsNodeOf s (pens_of f.stores) (Follower region tier index)) (sym is.2)
    (fleet.followers is.1.0 (Follower region tier index) is.0 is.1.2).node

item_exact : (tells : Bool) (s : Settings) (tables : Tables) (f : Fleet) (name : NodeName) (key : Key) (node : Node) (item : Item)
    → HaveMasterRegions s → AreStoresOf tells s tables f.stores → IsNodeOf s (pens_of f.stores) name node → item_at node.items key ≡ Some item
    → WhereTold tells (IsExactContent (master_log s tables (key_shard key)) key item.version item.content)
item_exact tells s tables f name key node item masters are is held told =
    let here = is.truth.items_here key item held in
    let turn = turn_of s (pens_of f.stores) name node (key_shard key) is here in
    let log = log_is tells s tables f.stores (key_shard key) masters are turn.0 in
    subst (λ (l : List Entry). IsExactContent l key item.version item.content) (log.entries_is told)
    (held_exact s (pens_of f.stores) name node key item (served_at (key_shard key) node.served) refl here is (log.told_is ∙ told) held)

exact_now : (tells : Bool) (core : CoreState) (keepers : KeeperState) (name : NodeName) (key : Key) (node : Option Node) (found : Option Item)
    → IsConsistentCore tells keepers.told core → IsCacheNode name core.fleet node
    → found ≡ option_and_then (λ n. item_at n.items key) node → IsExactNow tells core keepers key found
exact_now tells core keepers name key _ None of is found_is = tt
exact_now tells core keepers name key None (Some item) of is found_is = absurd (cc)
exact_now tells core keepers name key (Some n) (Some item) of is found_is =
    item_exact tells core.settings keepers.told core.fleet name key n item of.masters of.consistent.stores
    (node_is core.settings core.fleet name n of.consistent.fleet is) (sym found_is)

pub shows : (tells : Bool) (core : CoreState) (keepers : KeeperState) (link : LinkShown) (name : NodeName) (key : Key) (mark : ℕ) (found : Option Item)
    (item : ShownAs) → IsConsistentCore tells keepers.told core → IsHeldAt core.fleet name key found → IsMarkSaid core name (key_shard key) mark
    → item ≡ shown_item found → IsShown tells name key mark item (moment core keepers link)
shows tells core keepers link name key mark found item of held at is = record {
  found = found;
  held = held;
  item_is = is;
  exact = exact_now tells core keepers name key held.node found of held.is held.found_is;
  mark_is = at;
}

-- ---- refills

tiers_region : (region tier : ℕ) (counts : List ℕ) (node : NodeName) → IsIn node (tiers_from region tier counts) → region_of node ≡ region
tiers_region region tier [] node h = absurd h
tiers_region region tier (count ∷ counts) node h =
    elim (in_append_cases (map (Follower region tier) (range_with_len 0 count)) (tiers_from region (tier + 1) counts) node h) [
      | inl here ↦ (let one = in_map_parts (Follower region tier) (range_with_len 0 count) node here in ap region_of (sym one.2))
      | inr later ↦ tiers_region region (tier + 1) counts node later
    ]

region_below : (first : ℕ) (regions : List NodeCounts) (node : NodeName) → IsIn node (followers_from first regions)
    → region_of node < first + length regions
region_below first [] node h = absurd h
region_below first (r ∷ rs) node h = elim (in_append_cases (tiers_from first 0 r.followers) (followers_from (first + 1) rs) node h) [
  | inl here ↦ (let same = tiers_region first 0 r.followers node here in omega (arith, same))
  | inr later ↦ (let lt = region_below (first + 1) rs node later in omega (arith, lt))
]

-- a follower of the configuration is of one of its regions
pub of_region : (s : Settings) (node : NodeName) → Contains (follower_names s) node → region_of node < length (regions_of s)
of_region s node there = let lt = region_below 0 (regions_of s) node (in_from_contains (follower_names s) node there) in omega (arith, lt)

-- and it is one of the nodes
pub follower_has : (s : Settings) (f : Fleet) (node : NodeName) → IsFleetOf s f → Contains (follower_names s) node → HasNode node f.followers
follower_has s f node fleet there = subst (λ names. Contains names node) (sym fleet.follower_names) there

-- the log of its shard has come to the floor of a refill
pub refill_reached : (tells : Bool) (s : Settings) (keepers : KeeperState) (stores : List Store) (name : NodeName) (refill : Refill)
    → HaveMasterRegions s → AreStoresOf tells s keepers.told stores → IsRefillFor s (pens_of stores) name refill
    → IsReached tells s (wanted refill.query refill.floor) keepers
refill_reached tells s keepers stores name refill masters are is told =
    let log = log_is tells s keepers.told stores (query_shard refill.query) masters are is.here in
    subst (λ (l : List Entry). refill.floor ≤ version l (query_key refill.query)) (log.entries_is told) (is.reached (log.told_is ∙ told))

-- the plan of its refill can go on
pub refill_under_way : (tells : Bool) (keepers : KeeperState) (core : CoreState) (node : NodeName) (refill : Refill) → IsConsistentCore tells keepers.told core
    → Contains (follower_names core.settings) node → IsRefillFor core.settings (pens_of core.fleet.stores) node refill
    → IsUnderWay tells core.settings keepers.told core.fleet (refill_plan core.settings node refill)
refill_under_way tells keepers core node refill of there is = record {
  follower = record { here = is.here; configured = there; serves = is.serves };
  region = subst (λ n. region_of node < n) (length-map core.settings.regions counts_of) (of_region core.settings node there);
  never_asks = tt;
  bound = refl;
  reached = refill_reached tells core.settings keepers core.fleet.stores node refill of.masters of.consistent.stores is;
  ask = tt;
  stands = tt;
}

-- the refill was taken out, and no store changed
pub refill_consistent : (tells : Bool) (s : Settings) (tables : Tables) (old new : Fleet) → IsConsistent tells s tables old
    → new ≡ record old { followers = new.followers } → IsFleetOf s new → (HaveReached tables old → HaveReached tables new)
    → IsConsistent tells s tables new
refill_consistent tells s tables old new of rest fleet reaches = record {
  stores = subst (λ (f : Fleet). AreStoresOf tells s tables f.stores) (sym rest) of.stores;
  fleet = fleet;
  reached = λ told. reaches (of.reached told);
}

-- no refill waited, and the follower stays as it was
none_refilled : (node : NodeName) (old new : Fleet) → ChangesNode node (TakesRefill None) old.followers new.followers
    → new ≡ record old { followers = new.followers } → new ≡ old
none_refilled node old new change rest =
    let same : new.followers ≡ old.followers =
    change.is ∙ (ap (λ x. slice_set old.followers change.place (named node x)) change.by.1
    ∙ set_same old.followers change.place (named node change.from) change.stands) in
    rest ∙ ap (λ fs. record old { followers = fs }) same

-- ---- what refills leave

-- what a refill leaves, and how it is replied
pub record RefillLeaves (tells : Bool) (node : NodeName) (old : Moment) (reply : Reply) (new : Moment) : Type 0 where
  pub does : AnswersRefill tells node old reply new
  pub leaves : LeavesCore tells old.keepers new.keepers old.core new.core
  pub same : new.core ≡ record old.core { fleet = new.core.fleet; mail = new.core.mail }

-- what waited first was taken out
module _ (tells : Bool) (node : NodeName) (core now : CoreState) (own : core ≡ now) (before : KeeperState) (from : LinkShown) (left : Fleet)
    (of_now : IsConsistentCore tells before.told now) (first : Option Refill) (takes : ChangesNode node (TakesRefill first) core.fleet.followers left.followers)
    (rest : left ≡ record core.fleet { followers = left.followers }) (fleet : IsFleetOf core.settings left) (goes : GoesOn core.fleet left) where
  of : IsConsistentCore tells before.told core
  of = subst (IsConsistentCore tells before.told) (sym own) of_now

  pub left_consistent : IsConsistentCore tells before.told (record core { fleet = left })
  left_consistent =
      going_core tells before.told core of before.told left
      (refill_consistent tells core.settings before.told core.fleet left of.consistent rest fleet
      (refill_reaches before.told node first core.fleet left takes rest)) goes
      (growing_laws.stays tells before.told before.told (λ told at. refl))

  left_held : StaysHeld core.fleet left
  left_held = record { goes = goes; opens = refill_opens_none node core.fleet.followers left.followers first takes }

  pub refill_found : (refill : Refill) (read reply : Reply) (new : CoreState) (later : KeeperState) (to : LinkShown) → first ≡ Some refill
      → is_up core.states node ≡ true
      → DoesAtOnce tells (refill_plan core.settings node refill) (moment (record core { fleet = left }) before from) read (moment new later to)
      → LeavesCore tells before later (record core { fleet = left }) new → new.sessions ≡ core.sessions → reply ≡ refilled_as read
      → RefillLeaves tells node (moment now before from) reply (moment new later to)
  refill_found refill read reply new later to is up does leaves sessions reply_is =
      let kept : new ≡ record core { fleet = new.fleet; mail = new.mail } =
      does.rest ∙ ap (λ xs. record core { fleet = new.fleet; mail = new.mail; sessions = xs }) sessions in
      subst (λ x. RefillLeaves tells node (moment x before from) reply (moment new later to)) own (record {
        does = inl (record {
          up = up;
          refill = refill;
          left = left.followers;
          takes = subst (λ r. ChangesNode node (TakesRefill r) core.fleet.followers left.followers) is takes;
          read = read;
          does =
              subst (λ (f : Fleet). DoesAtOnce tells (refill_plan core.settings node refill) (moment (record core { fleet = f }) before from) read
              (moment new later to)) rest does;
          reply_is = reply_is;
        });
        leaves = record {
          is_consistent = leaves.is_consistent;
          on = held_on core.fleet left new.fleet left_held leaves.on;
          comes = none_come tells later.told core new (ap (λ (x : CoreState). x.states) kept);
          grows = leaves.grows;
          later = leaves.later;
        };
        same = kept;
      })

  pub refill_missed : (reply : Reply) → first ≡ None → reply ≡ Refused (OfNode (NoRefill node))
      → RefillLeaves tells node (moment now before from) reply (moment (record core { fleet = left }) before from)
  refill_missed reply is reply_is =
      let none = subst (λ r. ChangesNode node (TakesRefill r) core.fleet.followers left.followers) is takes in
      subst (λ x. RefillLeaves tells node (moment x before from) reply (moment (record core { fleet = left }) before from)) own (record {
        does = inr (record {
          reply_is = reply_is;
          none = inr none;
          same = ap (λ (f : Fleet). moment (record core { fleet = f }) before from) (none_refilled node core.fleet left none rest);
        });
        leaves = record {
          is_consistent = left_consistent;
          on = left_held;
          comes = none_come tells before.told core (record core { fleet = left }) refl;
          grows = stays_stores tells core.settings before before (λ told at. refl);
          later = later_self before;
        };
        same = refl;
      })

-- none waits at a follower that is down
pub refill_down : (tells : Bool) (node : NodeName) (core : CoreState) (before : KeeperState) (from : LinkShown)
    → IsConsistentCore tells before.told core → is_up core.states node ≡ false → (reply : Reply) → reply ≡ Refused (OfNode (NoRefill node))
    → RefillLeaves tells node (moment core before from) reply (moment core before from)
refill_down tells node core before from of down reply reply_is = record {
  does = inr (record { reply_is = reply_is; none = inl down; same = refl });
  leaves = record {
    is_consistent = of;
    on = same_held core.fleet;
    comes = none_come tells before.told core core refl;
    grows = stays_stores tells core.settings before before (λ told at. refl);
    later = later_self before;
  };
  same = refl;
}
