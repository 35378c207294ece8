-- A core's nodes are consistent as they begin.
use Rattle.std.proofs.Common.{◌≡◌, ℕ, zero, suc, ◌+◌, ◌≤◌, ◌<◌, Bool, true, List, [], ◌∷◌, length, map, Option, Some, None, refl, ap, sym, ◌∙◌, subst}
use Rattle.std.proofs.Common.{arith}
use Rattle.std.specs.List.{AllByRecursion, range_with_len}
use Rattle.std.specs.Option.{option_map_or}
use Rattle.std.specs.Prelude.{All, slice_get}
use Rattle.std.proofs.lemmas.List.{length-map}
use Rattle.std.proofs.lemmas.List.Elements.{All-weaker}
use Rattle.std.proofs.lemmas.Option.{get_or_from_slice_get, slice_get_within}
use Rattle.cache_items.specs.Node.{Node}
use Rattle.cache_node.specs.True.{IsTrueNode}
use Rattle.follower_cache.specs.declared.queue.Refill.{Refill}
use Rattle.graph_model.proofs.Later.{all_append, all_map}
use Rattle.graph_model.specs.Told.{WhereTold}
use Rattle.low_water.specs.Marks.{is_marked, marks}
use Rattle.node_name.specs.declared.NodeName.{NodeName}
use Rattle.node_name.specs.declared.NodeName.TheVariants.{Follower, Leader}
use Rattle.node_stages.specs.Caches.{BeginsAs, follower_node, follower_refills, leader_node, leader_refills}
use Rattle.served_shards.specs.Served.{ServedShard, served_at}
use Rattle.shard_tables.specs.StoreView.{Store}
use Rattle.tao_keeper.specs.Table.{Stays, Tables}
use Rattle.topology.specs.Config.{Settings}
use Rattle.topology.specs.Counts.{NodeCounts, counts_of}
use Rattle.core_model.specs.Consistent.{HasReached, IsConsistent, IsFleetOf, IsNodeOf}
use Rattle.core_model.specs.Emptied.{IsAtStore}
use Rattle.core_model.specs.Fleet.{Fleet, follower_names, followers_from, leader_names, leaders_from, named, node_names, region_of, regions_of}
use Rattle.core_model.specs.Fleet.{served_by, tiers_from}
use Rattle.core_model.specs.Messages.{AreRefillsFor}
use Rattle.core_model.specs.Pens.{IsSeen, pens_of}
use Rattle.core_model.specs.Stores.{AreStoresOf, region_store, store_length}
use Rattle.core_model.specs.declared.named.Named.{Named}
use Rattle.core_nodes.specs.Beginning.{AreAtStores, AreLengths, HaveBegun, IsBegun, IsEmptyFleet, IsEmptyFollower, IsEmptyNode}
use Rattle.core_nodes.specs.Beginning.{MayHold, begun_node, length_in, note_in}
use Rattle.core_nodes.proofs.BeginLemmas.{marks_begun, note_seen, seen_begun, shards_begun}
use Rattle.core_nodes.proofs.ServedWithin.{served_within}
use Rattle.core_model.proofs.Reaching.{up_to}

pub all_at : {X : Type 0} (P : X → Type 0) (xs : List X) (k : ℕ) (x : X) → All P xs → slice_get xs k ≡ Some x → P x
all_at P xs k x all h = subst P (get_or_from_slice_get xs k x x h) (all k x (slice_get_within xs k x h))

-- ---- the regions of a configuration's nodes

each_named : (P : NodeName → Type 0) (name : ℕ → NodeName) → ((n : ℕ) → P (name n)) → (first count : ℕ)
    → AllByRecursion P (map name (range_with_len first count))
each_named P name so first zero = tt
each_named P name so first (suc count) = (so first, each_named P name so (first + 1) count)

abbrev InRegions : ℕ → NodeName → Type 0
InRegions top name = region_of name < top

leaders_within : (top region : ℕ) (rs : List NodeCounts) → region + length rs ≤ top → AllByRecursion (InRegions top) (leaders_from region rs)
leaders_within top region [] le = tt
leaders_within top region (r ∷ rs) le =
    all_append (InRegions top) (map (Leader region) (range_with_len 0 r.leaders)) (leaders_from (region + 1) rs)
    (each_named (InRegions top) (Leader region) (λ n. omega (arith, le)) 0 r.leaders) (leaders_within top (region + 1) rs (omega (arith, le)))

tiers_within : (top region tier : ℕ) (counts : List ℕ) → region < top → AllByRecursion (InRegions top) (tiers_from region tier counts)
tiers_within top region tier [] lt = tt
tiers_within top region tier (count ∷ counts) lt =
    all_append (InRegions top) (map (Follower region tier) (range_with_len 0 count)) (tiers_from region (tier + 1) counts)
    (each_named (InRegions top) (Follower region tier) (λ n. lt) 0 count) (tiers_within top region (tier + 1) counts lt)

followers_within : (top region : ℕ) (rs : List NodeCounts) → region + length rs ≤ top → AllByRecursion (InRegions top) (followers_from region rs)
followers_within top region [] le = tt
followers_within top region (r ∷ rs) le =
    all_append (InRegions top) (tiers_from region 0 r.followers) (followers_from (region + 1) rs) (tiers_within top region 0 r.followers (omega (arith, le)))
    (followers_within top (region + 1) rs (omega (arith, le)))

pub leader_regions : (s : Settings) → AllByRecursion (λ name. region_of name < length s.regions) (leader_names s)
leader_regions s = leaders_within (length s.regions) 0 (regions_of s) (let all = length-map s.regions counts_of in omega (arith, all))

pub follower_regions : (s : Settings) → AllByRecursion (λ name. region_of name < length s.regions) (follower_names s)
follower_regions s = followers_within (length s.regions) 0 (regions_of s) (let all = length-map s.regions counts_of in omega (arith, all))

region_named : {N : Type 0} (top : ℕ) (nodes : List (Named N)) (place : ℕ) (name : NodeName) (node : N)
    → AllByRecursion (λ n. region_of n < top) (node_names nodes) → slice_get nodes place ≡ Some (named name node) → region_of name < top
region_named top [] place name node all at = absurd (cc)
region_named top (n ∷ nodes) zero name node all at = let same : n ≡ named name node = cc in subst (λ m. region_of m.name < top) same all.0
region_named top (n ∷ nodes) (suc place) name node all at = region_named top nodes place name node all.1 at

-- ---- a node that is at its region's stores has marked no more

pub at_store_reached : (tables : Tables) (region : ℕ) (node : Node) → IsAtStore tables region node → HasReached tables region node
at_store_reached tables region node at shard position on = by_served (served_at shard node.served) refl on
  where
    by_served : (o : Option ServedShard) → served_at shard node.served ≡ o → is_marked (option_map_or (λ t. t.marks) o (marks 0 [])) position ≡ true
        → position ≤ store_length tables region shard
    by_served None none on = let low = up_to 0 position on in omega (arith, low)
    by_served (Some t) found on = up_to (store_length tables region shard) position (subst (λ m. is_marked m position ≡ true) (at shard t found) on)

-- ---- a node that begins

module _ (tells : Bool) (s : Settings) (tables : Tables) (stores : List Store) (lengths : List ℕ) (are : AreStoresOf tells s tables stores)
    (measured : AreLengths tells s tables lengths) where
  -- is one of its core
  node_of : (name : NodeName) (node : Node) → region_of name < length s.regions → node ≡ begun_node s stores lengths name → IsTrueNode node
      → IsNodeOf s (pens_of stores) name node
  node_of name node here is truth =
      let region = region_of name in
      let seen = all_map (λ shard. shard < s.shards) (λ shard. IsSeen (pens_of stores) shard (note_in s stores region shard))
      (λ shard lt. note_seen s stores region shard are.configured are.follow (record { region = here; shard = lt })) (served_by s name)
      (served_within s name s.shards refl) in
      let begun : IsNodeOf s (pens_of stores) name (begun_node s stores lengths name) = record {
        shards = shards_begun (length_in s lengths region) (note_in s stores region) (served_by s name);
        seen = seen_begun (length_in s lengths region) (note_in s stores region) (pens_of stores) (served_by s name) seen;
        truth = subst IsTrueNode is truth;
        within = λ key item h. absurd (cc);
      } in
      subst (IsNodeOf s (pens_of stores) name) (sym is) begun

  -- it has processed what its region's stores have
  node_at : tells ≡ true → (name : NodeName) (node : Node) → region_of name < length s.regions → node ≡ begun_node s stores lengths name
      → IsAtStore tables (region_of name) node
  node_at told name node here is =
      subst (IsAtStore tables (region_of name)) (sym is)
      (λ shard t found.
      let begun = marks_begun (length_in s lengths (region_of name)) (note_in s stores (region_of name)) (λ k. k < s.shards) (served_by s name) shard t
      (served_within s name s.shards refl) found in
      begun.1 ∙ ap (λ n. marks n []) (measured.each (region_store (region_of name) shard) (record { region = here; shard = begun.0 }) told))

module _ (tells : Bool) (s : Settings) (tables : Tables) (f : Fleet) (are : AreStoresOf tells s tables f.stores) (h : HaveBegun tells s tables f.stores f) where
  abbrev lengths : List ℕ
  lengths = h.nodes.lengths

  -- a leader or a follower of these names
  module _ {N : Type 0} (node : N → Node) (refills : N → List Refill) (nodes : List (Named N)) (names : List NodeName) (named_so : node_names nodes ≡ names)
      (within : AllByRecursion (λ n. region_of n < length s.regions) names) (begun : All (IsBegun node refills s f.stores lengths) nodes)
      (place : ℕ) (name : NodeName) (x : N) (at : slice_get nodes place ≡ Some (named name x)) where
    begins : BeginsAs node refills (begun_node s f.stores lengths name) x
    begins = all_at (IsBegun node refills s f.stores lengths) nodes place (named name x) begun at

    of_region : region_of name < length s.regions
    of_region = region_named (length s.regions) nodes place name x
        (subst (AllByRecursion (λ n. region_of n < length s.regions)) (sym named_so) within) at

    node_begun : IsNodeOf s (pens_of f.stores) name (node x)
    node_begun = node_of tells s tables f.stores lengths are h.nodes.are name (node x) of_region begins.node_is begins.truth

    refills_begun : AreRefillsFor s (pens_of f.stores) name (refills x)
    refills_begun = subst (AreRefillsFor s (pens_of f.stores) name) (sym begins.refills_are) tt

    begun_at : tells ≡ true → IsAtStore tables (region_of name) (node x)
    begun_at told = node_at tells s tables f.stores lengths are h.nodes.are told name (node x) of_region begins.node_is

  begun_fleet : IsFleetOf s f
  begun_fleet = record {
    leader_names = h.nodes.begun.leader_names;
    follower_names = h.nodes.begun.follower_names;
    leaders = node_begun leader_node leader_refills f.leaders (leader_names s) h.nodes.begun.leader_names (leader_regions s) h.nodes.begun.each_leader;
    followers = λ place name x at. record {
      node = node_begun follower_node follower_refills f.followers (follower_names s) h.nodes.begun.follower_names (follower_regions s)
          h.nodes.begun.each_follower place name x at;
      refills = refills_begun follower_node follower_refills f.followers (follower_names s) h.nodes.begun.follower_names (follower_regions s)
          h.nodes.begun.each_follower place name x at;
    };
  }

  -- each has processed what its region's stores have
  fleet_at : WhereTold tells (AreAtStores tables f)
  fleet_at told = record {
    leaders = λ place name x at.
        begun_at leader_node leader_refills f.leaders (leader_names s) h.nodes.begun.leader_names (leader_regions s) h.nodes.begun.each_leader
        place name x at told;
    followers = λ place name x at.
        begun_at follower_node follower_refills f.followers (follower_names s) h.nodes.begun.follower_names (follower_regions s)
        h.nodes.begun.each_follower place name x at told;
  }

  -- so they are consistent
  fleet_consistent : IsConsistent tells s tables f
  fleet_consistent = record {
    stores = are;
    fleet = begun_fleet;
    reached = λ told. record {
      leaders = λ place name node at. at_store_reached tables (region_of name) node ((fleet_at told).leaders place name node at);
      followers = λ place name node at. at_store_reached tables (region_of name) node.node ((fleet_at told).followers place name node at);
    };
  }

-- so it is before the stores that were made
pub begun_consistent : (tells : Bool) (s : Settings) (tables : Tables) (stores : List Store) (f : Fleet) → HaveBegun tells s tables stores f
    → AreStoresOf tells s tables stores → IsConsistent tells s tables f
begun_consistent tells s tables stores f h are =
    fleet_consistent tells s tables f (subst (AreStoresOf tells s tables) (sym h.stores_are) are)
    (subst (λ xs. HaveBegun tells s tables xs f) (sym h.stores_are) h)

pub begun_at_stores : (tells : Bool) (s : Settings) (old new : Tables) (stores : List Store) (f : Fleet) → HaveBegun tells s old stores f
    → AreStoresOf tells s old stores → WhereTold tells (Stays old new) → WhereTold tells (AreAtStores new f)
begun_at_stores tells s old new stores f h are stays told =
    let same : old ≡ new = λ i at. sym (stays told at) i in
    subst (λ t. AreAtStores t f) same
    (fleet_at tells s old f (subst (AreStoresOf tells s old) (sym h.stores_are) are) (subst (λ xs. HaveBegun tells s old xs f) (sym h.stores_are) h) told)

module _ (tells : Bool) (s : Settings) (tables : Tables) (stores : List Store) (f : Fleet) (h : HaveBegun tells s tables stores f) where
  abbrev begun_lengths : List ℕ
  begun_lengths = h.nodes.lengths

  -- a node that has begun holds nothing, up to the items that are configured
  empty_begun : (name : NodeName) (node : Node) → node ≡ begun_node s stores begun_lengths name → IsEmptyNode node
  empty_begun name node is = record { items = ap (λ (n : Node). n.items) is; asks = ap (λ (n : Node). n.asks.asks) is }

  -- every node holds nothing
  pub fleet_empty : IsEmptyFleet f
  fleet_empty = record {
    leaders = All-weaker (IsBegun leader_node leader_refills s stores begun_lengths) (λ leader. IsEmptyNode leader.node)
        (λ leader is. empty_begun leader.name leader.node is.node_is) f.leaders h.nodes.begun.each_leader;
    followers = All-weaker (IsBegun follower_node follower_refills s stores begun_lengths) (λ follower. IsEmptyFollower follower.node)
        (λ follower is. record { node = empty_begun follower.name follower.node.node is.node_is; refills = is.refills_are }) f.followers
        h.nodes.begun.each_follower;
  }

  -- up to the items that are configured
  pub fleet_bounds : MayHold s.cache_items f
  fleet_bounds = record {
    leaders = λ place name node at.
        ap (λ (n : Node). n.most)
        (all_at (IsBegun leader_node leader_refills s stores begun_lengths) f.leaders place (named name node) h.nodes.begun.each_leader at).node_is;
    followers = λ place name node at.
        ap (λ (n : Node). n.most)
        (all_at (IsBegun follower_node follower_refills s stores begun_lengths) f.followers place (named name node) h.nodes.begun.each_follower at).node_is;
  }
