-- The nodes of a core, of which one changes.
use Rattle.std.proofs.Common.{◌≡◌, ℕ, Bool, Contains, List, ap, refl, sym, true, ◌∙◌, subst}
use Rattle.std.specs.Prelude.{slice_get, slice_set}
use Rattle.cache_items.specs.Node.{Node}
use Rattle.follower_cache.specs.Seen.{FollowerState}
use Rattle.follower_cache.specs.declared.queue.Refill.{Refill}
use Rattle.graph_model.specs.Told.{WhereTold}
use Rattle.node_name.specs.declared.NodeName.{NodeName}
use Rattle.node_stages.specs.Caches.{follower_node, follower_refills, leader_node, leader_refills}
use Rattle.shard_log.proofs.GrowthLemmas.{grows-self}
use Rattle.shard_tables.specs.StoreView.{Store}
use Rattle.tao_keeper.proofs.Growing.{stays_grow}
use Rattle.tao_keeper.specs.Growing.{LogsGrow}
use Rattle.tao_keeper.specs.Table.{Stays, Tables}
use Rattle.topology.specs.Config.{Settings}
use Rattle.core_model.proofs.AsksOn.{asks_stay}
use Rattle.core_model.proofs.MarkingOn.{marks_stay}
use Rattle.core_model.proofs.NodesSeen.{nodes_stay_seen}
use Rattle.core_model.proofs.Reaching.{nodes_reach}
use Rattle.core_model.proofs.Refilling.{followers_stay}
use Rattle.core_model.specs.Asks.{AsksGoOn}
use Rattle.core_model.specs.Consistent.{GoesOn, HasReached, HaveReached, IsFleetOf, IsFollowerOf, IsNodeOf, MarksGoOn}
use Rattle.core_model.specs.Fleet.{ChangesNode, EachIs, EachNode, Fleet, HasNode, named, node_names, region_of}
use Rattle.core_model.specs.Messages.{AreRefillsFor}
use Rattle.core_model.specs.Pens.{Pens, Rise, pens_of}
use Rattle.core_model.specs.Serving.{IsFollowerFor, IsLeaderFor, IsLeaderIn}
use Rattle.core_model.specs.declared.named.Named.{Named}
use Rattle.core_model.proofs.NamedNodes.{all_set, changes_so, each_set, each_stays, names_set}
use Rattle.core_nodes.proofs.ViewLemmas.{Lends, of_followers, of_leaders, put_followers, put_leaders}

pub rise_self : (xs : List Store) → Rise (pens_of xs) (pens_of xs)
rise_self xs shard = grows-self (pens_of xs shard)

-- ---- nodes that stay

abbrev AsksThere : FollowerState → FollowerState → Type 0
AsksThere from to = AsksGoOn from.node.asks to.node.asks

abbrev MarksThere : FollowerState → FollowerState → Type 0
MarksThere from to = MarksGoOn from.node to.node

pub leaders_marked : (leaders : List (Named Node)) → EachNode (λ name. MarksGoOn) leaders leaders
leaders_marked leaders = each_stays MarksGoOn leaders marks_stay

pub followers_marked : (followers : List (Named FollowerState)) → EachNode (λ name. MarksThere) followers followers
followers_marked followers = each_stays MarksThere followers (λ f. marks_stay f.node)

pub followers_asked : (followers : List (Named FollowerState)) → EachNode (λ name. AsksThere) followers followers
followers_asked followers = each_stays AsksThere followers (λ f. asks_stay f.node.asks)

pub goes_self : (f : Fleet) → GoesOn f f
goes_self f = record {
  rise = rise_self f.stores;
  leaders = refl;
  followers = refl;
  asks = followers_asked f.followers;
  marks = record { leaders = leaders_marked f.leaders; followers = followers_marked f.followers };
}

-- ---- one that changes

-- what a stage leaves: the nodes are still those of the configuration, and go on
pub record FleetStep (s : Settings) (old new : Fleet) : Type 0 where
  pub fleet : IsFleetOf s new
  pub goes : GoesOn old new

-- a node stays one of its core, whatever it does
abbrev pub StaysOf : {N : Type 0} → (NodeName → N → Type 0) → NodeName → (N → N → Type 0) → Type 0
StaysOf {N} Such name By = (from to : N) → By from to → Such name from → Such name to

-- a leader or a follower, seen as a node and refills, is one of its core, and each of its refills can be asked for
pub record IsOfCore {N : Type 0} (node : N → Node) (refills : N → List Refill) (s : Settings) (pens : Pens) (name : NodeName) (cache : N) : Type 0 where
  pub node_is : IsNodeOf s pens name (node cache)
  pub refills_are : AreRefillsFor s pens name (refills cache)

-- the leaders of a core, or the followers: what is known of them, what is kept where others of the same names stand in their place, and how their asks
-- go on
pub record Kind {N : Type 0} (node : N → Node) (refills : N → List Refill) (AsksOn : N → N → Type 0) (of : Fleet → List (Named N))
    (put : Fleet → List (Named N) → Fleet) : Type 0 where
  pub got : (f : Fleet) (xs : List (Named N)) → of (put f xs) ≡ xs
  pub each : (s : Settings) (f : Fleet) → IsFleetOf s f → EachIs (IsOfCore node refills s (pens_of f.stores)) (of f)
  pub fleet : (s : Settings) (f : Fleet) (xs : List (Named N)) → IsFleetOf s f → node_names xs ≡ node_names (of f)
      → EachIs (IsOfCore node refills s (pens_of f.stores)) xs → IsFleetOf s (put f xs)
  pub asks : (from to : N) → AsksGoOn (node from).asks (node to).asks → AsksOn from to
  pub goes : (f : Fleet) (xs : List (Named N)) → node_names xs ≡ node_names (of f) → EachNode (λ name. AsksOn) (of f) xs
      → EachNode (λ name from to. MarksGoOn (node from) (node to)) (of f) xs → GoesOn f (put f xs)
  pub reached : (tables : Tables) (f : Fleet) → HaveReached tables f → EachIs (λ name x. HasReached tables (region_of name) (node x)) (of f)
  pub reaches : (tables : Tables) (f : Fleet) (xs : List (Named N)) → HaveReached tables f
      → EachIs (λ name x. HasReached tables (region_of name) (node x)) xs → HaveReached tables (put f xs)

-- no ask of a leader is open
abbrev NoAsks : Node → Node → Type 0
NoAsks from to = Unit {0}

pub the_leaders : Kind leader_node leader_refills NoAsks of_leaders put_leaders
the_leaders = record {
  got = λ f xs. refl;
  each = λ s f fleet place name x at. record { node_is = fleet.leaders place name x at; refills_are = tt };
  fleet = λ s f xs fleet names each. record {
    leader_names = names ∙ fleet.leader_names;
    follower_names = fleet.follower_names;
    leaders = λ place name x at. (each place name x at).node_is;
    followers = fleet.followers;
  };
  asks = λ from to on. tt;
  goes = λ f xs names asks marks. record {
    rise = rise_self f.stores;
    leaders = names;
    followers = refl;
    asks = followers_asked f.followers;
    marks = record { leaders = marks; followers = followers_marked f.followers };
  };
  reached = λ tables f reached. reached.leaders;
  reaches = λ tables f xs reached each. record { leaders = each; followers = reached.followers };
}

pub the_followers : Kind follower_node follower_refills AsksThere of_followers put_followers
the_followers = record {
  got = λ f xs. refl;
  each = λ s f fleet place name x at.
      let is = fleet.followers place name x at in
      record { node_is = is.node; refills_are = is.refills };
  fleet = λ s f xs fleet names each. record {
    leader_names = fleet.leader_names;
    follower_names = names ∙ fleet.follower_names;
    leaders = fleet.leaders;
    followers = λ place name x at.
        let is = each place name x at in
        record { node = is.node_is; refills = is.refills_are };
  };
  asks = λ from to on. on;
  goes = λ f xs names asks marks. record {
    rise = rise_self f.stores;
    leaders = refl;
    followers = names;
    asks = asks;
    marks = record { leaders = leaders_marked f.leaders; followers = marks };
  };
  reached = λ tables f reached. reached.followers;
  reaches = λ tables f xs reached each. record { leaders = reached.leaders; followers = each };
}

module _ {N : Type 0} {node : N → Node} {refills : N → List Refill} {AsksOn : N → N → Type 0} {of : Fleet → List (Named N)}
    {put : Fleet → List (Named N) → Fleet} (kind : Kind node refills AsksOn of put) where
  -- one that changes stays one of its core
  pub kind_step : (By : N → N → Type 0) (s : Settings) (old : Fleet) (name : NodeName) (xs : List (Named N)) → IsFleetOf s old
      → ChangesNode name By (of old) xs → StaysOf (IsOfCore node refills s (pens_of old.stores)) name By → ((from to : N) → By from to → AsksOn from to)
      → ((from to : N) → By from to → MarksGoOn (node from) (node to)) → FleetStep s old (put old xs)
  kind_step By s old name xs fleet change stays asks marks =
      let each = kind.each s old fleet in
      let is = stays change.from change.to change.by (each change.place name change.from change.stands) in
      let ys : List (Named N) = slice_set (of old) change.place (named name change.to) in
      let names : node_names ys ≡ node_names (of old) = names_set (of old) change.place name change.from change.to change.stands in
      let there : FleetStep s old (put old ys) = record {
        fleet = kind.fleet s old ys fleet names
            (all_set (IsOfCore node refills s (pens_of old.stores)) (of old) change.place name change.to each is);
        goes = kind.goes old ys names
            (each_set AsksOn (of old) change.place name change.from change.to (λ x. kind.asks x x (asks_stay (node x).asks)) change.stands
            (asks change.from change.to change.by))
            (each_set (λ from to. MarksGoOn (node from) (node to)) (of old) change.place name change.from change.to (λ x. marks_stay (node x))
            change.stands (marks change.from change.to change.by));
      } in
      subst (λ l. FleetStep s old (put old l)) (sym change.is) there

  -- and has marked nothing past its region's stores
  pub kind_reaches : (tables : Tables) (old : Fleet) (xs : List (Named N)) (name : NodeName) (By : N → N → Type 0) → ChangesNode name By (of old) xs
      → ((from to : N) → By from to → HasReached tables (region_of name) (node from) → HasReached tables (region_of name) (node to))
      → HaveReached tables old → HaveReached tables (put old xs)
  kind_reaches tables old xs name By change reaches reached =
      let was = kind.reached tables old reached in
      kind.reaches tables old xs reached (λ place called x at.
      all_set (λ n y. HasReached tables (region_of n) (node y)) (of old) change.place name change.to was
      (reaches change.from change.to change.by (was change.place name change.from change.stands)) place called x
      (ap (λ l. slice_get l place) (sym change.is) ∙ at))

  -- what is left where they were lent as a slice: the one of that name has changed, and nothing else
  pub record Leaves (s : Settings) (So : N → N → Type 0) (name : NodeName) (old new : Fleet) : Type 0 where
    pub step : FleetStep s old new
    pub change : ChangesNode name So (of old) (of new)
    pub rest : new ≡ put old (of new)

  pub leaves : (Does So : N → N → Type 0) (s : Settings) (old new : Fleet) (name : NodeName) (lent left : List (Named N)) → Lends of put old new lent left
      → IsFleetOf s old → ChangesNode name Does lent left → ((from to : N) → Does from to → So from to)
      → StaysOf (IsOfCore node refills s (pens_of old.stores)) name Does → ((from to : N) → Does from to → AsksOn from to)
      → ((from to : N) → Does from to → MarksGoOn (node from) (node to)) → Leaves s So name old new
  leaves Does So s old new name lent left lends fleet change so stays asks marks =
      let own : ChangesNode name Does (of old) left = subst (λ xs. ChangesNode name Does xs left) lends.own change in
      let got = sym (kind.got old left) in
      let there : Leaves s So name old (put old left) = record {
        step = kind_step Does s old name left fleet own stays asks marks;
        change = subst (ChangesNode name So (of old)) got (changes_so Does So name (of old) left so own);
        rest = ap (put old) got;
      } in
      subst (Leaves s So name old) (sym lends.is) there

-- a follower that changes stays one of its core, with its refills
pub refills_step : (By : FollowerState → FollowerState → Type 0) (s : Settings) (old : Fleet) (name : NodeName) (fs : List (Named FollowerState))
    → IsFleetOf s old → ChangesNode name By old.followers fs → StaysOf (IsFollowerOf s (pens_of old.stores)) name By
    → ((from to : FollowerState) → By from to → AsksGoOn from.node.asks to.node.asks) → ((from to : FollowerState) → By from to → MarksGoOn from.node to.node)
    → FleetStep s old (record old { followers = fs })
refills_step By s old name fs fleet change stays asks marks =
    kind_step the_followers By s old name fs fleet change
    (λ from to by is. (
    let after = stays from to by (record { node = is.node_is; refills = is.refills_are }) in
    record { node_is = after.node; refills_are = after.refills })) asks marks

-- its node changes, and its refills stay
pub follower_step : (By : FollowerState → FollowerState → Type 0) (s : Settings) (old : Fleet) (name : NodeName) (fs : List (Named FollowerState))
    → IsFleetOf s old
    → ChangesNode name By old.followers fs → StaysOf (λ called node. IsNodeOf s (pens_of old.stores) called node.node) name By
    → ((from to : FollowerState) → By from to → to.refills ≡ from.refills)
    → ((from to : FollowerState) → By from to → AsksGoOn from.node.asks to.node.asks) → ((from to : FollowerState) → By from to → MarksGoOn from.node to.node)
    → FleetStep s old (record old { followers = fs })
follower_step By s old name fs fleet change stays same asks marks =
    kind_step the_followers By s old name fs fleet change
    (λ from to by is. record {
      node_is = stays from to by is.node_is;
      refills_are = subst (AreRefillsFor s (pens_of old.stores) name) (sym (same from to by)) is.refills_are;
    }) asks marks

pub leader_step : (By : Node → Node → Type 0) (s : Settings) (old : Fleet) (name : NodeName) (ls : List (Named Node)) → IsFleetOf s old
    → ChangesNode name By old.leaders ls → StaysOf (λ called node. IsNodeOf s (pens_of old.stores) called node) name By
    → ((from to : Node) → By from to → MarksGoOn from to) → FleetStep s old (record old { leaders = ls })
leader_step By s old name ls fleet change stays marks =
    kind_step the_leaders By s old name ls fleet change (λ from to by is. record { node_is = stays from to by is.node_is; refills_are = tt })
    (λ from to by. tt) marks

-- every node stays one of its core, where the logs rise
pub fleet_risen : (s : Settings) (old : Fleet) (xs : List Store) → IsFleetOf s old → Rise (pens_of old.stores) (pens_of xs)
    → IsFleetOf s (record old { stores = xs })
fleet_risen s old xs fleet rise = record {
  leader_names = fleet.leader_names;
  follower_names = fleet.follower_names;
  leaders = λ place called node at. nodes_stay_seen.node_rises s (pens_of old.stores) (pens_of xs) called node rise (fleet.leaders place called node at);
  followers = λ place called f at. (followers_stay s (pens_of old.stores) called).rises (pens_of xs) f rise (fleet.followers place called f at);
}

-- nothing changes
pub fleet_rests : (s : Settings) (old : Fleet) → IsFleetOf s old → FleetStep s old old
fleet_rests s old fleet = record { fleet = fleet; goes = goes_self old }

-- a node that may be asked is one of them
pub follower_here : (s : Settings) (f : Fleet) (shard : ℕ) (name : NodeName) → IsFleetOf s f → IsFollowerFor s shard name → HasNode name f.followers
follower_here s f shard name fleet is = subst (λ names. Contains names name) (sym fleet.follower_names) is.configured

pub leader_here : (s : Settings) (f : Fleet) (shard : ℕ) (name : NodeName) → IsFleetOf s f → IsLeaderFor s shard name → HasNode name f.leaders
leader_here s f shard name fleet is = subst (λ names. Contains names name) (sym fleet.leader_names) is.configured

pub leader_in : (s : Settings) (f : Fleet) (region : ℕ) (name : NodeName) → IsFleetOf s f → IsLeaderIn s region name → HasNode name f.leaders
leader_in s f region name fleet is = subst (λ names. Contains names name) (sym fleet.leader_names) is.configured

-- ---- what was marked

-- the region's stores have it still, as long as logs only grow
pub reach_grows : (tells : Bool) (old new : Tables) (f : Fleet) → LogsGrow tells old new → WhereTold tells (HaveReached old f)
    → WhereTold tells (HaveReached new f)
reach_grows tells old new f grow reached told = record {
  leaders = λ place name node at. (nodes_reach old (region_of name)).grows new node heard ((reached told).leaders place name node at);
  followers = λ place name node at. (nodes_reach old (region_of name)).grows new node.node heard ((reached told).followers place name node at);
}
  where
    heard : LogsGrow true old new
    heard = subst (λ t. LogsGrow t old new) told grow

-- so where no table changes
pub reach_stays : (tells : Bool) (old new : Tables) (f : Fleet) → WhereTold tells (Stays old new) → WhereTold tells (HaveReached old f)
    → WhereTold tells (HaveReached new f)
reach_stays tells old new f stays = reach_grows tells old new f (stays_grow tells old new stays)
