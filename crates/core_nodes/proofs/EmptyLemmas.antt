-- What is left where a node loses all that it holds.
use Rattle.std.proofs.Common.{◌≡◌, ℕ, List, [], sym, subst}
use Rattle.cache_items.specs.Node.{Node}
use Rattle.follower_cache.specs.Seen.{FollowerState}
use Rattle.follower_cache.specs.declared.queue.Refill.{Refill}
use Rattle.node_name.specs.declared.NodeName.{NodeName}
use Rattle.node_name.specs.declared.NodeName.TheVariants.{Follower, Leader}
use Rattle.shard_log.specs.View.{View}
use Rattle.tao_keeper.specs.Table.{Tables}
use Rattle.topology.specs.Config.{Settings}
use Rattle.core_model.proofs.AskingOn.{nodes_ask_on}
use Rattle.core_model.proofs.MarkingOn.{nodes_mark_on}
use Rattle.core_model.proofs.NamedNodes.{changes_so}
use Rattle.core_model.proofs.Reaching.{nodes_reach}
use Rattle.core_model.proofs.Staying.{nodes_stay}
use Rattle.core_model.specs.Consistent.{HasReached, HaveReached, IsFleetOf}
use Rattle.core_model.specs.Emptied.{Anew, BeginsAnew, FollowerBeginsAnew, at_marks, at_stores}
use Rattle.core_model.specs.Fleet.{ChangesNode, Fleet, region_of}
use Rattle.core_model.specs.Messages.{AreRefillsFor}
use Rattle.core_model.specs.Pens.{Pens, pens_of}
use Rattle.core_model.specs.declared.named.Named.{Named}
use Rattle.node_stages.specs.Caches.{IsEmptiedAs}
use Rattle.node_stages.specs.Stages.{CacheDoes}
use Rattle.core_nodes.specs.Emptying.{CacheIs, EmptiesThere, IsOver, MayEmpty}
use Rattle.core_nodes.specs.Stages.{NodeIs}
use Rattle.core_nodes.proofs.FleetLemmas.{Kind, Leaves, kind_reaches, leaves, the_followers, the_leaders}
use Rattle.core_nodes.proofs.ViewLemmas.{Lends}

-- the node that changes is such
pub changes_such : {N : Type 0} (Such : N → Type 0) (By : N → N → Type 0) (name : NodeName) (old new : List (Named N)) → NodeIs name Such old
    → ChangesNode name By old new → ChangesNode name (λ from to. Such from × By from to) old new
changes_such Such By name old new such change = record {
  place = change.place;
  first = change.first;
  from = change.from;
  to = change.to;
  stands = change.stands;
  by = (such change.place change.from change.first change.stands, change.by);
  is = change.is;
}

-- a node that begins anew marks nothing that its region's store hasn't
begun_reaches : (pens : Pens) (tables : Tables) (region : ℕ) (at : Anew) (from to : Node) → BeginsAnew pens at from to → IsOver tables region at
    → HasReached tables region from → HasReached tables region to
begun_reaches pens tables region at_marks from to begins over reach = (nodes_reach tables region).begins_at_marks pens from to begins reach
begun_reaches pens tables region (at_stores found) from to begins over reach =
    (nodes_reach tables region).begins_at_stores pens from to (subst (λ o. BeginsAnew pens (at_stores o) from to) over begins)

-- so of all
abbrev pub Reaches : NodeName → Anew → Fleet → Fleet → Type 0
Reaches name at old new = (tables : Tables) → IsOver tables (region_of name) at → HaveReached tables old → HaveReached tables new

module _ {N : Type 0} {node : N → Node} {refills : N → List Refill} {AsksOn : N → N → Type 0} {of : Fleet → List (Named N)}
    {put : Fleet → List (Named N) → Fleet} (kind : Kind node refills AsksOn of put) (s : Settings) (name : NodeName) (at : Anew) (lows : List ℕ)
    (notes : List View) (old : Fleet) where
  abbrev Pens_ : Pens
  Pens_ = pens_of old.stores

  -- it begins anew, and no refill waits
  pub record EmptiesAs (from to : N) : Type 0 where
    pub begins : BeginsAnew Pens_ at (node from) (node to)
    pub refills_are : refills to ≡ []

  -- one that may, and does
  abbrev So : N → N → Type 0
  So from to = MayEmpty Pens_ at lows notes (node from) × CacheDoes node (IsEmptiedAs node refills lows notes) from to

  begins_so : (from to : N) → So from to → EmptiesAs from to
  begins_so from to so = record {
    begins = record { lows = lows; notes = notes; each = so.0.each; node_is = so.1.does.node_is };
    refills_are = so.1.does.refills_are;
  }

  pub record KindEmpties (new : Fleet) : Type 0 where
    pub left : Leaves kind s EmptiesAs name old new
    pub reached : Reaches name at old new

  pub emptied_out : (new : Fleet) (lent left : List (Named N)) → Lends of put old new lent left → IsFleetOf s old
      → NodeIs name (λ (x : N). MayEmpty Pens_ at lows notes (node x)) (of old)
      → ChangesNode name (CacheDoes node (IsEmptiedAs node refills lows notes)) lent left → KindEmpties new
  emptied_out new lent left lends fleet may change =
      let Does : N → N → Type 0 = CacheDoes node (IsEmptiedAs node refills lows notes) in
      let there = subst (NodeIs name (λ (x : N). MayEmpty Pens_ at lows notes (node x))) (sym lends.own) may in
      let so = changes_such (λ (x : N). MayEmpty Pens_ at lows notes (node x)) Does name lent left there change in
      let left_so = leaves kind So EmptiesAs s old new name lent left lends fleet so begins_so
      (λ from to by is. record {
        node_is = (nodes_stay s Pens_ name).begins at (node from) (node to) (begins_so from to by).begins by.1.truth is.node_is;
        refills_are = subst (AreRefillsFor s Pens_ name) (sym by.1.does.refills_are) tt;
      })
      (λ from to by. kind.asks from to (nodes_ask_on.begins Pens_ at (node from) (node to) (begins_so from to by).begins))
      (λ from to by. nodes_mark_on.begins Pens_ at (node from) (node to) (begins_so from to by).begins by.0.may) in
      record {
        left = left_so;
        reached = λ tables over reached.
            subst (HaveReached tables) (sym left_so.rest)
            (kind_reaches kind tables old (of new) name EmptiesAs left_so.change
            (λ from to by. begun_reaches Pens_ tables (region_of name) at (node from) (node to) by.begins over) reached);
      }

-- of the leader of that name, and of the follower
module _ (s : Settings) (name : NodeName) (at : Anew) (lows : List ℕ) (notes : List View) (old new : Fleet) where
  abbrev May : NodeName → Type 0
  May n = CacheIs n (MayEmpty (pens_of old.stores) at lows notes) old

  pub leader_empties : (region index : ℕ) → name ≡ Leader region index
      → (NodeIs name (MayEmpty (pens_of old.stores) at lows notes) old.leaders → KindEmpties the_leaders s name at lows notes old new)
      → May name → EmptiesThere s name at old new
  leader_empties region index is done may =
      let P : NodeName → Type 0 = λ n. (NodeIs n (MayEmpty (pens_of old.stores) at lows notes) old.leaders
      → KindEmpties the_leaders s n at lows notes old new) → May n → EmptiesThere s n at old new in
      let n : NodeName = Leader region index in
      subst P (sym is)
      (λ d m.
      let left = (d m).left in
      record {
        empties = (
          changes_so (EmptiesAs the_leaders s n at lows notes old) (BeginsAnew (pens_of old.stores) at) n old.leaders new.leaders
              (λ from to by. by.begins) left.change,
          left.rest,
        );
        fleet = left.step.fleet;
        goes = left.step.goes;
        reached = (d m).reached;
      }) done may

  pub follower_empties : (region tier index : ℕ) → name ≡ Follower region tier index
      → (NodeIs name (λ (f : FollowerState). MayEmpty (pens_of old.stores) at lows notes f.node) old.followers
      → KindEmpties the_followers s name at lows notes old new)
      → May name → EmptiesThere s name at old new
  follower_empties region tier index is done may =
      let P : NodeName → Type 0 = λ n. (NodeIs n (λ (f : FollowerState). MayEmpty (pens_of old.stores) at lows notes f.node) old.followers
      → KindEmpties the_followers s n at lows notes old new) → May n → EmptiesThere s n at old new in
      let n : NodeName = Follower region tier index in
      subst P (sym is)
      (λ d m.
      let left = (d m).left in
      record {
        empties = (
          changes_so (EmptiesAs the_followers s n at lows notes old) (FollowerBeginsAnew (pens_of old.stores) at) n old.followers new.followers
              (λ from to by. record { node = by.begins; refills = by.refills_are }) left.change,
          left.rest,
        );
        fleet = left.step.fleet;
        goes = left.step.goes;
        reached = (d m).reached;
      }) done may

-- such is the node of that name, where it was lent
pub leader_such : (Such : Node → Type 0) (name : NodeName) (region index : ℕ) (f : Fleet) → name ≡ Leader region index → CacheIs name Such f
    → NodeIs name Such f.leaders
leader_such Such name region index f is = subst (λ n. CacheIs n Such f → NodeIs n Such f.leaders) (sym is) (λ h. h)

pub follower_such : (Such : Node → Type 0) (name : NodeName) (region tier index : ℕ) (f : Fleet) → name ≡ Follower region tier index → CacheIs name Such f
    → NodeIs name (λ (x : FollowerState). Such x.node) f.followers
follower_such Such name region tier index f is =
    subst (λ n. CacheIs n Such f → NodeIs n (λ (x : FollowerState). Such x.node) f.followers) (sym is) (λ h. h)
