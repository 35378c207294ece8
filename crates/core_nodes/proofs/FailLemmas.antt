-- Where a node stands that goes down.
use Rattle.std.proofs.Common.{◌≡◌, ℕ, ◌≤◌, ◌∙◌, List, [], ◌∷◌, IfOk, Result, Some, length, map, refl, ap, sym, subst}
use Rattle.std.specs.List.{AllByRecursion}
use Rattle.std.specs.Option.{option_map, option_map_or}
use Rattle.std.specs.Prelude.{IsSome}
use Rattle.std.proofs.lemmas.Result.{IfOk-weaker}
use Rattle.cache_items.specs.Node.{Node}
use Rattle.cache_node.proofs.Marked.{low_is_marked}
use Rattle.cache_node.specs.True.{IsTrueNode}
use Rattle.follower_cache.specs.Seen.{FollowerState}
use Rattle.follower_cache.specs.declared.queue.Refill.{Refill}
use Rattle.graph_model.specs.Told.{WhereTold}
use Rattle.node_name.specs.declared.NodeName.{NodeName}
use Rattle.node_name.specs.declared.NodeName.TheVariants.{Store as StoreName_, Follower, Leader}
use Rattle.served_shards.specs.Begun.{AreNotesOf, AreReached}
use Rattle.served_shards.specs.Served.{ServedShard, low_at, served_at, view_at}
use Rattle.shard_log.specs.View.{View}
use Rattle.tao_base.specs.declared.memory.OutOfMemory.{OutOfMemory}
use Rattle.topology.specs.Config.{Settings}
use Rattle.core_model.specs.Consistent.{AreSeen, IsFleetOf, IsNodeOf}
use Rattle.core_model.specs.Emptied.{Anew, BeginEach, at_marks}
use Rattle.core_model.specs.Fleet.{Fleet, regions_of, served_by, serves_in_turn}
use Rattle.core_model.specs.Pens.{IsSeen, Pens, pens_of}
use Rattle.core_model.specs.declared.named.Named.{Named}
use Rattle.node_stages.specs.Standing.{StandWith, StandsSo}
use Rattle.core_nodes.specs.Emptying.{CacheIs, EmptiesThere, MayEmpty, ServesTruly}
use Rattle.core_nodes.specs.Stages.{NodeIs}
use Rattle.node_stages.specs.declared.standing.Stand.{Stand}
use Rattle.core_nodes.proofs.FleetLemmas.{Kind}
use Rattle.core_nodes.proofs.ServedRising.{Rises, each_served, range_rises}

-- ---- each shard that is served has its own

-- a shard that is served stands where it is found
pub record IsOwn (whole : List ServedShard) (shard : ℕ) (t : ServedShard) : Type 0 where
  pub found : served_at shard whole ≡ Some t
  pub within : WhereTold t.view.log.told (t.marks.low ≤ length t.view.entries)

own_here : (node : Node) → IsTrueNode node → (shard : ℕ) (t : ServedShard) → served_at shard node.served ≡ Some t → IsOwn node.served shard t
own_here node truth shard t at = record {
  found = at;
  within = λ told.
      let all = truth.told (λ n u there. sym (truth.alike shard n t u at there) ∙ told) in
      (all.served shard t at).within t.marks.low (low_is_marked t.marks);
}

served_rise : (s : Settings) (name : NodeName) (served : List ServedShard) → map (λ t. t.shard) served ≡ served_by s name → Rises (map (λ t. t.shard) served)
served_rise s name served shards = subst Rises (sym shards) (range_rises (serves_in_turn (regions_of s) name) 0 s.shards)

own_all : (s : Settings) (name : NodeName) (node : Node) → ServesTruly s name node → AllByRecursion (λ t. IsOwn node.served t.shard t) node.served
own_all s name node is =
    each_served (IsOwn node.served) node.served (served_rise s name node.served is.shards) (own_here node is.truth)

-- each is served
some_served : (whole : List ServedShard) (ts : List ServedShard) → AllByRecursion (λ t. IsOwn whole t.shard t) ts
    → AllByRecursion (λ shard. IsSome (served_at shard whole)) (map (λ t. t.shard) ts)
some_served whole [] own = tt
some_served whole (t ∷ ts) own = (subst IsSome (sym own.0.found) refl, some_served whole ts own.1)

pub are_served : (s : Settings) (name : NodeName) (node : Node) (shards : List ℕ) → ServesTruly s name node → shards ≡ served_by s name
    → AllByRecursion (λ shard. IsSome (served_at shard node.served)) shards
are_served s name node shards is same =
    subst (AllByRecursion (λ shard. IsSome (served_at shard node.served))) (is.shards ∙ sym same)
    (some_served node.served node.served (own_all s name node is))

-- ---- what a node begins with that goes down

-- the notes are of its logs, and reach its marks
pub record StandsWhole (ts : List ServedShard) (lows : List ℕ) (notes : List View) : Type 0 where
  pub logs : AreNotesOf ts notes
  pub reached : AreReached lows notes
  pub each : (pens : Pens) → AreSeen pens ts → BeginEach pens at_marks ts lows notes

low_own : (whole : List ServedShard) (t : ServedShard) (low : ℕ) → IsOwn whole t.shard t → low ≡ low_at t.shard whole → low ≡ t.marks.low
low_own whole t low own is = is ∙ ap (λ o. option_map_or (λ s. s.marks.low) o 0) own.found

note_own : (whole : List ServedShard) (t : ServedShard) (note : View) → IsOwn whole t.shard t → Some note ≡ view_at t.shard whole → note ≡ t.view
note_own whole t note own is =
    let one : Some note ≡ Some t.view = is ∙ ap (option_map (λ s. s.view)) own.found in
    cc

stands_whole : (whole ts : List ServedShard) (lows : List ℕ) (notes : List View) → AllByRecursion (λ t. IsOwn whole t.shard t) ts
    → lows ≡ map (λ n. low_at n whole) (map (λ t. t.shard) ts) → map (λ v. Some v) notes ≡ map (λ n. view_at n whole) (map (λ t. t.shard) ts)
    → StandsWhole ts lows notes
stands_whole whole [] [] [] own lows_are notes_are = record { logs = tt; reached = tt; each = λ pens seen. tt }
stands_whole whole [] [] (n ∷ ns) own lows_are notes_are = absurd (cc)
stands_whole whole [] (l ∷ ls) ns own lows_are notes_are = absurd (cc)
stands_whole whole (t ∷ ts) [] ns own lows_are notes_are = absurd (cc)
stands_whole whole (t ∷ ts) (l ∷ ls) [] own lows_are notes_are = absurd (cc)
stands_whole whole (t ∷ ts) (l ∷ ls) (n ∷ ns) own lows_are notes_are =
    let low : l ≡ t.marks.low = low_own whole t l own.0 (let e : l ≡ low_at t.shard whole = cc in e) in
    let note : n ≡ t.view = note_own whole t n own.0 (let e : Some n ≡ view_at t.shard whole = cc in e) in
    let later_lows : ls ≡ map (λ k. low_at k whole) (map (λ u. u.shard) ts) = cc in
    let later_notes : map (λ v. Some v) ns ≡ map (λ k. view_at k whole) (map (λ u. u.shard) ts) = cc in
    let rest = stands_whole whole ts ls ns own.1 later_lows later_notes in
    let Within : ℕ → View → Type 0 = λ k v. WhereTold v.log.told (k ≤ length v.entries) in
    record {
      logs = (ap (λ (v : View). v.log) (sym note), rest.logs);
      reached = (subst (λ k. Within k n) (sym low) (subst (Within t.marks.low) (sym note) own.0.within), rest.reached);
      each = λ pens seen. (
        record { seen = subst (λ v. IsSeen pens t.shard v) (sym note) seen.0; low_is = low },
        rest.each pens seen.1,
      );
    }

pub stands_wholly : (s : Settings) (name : NodeName) (node : Node) (restart : Stand) → ServesTruly s name node → StandsSo node.served restart
    → StandsWhole node.served restart.lows.items restart.notes.items
stands_wholly s name node restart is stands =
    stands_whole node.served node.served restart.lows.items restart.notes.items (own_all s name node is) stands.lows stands.notes

-- where it was read of the shards of its turn
stands_of : (s : Settings) (name : NodeName) (node : Node) (shards : List ℕ) (restart : Stand) → ServesTruly s name node → shards ≡ served_by s name
    → StandWith node.served shards restart → StandsSo node.served restart
stands_of s name node shards restart is same stands =
    subst (λ ks. StandWith node.served ks restart) (same ∙ sym is.shards) stands

pub stands_if : (s : Settings) (name : NodeName) (node : Node) (shards : List ℕ) (r : Result Stand OutOfMemory) → ServesTruly s name node
    → shards ≡ served_by s name → IfOk r (StandWith node.served shards) → IfOk r (StandsSo node.served)
stands_if s name node shards r is same = IfOk-weaker r _ _ (λ restart stands. stands_of s name node shards restart is same stands)

pub reached_if : (s : Settings) (name : NodeName) (node : Node) (shards : List ℕ) (r : Result Stand OutOfMemory) → ServesTruly s name node
    → shards ≡ served_by s name → IfOk r (StandWith node.served shards) → IfOk r (λ restart. AreReached restart.lows.items restart.notes.items)
reached_if s name node shards r is same =
    IfOk-weaker r _ _ (λ restart stands. (stands_wholly s name node restart is (stands_of s name node shards restart is same stands)).reached)

-- ---- at a node of the configuration

serves_truly : (s : Settings) (pens : Pens) (name : NodeName) (node : Node) → IsNodeOf s pens name node → ServesTruly s name node
serves_truly s pens name node is = record { shards = is.shards; truth = is.truth }

module _ (s : Settings) (f : Fleet) (fleet : IsFleetOf s f) (restart : Stand) where
  node_stands : (name : NodeName) (node : Node) → IsNodeOf s (pens_of f.stores) name node → StandsSo node.served restart
      → StandsWhole node.served restart.lows.items restart.notes.items
  node_stands name node is stands = stands_wholly s name node restart (serves_truly s (pens_of f.stores) name node is) stands

  pub down_logs : (name : NodeName) → CacheIs name (λ n. StandsSo n.served restart) f → CacheIs name (λ n. AreNotesOf n.served restart.notes.items) f
  down_logs (StoreName_ store) stands = stands
  down_logs (Leader region index) stands = λ place node first at.
      (node_stands (Leader region index) node (fleet.leaders place (Leader region index) node at) (stands place node first at)).logs
  down_logs (Follower region tier index) stands = λ place x first at.
      (node_stands (Follower region tier index) x.node (fleet.followers place (Follower region tier index) x at).node (stands place x first at)).logs

  pub down_may : (name : NodeName) → CacheIs name (λ n. StandsSo n.served restart) f
      → CacheIs name (MayEmpty (pens_of f.stores) at_marks restart.lows.items restart.notes.items) f
  down_may (StoreName_ store) stands = stands
  down_may (Leader region index) stands = λ place node first at.
      let is = fleet.leaders place (Leader region index) node at in
      record { each = (node_stands (Leader region index) node is (stands place node first at)).each (pens_of f.stores) is.seen; may = tt }
  down_may (Follower region tier index) stands = λ place x first at.
      let is = (fleet.followers place (Follower region tier index) x at).node in
      record { each = (node_stands (Follower region tier index) x.node is (stands place x first at)).each (pens_of f.stores) is.seen; may = tt }

pub kind_truly : {N : Type 0} {node : N → Node} {refills : N → List Refill} {AsksOn : N → N → Type 0} {of : Fleet → List (Named N)}
    {put : Fleet → List (Named N) → Fleet} (kind : Kind node refills AsksOn of put) (s : Settings) (f : Fleet) (name : NodeName) (lent : List (Named N))
    → lent ≡ of f → IsFleetOf s f → NodeIs name (λ (x : N). ServesTruly s name (node x)) lent
kind_truly {N} {node} kind s f name lent own fleet =
    subst (NodeIs name (λ (x : N). ServesTruly s name (node x))) (sym own)
    (λ place x first at. serves_truly s (pens_of f.stores) name (node x) (kind.each s f fleet place name x at).node_is)

-- of the leader or follower, once the nodes of its kind were lent
pub leader_stands : (f : Fleet) (name : NodeName) (region index : ℕ) (lent : List (Named Node)) (r : Result Stand OutOfMemory) → name ≡ Leader region index
    → lent ≡ f.leaders → IfOk r (λ restart. NodeIs name (λ (n : Node). StandsSo n.served restart) lent)
    → IfOk r (λ restart. CacheIs name (λ n. StandsSo n.served restart) f)
leader_stands f name region index lent r is own =
    IfOk-weaker r _ _ (λ restart stands.
    subst (λ n. NodeIs n (λ (x : Node). StandsSo x.served restart) f.leaders → CacheIs n (λ x. StandsSo x.served restart) f)
    (sym is) (λ h. h) (subst (NodeIs name (λ (x : Node). StandsSo x.served restart)) own stands))

pub follower_stands : (f : Fleet) (name : NodeName) (region tier index : ℕ) (lent : List (Named FollowerState)) (r : Result Stand OutOfMemory)
    → name ≡ Follower region tier index → lent ≡ f.followers → IfOk r (λ restart. NodeIs name (λ (x : FollowerState). StandsSo x.node.served restart) lent)
    → IfOk r (λ restart. CacheIs name (λ n. StandsSo n.served restart) f)
follower_stands f name region tier index lent r is own =
    IfOk-weaker r _ _ (λ restart stands.
    subst (λ n. NodeIs n (λ (x : FollowerState). StandsSo x.node.served restart) f.followers → CacheIs n (λ x. StandsSo x.served restart) f)
    (sym is) (λ h. h) (subst (NodeIs name (λ (x : FollowerState). StandsSo x.node.served restart)) own stands))

-- what is left where it goes down
pub down_done : (s : Settings) (old mid new : Fleet) (name : NodeName) (restart : Stand) (given : List ℕ) → mid ≡ old → given ≡ restart.lows.items
    → IsFleetOf s old → CacheIs name (λ n. StandsSo n.served restart) old
    → ((at : Anew) → CacheIs name (MayEmpty (pens_of mid.stores) at given restart.notes.items) mid → EmptiesThere s name at mid new)
    → EmptiesThere s name at_marks old new
down_done s old mid new name restart given same lows_are fleet stands gives =
    let P : Fleet → Type 0 = λ m. CacheIs name (MayEmpty (pens_of m.stores) at_marks given restart.notes.items) m → EmptiesThere s name at_marks m new in
    subst P same (gives at_marks)
    (subst (λ ls. CacheIs name (MayEmpty (pens_of old.stores) at_marks ls restart.notes.items) old) (sym lows_are) (down_may s old fleet restart name stands))
