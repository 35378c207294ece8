-- What is left where a node processes a message, and where a refill is taken out.
use Rattle.std.proofs.Common.{◌≡◌, ℕ, List, Option, Some, None, IfSome, refl, ap, sym, ◌∙◌, subst}
use Rattle.cache_items.specs.Node.{Node}
use Rattle.follower_cache.specs.Seen.{FollowerState, follower_state}
use Rattle.follower_cache.specs.declared.queue.Refill.{Refill}
use Rattle.maint_msg.specs.Maints.{SeenMaint}
use Rattle.node_name.specs.declared.NodeName.{NodeName}
use Rattle.node_name.specs.declared.NodeName.TheVariants.{Leader, Follower}
use Rattle.served_shards.specs.Served.{log_at}
use Rattle.tao_schema.specs.Schema.{types_of}
use Rattle.tao_schema.specs.declared.schema.Schema.{Schema}
use Rattle.topology.specs.Config.{Settings}
use Rattle.core_model.proofs.AskingOn.{nodes_ask_on}
use Rattle.core_model.proofs.MarkingOn.{nodes_mark_on, served_stays}
use Rattle.core_model.proofs.Refilling.{followers_stay}
use Rattle.core_model.proofs.Turns.{serves_its_turn}
use Rattle.core_model.specs.Asks.{AsksGoOn}
use Rattle.core_model.specs.Consistent.{IsFleetOf, IsFollowerOf, IsNodeOf, MarksGoOn}
use Rattle.core_model.specs.Fleet.{ChangesNode, Fleet}
use Rattle.core_model.specs.Messages.{Delivers, DeliversAt, DeliversThere, IsMessageFor, IsRefillFor, TakesRefill}
use Rattle.core_model.specs.Pens.{Pens, pens_of}
use Rattle.core_model.specs.declared.named.Named.{Named}
use Rattle.node_stages.specs.Caches.{DeliversAs, follower_node, follower_refills, leader_node, leader_refills}
use Rattle.node_stages.specs.Stages.{CacheDoes, FollowerDoes}
use Rattle.core_nodes.specs.Stages.{NodeIs}
use Rattle.core_nodes.specs.declared.fleet.Fleet.TheInside.{Inside}
use Rattle.core_nodes.proofs.EvictLemmas.{asks_same}
use Rattle.core_nodes.proofs.FleetLemmas.{FleetStep, IsOfCore, Kind, Leaves, leaves, refills_step, the_followers, the_leaders}
use Rattle.core_model.proofs.NamedNodes.{changes_so}
use Rattle.core_nodes.proofs.ReadLemmas.{log_of_shard}
use Rattle.core_nodes.proofs.ViewLemmas.{Lends, LendsFollowers, after_followers, followers_after}

-- ---- the node that a message is for

log_for : (s : Settings) (pens : Pens) (name : NodeName) (node : Node) (m : SeenMaint) → IsNodeOf s pens name node → IsMessageFor s pens name m
    → log_at m.shard node.served ≡ Some m.note.log
log_for s pens name node m is for =
    log_of_shard pens m.shard s name node is ((serves_its_turn s pens name node m.shard).serves is for.here for.serves) ∙ ap Some for.seen.log_is

module _ {N : Type 0} {node : N → Node} {refills : N → List Refill} {AsksOn : N → N → Type 0} {of : Fleet → List (Named N)}
    {put : Fleet → List (Named N) → Fleet} (kind : Kind node refills AsksOn of put) where
  -- its log is that of the message's shard
  pub kind_for : (s : Settings) (f : Fleet) (name : NodeName) (m : SeenMaint) (lent : List (Named N)) → lent ≡ of f → IsFleetOf s f
      → IsMessageFor s (pens_of f.stores) name m → NodeIs name (λ (x : N). log_at m.shard (node x).served ≡ Some m.note.log) lent
  kind_for s f name m lent own fleet for =
      subst (NodeIs name (λ (x : N). log_at m.shard (node x).served ≡ Some m.note.log)) (sym own)
      (λ place x first at. log_for s (pens_of f.stores) name (node x) m (kind.each s f fleet place name x at).node_is for)

  -- ---- it processes the message

  delivered_stays : (s : Settings) (pens : Pens) (name : NodeName) (m : SeenMaint) (dropped : ℕ) (from to : N) → IsMessageFor s pens name m
      → CacheDoes node (DeliversAs node refills (types_of s.schema) m dropped) from to → IsOfCore node refills s pens name from
      → IsOfCore node refills s pens name to
  delivered_stays s pens name m dropped from to for by is =
      let was : IsFollowerOf s pens name (follower_state (node from) (refills from)) = record { node = is.node_is; refills = is.refills_are } in
      let there : DeliversThere (types_of s.schema) m dropped (follower_state (node from) (refills from)) (follower_state (node to) (refills to)) =
      record { node = by.does.by; refills = by.does.queues } in
      let after = (followers_stay s pens name).delivers m dropped (follower_state (node from) (refills from)) (follower_state (node to) (refills to)) there for
      by.apart by.truth was in
      record { node_is = after.node; refills_are = after.refills }

  pub delivered : (s : Settings) (m : SeenMaint) (dropped : ℕ) (old new : Fleet) (name : NodeName) (schema : Schema) (lent left : List (Named N))
      → Lends of put old new lent left → schema ≡ s.schema → IsFleetOf s old → IsMessageFor s (pens_of old.stores) name m
      → ChangesNode name (CacheDoes node (DeliversAs node refills (types_of schema) m dropped)) lent left
      → Leaves kind s (DeliversAs node refills (types_of s.schema) m dropped) name old new
  delivered s m dropped old new name schema lent left lends of_s fleet for change =
      leaves kind (CacheDoes node (DeliversAs node refills (types_of s.schema) m dropped)) (DeliversAs node refills (types_of s.schema) m dropped) s old new
      name lent left lends fleet
      (subst (λ k. ChangesNode name (CacheDoes node (DeliversAs node refills (types_of k) m dropped)) lent left) of_s change)
      (λ from to by. by.does)
      (λ from to by is. delivered_stays s (pens_of old.stores) name m dropped from to for by is)
      (λ from to by. kind.asks from to (nodes_ask_on.delivers m dropped (node from) (node to) by.does.by))
      (λ from to by. nodes_mark_on.delivers m dropped (node from) (node to) by.does.by)

-- of the leader of that name, and of the follower
pub leader_delivers : (s : Settings) (m : SeenMaint) (dropped : ℕ) (old new : Fleet) (name : NodeName) (region index : ℕ) → name ≡ Leader region index
    → Leaves the_leaders s (DeliversAs leader_node leader_refills (types_of s.schema) m dropped) name old new
    → DeliversAt (types_of s.schema) m dropped name old new
leader_delivers s m dropped old new name region index is =
    let So = DeliversAs leader_node leader_refills (types_of s.schema) m dropped in
    subst (λ n. Leaves the_leaders s So n old new → DeliversAt (types_of s.schema) m dropped n old new) (sym is)
    (λ left. (changes_so So (Delivers m dropped) (Leader region index) old.leaders new.leaders (λ from to by. by.by) left.change, left.rest))

pub follower_delivers : (s : Settings) (m : SeenMaint) (dropped : ℕ) (old new : Fleet) (name : NodeName) (region tier index : ℕ)
    → name ≡ Follower region tier index
    → Leaves the_followers s (DeliversAs follower_node follower_refills (types_of s.schema) m dropped) name old new
    → DeliversAt (types_of s.schema) m dropped name old new
follower_delivers s m dropped old new name region tier index is =
    let So = DeliversAs follower_node follower_refills (types_of s.schema) m dropped in
    subst (λ n. Leaves the_followers s So n old new → DeliversAt (types_of s.schema) m dropped n old new) (sym is)
    (λ left. (
      changes_so So (DeliversThere (types_of s.schema) m dropped) (Follower region tier index) old.followers new.followers
          (λ from to by. record { node = by.by; refills = by.queues }) left.change,
      left.rest,
    ))

-- ---- a refill is taken out

refill_asks : (refill : Option Refill) (from to : FollowerState) → TakesRefill refill from to → AsksGoOn from.node.asks to.node.asks
refill_asks None from to takes = asks_same from.node.asks to.node.asks (ap (λ (f : FollowerState). f.node.asks) takes.1)
refill_asks (Some refill) from to takes = asks_same from.node.asks to.node.asks (ap (λ (f : FollowerState). f.node.asks) takes.1)

refill_marks : (refill : Option Refill) (from to : FollowerState) → TakesRefill refill from to → MarksGoOn from.node to.node
refill_marks None from to takes = served_stays from.node to.node (ap (λ (f : FollowerState). f.node.served) takes.1)
refill_marks (Some refill) from to takes = served_stays from.node to.node (ap (λ (f : FollowerState). f.node.served) takes.1)

pub record RefillStep (s : Settings) (name : NodeName) (refill : Option Refill) (old new : Fleet) : Type 0 where
  pub step : FleetStep s old new
  pub takes : ChangesNode name (TakesRefill refill) old.followers new.followers
  pub rest : new ≡ record old { followers = new.followers }
  pub here : IfSome refill (IsRefillFor s (pens_of old.stores) name)

refill_step : (s : Settings) (name : NodeName) (refill : Option Refill) (old : Fleet) (fs : List (Named FollowerState)) → IsFleetOf s old
    → ChangesNode name (FollowerDoes (TakesRefill refill)) old.followers fs → RefillStep s name refill old (record old { followers = fs })
refill_step s name refill old fs fleet change =
    let stay = followers_stay s (pens_of old.stores) name in
    record {
      step = refills_step (FollowerDoes (TakesRefill refill)) s old name fs fleet change
          (λ from to by is. (stay.takes refill from to by.does is).0) (λ from to by. refill_asks refill from to by.does)
          (λ from to by. refill_marks refill from to by.does);
      takes = changes_so (FollowerDoes (TakesRefill refill)) (TakesRefill refill) name old.followers fs (λ from to by. by.does) change;
      rest = refl;
      here = (stay.takes refill change.from change.to change.by.does (fleet.followers change.place name change.from change.stands)).1;
    }

-- the followers were lent as a slice
pub refill_lent : (s : Settings) (name : NodeName) (refill : Option Refill) (inside : Inside) (old : Fleet) (lent left : List (Named FollowerState))
    → LendsFollowers inside old lent left → IsFleetOf s old → ChangesNode name (FollowerDoes (TakesRefill refill)) lent left
    → RefillStep s name refill old (after_followers inside left)
refill_lent s name refill inside old lent left lends fleet change =
    subst (RefillStep s name refill old) (sym (followers_after inside old lent left lends))
    (refill_step s name refill old left fleet (subst (λ xs. ChangesNode name (FollowerDoes (TakesRefill refill)) xs left) lends.own change))
