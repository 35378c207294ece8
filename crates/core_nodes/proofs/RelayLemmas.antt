-- A leader that takes the changes of a write that passed it.
use Rattle.std.proofs.Common.{◌≡◌, ℕ, ◌<◌, Bool, true, false, List, [], Option, Some, None, refl, sym, ap, ◌∙◌, subst}
use Rattle.std.specs.Bool.{OnTrue}
use Rattle.std.specs.List.{IsDistinct}
use Rattle.std.specs.Map.{keys_of as keys_held}
use Rattle.std.specs.Prelude.{slice_index_or}
use Rattle.cache_items.specs.Node.{Node}
use Rattle.cache_node.specs.True.{IsTrueNode}
use Rattle.follower_cache.specs.Seen.{FollowerState}
use Rattle.node_name.specs.declared.NodeName.{NodeName}
use Rattle.node_stages.specs.Relays.{RelaysTo}
use Rattle.node_stages.specs.Stages.{LeaderDoes}
use Rattle.served_shards.specs.Served.{log_at}
use Rattle.shard_log.specs.View.{View}
use Rattle.tao_base.specs.Keys.{same_key}
use Rattle.tao_base.specs.declared.entry.Entry.{Entry}
use Rattle.tao_keeper.specs.Table.{Tables}
use Rattle.tao_schema.specs.Schema.{types_of}
use Rattle.topology.specs.Config.{Settings}
use Rattle.core_model.proofs.MarkingOn.{marks_stay, nodes_mark_on}
use Rattle.core_model.proofs.NamedNodes.{changes_so}
use Rattle.core_model.proofs.Reaching.{nodes_reach}
use Rattle.core_model.proofs.Staying.{nodes_stay}
use Rattle.core_model.proofs.Turns.{serves_its_turn}
use Rattle.core_model.specs.Consistent.{HasReached, HaveReached, IsFleetOf, IsNodeOf, MarksGoOn}
use Rattle.core_model.specs.Fleet.{ChangesNode, Fleet, IsFirstAt, region_of, serves}
use Rattle.core_model.specs.Pens.{Pens, IsSeen, pens_of}
use Rattle.core_model.specs.declared.named.Named.{Named}
use Rattle.core_nodes.proofs.FleetLemmas.{FleetStep, kind_reaches, leader_step, the_leaders}
use Rattle.core_nodes.proofs.NodesOfNames.{holds_at}
use Rattle.core_nodes.proofs.ReadLemmas.{log_of_shard}
use Rattle.core_nodes.proofs.ViewLemmas.{LendsLeaders, after_leaders, leaders_after}
use Rattle.core_nodes.specs.Stages.{NodeIs}
use Rattle.core_nodes.specs.declared.fleet.Fleet.TheInside.{Inside}

-- a leader as a follower that no refill waits for
abbrev without_refills : Node → FollowerState
without_refills node = record { node = node; refills = [] }

-- a leader that relays stays one of its core, and so do its marks
module _ (s : Settings) (shard : ℕ) (note : View) where
  relays_stay : (pens : Pens) (name : NodeName) (taken : Option Entry) (from to : Node) → RelaysTo (types_of s.schema) shard taken note from to
      → IsSeen pens shard note → IsDistinct same_key (keys_held from.items) → IsTrueNode to → IsNodeOf s pens name from → IsNodeOf s pens name to
  relays_stay pens name None from to same seen apart truth is = subst (IsNodeOf s pens name) (sym same) is
  relays_stay pens name (Some e) from to applies seen apart truth is =
      (nodes_stay s pens name).applies shard e note (without_refills from) (without_refills to) (record { node = applies; refills = refl }) seen apart truth
      is

  relays_mark : (taken : Option Entry) (from to : Node) → RelaysTo (types_of s.schema) shard taken note from to → MarksGoOn from to
  relays_mark None from to same = subst (MarksGoOn from) (sym same) (marks_stay from)
  relays_mark (Some e) from to applies =
      nodes_mark_on.applies (types_of s.schema) shard e note (without_refills from) (without_refills to) (record { node = applies; refills = refl })

  relays_reach : (tables : Tables) (region : ℕ) (taken : Option Entry) (from to : Node) → RelaysTo (types_of s.schema) shard taken note from to
      → HasReached tables region from → HasReached tables region to
  relays_reach tables region None from to same reached = subst (HasReached tables region) (sym same) reached
  relays_reach tables region (Some e) from to applies reached =
      (nodes_reach tables region).applies (types_of s.schema) shard e note (without_refills from) (without_refills to)
      (record { node = applies; refills = refl }) reached

-- ---- the nodes of a core

module _ (s : Settings) (name : NodeName) (shard : ℕ) (taken : Option Entry) (note : View) where
  pub record RelayStep (old new : Fleet) : Type 0 where
    pub relays : ChangesNode name (RelaysTo (types_of s.schema) shard taken note) old.leaders new.leaders
    pub rest : new ≡ record old { leaders = new.leaders }
    pub step : FleetStep s old new
    pub reached : (tables : Tables) → HaveReached tables old → HaveReached tables new

  relay_step : (old : Fleet) (ls : List (Named Node)) → IsFleetOf s old → IsSeen (pens_of old.stores) shard note
      → ChangesNode name (LeaderDoes (RelaysTo (types_of s.schema) shard taken note)) old.leaders ls → RelayStep old (record old { leaders = ls })
  relay_step old ls fleet seen change = record {
    relays =
        changes_so (LeaderDoes (RelaysTo (types_of s.schema) shard taken note)) (RelaysTo (types_of s.schema) shard taken note) name old.leaders ls
        (λ from to by. by.does) change;
    rest = refl;
    step =
        leader_step (LeaderDoes (RelaysTo (types_of s.schema) shard taken note)) s old name ls fleet change
        (λ from to by was. relays_stay s shard note (pens_of old.stores) name taken from to by.does seen by.apart by.truth was)
        (λ from to by. relays_mark s shard note taken from to by.does);
    reached = λ tables was.
        kind_reaches the_leaders tables old ls name (LeaderDoes (RelaysTo (types_of s.schema) shard taken note)) change
        (λ from to by. relays_reach s shard note tables (region_of name) taken from to by.does) was;
  }

  pub relay_lent : (inside : Inside) (f : Fleet) (lent ls : List (Named Node)) → LendsLeaders inside f lent ls → IsFleetOf s f
      → IsSeen (pens_of f.stores) shard note → ChangesNode name (LeaderDoes (RelaysTo (types_of s.schema) shard taken note)) lent ls
      → RelayStep f (after_leaders inside ls)
  relay_lent inside f lent ls lends fleet seen change =
      subst (RelayStep f) (sym (leaders_after inside f lent ls lends))
      (relay_step f ls fleet seen
      (subst (λ l. ChangesNode name (LeaderDoes (RelaysTo (types_of s.schema) shard taken note)) l ls) lends.own change))

-- ---- what it needs

-- a leader that serves the shard has the log of each note that has seen it
pub relay_log : (s : Settings) (f : Fleet) (shard : ℕ) (name : NodeName) (note : View) → IsFleetOf s f → shard < s.shards → IsSeen (pens_of f.stores) shard note
    → OnTrue (serves s name shard) (NodeIs name (λ (node : Node). log_at shard node.served ≡ Some note.log) f.leaders)
relay_log s f shard name note fleet here seen = by_test (serves s name shard) refl
  where
    by_test : (b : Bool) → serves s name shard ≡ b → OnTrue b (NodeIs name (λ (node : Node). log_at shard node.served ≡ Some note.log) f.leaders)
    by_test false is = tt
    by_test true is = λ place node first at.
        let was = fleet.leaders place name node at in
        log_of_shard (pens_of f.stores) shard s name node was ((serves_its_turn s (pens_of f.stores) name node shard).serves was here is)
        ∙ ap Some seen.log_is

-- so has the one that is lent
pub log_there : (preferred : Bool) (shard : ℕ) (note : View) (leaders : List (Named Node)) (name : NodeName) (place : ℕ) (d : Named Node)
    → IsFirstAt name leaders place → OnTrue preferred (NodeIs name (λ (node : Node). log_at shard node.served ≡ Some note.log) leaders)
    → OnTrue preferred (log_at shard (slice_index_or leaders place d).node.served ≡ Some note.log)
log_there true shard note leaders name place d first logs =
    holds_at (λ (node : Node). log_at shard node.served ≡ Some note.log) leaders name place d first logs
log_there false shard note leaders name place d first logs = tt
