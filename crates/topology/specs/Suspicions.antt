-- Which leaders a tier suspects.
use Rattle.std.specs.Prelude.{◌≡◌, ◌≢◌, ℕ, ◌+◌, ◌*◌, Bool, false, not, ◌&&◌, List, IsTrue, nat_lt, slice_index_or}
use Rattle.node_name.specs.declared.NodeName.{NodeName}
use Rattle.node_name.specs.declared.NodeName.TheVariants.{Store, Leader, Follower}
use Rattle.topology.specs.Counts.{NodeCounts, leader_count, tier_count}
use Rattle.topology.specs.States.{NodeStates}

-- a tier of a region, and a node that it may suspect
pub record Suspicion : Type 0 where
  pub region : ℕ
  pub tier : ℕ
  pub leader : NodeName

-- the suspicion that a tier of a region has of a leader
abbrev pub suspicion_of : ℕ → ℕ → NodeName → Suspicion
suspicion_of region tier leader = record { region = region; tier = tier; leader = leader }

-- whether the name is that of a leader which its region has
abbrev pub is_leader : List NodeCounts → NodeName → Bool
is_leader regions (Leader region index) = nat_lt index (leader_count regions region)
is_leader regions (Store store) = false
is_leader regions (Follower region tier index) = false

-- the place of a leader among those of all regions, with four places for each region
abbrev pub leader_index : NodeName → ℕ
leader_index (Leader region index) = region * 4 + index
leader_index (Store store) = 0
leader_index (Follower region tier index) = 0

-- the tier is configured, and the node is a configured leader of any region
abbrev pub may_suspect : List NodeCounts → Suspicion → Bool
may_suspect regions s = nat_lt s.tier (tier_count regions s.region) && is_leader regions s.leader

-- the place of a suspicion's flag: sixteen for each tier, of which four are for each region's leaders
abbrev pub suspicion_place : Suspicion → ℕ
suspicion_place s = (s.region * 4 + s.tier) * 16 + leader_index s.leader

-- a tier suspects a leader
abbrev pub suspects : NodeStates → Suspicion → Bool
suspects states s = may_suspect states.regions s && slice_index_or states.suspected (suspicion_place s) false

-- the suspicion may be, and the tier doesn't trust the leader, or does, as it will
pub record ChangesTrust (s : Suspicion) (trusted : Bool) (old : NodeStates) : Type 0 where
  pub may : IsTrue (may_suspect old.regions s)
  pub differs : suspects old s ≡ trusted

-- one tier trusts a leader or not, and nothing else has changed
pub record SetsTrust (s : Suspicion) (trusted : Bool) (old new : NodeStates) : Type 0 where
  pub here : suspects new s ≡ not trusted
  pub others : (other : Suspicion) → other ≢ s → suspects new other ≡ suspects old other
  pub rest : new ≡ record old { suspected = new.suspected }
