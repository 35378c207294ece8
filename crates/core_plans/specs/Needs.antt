-- Who has to be up for a stage of a plan, and which of them is down.
use Rattle.std.specs.Prelude.{◌==◌, Bool, true, false, Option, Some, None, if◌then◌else◌}
use Rattle.std.specs.Option.{option_map}
use Rattle.core_model.specs.Stores.{region_store}
use Rattle.core_plans.specs.declared.leaders.Leaders.{Leaders}
use Rattle.core_plans.specs.declared.needs.Needs.{Needs}
use Rattle.core_steps.specs.declared.routes.TierPlace.{TierPlace}
use Rattle.core_steps.specs.OtherEnds.{master_leader}
use Rattle.node_name.specs.declared.NodeName.{NodeName}
use Rattle.node_name.specs.declared.NodeName.TheVariants.{Store as StoreName_}
use Rattle.read_plan.specs.Readings.{Reading}
use Rattle.read_plan.specs.Standings.{stage_of}
use Rattle.read_plan.specs.declared.stages.ReadStage.{ReadStage}
use Rattle.read_plan.specs.declared.stages.ReadStage.TheVariants as reads
use Rattle.tao_base.specs.Queries.{query_shard}
use Rattle.tao_base.specs.Writes.{write_shard}
use Rattle.topology.specs.Choices.{chosen_leader, master_region, may_lead, preferred_leader}
use Rattle.topology.specs.Config.{Settings}
use Rattle.topology.specs.States.{NodeStates, is_up}
use Rattle.write_plan.specs.Plans.{Writing, answered_passed, last_leader, next_of}
use Rattle.write_plan.specs.declared.committed.Committed.{Committed}
use Rattle.write_plan.specs.declared.stage.WriteStage.{WriteStage}
use Rattle.write_plan.specs.declared.stage.WriteStage.TheVariants.{Commit, Inverse, End, Relay, Apply, Done}

-- ---- who is chosen

-- the leader, where a tier may ask it, and else the store
abbrev pub leader_or_store : Bool → NodeName → NodeName → NodeName
leader_or_store true leader store = leader
leader_or_store false leader store = store

-- who is asked at the stage `ask` of a read: the leader that the region prefers, where it is up and the session's tier doesn't suspect it, and else the
-- region's store
abbrev pub asked_of_read : NodeStates → Reading → NodeName
asked_of_read states p = leader_or_store (may_lead states (p.region, p.tier) (preferred_leader states p.region (query_shard p.query)))
    (preferred_leader states p.region (query_shard p.query)) (StoreName_ (region_store p.region (query_shard p.query)))

-- the tier of a write's session
abbrev pub tier_of_write : Writing → TierPlace
tier_of_write p = record { region = p.region; tier = p.tier }

-- the leader of its own region that a write passes on the way to the master's: the one that its tier chooses there; none where that is the master's region,
-- or none can be chosen
abbrev pub leader_to_pass : NodeStates → Writing → Option NodeName
leader_to_pass states p = if p.region == master_region states (write_shard p.write) then None
    else chosen_leader states (p.region, p.tier) p.region (write_shard p.write)

-- the leaders of a write that is to be committed: the one that commits it, and the one that it passes; none where no leader can commit it
abbrev pub leaders_of_write : Settings → NodeStates → Writing → Option Leaders
leaders_of_write s states p = option_map (λ leader. record { leader = leader; passed = leader_to_pass states p })
    (master_leader s states (tier_of_write p) (write_shard p.write))

-- ---- who is needed

-- no node is needed
abbrev pub no_needs : Needs
no_needs = record { acting = None; sending = None }

-- who has to be up for the stage of a read: its follower, which answers or asks, and for its last stage also who gave what the follower is to keep.
-- Whoever it asks is up: a leader is chosen among those that are, and a store always is
abbrev pub read_needs : ReadStage → Reading → Needs
read_needs reads.Look p = record { acting = Some p.follower; sending = None }
read_needs reads.Ask p = record { acting = None; sending = Some p.follower }
read_needs reads.Master p = record { acting = None; sending = Some p.follower }
read_needs reads.Keep p = record { acting = Some p.follower; sending = p.by }
read_needs reads.Done p = no_needs

-- the leader that committed a write
abbrev pub committer_of : Writing → Option NodeName
committer_of p = option_map (λ (c : Committed). c.leader) p.committed

-- who has to be up for the stage of a write. The leaders that commit and that merge are chosen among those that are up
abbrev pub write_needs : WriteStage → Writing → Needs
write_needs Commit p = record { acting = None; sending = Some p.follower }
write_needs Inverse p = record { acting = None; sending = committer_of p }
write_needs End p = record { acting = committer_of p; sending = None }
write_needs Relay p = record { acting = answered_passed p; sending = committer_of p }
write_needs Apply p = record { acting = Some p.follower; sending = option_map last_leader p.committed }
write_needs Done p = no_needs

-- ---- who is down

-- the node, where there is one and it is down
abbrev pub down_of : NodeStates → Option NodeName → Option NodeName
down_of states None = None
down_of states (Some node) = if is_up states node then None else Some node

-- the first of the two, or else the other
abbrev pub or_else : Option NodeName → Option NodeName → Option NodeName
or_else (Some node) other = Some node
or_else None other = other

-- the node that is needed and is down: the one that acts, or else the one that sends to it
abbrev pub first_down : NodeStates → Needs → Option NodeName
first_down states needs = or_else (down_of states needs.acting) (down_of states needs.sending)

-- the node that is down and that the read's next stage needs
abbrev pub read_down : NodeStates → Reading → Option NodeName
read_down states p = first_down states (read_needs (stage_of p.at) p)

-- the node that is down and that the write's next stage needs
abbrev pub write_down : NodeStates → Writing → Option NodeName
write_down states p = first_down states (write_needs (next_of p) p)
