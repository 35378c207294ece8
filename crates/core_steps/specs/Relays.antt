-- A write that passes a leader of its own region on the way to the master's: its way to that leader, and what that leader takes of it on the way back.
use Rattle.std.specs.Prelude.{ℕ, ◌≡◌, Bool, Option, Some, None}
use Rattle.core_model.specs.Fleet.{ChangesNode, Fleet, serves}
use Rattle.core_nodes.specs.Stages.{taken_by}
use Rattle.node_name.specs.declared.NodeName.{NodeName}
use Rattle.core_nodes.specs.node_stages.Relays.{RelaysTo}
use Rattle.replies.specs.declared.refusals.Refusal.{Refusal}
use Rattle.replies.specs.declared.refusals.Refusal.TheVariants.{Store, Memory}
use Rattle.replies.specs.declared.refusals.StoreRefused.TheVariants.{LinkFault}
use Rattle.shard_log.specs.View.{View}
use Rattle.tao_base.specs.declared.entry.Entry.{Entry}
use Rattle.tao_link.specs.Shown.{LinkShown, after_carry}
use Rattle.tao_schema.specs.Schema.{types_of}
use Rattle.topology.specs.Config.{Settings}
use Rattle.core_steps.specs.World.{World}
use Rattle.core_steps.specs.Writes.{FailsThere}
use Rattle.core_steps.specs.declared.routes.Route.{Route}

-- ---- the way there

-- what the link shows once a write came to the leader that it passes: one carry more where it passes one
abbrev pub link_past : Option NodeName → LinkShown → LinkShown
link_past None link = link
link_past (Some leader) link = after_carry link

-- how a write is refused on the way to the leader that it passes, with nothing changed: there was no memory for its way back, and nothing was carried, or
-- the link failed
abbrev pub RefusesPassing : Bool → Route → Refusal → World → World → Type 0
RefusesPassing tells route (Store (LinkFault count when)) old new = (count ≡ new.link.faults) × FailsThere tells route when old new
RefusesPassing tells route (Memory position) old new = (position ≡ 0) × (new ≡ old)
RefusesPassing tells route refusal old new = ⊥

-- ---- the way back

-- the leader takes the changes of the entry that was committed, where there is one and it serves the shard, and marks nothing
abbrev pub LeaderRelays : Settings → NodeName → ℕ → Option Entry → Fleet → Fleet → Type 0
LeaderRelays s leader shard None old new = new.leaders ≡ old.leaders
LeaderRelays s leader shard (Some e) old new = (note : View)
    × ChangesNode leader (RelaysTo (types_of s.schema) shard (taken_by (serves s leader shard) (Some e)) note) old.leaders new.leaders

-- no node but leaders changed, nor any table nor message, nor who is up
pub record RelaysAlone (old new : World) : Type 0 where
  pub fleet : new.fleet ≡ record old.fleet { leaders = new.fleet.leaders }
  pub keepers : new.keepers ≡ old.keepers
  pub inboxes : new.inboxes ≡ old.inboxes
  pub states : new.states ≡ old.states
