-- Why a request is refused: the causes of all refusals, in the order in which they are tried.
use Rattle.std.specs.Prelude.{ℕ, zero, suc, ◌≡◌, ◌<◌, ◌≤◌, ◌⊎◌, ⊤, Bool, true, false, IsSome, List, [], length, Option, Some, None, Err}
use Rattle.core_mail.specs.Inboxes.{Inboxes, WaitsAt}
use Rattle.core_model.specs.Fleet.{Fleet, IsNodeOfName}
use Rattle.core_model.specs.Jobs.{IsFirstJobOf, far_shard, job_on}
use Rattle.core_model.specs.Stores.{master_of}
use Rattle.core_nodes.specs.Repairs.{FindsNoRoom}
use Rattle.core_nodes.specs.Streams.{LacksEntry}
use Rattle.core_plans.specs.Held.{Plans, plan_at, plan_count}
use Rattle.core_plans.specs.Needs.{read_down, write_down}
use Rattle.core_plans.specs.declared.held.HeldPlan.{HeldPlan}
use Rattle.core_plans.specs.declared.held.HeldPlan.TheVariants as of
use Rattle.core_sessions.specs.Sessions.{Session, is_open, most_sessions, session_at}
use Rattle.core_model.specs.Asked.{AuthoredWrite}
use Rattle.core_steps.specs.Writes.{asked_of_log}
use Rattle.counts.specs.Count.{Rose}
use Rattle.follower_cache.specs.Seen.{FollowerState}
use Rattle.graph_model.specs.Told.{WhereTold}
use Rattle.node_name.specs.declared.NodeName.{NodeName}
use Rattle.replies.specs.declared.refusals.NodeRefused.{NodeRefused}
use Rattle.replies.specs.declared.refusals.NodeRefused.TheVariants.{IsMaster, NoEntry, NoMessage, NoRefill, NoServer, NodeDown}
use Rattle.replies.specs.declared.refusals.PlanRefused.{PlanRefused}
use Rattle.replies.specs.declared.refusals.PlanRefused.TheVariants.{NoPlan, PlanFull, PlanThere}
use Rattle.replies.specs.declared.refusals.Refusal.{Refusal}
use Rattle.replies.specs.declared.refusals.Refusal.TheVariants.{Line, Memory, Name, Node, Plan, Session as OfSession, Store}
use Rattle.replies.specs.declared.refusals.SessionRefused.{SessionRefused}
use Rattle.replies.specs.declared.refusals.SessionRefused.TheVariants.{NoSession, SessionFull, SessionThere}
use Rattle.replies.specs.declared.refusals.StoreRefused.{StoreRefused}
use Rattle.replies.specs.declared.refusals.StoreRefused.TheVariants.{KeeperFault, LinkFault, LogFull, SeqReused, TooOld, ShardFull, StampFull, Unsettled}
use Rattle.replies.specs.declared.refusals.UnsettledWhy.{UnsettledWhy}
use Rattle.replies.specs.declared.refusals.UnsettledWhy.TheVariants as why
use Rattle.replies.specs.declared.reply.Reply.{Reply}
use Rattle.replies.specs.declared.reply.Reply.TheVariants.{Refused}
use Rattle.request_check.specs.Requests.{checked_of}
use Rattle.request_check.specs.declared.caches.CheckedCache.TheVariants as cache
use Rattle.request_check.specs.declared.checked.Checked.{Checked}
use Rattle.request_check.specs.declared.checked.Checked.TheVariants as asked
use Rattle.request_check.specs.declared.checked.CheckedCall.{CheckedCall}
use Rattle.request_check.specs.declared.checked.CheckedCall.TheVariants as call
use Rattle.request_check.specs.declared.plans.CheckedPlan.TheVariants as plan
use Rattle.request_check.specs.declared.stores.CheckedStore.TheVariants as store
use Rattle.requests.specs.declared.plans.PlanRequest.TheVariants as plan_request
use Rattle.requests.specs.declared.request.Request.{Request}
use Rattle.requests.specs.declared.request.Request.TheVariants as request
use Rattle.shard_tables.specs.Written.{AskedWrite, IsLogFull, IsReused, IsTooOld, IsShardFull, IsStampFull}
use Rattle.tao_base.specs.Writes.{write_shard}
use Rattle.tao_core.specs.Asked.{most_plans}
use Rattle.requests.specs.CallWords.{asking_session}
use Rattle.tao_core.specs.Core.{CoreState, Moment}
use Rattle.tao_core.specs.HeldCalls.{HasNoServer, call_session, call_shard}
use Rattle.tao_keeper.specs.KeeperState.{KeeperState}
use Rattle.tao_keeper.specs.Table.{Tables}
use Rattle.tao_keeper.specs.declared.jobs.Job.{Job}
use Rattle.topology.specs.Choices.{chosen_leader, master_region}
use Rattle.topology.specs.Config.{Settings}
use Rattle.topology.specs.States.{NodeStates, is_up}
use Rattle.headline_kept.specs.Standing.{Asks, StandsTold, StandsWhen, write_of}

-- ---- plans and sessions

-- `no_plan`: the plan that is advanced isn't held. `plan_there`, `plan_full`: the one that is to be held is held, or as many are as may be
abbrev pub PlanCause : Plans → Request → PlanRefused → Type 0
PlanCause plans (request.Plan (plan_request.Advance number)) (NoPlan said) = (said ≡ number) × (plan_at plans number ≡ None)
PlanCause plans (request.Plan (plan_request.Hold number made)) (PlanThere said) = (said ≡ number) × IsSome (plan_at plans number)
PlanCause plans (request.Plan (plan_request.Hold number made)) (PlanFull count) = (count ≡ plan_count plans) × (most_plans ≤ plan_count plans)
PlanCause plans request refused = ⊥

-- `no_session`: the session of a call, held or not, isn't open. `session_there`, `session_full`: the one that is to be opened is open, or as many are as may
-- be
abbrev pub SessionCause : List Session → Request → SessionRefused → Type 0
SessionCause sessions (request.Call made) (NoSession said) = (said ≡ asking_session made) × (is_open sessions said ≡ false)
SessionCause sessions (request.Plan (plan_request.Hold number made)) (NoSession said) = (said ≡ asking_session made) × (is_open sessions said ≡ false)
SessionCause sessions (request.Open opening) (SessionThere said) = (said ≡ opening.session) × (is_open sessions said ≡ true)
SessionCause sessions (request.Open opening) (SessionFull count) = (count ≡ length sessions) × (most_sessions ≤ length sessions)
SessionCause sessions request refused = ⊥

-- ---- nodes

-- `no_message`: the inbox of the node doesn't reach to the place
abbrev pub MessageCause : Checked → Inboxes → ℕ → Type 0
MessageCause (asked.Cache (cache.Deliver node place)) mail said = (said ≡ place) × WaitsAt node place None mail
MessageCause (asked.Cache (cache.Again node place)) mail said = (said ≡ place) × WaitsAt node place None mail
MessageCause (asked.Cache (cache.Drop node place)) mail said = (said ≡ place) × WaitsAt node place None mail
MessageCause what mail said = ⊥

-- no refill waits at the follower
pub record HasNoRefills (node : NodeName) (fleet : Fleet) : Type 0 where
  pub follower : FollowerState
  pub is : IsNodeOfName node fleet.followers (Some follower)
  pub none : follower.refills ≡ []

-- `no_refill`: the follower is down, or no refill waits there
abbrev pub RefillCause : Checked → CoreState → NodeName → Type 0
RefillCause (asked.Cache (cache.Refill node)) core said = (said ≡ node) × ((is_up core.states node ≡ false) ⊎ HasNoRefills node core.fleet)
RefillCause what core said = ⊥

-- `is_master`: the stream goes into the store of its shard's master
abbrev pub MasterCause : Checked → Settings → ℕ → ℕ → Type 0
MasterCause (asked.Store (store.Stream region shard position)) s told_region told_shard =
    (told_region ≡ region) × (told_shard ≡ shard) × (region ≡ master_of s shard)
MasterCause what s told_region told_shard = ⊥

-- `no_entry`: the log of the shard, of that length, has no entry at the position that is asked for
abbrev pub EntryCause : Bool → Checked → Settings → Tables → ℕ → ℕ → Type 0
EntryCause tells (asked.Store (store.Stream region shard position)) s tables count said =
    (position ≡ Some said) × WhereTold tells (LacksEntry s tables shard position count said)
EntryCause tells what s tables count said = ⊥

-- in the region of the shard's master, which is this, a tier can choose no leader
pub record HasNoLeader (states : NodeStates) (by : ℕ × ℕ) (shard region : ℕ) : Type 0 where
  pub region_is : region ≡ master_region states shard
  pub none : chosen_leader states by region shard ≡ None

-- the session of a write is open, and its tier can choose no leader of the master's region
pub record WriteHasNoLeader (core : CoreState) (number shard region : ℕ) : Type 0 where
  pub session : Session
  pub found : session_at core.sessions number ≡ Some session
  pub none : HasNoLeader core.states (session.region, session.tier) shard region

-- of a call: no follower of its session's region can be chosen, or it is a write, and no leader of the master's region can
abbrev pub CallServerCause : CheckedCall → CoreState → ℕ → Type 0
CallServerCause (call.Read read) core region =
    HasNoServer core.states core.sessions (call_session (call.Read read)) (call_shard (call.Read read)) region
CallServerCause (call.Write write) core region =
    HasNoServer core.states core.sessions (call_session (call.Write write)) (call_shard (call.Write write)) region
    ⊎ WriteHasNoLeader core write.session (write_shard write.write) region

-- of a plan: it is a write, and no leader of the master's region can be chosen
abbrev pub PlanServerCause : Option HeldPlan → CoreState → ℕ → Type 0
PlanServerCause (Some (of.Write p)) core region = HasNoLeader core.states (p.region, p.tier) (write_shard p.write) region
PlanServerCause (Some (of.Read p)) core region = ⊥
PlanServerCause None core region = ⊥

-- of a job: the first open one of a shard is owed on a shard that isn't configured
pub record OwesNowhere (tells : Bool) (s : Settings) (tables : Tables) (shard : ℕ) : Type 0 where
  pub job : Job
  pub first : WhereTold tells (IsFirstJobOf s tables (job_on shard job))
  pub nowhere : s.shards ≤ far_shard job

-- `no_server`: no follower or leader of that region can be chosen, or a job of a shard whose master's that is has no other end
abbrev pub ServerCause : Bool → Checked → Moment → ℕ → Moment → Type 0
ServerCause tells (asked.Call made) old region new = CallServerCause made old.core region
ServerCause tells (asked.Plan (plan.Hold number made)) old region new = CallServerCause made old.core region
ServerCause tells (asked.Plan (plan.Advance number)) old region new = PlanServerCause (plan_at old.core.plans number) old.core region
ServerCause tells (asked.Store (store.Repair shard)) old region new =
    (region ≡ master_region old.core.states shard) × OwesNowhere tells old.core.settings new.keepers.told shard
ServerCause tells (asked.Store store.Settle) old region new =
    (shard : ℕ) × (region ≡ master_region old.core.states shard) × OwesNowhere tells old.core.settings new.keepers.told shard
ServerCause tells what old region new = ⊥

-- the node that is down and that the next stage of a plan needs: the one that acts, or else the one that sends to it
abbrev pub plan_down : NodeStates → Option HeldPlan → Option NodeName
plan_down states (Some (of.Read p)) = read_down states p
plan_down states (Some (of.Write p)) = write_down states p
plan_down states None = None

-- `node_down`: the plan that is advanced needs the node for its next stage, which is down
abbrev pub DownCause : Checked → CoreState → NodeName → Type 0
DownCause (asked.Plan (plan.Advance number)) core node = (plan_down core.states (plan_at core.plans number) ≡ Some node) × (is_up core.states node ≡ false)
DownCause what core node = ⊥

-- what a refusal of a node comes of
abbrev pub NodeCause : Bool → Checked → Moment → NodeRefused → Moment → Type 0
NodeCause tells what old (NoMessage place) new = MessageCause what old.core.mail place
NodeCause tells what old (NoRefill node) new = RefillCause what old.core node
NodeCause tells what old (IsMaster at) new = MasterCause what old.core.settings at.region at.shard
NodeCause tells what old (NoEntry count position) new = EntryCause tells what old.core.settings old.keepers.told count position
NodeCause tells what old (NoServer region) new = ServerCause tells what old region new
NodeCause tells what old (NodeDown node when) new = DownCause what old.core node
    × StandsWhen tells old.core.settings new.keepers.told (write_of old.core.plans what) when

-- ---- stores

-- a line carries out a write, and where the logs are told `Is` holds of it, as it is asked of the log of its shard
abbrev pub OfWrite : Bool → Settings → KeeperState → Option AuthoredWrite → (AskedWrite → Type 0) → Type 0
OfWrite tells s keepers None Is = ⊥
OfWrite tells s keepers (Some write) Is = WhereTold tells (Is (asked_of_log s keepers write))

-- the log at the other end of the shard's first open job, of that length, has no room for its entry
pub record FindsFull (s : Settings) (keepers : KeeperState) (shard count : ℕ) : Type 0 where
  pub job : Job
  pub first : IsFirstJobOf s keepers.told (job_on shard job)
  pub room : FindsNoRoom s (job_on shard job) count keepers

-- `log_full`: the log of the write's shard is full, or of a repair that at the other end
abbrev pub FullCause : Bool → Checked → Moment → ℕ → Moment → Type 0
FullCause tells (asked.Store (store.Repair shard)) old count new = WhereTold tells (FindsFull old.core.settings new.keepers shard count)
FullCause tells what old count new = OfWrite tells old.core.settings old.keepers (write_of old.core.plans what) (λ write. IsLogFull write count)

-- why a settle stopped at a shard: a fault was counted in this request, or the log at a job's other end is full
abbrev pub StopCause : Bool → ℕ → UnsettledWhy → Moment → Moment → Type 0
StopCause tells shard why.LinkFault old new = Rose old.link.faults new.link.faults
StopCause tells shard why.KeeperFault old new = Rose old.keepers.faults new.keepers.faults
StopCause tells shard why.LogFull old new = WhereTold tells ((count : ℕ) × FindsFull old.core.settings new.keepers shard count)

-- `unsettled`: a settle stopped at a configured shard
abbrev pub UnsettledCause : Bool → Checked → ℕ → UnsettledWhy → Moment → Moment → Type 0
UnsettledCause tells (asked.Store store.Settle) shard said old new = (shard < old.core.settings.shards) × StopCause tells shard said old new
UnsettledCause tells what shard said old new = ⊥

-- what a refusal of a store comes of: what the log says of the write; or a fault, whose count is told and rose in this request
abbrev pub StoreCause : Bool → Checked → Moment → StoreRefused → Moment → Type 0
StoreCause tells what old (TooOld cut position) new =
    OfWrite tells old.core.settings old.keepers (write_of old.core.plans what) (λ write. IsTooOld write cut position)
StoreCause tells what old (SeqReused position) new =
    OfWrite tells old.core.settings old.keepers (write_of old.core.plans what) (λ write. IsReused write position)
StoreCause tells what old (ShardFull serial) new =
    OfWrite tells old.core.settings old.keepers (write_of old.core.plans what) (λ write. IsShardFull write serial)
StoreCause tells what old (StampFull number) new =
    OfWrite tells old.core.settings old.keepers (write_of old.core.plans what) (λ write. IsStampFull write number)
StoreCause tells what old (LogFull count) new = FullCause tells what old count new
StoreCause tells what old (KeeperFault count) new = (count ≡ new.keepers.faults) × Rose old.keepers.faults new.keepers.faults
StoreCause tells what old (LinkFault count when) new = (count ≡ new.link.faults) × Rose old.link.faults new.link.faults
    × StandsWhen tells old.core.settings new.keepers.told (write_of old.core.plans what) when
StoreCause tells what old (Unsettled shard said) new = UnsettledCause tells what shard said old new

-- ---- memory

-- `memory` needs no cause. Above position 0 it is of a write that is advanced, whose entry stands there
abbrev pub MemoryCause : Bool → Checked → Moment → ℕ → Moment → Type 0
MemoryCause tells (asked.Plan (plan.Advance number)) old position new =
    StandsTold tells old.core.settings new.keepers.told (write_of old.core.plans (asked.Plan (plan.Advance number))) position
MemoryCause tells what old position new = ⊥

-- ---- all

-- the cause of a refusal, by what was asked and what the keepers and the link showed before and after: of a line none, since it was read; of a name, that
-- looking up what the request names, in order, comes to it
abbrev pub HasCause : Bool → Moment → Request → Refusal → Moment → Type 0
HasCause tells old request (Line refused) new = ⊥
HasCause tells old request (Plan refused) new = PlanCause old.core.plans request refused
HasCause tells old request (OfSession refused) new = SessionCause old.core.sessions request refused
HasCause tells old request (Name refused) new = checked_of old.core.settings request ≡ Err refused
HasCause tells old request (Node refused) new = (what : Checked) × Asks old request what × NodeCause tells what old refused new
HasCause tells old request (Store refused) new = (what : Checked) × Asks old request what × StoreCause tells what old refused new
HasCause tells old request (Memory zero) new = ⊤
HasCause tells old request (Memory (suc n)) new = (what : Checked) × Asks old request what × MemoryCause tells what old (suc n) new

-- the request may only be refused as out of memory: no other refusal has a cause
abbrev pub CanBeServed : Bool → Moment → Request → Moment → Type 0
CanBeServed tells old request new = (refusal : Refusal) → HasCause tells old request refusal new → IsWant refusal
  where
    IsWant : Refusal → Type 0
    IsWant (Memory position) = ⊤
    IsWant refusal = ⊥

-- each refusal has its cause. So a request of which nothing else is amiss is served, or refused as out of memory
pub record RefusesWithCause (tells : Bool) (old : Moment) (request : Request) (reply : Reply) (new : Moment) : Type 0 where
  pub cause : (refusal : Refusal) → reply ≡ Refused refusal → HasCause tells old request refusal new
  pub complete : CanBeServed tells old request new → (refusal : Refusal) → reply ≡ Refused refusal → (position : ℕ) × (refusal ≡ Memory position)
