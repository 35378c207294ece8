-- What a load leaves, and why one comes to no summary.
use Rattle.std.specs.Prelude.{ℕ, ◌≡◌, ◌≤◌, ◌<◌, ⊤, Bool, List, length}
use Rattle.core_model.specs.Jobs.{IsFirstJobOf, far_shard, job_on}
use Rattle.core_model.specs.Stores.{AreWhole, master_log, store_count, stores_in}
use Rattle.counts.specs.Count.{Rose}
use Rattle.graph_model.specs.Told.{WhereTold}
use Rattle.keepers.specs.Shown.{told_in, total}
use Rattle.load_audit.specs.Audits.{AreListedBelow, IsFirstStranger, edges_in, lengths_in, logs_in}
use Rattle.load_audit.specs.Listed.{missing_adds}
use Rattle.load_gen.specs.Requests.{requests_of}
use Rattle.replies.specs.declared.opening.OpenRefusal.TheVariants.{KeeperFault as OpenFault}
use Rattle.replies.specs.declared.refusals.UnsettledWhy.{UnsettledWhy}
use Rattle.replies.specs.declared.refusals.UnsettledWhy.TheVariants as why
use Rattle.replies.specs.declared.refusals.Refusal.TheVariants.{Store}
use Rattle.replies.specs.declared.refusals.StoreRefused.TheVariants.{Unsettled}
use Rattle.replies.specs.declared.reply.Reply.{Reply}
use Rattle.replies.specs.declared.reply.Reply.TheVariants.{Refused, Settled}
use Rattle.requests.specs.declared.request.Request.{Request}
use Rattle.shared_tiers.specs.cluster_opening.Opening.{RefusesOver, shown_in}
use Rattle.shared_tiers.specs.cluster_opening.declared.opening.OpenFail.{OpenFail}
use Rattle.tao_keeper.specs.KeeperState.{KeeperState}
use Rattle.tao_keeper.specs.Table.{Tables}
use Rattle.tao_keeper.specs.declared.jobs.Job.{Job}
use Rattle.tao_schema.specs.Schema.{types_of}
use Rattle.topology.specs.Config.{Settings}
use Rattle.write_model.specs.Machine.{ArePaired}
use Rattle.write_model.specs.Steps.{HaveNoJobs}
use Rattle.tao_busy.specs.declared.asked.BusyRefusal.{BusyRefusal}
use Rattle.tao_busy.specs.declared.asked.BusyRefusal.TheVariants.{KeeperFault, Open, OutOfMemory, Stranger, Stuck}
use Rattle.tao_busy.specs.declared.asked.LoadAsked.{LoadAsked}
use Rattle.tao_busy.specs.declared.asked.LoadSummary.{LoadSummary}
use Rattle.tao_busy.specs.declared.ending.Came.{Came}
use Rattle.tao_busy.specs.declared.ending.Came.TheVariants as came

-- the requests of a load
abbrev pub requests_asked : LoadAsked → List Request
requests_asked asked = requests_of asked.config.now asked.seed asked.calls

-- ---- what is left

-- no job is open, each edge whose type has an inverse has it, and every store has all of its shard's log
pub record IsSettledLoad (s : Settings) (tables : Tables) : Type 0 where
  pub none : HaveNoJobs (stores_in s tables)
  pub paired : ArePaired (types_of s.schema) (stores_in s tables).logs
  pub whole : AreWhole s tables

-- what the tables hold after a load: they are settled; the summary tells the lengths of the logs and how many edges these leave live; each client's entry is
-- of one of the requests, and fits it; and of the additions among the requests no more are in no log than were refused
pub record LeavesLoad (s : Settings) (requests : List Request) (tables : Tables) (summary : LoadSummary) : Type 0 where
  pub settled : IsSettledLoad s tables
  pub logs : summary.logs ≡ lengths_in s tables
  pub edges : summary.edges ≡ edges_in s tables
  pub listed : AreListedBelow s tables requests s.shards
  pub few : missing_adds (logs_in s tables) requests ≤ summary.refused

-- ---- why there is no summary

-- how often keepers failed, added up
abbrev pub faults_in : {M : Type 0} → (M → KeeperState) → List M → ℕ
faults_in state keepers = total (λ keeper. (state keeper).faults) 0 keepers

-- the records of the first open job of the shard are owed where the log has as many entries as it may
pub record OwesToFullLog (s : Settings) (tables : Tables) (shard : ℕ) : Type 0 where
  pub job : Job
  pub first : IsFirstJobOf s tables (job_on shard job)
  pub full : s.log_max ≤ length (master_log s tables (far_shard job))

-- what a configured shard owes first is owed where the log has as many entries as it may
pub record HasFullLog (s : Settings) (tables : Tables) : Type 0 where
  pub shard : ℕ
  pub configured : shard < s.shards
  pub owes : OwesToFullLog s tables shard

-- why a settle is stuck at a shard: its first open job is owed where the log is full; or keepers failed, as the one says. Links never fail
abbrev pub IsStuckFor : Bool → Type 0 → Settings → Tables → ℕ → UnsettledWhy → Type 0
IsStuckFor tells failed s tables shard why.LogFull = WhereTold tells (OwesToFullLog s tables shard)
IsStuckFor tells failed s tables shard why.KeeperFault = failed
IsStuckFor tells failed s tables shard why.LinkFault = ⊥

-- the cluster wasn't made
pub record RefusesOpen {M : Type 0} (tells : Bool) (state : M → KeeperState) (s : Settings) (line : List ℕ) (old : List M) (fail : OpenFail M) : Type 0 where
  pub many : length fail.keepers.items ≡ store_count s
  pub refused : RefusesOver tells s line (shown_in state s.shards 0 old) (λ strays. shown_in state s.shards strays fail.keepers.items) fail.why
  pub own : fail.why ≡ OpenFault → Rose (faults_in state old) (faults_in state fail.keepers.items)

-- why a load comes to no summary once its cluster was made, with the keepers, one for each store, which had failed so often before: memory was wanted; its
-- settle was stuck at a configured shard; a keeper failed as the logs were read, as their counts rose; or a log has a client's entry of none of the requests
abbrev pub RefusesRun : {M : Type 0} → Bool → (M → KeeperState) → Settings → List Request → ℕ → BusyRefusal M → Type 0
RefusesRun tells state s requests before (Open fail) = ⊥
RefusesRun tells state s requests before (OutOfMemory keepers) = length keepers.items ≡ store_count s
RefusesRun tells state s requests before (Stuck shard why keepers) =
    (length keepers.items ≡ store_count s) × (shard < s.shards)
    × IsStuckFor tells (Rose before (faults_in state keepers.items)) s (told_in state s.shards keepers.items) shard why
RefusesRun tells state s requests before (KeeperFault keepers) = (length keepers.items ≡ store_count s) × Rose before (faults_in state keepers.items)
RefusesRun tells state s requests before (Stranger shard position keepers) =
    (length keepers.items ≡ store_count s) × WhereTold tells (IsFirstStranger s (told_in state s.shards keepers.items) requests shard position)

-- why a load comes to no summary: its cluster wasn't made, or it wasn't ended
abbrev pub RefusesLoad : {M : Type 0} → Bool → (M → KeeperState) → LoadAsked → List M → BusyRefusal M → Type 0
RefusesLoad tells state asked old (Open fail) = RefusesOpen tells state asked.config.now asked.line.now old fail
RefusesLoad tells state asked old refusal = RefusesRun tells state asked.config.now (requests_asked asked) (faults_in state old) refusal

-- ---- the end

-- the reply is neither that of a settle that came to its end, nor that of one that stopped at a shard
abbrev pub SaysNeither : Reply → Type 0
SaysNeither (Settled logs) = ⊥
SaysNeither (Refused (Store (Unsettled shard why))) = ⊥
SaysNeither other = ⊤

-- what the reply to a settle says of it
abbrev pub SaysCame : Reply → Came → Type 0
SaysCame said came.Settled = (logs : List ℕ) × (said ≡ Settled logs)
SaysCame said (came.Stuck shard why) = said ≡ Refused (Store (Unsettled shard why))
SaysCame said came.OutOfMemory = SaysNeither said
