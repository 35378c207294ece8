-- What jobs that are run, one after another, come to: a settle.
use Rattle.std.proofs.Common.{◌≡◌, ℕ, ◌≤◌, ◌<◌, ◌+◌, ◌⊎◌, Bool, true, List, [], ◌∷◌, ◌++◌, Some, None, Result, Ok, Err}
use Rattle.std.proofs.Common.{refl, sym, ap, ◌∙◌, subst, inl, inr, arith}
use Rattle.std.proofs.lemmas.Bool.{cases_lt}
use Rattle.std.proofs.lemmas.Option.{same_Some}
use Rattle.std.specs.Prelude.{Option}
use Rattle.counts.proofs.Rises.{Rose-earlier}
use Rattle.edge_repair.specs.declared.refusal.RepairRefusal.{RepairRefusal}
use Rattle.edge_repair.specs.declared.refusal.RepairRefusal.TheVariants.{KeeperFault, LinkFault, LogFull, OutOfMemory}
use Rattle.graph_model.specs.Log.{entry_at}
use Rattle.graph_model.specs.Soundness.{EdgeUpdate}
use Rattle.graph_model.specs.Told.{WhereTold}
use Rattle.master_tables.proofs.Calls.{tables_are_stores}
use Rattle.master_tables.proofs.Each.{each_length}
use Rattle.replies.specs.declared.refusals.NodeRefused.TheVariants.{NoServer}
use Rattle.replies.specs.declared.refusals.Refusal.{Refusal}
use Rattle.replies.specs.declared.refusals.Refusal.TheVariants.{Memory, Node as OfNode, Store as OfStore}
use Rattle.replies.specs.declared.refusals.StoreRefused.TheVariants as refused
use Rattle.tao_base.specs.EdgeTypes.{InversesMatch}
use Rattle.tao_keeper.proofs.Later.{later_self}
use Rattle.tao_keeper.specs.KeeperState.{IsLater}
use Rattle.tao_keeper.specs.Table.{Tables}
use Rattle.tao_keeper.specs.declared.jobs.Job.{Job}
use Rattle.tao_schema.specs.Schema.{types_of}
use Rattle.topology.specs.Config.{Settings}
use Rattle.write_model.proofs.CoverMerges.{merges_keep}
use Rattle.write_model.proofs.OpenJobs.{job_found}
use Rattle.write_model.proofs.Settled.{settles_in_order}
use Rattle.write_model.specs.Machine.{IsFirstJob}
use Rattle.write_model.specs.Merges.{JobSource, Stores, log_of}
use Rattle.write_model.specs.Steps.{EndsJob, IsNextJob, IsOwed, MergesJob}
use Rattle.core_model.specs.Fleet.{Fleet}
use Rattle.core_model.specs.Jobs.{EndsOwed, IsFirstJobOf, OwesShardJob, MergesOwed, ShardJob, job_on}
use Rattle.core_model.specs.Stores.{AreKeptIn, master_log, masters_of, stores_in}
use Rattle.core_steps.specs.core_nodes.Settling.{IsLaterLink}
use Rattle.core_steps.specs.core_nodes.declared.settling.SettleStop.{SettleStop}
use Rattle.core_steps.proofs.LinkLemmas.{both_carries, link_stays, link_trans}
use Rattle.core_steps.specs.World.{World}
use Rattle.core_repairs.specs.Repairs.{AreSettling, FailsToEnd, FailsToMerge, FindsNoJob, FailureHasCause, HasNoneUpTo, HaveNoneBelow, HaveRun}
use Rattle.core_repairs.specs.Repairs.{IsNotRepaired, IsRepaired, OnlyAsks, RanOn, RepairsFirst, RunsAll, RunsTo, SettlesLogs}
use Rattle.core_repairs.specs.Repairs.{StopsRepair, StopsRun, ran_on}
use Rattle.core_repairs.specs.Stops.{IsOfSettles, StopsAsRefused}
use Rattle.core_repairs.specs.declared.repairs.Ran.{Ran}

-- ---- keepers that were only asked

asks_trans : (tells : Bool) (a b c : World) → OnlyAsks tells a b → OnlyAsks tells b c → OnlyAsks tells a c
asks_trans tells a b c p q = record {
  nodes = record {
    fleet = q.nodes.fleet ∙ p.nodes.fleet;
    inboxes = q.nodes.inboxes ∙ p.nodes.inboxes;
    states = q.nodes.states ∙ p.nodes.states;
    tables = λ told at. q.nodes.tables told at ∙ p.nodes.tables told at;
  };
  link = q.link ∙ p.link;
}

asks_nothing : (tells : Bool) (a : World) → OnlyAsks tells a a
asks_nothing tells a = record { nodes = record { fleet = refl; inboxes = refl; states = refl; tables = λ told at. refl }; link = refl }

run_and_ask : (tells : Bool) (s : Settings) (jobs : List RanOn) (a b c : World) → HaveRun tells s jobs a b → OnlyAsks tells b c → HaveRun tells s jobs a c
run_and_ask tells s [] a b c run asks = asks_trans tells a b c run asks
run_and_ask tells s (r ∷ earlier) a b c run asks = (run.0, run.1, run.2, run.3, asks_trans tells run.1 b c run.4 asks)

-- ---- jobs that were run

-- no count of the link fell
run_on : (tells : Bool) (s : Settings) (jobs : List RanOn) (a b : World) → HaveRun tells s jobs a b → IsLaterLink a.link b.link
run_on tells s [] a b run = link_stays a.link b.link run.link
run_on tells s (r ∷ earlier) a b run =
    link_trans a.link run.0.link b.link (run_on tells s earlier a run.0 run.2)
    (link_trans run.0.link run.1.link b.link (both_carries run.0.link run.1.link run.3.merges.1) (link_stays run.1.link b.link run.4.link))

-- ---- what a repair leaves, whatever came of it

-- only stores changed
abbrev pub ChangesStoresAlone : Fleet → Fleet → Type 0
ChangesStoresAlone old new = new ≡ record old { stores = new.stores }

same_fleet : (old new : Fleet) → new ≡ old → ChangesStoresAlone old new
same_fleet old new same = subst (ChangesStoresAlone old) (sym same) refl

module _ (tells : Bool) (s : Settings) (shard : ℕ) (old new : World) where
  stops_leave : (refusal : RepairRefusal) → StopsRepair tells s shard refusal old new → ChangesStoresAlone old.fleet new.fleet
  stops_leave refusal (inl asks) = same_fleet old.fleet new.fleet asks.nodes.fleet
  stops_leave refusal (inr (inl fails)) = fails.rest.caches.fleet
  stops_leave refusal (inr (inr fails)) = fails.rest.caches.fleet

  not_repaired_leaves : (r : Refusal) → IsNotRepaired tells s shard r old new → ChangesStoresAlone old.fleet new.fleet
  not_repaired_leaves (OfNode (NoServer region)) is = same_fleet old.fleet new.fleet is.1.asks.nodes.fleet
  not_repaired_leaves (OfStore (refused.KeeperFault count)) is = stops_leave KeeperFault is.2
  not_repaired_leaves (OfStore (refused.LinkFault count when)) is = is.2.rest.caches.fleet
  not_repaired_leaves (OfStore (refused.LogFull count)) is = is.rest.caches.fleet
  not_repaired_leaves (Memory position) is = stops_leave OutOfMemory is.1
  not_repaired_leaves r is = absurd is

  pub first_leaves : (result : Result (Option Ran) Refusal) → RepairsFirst tells s shard result old new → ChangesStoresAlone old.fleet new.fleet
  first_leaves (Ok None) is = same_fleet old.fleet new.fleet is.asks.nodes.fleet
  first_leaves (Ok (Some ran)) is = is.caches.fleet
  first_leaves (Err r) is = not_repaired_leaves r is

  -- a settle stops with each
  pub of_repair : (r : Refusal) → IsNotRepaired tells s shard r old new → IsOfSettles r
  of_repair (OfNode (NoServer region)) is = tt
  of_repair (OfStore (refused.KeeperFault count)) is = tt
  of_repair (OfStore (refused.LinkFault count when)) is = tt
  of_repair (OfStore (refused.LogFull count)) is = tt
  of_repair (Memory position) is = tt
  of_repair r is = absurd is

  -- a fault is said only where its count rose
  has_cause : (start : World) (r : Refusal) → IsLaterLink start.link old.link → IsLater start.keepers old.keepers
      → IsNotRepaired tells s shard r old new → FailureHasCause r start new
  has_cause start (OfStore (refused.KeeperFault count)) link keepers is =
      Rose-earlier start.keepers.faults old.keepers.faults new.keepers.faults keepers.faults is.1
  has_cause start (OfStore (refused.LinkFault count when)) link keepers is = elim is.2.merges [
    | inl there ↦ Rose-earlier start.link.faults old.link.faults new.link.faults link.faults there.0.rose
    | inr back ↦ Rose-earlier start.link.faults old.link.faults new.link.faults link.faults back.0.rose
  ]
  has_cause start r link keepers is = tt

pub rest_trans : (a b c : Fleet) → ChangesStoresAlone a b → ChangesStoresAlone b c → ChangesStoresAlone a c
rest_trans a b c p q = q ∙ ap (λ (f : Fleet). record f { stores = c.stores }) p

-- ---- one job, over the tables

-- what owes a job is one
same_owed : (s : Settings) (j : ShardJob) (tables : Tables) (a b : JobSource) → OwesShardJob s j a → OwesShardJob s j b
    → IsOwed (types_of s.schema) (stores_in s tables) a → IsOwed (types_of s.schema) (stores_in s tables) b → a ≡ b
same_owed s j tables a b p q x y =
    let logs = (stores_in s tables).logs in
    let shard : a.shard ≡ b.shard = p.shard_is ∙ sym q.shard_is in
    let position : a.entry.position ≡ b.entry.position = p.position_is ∙ sym q.position_is in
    let other : a.other ≡ b.other = p.other_is ∙ sym q.other_is in
    let there = subst (λ n. entry_at (log_of logs a.shard) n ≡ Some a.entry) position x.stands in
    let here = subst (λ n. entry_at (log_of logs n) b.entry.position ≡ Some a.entry) shard there in
    let entry : a.entry ≡ b.entry = same_Some a.entry b.entry (sym here ∙ y.stands) in
    let epoch : a.epoch ≡ b.epoch = x.epoch_is ∙ sym y.epoch_is in
    λ i. record { shard = shard i; epoch = epoch i; entry = entry i; other = other i }

-- the first job of its shard was merged and then ended
record WorksOffFirst (s : Settings) (shard position : ℕ) (old new : Tables) : Type 0 where
  owed : JobSource
  mid : Stores
  first : IsFirstJob (types_of s.schema) (stores_in s old) owed
  merges : MergesJob (types_of s.schema) (stores_in s old) mid owed
  ends : EndsJob (types_of s.schema) mid (stores_in s new) owed
  shard_is : owed.shard ≡ shard
  position_is : owed.entry.position ≡ position

is_done : (s : Settings) (j : ShardJob) (old mid new : Tables) → InversesMatch (types_of s.schema) → AreKeptIn s old → IsFirstJobOf s old j
    → MergesOwed s old mid j → EndsOwed s mid new j → WorksOffFirst s j.shard j.job.position old new
is_done s j old mid new match kept first merges ends =
    let types = types_of s.schema in
    let one = same_owed s j old merges.owed first.owed merges.of first.of merges.merges.owes first.owes in
    let left = merges_keep.done types (stores_in s old) (stores_in s mid) merges.owed match kept merges.merges in
    let two = same_owed s j mid ends.owed merges.owed ends.of merges.of ends.ends.owes left.0 in
    record {
      owed = first.owed;
      mid = stores_in s mid;
      first = first.first;
      merges = subst (MergesJob types (stores_in s old) (stores_in s mid)) one merges.merges;
      ends = subst (EndsJob types (stores_in s mid) (stores_in s new)) (two ∙ one) ends.ends;
      shard_is = first.of.shard_is;
      position_is = first.of.position_is;
    }

is_next : (s : Settings) (tables : Tables) (shard : ℕ) (owed : JobSource) → owed.shard ≡ shard → IsFirstJob (types_of s.schema) (stores_in s tables) owed
    → HaveNoneBelow s tables shard → IsNextJob (types_of s.schema) (stores_in s tables) owed
is_next s tables shard owed is first none =
    record { first = first; lower = λ lower position lt. none lower position (subst (λ n. lower < n) is lt) }

module _ (s : Settings) (shard position : ℕ) (old new : Tables) (done : WorksOffFirst s shard position old new) where
  settles_on : (start : Tables) → InversesMatch (types_of s.schema) → AreKeptIn s old → HaveNoneBelow s old shard → AreSettling s start old
      → AreSettling s start new
  settles_on start match kept none so = (
    so.0 ++ done.owed ∷ [],
    settles_in_order.goes_on (types_of s.schema) (stores_in s start) (stores_in s old) done.mid (stores_in s new) so.0 done.owed
        match kept so.1 (is_next s old shard done.owed done.shard_is done.first none) done.merges done.ends,
  )

  none_below : HaveNoneBelow s old shard → HaveNoneBelow s new shard
  none_below none lower p lt =
      let at = done.shard_is in
      done.ends.ends.others lower p (λ same. absurd (omega (arith, lt, same, at))) ∙ done.merges.jobs lower p ∙ none lower p lt

  none_there : (p : ℕ) → p ≤ done.owed.entry.position → (stores_in s new).job done.owed.shard p ≡ None
  none_there p le = elim (cases_lt p done.owed.entry.position) [
    | inl lt ↦ done.ends.ends.others done.owed.shard p (λ same at. absurd (omega (arith, lt, at))) ∙ done.merges.jobs done.owed.shard p
        ∙ done.first.first p lt
    | inr ge ↦ (
        let at : done.owed.entry.position ≡ p = omega (arith, le, ge) in
        subst (λ n. (stores_in s new).job done.owed.shard n ≡ None) at done.ends.ends.here)
  ]

  none_up_to : HasNoneUpTo s new shard position
  none_up_to p le =
      let at = done.position_is in
      subst (λ n. (stores_in s new).job n p ≡ None) done.shard_is (none_there p (omega (arith, le, at)))

  not_before : (last : ℕ) → HasNoneUpTo s old shard last → position ≤ last → ⊥
  not_before last none le =
      let at = done.position_is in
      let missing = subst (λ n. (stores_in s old).job n done.owed.entry.position ≡ None) (sym done.shard_is)
      (none done.owed.entry.position (omega (arith, le, at))) in
      let is = sym missing ∙ done.first.job.job_is in
      absurd (cc)

-- a settle that stops before a job, or once it was merged
abbrev IsHalfway : Settings → ℕ → Tables → Tables → Type 0
IsHalfway s shard old new = (new ≡ old) ⊎ ((job : Job) × IsFirstJobOf s old (job_on shard job) × MergesOwed s old new (job_on shard job))

settles_to : (s : Settings) (shard : ℕ) (start old new : Tables) → HaveNoneBelow s old shard → AreSettling s start old → IsHalfway s shard old new
    → SettlesLogs s start new
settles_to s shard start old new none so (inl same) = subst (SettlesLogs s start) (sym same)
    (settles_in_order.stops (types_of s.schema) (stores_in s start) (stores_in s old) so.0 so.1)
settles_to s shard start old new none so (inr half) =
    let types = types_of s.schema in
    let j = job_on shard half.0 in
    let first = half.1 in
    let merges = half.2 in
    let one = same_owed s j old merges.owed first.owed merges.of first.of merges.merges.owes first.owes in
    settles_in_order.stops_within types (stores_in s start) (stores_in s old) (stores_in s new) so.0 first.owed so.1
    (is_next s old shard first.owed first.of.shard_is first.first none)
    (subst (MergesJob types (stores_in s old) (stores_in s new)) one merges.merges)

-- ---- one job, over what is seen

module _ (tells : Bool) (s : Settings) (shard : ℕ) (old new : World) (told : tells ≡ true) where
  repaired_done : (ran : Ran) → InversesMatch (types_of s.schema) → AreKeptIn s old.keepers.told → IsRepaired tells s shard ran old new
      → WorksOffFirst s shard ran.job.position old.keepers.told new.keepers.told
  repaired_done ran match kept is =
      let j = job_on shard ran.job in
      let same : is.found.told ≡ old.keepers.told = λ i at. is.finds.tables told at i in
      let first = subst (λ t. IsFirstJobOf s t j) same (is.finds.first told) in
      let merges = subst (λ t. MergesOwed s t is.merged.told j) same (is.merges.0 told).merges in
      is_done s j old.keepers.told is.merged.told new.keepers.told match kept first merges (is.ends told)

  asks_half : OnlyAsks tells old new → IsHalfway s shard old.keepers.told new.keepers.told
  asks_half asks = inl (λ i at. asks.nodes.tables told at i)

  -- what was merged at tables that are these
  half_from : (job : Job) (found : Tables) → found ≡ old.keepers.told → IsFirstJobOf s found (job_on shard job)
      → MergesOwed s found new.keepers.told (job_on shard job) → IsHalfway s shard old.keepers.told new.keepers.told
  half_from job found same first merges = inr (
    job,
    subst (λ t. IsFirstJobOf s t (job_on shard job)) same first,
    subst (λ t. MergesOwed s t new.keepers.told (job_on shard job)) same merges,
  )

  half_by : (refusal : RepairRefusal) → FailsToMerge tells s shard refusal old new → IsHalfway s shard old.keepers.told new.keepers.told
  half_by KeeperFault fails =
      let same : fails.found.told ≡ old.keepers.told = λ i at. fails.finds.tables told at i in
      elim fails.merges.0 [
        | inl stays ↦ inl ((λ i at. stays told at i) ∙ same)
        | inr merges ↦ half_from fails.job fails.found.told same (fails.finds.first told) (merges told)
      ]
  half_by OutOfMemory fails =
      let same : fails.found.told ≡ old.keepers.told = λ i at. fails.finds.tables told at i in
      elim fails.merges.0 [
        | inl stays ↦ inl ((λ i at. stays told at i) ∙ same)
        | inr merges ↦ half_from fails.job fails.found.told same (fails.finds.first told) (merges told)
      ]
  half_by (LogFull count) fails =
      let same : fails.found.told ≡ old.keepers.told = λ i at. fails.finds.tables told at i in
      let stays : new.keepers.told ≡ fails.found.told = λ i at. fails.merges.1 told at i in
      inl (stays ∙ same)
  half_by LinkFault fails =
      let same : fails.found.told ≡ old.keepers.told = λ i at. fails.finds.tables told at i in
      elim fails.merges [
        | inl there ↦ inl ((λ i at. there.1 told at i) ∙ same)
        | inr back ↦ half_from fails.job fails.found.told same (fails.finds.first told) (back.1 told)
      ]

  end_half : FailsToEnd tells s shard old new → IsHalfway s shard old.keepers.told new.keepers.told
  end_half fails =
      let same : fails.found.told ≡ old.keepers.told = λ i at. fails.finds.tables told at i in
      let stays : fails.merged.told ≡ new.keepers.told = λ i at. sym (fails.stays told at) i in
      half_from fails.ran.job fails.found.told same (fails.finds.first told)
      (subst (λ t. MergesOwed s fails.found.told t (job_on shard fails.ran.job)) stays (fails.merges.0 told).merges)

  stops_half : (refusal : RepairRefusal) → StopsRepair tells s shard refusal old new → IsHalfway s shard old.keepers.told new.keepers.told
  stops_half refusal (inl asks) = asks_half asks
  stops_half refusal (inr (inl fails)) = half_by refusal fails
  stops_half refusal (inr (inr fails)) = end_half fails

  halfway : (r : Refusal) → IsNotRepaired tells s shard r old new → IsHalfway s shard old.keepers.told new.keepers.told
  halfway (OfNode (NoServer region)) is = asks_half is.1.asks
  halfway (OfStore (refused.KeeperFault count)) is = stops_half KeeperFault is.2
  halfway (OfStore (refused.LinkFault count when)) is = half_by LinkFault is.2
  halfway (OfStore (refused.LogFull count)) is = half_by (LogFull count) is
  halfway (Memory position) is = stops_half OutOfMemory is.1
  halfway r is = absurd is

-- ---- a settle under way

module _ (tells : Bool) (s : Settings) (shard : ℕ) (old new : World) where
  -- one more job of the shard
  module _ (ran : Ran) (match : InversesMatch (types_of s.schema)) (kept : WhereTold tells (AreKeptIn s old.keepers.told))
      (is : IsRepaired tells s shard ran old new) where
    pub runs_one : IsLater old.keepers new.keepers → (start : World) → RunsTo tells s shard start old → RunsTo tells s shard start new
    runs_one later start so = record {
      jobs = ran_on shard ran ∷ so.jobs;
      run = (old, new, so.run, is, asks_nothing tells new);
      settling = λ told. settles_on s shard ran.job.position old.keepers.told new.keepers.told
          (repaired_done tells s shard old new told ran match (kept told) is) start.keepers.told match (kept told) (so.none told) (so.settling told);
      none = λ told. none_below s shard ran.job.position old.keepers.told new.keepers.told
          (repaired_done tells s shard old new told ran match (kept told) is) (so.none told);
      keepers = record { calls = let a = so.keepers in omega arith; faults = let a = so.keepers in omega arith };
    }

    pub none_left : WhereTold tells (HasNoneUpTo s new.keepers.told shard ran.job.position)
    none_left = λ told. none_up_to s shard ran.job.position old.keepers.told new.keepers.told
        (repaired_done tells s shard old new told ran match (kept told) is)

    pub not_again : (last : ℕ) → WhereTold tells (HasNoneUpTo s old.keepers.told shard last) → ran.job.position ≤ last → tells ≡ true → ⊥
    not_again last none le told = not_before s shard ran.job.position old.keepers.told new.keepers.told
        (repaired_done tells s shard old new told ran match (kept told) is) last (none told) le

  -- no more jobs of the shard
  none_more : shard < s.shards → tells ≡ true → HaveNoneBelow s old.keepers.told shard → FindsNoJob tells s shard old new
      → HaveNoneBelow s new.keepers.told (shard + 1)
  none_more here told none finds =
      let same : old.keepers.told ≡ new.keepers.told = λ i at. sym (finds.asks.nodes.tables told at) i in
      subst (λ t. HaveNoneBelow s t (shard + 1)) same (λ lower position lt. elim (cases_lt lower shard) [
        | inl below ↦ none lower position below
        | inr past ↦ (
            let at : shard ≡ lower = omega (arith, lt, past) in
            subst (λ n. (stores_in s old.keepers.told).job n position ≡ None) at
            ((tables_are_stores (masters_of s) old.keepers.told).job_is shard position here ∙ finds.none told position))
      ])

  pub no_more : shard < s.shards → FindsNoJob tells s shard old new → IsLater old.keepers new.keepers → (start : World)
      → RunsTo tells s shard start old → RunsTo tells s (shard + 1) start new
  no_more here finds later start so = record {
    jobs = so.jobs;
    run = run_and_ask tells s so.jobs start old new so.run finds.asks;
    settling = λ told.
        let same : old.keepers.told ≡ new.keepers.told = λ i at. sym (finds.asks.nodes.tables told at) i in
        subst (AreSettling s start.keepers.told) same (so.settling told);
    none = λ told. none_more here told (so.none told) finds;
    keepers = record { calls = let a = so.keepers in omega arith; faults = let a = so.keepers in omega arith };
  }

  -- one that isn't run stops it
  pub stops_run : (r : Refusal) (given : SettleStop) → shard < s.shards → StopsAsRefused shard r given → IsNotRepaired tells s shard r old new
      → (start : World) → RunsTo tells s shard start old → StopsRun tells s given start new
  stops_run r given here is stops start so = record {
    shard = shard;
    refusal = r;
    jobs = so.jobs;
    between = old;
    here = here;
    given_is = is;
    run = so.run;
    none = so.none;
    stops = stops;
    cause = has_cause tells s shard old new start r (run_on tells s so.jobs start old so.run) so.keepers stops;
    settles = λ told. settles_to s shard start.keepers.told old.keepers.told new.keepers.told (so.none told) (so.settling told)
        (halfway tells s shard old new told r stops);
  }

-- a keeper that tells its tables gives no job twice
pub given_again : (tells : Bool) (s : Settings) (shard : ℕ) (start now : World) → (tells ≡ true → ⊥) → RunsTo tells s shard start now
    → RunsTo tells s (shard + 1) start now
given_again tells s shard start now untold so = record {
  jobs = so.jobs;
  run = so.run;
  settling = so.settling;
  none = λ told. absurd (untold told);
  keepers = so.keepers;
}

-- no position is 0
pub none_at_zero : (tells : Bool) (s : Settings) (tables : Tables) (shard : ℕ) → WhereTold tells (AreKeptIn s tables)
    → WhereTold tells (HasNoneUpTo s tables shard 0)
none_at_zero tells s tables shard kept = λ told position le.
    let at : 0 ≡ position = omega (arith, le) in
    subst (λ n. (stores_in s tables).job shard n ≡ None) at (first_none ((stores_in s tables).job shard 0) refl told)
  where
    first_none : (found : Option (List EdgeUpdate)) → (stores_in s tables).job shard 0 ≡ found → tells ≡ true → (stores_in s tables).job shard 0 ≡ None
    first_none None is told = is
    first_none (Some us) is told =
        let stands = (job_found (types_of s.schema) (stores_in s tables) shard 0 us (kept told) is).stands in
        absurd (cc)

-- it begins
pub runs_none : (tells : Bool) (s : Settings) (start : World) → RunsTo tells s 0 start start
runs_none tells s start = record {
  jobs = [];
  run = asks_nothing tells start;
  settling = λ told. ([], settles_in_order.begins (types_of s.schema) (stores_in s start.keepers.told));
  none = λ told lower position lt. absurd (omega (arith, lt));
  keepers = later_self start.keepers;
}

-- and ends behind the last shard
pub runs_all : (tells : Bool) (s : Settings) (start now : World) → WhereTold tells (AreKeptIn s now.keepers.told)
    → RunsTo tells s s.shards start now → RunsAll tells s start now
runs_all tells s start now kept so = record {
  jobs = so.jobs;
  run = so.run;
  settles = λ told.
      let far = so.settling told in
      settles_in_order.stops (types_of s.schema) (stores_in s start.keepers.told) (stores_in s now.keepers.told) far.0 far.1;
  none = λ told.
      let tables = now.keepers.told in
      let long = each_length (master_log s tables) 0 s.shards in
      settles_in_order.ends (types_of s.schema) (stores_in s tables) (kept told) (λ shard position lt. so.none told shard position (omega (arith, lt, long)));
}
