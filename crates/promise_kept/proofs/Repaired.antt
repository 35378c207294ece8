-- What a repair merges and says, in the words of the promise.
use Rattle.std.specs.Prelude.{⊤}
use Rattle.std.proofs.Common.{◌≡◌, ℕ, zero, suc, ◌<◌, ◌≤◌, true, Option, Some, None, Result, Ok, Err, inl, inr, refl, sym, ap, ◌∙◌, subst, arith}
use Rattle.std.proofs.lemmas.Bool.{cases_lt}
use Rattle.std.proofs.lemmas.Option.{same_Some}
use Rattle.core_model.specs.Jobs.{EndsOwed, IsFirstJobOf, MergesOwed, OwesShardJob, ShardJob, job_on}
use Rattle.core_model.specs.Stores.{masters_of, stores_in}
use Rattle.tao_core.specs.core_repairs.Repairs.{FailsToEnd, FailsToMerge, FindsNoJob, IsNotRepaired, IsRepaired, OnlyAsks, RepairsFirst, StopsRepair}
use Rattle.tao_core.specs.core_repairs.declared.repairs.Ran.{Ran}
use Rattle.core_steps.specs.World.{World}
use Rattle.edge_repair.specs.declared.refusal.RepairRefusal.{RepairRefusal}
use Rattle.edge_repair.specs.declared.refusal.RepairRefusal.TheVariants.{KeeperFault, LinkFault, LogFull, OutOfMemory}
use Rattle.graph_model.specs.Log.{entry_at}
use Rattle.master_tables.proofs.Calls.{tables_are_stores}
use Rattle.plain_promise.specs.Promise.{IsRepairedUpTo, RepairsAlone}
use Rattle.replies.specs.declared.refusals.NodeRefused.TheVariants.{NoServer}
use Rattle.replies.specs.declared.refusals.Refusal.{Refusal}
use Rattle.replies.specs.declared.refusals.Refusal.TheVariants.{Memory, Node as OfNode, Store as OfStore}
use Rattle.replies.specs.declared.refusals.StoreRefused.TheVariants as refused
use Rattle.tao_keeper.specs.Table.{Tables}
use Rattle.tao_keeper.specs.declared.jobs.Job.{Job}
use Rattle.tao_schema.specs.Schema.{types_of}
use Rattle.topology.specs.Config.{Settings}
use Rattle.write_model.specs.Machine.{MergesNews}
use Rattle.write_model.specs.Merges.{JobSource, Stores, log_of}
use Rattle.write_model.specs.Steps.{IsOwed}

-- what owes a job is one
same_owed : (s : Settings) (j : ShardJob) (tables : Tables) (a b : JobSource) → OwesShardJob s j a → OwesShardJob s j b
    → IsOwed (types_of s.schema) (stores_in s tables) a → IsOwed (types_of s.schema) (stores_in s tables) b → a ≡ b
same_owed s j tables a b p q x y =
    let logs = (stores_in s tables).logs in
    let shard : a.shard ≡ b.shard = p.shard_is ∙ sym q.shard_is in
    let position : a.entry.position ≡ b.entry.position = p.position_is ∙ sym q.position_is in
    let other : a.other ≡ b.other = p.other_is ∙ sym q.other_is in
    let there = subst (λ n. entry_at (log_of logs a.shard) n ≡ Some a.entry) position x.stands in
    let here = subst (λ n. entry_at (log_of logs n) b.entry.position ≡ Some a.entry) shard there in
    let entry : a.entry ≡ b.entry = same_Some a.entry b.entry (sym here ∙ y.stands) in
    let epoch : a.epoch ≡ b.epoch = x.epoch_is ∙ sym y.epoch_is in
    λ i. record { shard = shard i; epoch = epoch i; entry = entry i; other = other i }

-- what a repair does to the logs, by the tables before and after it
abbrev RepairsTables : Settings → Tables → Tables → Type 0
RepairsTables s old new = RepairsAlone (types_of s.schema) (stores_in s old) (stores_in s new).logs

-- no table changed
rests : (s : Settings) (old new : Tables) → new ≡ old → RepairsTables s old new
rests s old new same = inl (ap (λ (t : Tables). (stores_in s t).logs) same)

-- the first job was merged
merges_first : (s : Settings) (j : ShardJob) (old new : Tables) → IsFirstJobOf s old j → MergesOwed s old new j → RepairsTables s old new
merges_first s j old new first merges =
    let types = types_of s.schema in
    let one = same_owed s j old merges.owed first.owed merges.of first.of merges.merges.owes first.owes in
    inr (
      first.owed,
      record {
        first = first.first;
        merges = subst (MergesNews types (stores_in s old).logs (stores_in s new).logs) one merges.merges.merges;
      },
    )

-- what the reply says of the jobs
abbrev pub SaysJobs : ℕ → Stores → Result (Option Ran) Refusal → Type 0
SaysJobs shard stores (Ok None) = IsRepairedUpTo shard 0 stores
SaysJobs shard stores (Ok (Some ran)) = IsRepairedUpTo shard ran.job.position stores
SaysJobs shard stores (Err r) = ⊤

-- ---- whatever comes of it

module _ (s : Settings) (shard : ℕ) (old new : World) where
  abbrev Done : Type 0
  Done = RepairsTables s old.keepers.told new.keepers.told

  -- what was merged at tables that are these
  merged_from : (job : Job) (found : Tables) → found ≡ old.keepers.told → IsFirstJobOf s found (job_on shard job)
      → MergesOwed s found new.keepers.told (job_on shard job) → Done
  merged_from job found same first merges =
      subst (λ t. RepairsTables s t new.keepers.told) same (merges_first s (job_on shard job) found new.keepers.told first merges)

  asked_alone : OnlyAsks true old new → Done
  asked_alone asks = rests s old.keepers.told new.keepers.told (λ i at. asks.nodes.tables refl at i)

  not_merged : (refusal : RepairRefusal) → FailsToMerge true s shard refusal old new → Done
  not_merged KeeperFault fails =
      let same : fails.found.told ≡ old.keepers.told = λ i at. fails.finds.tables refl at i in
      elim fails.merges.0 [
        | inl stays ↦ rests s old.keepers.told new.keepers.told ((λ i at. stays refl at i) ∙ same)
        | inr merges ↦ merged_from fails.job fails.found.told same (fails.finds.first refl) (merges refl)
      ]
  not_merged OutOfMemory fails =
      let same : fails.found.told ≡ old.keepers.told = λ i at. fails.finds.tables refl at i in
      elim fails.merges.0 [
        | inl stays ↦ rests s old.keepers.told new.keepers.told ((λ i at. stays refl at i) ∙ same)
        | inr merges ↦ merged_from fails.job fails.found.told same (fails.finds.first refl) (merges refl)
      ]
  not_merged (LogFull count) fails =
      let same : fails.found.told ≡ old.keepers.told = λ i at. fails.finds.tables refl at i in
      let stays : new.keepers.told ≡ fails.found.told = λ i at. fails.merges.1 refl at i in
      rests s old.keepers.told new.keepers.told (stays ∙ same)
  not_merged LinkFault fails =
      let same : fails.found.told ≡ old.keepers.told = λ i at. fails.finds.tables refl at i in
      elim fails.merges [
        | inl there ↦ rests s old.keepers.told new.keepers.told ((λ i at. there.1 refl at i) ∙ same)
        | inr back ↦ merged_from fails.job fails.found.told same (fails.finds.first refl) (back.1 refl)
      ]

  not_ended : FailsToEnd true s shard old new → Done
  not_ended fails =
      let same : fails.found.told ≡ old.keepers.told = λ i at. fails.finds.tables refl at i in
      let stays : fails.merged.told ≡ new.keepers.told = λ i at. sym (fails.stays refl at) i in
      merged_from fails.ran.job fails.found.told same (fails.finds.first refl)
      (subst (λ t. MergesOwed s fails.found.told t (job_on shard fails.ran.job)) stays (fails.merges.0 refl).merges)

  stopped : (refusal : RepairRefusal) → StopsRepair true s shard refusal old new → Done
  stopped refusal (inl asks) = asked_alone asks
  stopped refusal (inr (inl fails)) = not_merged refusal fails
  stopped refusal (inr (inr fails)) = not_ended fails

  not_repaired : (r : Refusal) → IsNotRepaired true s shard r old new → Done
  not_repaired (OfNode (NoServer region)) is = asked_alone is.1.asks
  not_repaired (OfStore (refused.KeeperFault count)) is = stopped KeeperFault is.2
  not_repaired (OfStore (refused.LinkFault count when)) is = not_merged LinkFault is.2
  not_repaired (OfStore (refused.LogFull count)) is = not_merged (LogFull count) is
  not_repaired (Memory position) is = stopped OutOfMemory is.1
  not_repaired r is = absurd is

  -- ---- a job that was run

  module _ (ran : Ran) (is : IsRepaired true s shard ran old new) where
    abbrev j : ShardJob
    j = job_on shard ran.job

    found_is : is.found.told ≡ old.keepers.told
    found_is = λ i at. is.finds.tables refl at i

    first : IsFirstJobOf s old.keepers.told j
    first = subst (λ t. IsFirstJobOf s t j) found_is (is.finds.first refl)

    merges : MergesOwed s old.keepers.told is.merged.told j
    merges = subst (λ t. MergesOwed s t is.merged.told j) found_is (is.merges.0 refl).merges

    ends : EndsOwed s is.merged.told new.keepers.told j
    ends = is.ends refl

    repaired : Done
    repaired =
        subst (λ logs. RepairsAlone (types_of s.schema) (stores_in s old.keepers.told) logs) (sym ends.ends.logs)
        (merges_first s j old.keepers.told is.merged.told first merges)

    -- those before it weren't open
    none_before : (p : ℕ) → p < ran.job.position → (stores_in s old.keepers.told).job shard p ≡ None
    none_before p lt =
        let at = first.of.position_is in
        subst (λ n. (stores_in s old.keepers.told).job n p ≡ None) first.of.shard_is (first.first.first p (omega (arith, lt, at)))

    none_up_to : (p : ℕ) → p ≤ ran.job.position → (stores_in s new.keepers.told).job shard p ≡ None
    none_up_to p le =
        let at = ends.of.position_is in
        elim (cases_lt p ran.job.position) [
          | inl lt ↦ ends.ends.ends.others shard p (λ same here. absurd (omega (arith, lt, at, here))) ∙ merges.merges.jobs shard p ∙ none_before p lt
          | inr ge ↦ (
              let here : ends.owed.entry.position ≡ p = omega (arith, le, ge, at) in
              subst (λ n. (stores_in s new.keepers.told).job n p ≡ None) ends.of.shard_is
              (subst (λ n. (stores_in s new.keepers.told).job ends.owed.shard n ≡ None) here ends.ends.ends.here))
        ]

    -- its entry stands, so its position isn't 0
    not_zero : ran.job.position ≡ 0 → ⊥
    not_zero zero_is =
        let at : first.owed.entry.position ≡ 0 = first.of.position_is ∙ zero_is in
        let none : None ≡ Some first.owed.entry =
        subst (λ n. entry_at (log_of (stores_in s old.keepers.told).logs first.owed.shard) n ≡ Some first.owed.entry) at first.owes.stands in
        cc (none)

    up_to : (position : ℕ) → ran.job.position ≡ position → IsRepairedUpTo shard position (stores_in s new.keepers.told)
    up_to zero is_zero = absurd (not_zero is_zero)
    up_to (suc n) is_next = λ p le. none_up_to p (omega (arith, le, is_next))

  -- no job was open
  none_open : shard < s.shards → FindsNoJob true s shard old new → IsRepairedUpTo shard 0 (stores_in s new.keepers.told)
  none_open here finds p =
      let same : new.keepers.told ≡ old.keepers.told = λ i at. finds.asks.nodes.tables refl at i in
      subst (λ t. (stores_in s t).job shard p ≡ None) (sym same)
      ((tables_are_stores (masters_of s) old.keepers.told).job_is shard p here ∙ finds.none refl p)

  -- ---- both

  pub repair_merges : (outcome : Result (Option Ran) Refusal) → RepairsFirst true s shard outcome old new → Done
  repair_merges (Ok None) is = asked_alone is.asks
  repair_merges (Ok (Some ran)) is = repaired ran is
  repair_merges (Err r) is = not_repaired r is

  pub repair_says : (outcome : Result (Option Ran) Refusal) → shard < s.shards → RepairsFirst true s shard outcome old new
      → SaysJobs shard (stores_in s new.keepers.told) outcome
  repair_says (Ok None) here is = none_open here is
  repair_says (Ok (Some ran)) here is = up_to ran is ran.job.position refl
  repair_says (Err r) here is = tt
