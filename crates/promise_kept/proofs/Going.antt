-- Logs only grow, and are well kept after each line; what is settled stays so until one grows.
use Rattle.std.proofs.Common.{◌≡◌, ◌<◌, ◌≤◌, ◌∙◌, ℕ, List, [], Option, true, length, length-take, take, refl, sym, ap, subst, arith, inl, inr}
use Rattle.std.proofs.lemmas.Bool.{cases_lt}
use Rattle.std.proofs.lemmas.List.{get_or_past, take_all}
use Rattle.core_model.specs.States.{HaveSameLogs}
use Rattle.core_model.specs.Stores.{master_log, master_store, masters_of, stores_in}
use Rattle.master_tables.proofs.Calls.{tables_are_stores}
use Rattle.master_tables.proofs.Each.{each_length}
use Rattle.plain_promise.proofs.PromiseLaws.{grown_by}
use Rattle.plain_promise.specs.Promise.{AreSameLogs, EachGrows, IsWellKept, Logs}
use Rattle.promise_kept.proofs.Entries.{each_once}
use Rattle.promise_kept.specs.Lines.{GoesOnUsable}
use Rattle.promise_kept.specs.Seen.{IsSettledSince, stores_at}
use Rattle.shard_log.proofs.Beginnings.{begins-trans}
use Rattle.tao_base.specs.declared.entry.Entry.{Entry}
use Rattle.tao_core.proofs.SettledLaws.{settled_until_a_commit}
use Rattle.tao_core.specs.Core.{IsConsistentCore, Moment}
use Rattle.tao_keeper.specs.Growing.{LogsGrow}
use Rattle.tao_keeper.specs.KeeperState.{KeeperState, KeepsTables}
use Rattle.tao_keeper.specs.Table.{Tables}
use Rattle.tao_schema.specs.Schema.{types_of}
use Rattle.topology.specs.Config.{Settings}
use Rattle.write_model.proofs.Growing.{Grown}
use Rattle.write_model.specs.Merges.{Stores, log_of}

-- ---- the log of a shard

-- it is that of the shard's master
pub log_is : (s : Settings) (tables : Tables) (shard : ℕ) → shard < s.shards → log_of (stores_in s tables).logs shard ≡ master_log s tables shard
log_is s tables shard here = (tables_are_stores (masters_of s) tables).log_is shard here

-- a shard that isn't configured has no entry
log_none : (s : Settings) (tables : Tables) (shard : ℕ) → s.shards ≤ shard → log_of (stores_in s tables).logs shard ≡ []
log_none s tables shard past =
    let long = each_length (λ n. (tables (master_store s n)).log) 0 s.shards in
    get_or_past (stores_in s tables).logs shard [] (omega (arith, long, past))

-- tables that stay have the same logs
pub same_logs : (s : Settings) (old new : KeeperState) → KeepsTables true old new → (stores_in s new.told).logs ≡ (stores_in s old.told).logs
same_logs s old new keeps = let same : new.told ≡ old.told = λ i at. keeps refl at i in ap (λ t. (stores_in s t).logs) same

-- ---- growing

-- where the keepers' logs grew
pub each_grows : (s : Settings) (old new : Tables) → LogsGrow true old new → EachGrows (stores_in s old).logs (stores_in s new).logs
each_grows s old new grows shard = elim (cases_lt shard s.shards) [
  | inl here ↦
      subst (λ l. l ≡ take (length l) (log_of (stores_in s new).logs shard)) (sym (log_is s old shard here))
      (subst (λ l. master_log s old shard ≡ take (length (master_log s old shard)) l) (sym (log_is s new shard here))
      (grows.begins refl (master_store s shard)))
  | inr past ↦ subst (λ l. l ≡ take (length l) (log_of (stores_in s new).logs shard)) (sym (log_none s old shard past)) refl
]

pub grows_same : (old new : Logs) → new ≡ old → EachGrows old new
grows_same old new same shard =
    subst (λ logs. log_of old shard ≡ take (length (log_of old shard)) (log_of logs shard)) (sym same)
    (sym (take_all (length (log_of old shard)) (log_of old shard) (omega arith)))

pub grows_on : (old mid new : Logs) → EachGrows old mid → EachGrows mid new → EachGrows old new
grows_on old mid new first second shard = begins-trans (log_of old shard) (log_of mid shard) (log_of new shard) (first shard) (second shard)

-- a log is no shorter than its beginning
pub begins_shorter : (old new : List Entry) → old ≡ take (length old) new → length old ≤ length new
begins_shorter old new begins = let long = ap length begins ∙ length-take (length old) new in omega (arith, long)

-- what only grew, and is at last as it was, was so between
between_same : (old mid new : List Entry) → old ≡ take (length old) mid → mid ≡ take (length mid) new → new ≡ old → mid ≡ old
between_same old mid new first second same =
    let lower = begins_shorter old mid first in
    let upper = begins_shorter mid new second in
    let long = ap length same in
    let one : length old ≡ length mid = omega (arith, lower, upper, long) in
    sym (first ∙ ap (λ n. take n mid) one ∙ take_all (length mid) mid (omega arith))

-- ---- what is so after each line

pub well_kept : (m : Moment) → IsConsistentCore true m.keepers.told m.core → IsWellKept (types_of m.core.settings.schema) (stores_at m)
well_kept m are =
    let kept = are.consistent.stores.kept refl in
    record {
      once = λ shard. each_once (log_of (stores_at m).logs shard) (kept.sound shard).sound;
      owed = λ shard. (kept.covered.each shard).owed;
    }

-- ---- from one line to the next

module _ (old new : Moment) (on : GoesOnUsable old new) where
  pub stores_are : stores_at new ≡ stores_in old.core.settings new.keepers.told
  stores_are = ap (λ s. stores_in s new.keepers.told) on.after.settings

  pub logs_grow : EachGrows (stores_at old).logs (stores_at new).logs
  logs_grow = subst (λ (now : Stores). EachGrows (stores_at old).logs now.logs) (sym stores_are)
      (each_grows old.core.settings old.keepers.told new.keepers.told on.after.grows.logs)

  pub logs_grown : Grown (log_of (stores_at old).logs) (log_of (stores_at new).logs)
  logs_grown = grown_by (stores_at old).logs (stores_at new).logs logs_grow

  pub kept_now : IsWellKept (types_of old.core.settings.schema) (stores_at new)
  kept_now = subst (λ (s : Settings). IsWellKept (types_of s.schema) (stores_at new)) on.after.settings (well_kept new on.after.keepers.is_consistent)

  -- the log of a shard, by the settings as they were
  pub log_now : (shard : ℕ) → shard < old.core.settings.shards
      → log_of (stores_at new).logs shard ≡ master_log old.core.settings new.keepers.told shard
  log_now shard here = ap (λ (now : Stores). log_of now.logs shard) stores_are ∙ log_is old.core.settings new.keepers.told shard here

  -- no log grew
  pub have_same : AreSameLogs (stores_at old).logs (stores_at new).logs → HaveSameLogs old.core.settings old.keepers.told new.keepers.told
  have_same same shard here = sym (log_now shard here) ∙ same shard ∙ log_is old.core.settings old.keepers.told shard here

  -- logs that only grew, and are as they were, were so before
  pub were_same : (logs : Logs) → EachGrows logs (stores_at old).logs → AreSameLogs logs (stores_at new).logs → AreSameLogs logs (stores_at old).logs
  were_same logs grew same shard =
      between_same (log_of logs shard) (log_of (stores_at old).logs shard) (log_of (stores_at new).logs shard) (grew shard) (logs_grow shard) (same shard)

  pub stay_same : (logs : Logs) → EachGrows logs (stores_at old).logs → AreSameLogs logs (stores_at new).logs
      → AreSameLogs (stores_at old).logs (stores_at new).logs
  stay_same logs grew same shard = same shard ∙ sym (were_same logs grew same shard)

  -- what is settled stays so until a log grows
  pub settled_rests : (settled : Option Logs) → IsSettledSince old settled → IsSettledSince new settled
  settled_rests settled was = record {
    grows = λ logs is. grows_on logs (stores_at old).logs (stores_at new).logs (was.grows logs is) logs_grow;
    rests = λ logs is same.
        settled_until_a_commit.stays old new on.before.is_consistent on.after.keepers.is_consistent on.after.settings on.after.goes on.after.comes
        on.after.grows (have_same (stay_same logs (was.grows logs is) same))
        (was.rests logs is (were_same logs (was.grows logs is) same));
  }
