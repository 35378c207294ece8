-- A call that isn't held: all of its stages, from its beginning to its reply.
use Rattle.std.proofs.Common.{◌≡◌, ◌<◌, ◌∙◌, ℕ, true, List, [], Option, Some, None, refl, sym, ap, subst, arith}
use Rattle.std.specs.Option.{option_map}
use Rattle.std.specs.Prelude.{Contains, IfSome, option_and_then}
use Rattle.core_model.specs.Consistent.{IsConsistent}
use Rattle.core_model.specs.Stores.{AreKeptIn, master_log, stores_in}
use Rattle.core_plans.proofs.InTurn.{read_same}
use Rattle.core_plans.proofs.Missing.{nothing_is_missed_later}
use Rattle.core_plans.proofs.WholeRuns.{OfRead, OfWrite, read_keeps, write_keeps}
use Rattle.core_plans.specs.Held.{StepsReadAlone, learnt_here, learnt_of_write, learnt_with}
use Rattle.core_plans.specs.HeldReads.{EndsLegally, HasComeTo, version_now}
use Rattle.core_plans.specs.HeldWrites.{IsWriteUnderWay}
use Rattle.core_plans.specs.LedBy.{rules_of}
use Rattle.core_plans.specs.WholeCalls.{CarriesOut, PassesStage}
use Rattle.core_plans.specs.declared.held.HeldPlan.{HeldPlan}
use Rattle.core_plans.specs.declared.held.HeldPlan.TheVariants as of
use Rattle.core_steps.specs.OtherEnds.{learnt_entry_of}
use Rattle.core_steps.specs.World.{World}
use Rattle.graph_model.specs.Log.{version}
use Rattle.plain_promise.specs.Promise.{Begun, EachGrows, Logs, floor_at_start, log_read}
use Rattle.promise_kept.proofs.Adding.{adds_same, none_in}
use Rattle.promise_kept.proofs.Commits.{write_of}
use Rattle.promise_kept.proofs.Entries.{HasFewTouches, entry_few}
use Rattle.promise_kept.proofs.Going.{each_grows, grows_on, log_is}
use Rattle.promise_kept.proofs.Learning.{AreFewLearnt, as_learnt, has_learnt, learnt_after}
use Rattle.promise_kept.proofs.Refusing.{EndsRefused, stage_refuses}
use Rattle.promise_kept.proofs.WriteStages.{IsRefusedSo, Ran, WritesSoFar}
use Rattle.promise_kept.proofs.WritesOn.{writes_on}
use Rattle.promise_kept.specs.Seen.{HasLast, HasWritten, IsAnsweredFor, IsReadFor, IsLearnt}
use Rattle.read_plan.specs.Ends.{EndsAt}
use Rattle.read_plan.specs.Readings.{Reading}
use Rattle.read_plan.specs.declared.standing.Standing.TheVariants.{Looking}
use Rattle.replies.specs.declared.calls.CallReply.TheVariants as called
use Rattle.replies.specs.declared.reply.Reply.{Reply}
use Rattle.replies.specs.declared.reply.Reply.TheVariants.{Called}
use Rattle.request_check.specs.declared.checked.CheckedRead.{CheckedRead}
use Rattle.request_check.specs.declared.checked.CheckedWrite.{CheckedWrite}
use Rattle.shard_log.specs.View.{View}
use Rattle.tao_base.specs.Queries.{query_key, query_shard}
use Rattle.tao_base.specs.Writes.{write_shard}
use Rattle.tao_base.specs.declared.entry.Entry.{Entry}
use Rattle.tao_base.specs.declared.entry.Origin.TheVariants.{Client}
use Rattle.tao_core.specs.Core.{author}
use Rattle.tao_keeper.proofs.Later.{keeps_trans}
use Rattle.tao_keeper.specs.KeeperState.{KeeperState, KeepsTables}
use Rattle.tao_schema.specs.Schema.{types_of}
use Rattle.topology.specs.Config.{Settings}
use Rattle.write_model.specs.Merges.{log_of}
use Rattle.write_plan.specs.Plans.{Writing, reply_after}
use Rattle.write_plan.specs.declared.committed.Committed.{Committed}

-- ---- a read

-- one stage of a read keeps what is so of it; that it has the last version is another matter
pub read_steps : (s : Settings) (p q : Reading) (old new : World) (began : Begun) (read : CheckedRead)
    → IsReadFor s old.keepers began read p → HasLast s new.keepers began.settled q → StepsReadAlone (rules_of true s) p old q new
    → IsReadFor s new.keepers began read q
read_steps s p q old new began read under last steps =
    let same = read_same p q old new (rules_of true s) steps.steps.does in
    record {
      query_is = same.query ∙ under.query_is;
      critical_is = same.critical ∙ under.critical_is;
      floor_is = same.floor ∙ under.floor_is;
      reader_is = same.reader ∙ under.reader_is;
      whole = steps.steps.whole (version (log_read began.logs read) (query_key read.query)) under.whole;
      last = last;
    }

-- where nothing was settled there is nothing to have
unsettled_last : (s : Settings) (keepers : KeeperState) (q : Reading) → HasLast s keepers None q
unsettled_last s keepers q logs is same = absurd (cc)

-- what is so of a read after each of its stages, where no settle counts
pub record ReadsSoFar (s : Settings) (began : Begun) (read : CheckedRead) (start : World) (q : Reading) (now : World) : Type 0 where
  pub for_call : IsReadFor s now.keepers (record began { settled = None }) read q
  pub legal : EndsLegally true s q now
  pub so : EndsRefused q.at
  pub tables : KeepsTables true start.keepers now.keepers

reads_on : (s : Settings) (began : Begun) (read : CheckedRead) (start : World) (p q : Reading) (old new : World)
    → ReadsSoFar s began read start p old → PassesStage (rules_of true s) (of.Read p) old (of.Read q) new → ReadsSoFar s began read start q new
reads_on s began read start p q old new so stage = record {
  for_call = read_steps s p q old new (record began { settled = None }) read so.for_call (unsettled_last s new.keepers q) stage.steps;
  legal = stage.steps.steps.legal;
  so = stage_refuses (rules_of true s) p q old new stage.steps.steps.does;
  tables = keeps_trans true start.keepers old.keepers new.keepers so.tables stage.steps.tables;
}

-- a read that begins at its session's floor misses nothing that stands
pub read_begins : (s : Settings) (keepers : KeeperState) (began : Begun) (read : CheckedRead) (p : Reading) → query_shard read.query < s.shards
    → began.logs ≡ (stores_in s keepers.told).logs → p.query ≡ read.query → p.critical ≡ read.critical
    → p.floor ≡ floor_at_start began (query_key read.query) → p.reader ≡ Some read.session → p.at ≡ Looking → IsReadFor s keepers began read p
read_begins s keepers began read p here logs query critical least reader at =
    let key = query_key read.query in
    let shard = query_shard read.query in
    let stands : version (log_read began.logs read) key ≡ version_now s p keepers =
    ap (λ (l : Logs). version (log_of l shard) key) logs ∙ ap (λ l. version l key) (log_is s keepers.told shard here)
    ∙ ap (λ query. version (master_log s keepers.told (query_shard query)) (query_key query)) (sym query) in
    record {
      query_is = query;
      critical_is = critical;
      floor_is = least;
      reader_is = reader;
      whole = nothing_is_missed_later.begun true s (version (log_read began.logs read) key) p keepers at (omega (arith, stands));
      last = λ settled is same. subst (HasComeTo (version_now s p keepers) (version_now s p keepers)) (sym at) (omega arith);
    }

pub reads_at_once : (s : Settings) (began : Begun) (read : CheckedRead) (p : Reading) (start : World) (q : HeldPlan) (end : World)
    → IsReadFor s start.keepers (record began { settled = None }) read p → p.at ≡ Looking
    → CarriesOut (rules_of true s) (of.Read p) start q end → OfRead (ReadsSoFar s began read start) q end
reads_at_once s began read p start q end begins at carries =
    read_keeps (rules_of true s) (ReadsSoFar s began read start) (reads_on s began read start) carries.stages p q start end
    (record {
      for_call = begins;
      legal = λ reply ends. absurd (subst (λ a. EndsAt a p (Called (called.Read reply))) at ends);
      so = subst EndsRefused (sym at) tt;
      tables = λ told here. refl;
    }) carries.passes

-- ---- a write

-- what is so of a write after each of its stages
pub record WritesThrough (s : Settings) (began : Begun) (write : CheckedWrite) (start : Logs) (q : Writing) (now : World) : Type 0 where
  pub so : WritesSoFar s began write start q now.keepers
  pub under : IsWriteUnderWay true s now.keepers.told now.fleet q
  pub are : IsConsistent true s now.keepers.told now.fleet
  pub grew : EachGrows began.logs (stores_in s now.keepers.told).logs

goes_through : (s : Settings) (began : Begun) (write : CheckedWrite) (start : Logs) (p q : Writing) (old new : World)
    → WritesThrough s began write start p old → PassesStage (rules_of true s) (of.Write p) old (of.Write q) new
    → WritesThrough s began write start q new
goes_through s began write start p q old new through stage =
    let grows = each_grows s old.keepers.told new.keepers.told stage.on.grows.on.logs in
    record {
      so = writes_on s p q old new began write start through.so
          (record { grows = grows; was = through.are.stores.kept refl; now = stage.on.consistent.stores.kept refl }) through.under through.grew stage.steps;
      under = stage.under_way;
      are = stage.on.consistent;
      grew = grows_on began.logs (stores_in s old.keepers.told).logs (stores_in s new.keepers.told).logs through.grew grows;
    }

pub writes_at_once : (s : Settings) (began : Begun) (write : CheckedWrite) (start : Logs) (p : Writing) (old : World) (q : HeldPlan)
    (new : World) → WritesThrough s began write start p old → CarriesOut (rules_of true s) (of.Write p) old q new
    → OfWrite (WritesThrough s began write start) q new
writes_at_once s began write start p old q new begins carries =
    write_keeps (rules_of true s) (WritesThrough s began write start) (goes_through s began write start) carries.stages p q old new begins
    carries.passes

-- ---- what a write tells its session

module _ (s : Settings) (began : Begun) (write : CheckedWrite) (start : Logs) (q : Writing) (keepers : KeeperState)
    (so : WritesSoFar s began write start q keepers) (kept : AreKeptIn s keepers.told) where
  entry_told : (entry : Option Entry) (shard : ℕ) → write_shard write.write ≡ shard → HasWritten s (stores_in s keepers.told) began write entry
      → IfSome entry (HasFewTouches shard)
  entry_told None shard is had = tt
  entry_told (Some e) shard is stood = subst (λ n. HasFewTouches n e) is
      (entry_few (types_of s.schema) (write_shard write.write) (log_of (stores_in s keepers.told).logs (write_shard write.write))
      (kept.sound (write_shard write.write)) e.position e stood.stands)

  noted : (shard : ℕ) (note : View) (entry : Option Entry) → IfSome entry (HasFewTouches shard)
      → IfSome (option_map (as_learnt shard note) entry) (λ t. HasFewTouches t.shard t.entry)
  noted shard note None few = tt
  noted shard note (Some e) few = few

  here_by : (committed : Option Committed) → IfSome committed (IsAnsweredFor s (stores_in s keepers.told) began write q.job)
      → IfSome (option_and_then (λ (c : Committed). learnt_entry_of (write_shard q.write) c.wrote) committed) (λ t. HasFewTouches t.shard t.entry)
  here_by None answered = tt
  here_by (Some c) answered = noted (write_shard q.write) c.wrote.note c.wrote.entry
      (entry_told c.wrote.entry (write_shard q.write) (ap write_shard (sym so.for_call.write_is)) answered.written)

  pub here_few : IfSome (learnt_here q) (λ t. HasFewTouches t.shard t.entry)
  here_few = here_by q.committed so.for_call.answered

-- with its reply
pub few_with : (reply : Reply) (q : Writing) → AreFewLearnt (learnt_of_write q) → AreFewLearnt (learnt_with reply (of.Write q))
few_with (Called reply) q few = few
few_with reply q few = record { here = tt; other = tt }

-- the session of a write that was carried out has learnt of what it tells
pub has_all_learnt : (s : Settings) (began : Begun) (write : CheckedWrite) (start : Logs) (q : Writing) (keepers : KeeperState)
    → WritesSoFar s began write start q keepers → (reply : Reply) (learnt : ℕ → List Entry) (c : Committed) → reply ≡ reply_after c q.job q.hops
    → (e : Entry) → IsLearnt (learnt_of_write q) e
    → Contains (learnt_after (author q.origin) (learnt_with reply (of.Write q)) learnt write.session) e
has_all_learnt s began write start q keepers so reply learnt c reply_is e told =
    subst (λ n. Contains (learnt_after (author q.origin) (learnt_with reply (of.Write q)) learnt n) e) (ap author so.for_call.origin_is)
    (has_learnt (author q.origin) (learnt_with reply (of.Write q)) learnt e
    (subst (λ r. IsLearnt (learnt_with r (of.Write q)) e) (sym reply_is) told))

-- a write of which nothing was done
pub write_begins : (s : Settings) (keepers : KeeperState) (began : Begun) (write : CheckedWrite) (p : Writing) → p.write ≡ write.write
    → p.origin ≡ Client write.session write.seq → p.committed ≡ None → p.refused ≡ None → p.other ≡ None → began.added ≡ []
    → WritesSoFar s began write (stores_in s keepers.told).logs p keepers
write_begins s keepers began write p write_is origin_is none unrefused unknown nothing = record {
  for_call = record {
    write_is = write_is;
    origin_is = origin_is;
    answered = subst (λ c. IfSome c (IsAnsweredFor s (stores_in s keepers.told) began write p.job)) (sym none) tt;
    added = λ e has. absurd (none_in e (subst (λ es. Contains es e) nothing has));
    due = λ is. unknown;
  };
  ran = subst (λ c. Ran (types_of s.schema) (stores_in s keepers.told).logs (write_of write) (stores_in s keepers.told).logs c p.job) (sym none) refl;
  adds = adds_same (stores_in s keepers.told).logs (stores_in s keepers.told).logs (learnt_of_write p) refl;
  refused = subst (λ r. IfSome r (IsRefusedSo (stores_in s keepers.told).logs write (stores_in s keepers.told).logs)) (sym unrefused) tt;
}
