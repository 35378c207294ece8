-- What the replies to the words of stores say.
use Rattle.std.specs.Prelude.{ℕ, ◌≡◌, Bool, List, length}
use Rattle.counts.specs.Count.{Rose}
use Rattle.core_model.specs.Stores.{master_log, region_store}
use Rattle.graph_model.specs.Answers.{answer}
use Rattle.graph_model.specs.Told.{WhereTold}
use Rattle.replies.specs.declared.refusals.Refusal.TheVariants.{Store, Memory}
use Rattle.replies.specs.declared.refusals.StoreRefused.{StoreRefused}
use Rattle.replies.specs.declared.refusals.StoreRefused.TheVariants.{KeeperFault}
use Rattle.replies.specs.declared.reply.Reply.{Reply}
use Rattle.replies.specs.declared.reply.Reply.TheVariants.{Audited, Refused}
use Rattle.request_check.specs.declared.checked.CheckedRead.{CheckedRead}
use Rattle.request_check.specs.declared.stores.CheckedStore.{CheckedStore}
use Rattle.request_check.specs.declared.stores.CheckedStore.TheVariants as asked
use Rattle.tao_base.specs.EdgeTypes.{EdgeTypes}
use Rattle.tao_base.specs.Keys.{key_shard}
use Rattle.tao_base.specs.Queries.{query_key}
use Rattle.tao_base.specs.declared.entry.Entry.{Entry}
use Rattle.tao_base.specs.declared.query.Answer.{Answer}
use Rattle.tao_base.specs.declared.query.Query.{Query}
use Rattle.tao_keeper.specs.KeeperState.{KeeperState, KeepsTables}
use Rattle.tao_keeper.specs.declared.keeper.KeepFail.{KeepFail}
use Rattle.tao_keeper.specs.declared.keeper.KeepFail.TheVariants as keep
use Rattle.tao_schema.specs.Schema.{types_of}
use Rattle.topology.specs.Config.{Settings}
use Rattle.tao_core.specs.Core.{Moment}
use Rattle.tao_core.specs.Settling.{AnswersRepair, AnswersSettle}
use Rattle.tao_core.specs.Streams.{AnswersStream, asked_stream}
use Rattle.tao_core.specs.Trims.{AnswersTrim}

-- ---- refusals

-- a call of a keeper failed: the count that the reply says rose, and no table changed
pub record KeeperFails (tells : Bool) (old new : KeeperState) (count : ℕ) : Type 0 where
  pub count_is : count ≡ new.faults
  pub rose : Rose old.faults new.faults
  pub tables : KeepsTables tells old new

-- there was no memory before anything was committed
pub record LacksMemory (tells : Bool) (old new : KeeperState) (position : ℕ) : Type 0 where
  pub position_is : position ≡ 0
  pub tables : KeepsTables tells old new

-- how a keeper's failure is replied, where the keepers have counted so many faults
abbrev pub failed_as : ℕ → KeepFail → Reply
failed_as faults keep.Failed = Refused (Store (KeeperFault faults))
failed_as faults keep.OutOfMemory = Refused (Memory 0)

-- ---- audits

-- the answer is that of the log, which has so many entries
pub record IsAudit (types : EdgeTypes) (log : List Entry) (asked : Query) (given : Answer) (position : ℕ) : Type 0 where
  pub answer_is : given ≡ answer types log asked
  pub position_is : position ≡ length log

-- the log of a query's shard
abbrev pub log_for : Settings → KeeperState → Query → List Entry
log_for s keepers asked = master_log s keepers.told (key_shard (query_key asked))

-- a read is refused by a fault that came now, and in no other way
abbrev pub AuditRefused : Bool → KeeperState → StoreRefused → KeeperState → Type 0
AuditRefused tells old (KeeperFault count) new = KeeperFails tells old new count
AuditRefused tells old refused new = ⊥

-- what the reply to an audit says
abbrev pub AnswersAudit : Bool → Settings → KeeperState → CheckedRead → Reply → KeeperState → Type 0
AnswersAudit tells s old call (Audited given position) new =
    WhereTold tells (IsAudit (types_of s.schema) (log_for s old call.query) call.query given position) × KeepsTables tells old new
AnswersAudit tells s old call (Refused (Store refused)) new = AuditRefused tells old refused new
AnswersAudit tells s old call (Refused (Memory position)) new = LacksMemory tells old new position
AnswersAudit tells s old call reply new = ⊥

-- ---- stores

-- what the reply to what is asked of stores says
abbrev pub AnswersStore : Bool → CheckedStore → Moment → Reply → Moment → Type 0
AnswersStore tells (asked.Stream region shard position) old reply new = AnswersStream tells (asked_stream region shard position) old reply new
AnswersStore tells (asked.Trim region shard position) old reply new = AnswersTrim tells (region_store region shard) position old reply new
AnswersStore tells (asked.Repair shard) old reply new = AnswersRepair tells shard old reply new
AnswersStore tells asked.Settle old reply new = AnswersSettle tells old reply new
AnswersStore tells (asked.Audit call) old reply new =
    AnswersAudit tells old.core.settings old.keepers call reply new.keepers × (new ≡ record old { keepers = new.keepers })
