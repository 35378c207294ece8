-- The lines of stores: repairs, settles, audits, streams and trims.
use Rattle.std.proofs.Common.{◌≡◌, ℕ, ◌<◌, true, Some, None, Result, Ok, Err, length, refl, sym, ap, ◌∙◌, subst, inl, inr}
use Rattle.std.specs.Prelude.{Option}
use Rattle.core_model.specs.Stores.{master_of, master_store, region_store, stores_in}
use Rattle.core_steps.specs.core_nodes.Streams.{StreamsTo}
use Rattle.tao_core.specs.core_repairs.declared.repairs.Ran.{Ran}
use Rattle.core_steps.specs.Streams.{RefusesStream, StreamsOver}
use Rattle.core_steps.specs.World.{World}
use Rattle.core_steps.specs.declared.streaming.AskedStream.{AskedStream}
use Rattle.graph_model.specs.Answers.{answer}
use Rattle.master_tables.specs.Masters.{each_shard}
use Rattle.plain_promise.specs.Promise.{IsAuditOf, Plain, RepairsAlone, SaysRightly, settled_after}
use Rattle.promise_kept.proofs.Going.{log_is, settled_rests, stores_are}
use Rattle.promise_kept.proofs.Others.{KeepsCalls, keeps_calls, keeps_core, plain_with, steps_so}
use Rattle.promise_kept.proofs.Repaired.{SaysJobs, repair_merges, repair_says}
use Rattle.promise_kept.proofs.Settled.{settled_changes, settled_now, settled_says, settles_now, unsettled, unsettled_keeps}
use Rattle.promise_kept.specs.Lines.{GoesOnUsable, KeepsLine, StepsPlainly}
use Rattle.promise_kept.specs.Seen.{IsPlainOf, IsSettledSince, stores_at}
use Rattle.replies.specs.declared.nodes.NodeReply.TheVariants as node
use Rattle.replies.specs.declared.nodes.StreamVerdict.{StreamVerdict}
use Rattle.replies.specs.declared.nodes.StreamVerdict.TheVariants as verdict
use Rattle.replies.specs.declared.nodes.Streamed.{Streamed}
use Rattle.replies.specs.declared.refusals.NodeRefused.TheVariants.{IsMaster, NoEntry}
use Rattle.replies.specs.declared.refusals.Refusal.{Refusal}
use Rattle.replies.specs.declared.refusals.Refusal.TheVariants.{Memory, Node as OfNode, Store as OfStore}
use Rattle.replies.specs.declared.refusals.StoreRefused.TheVariants as refused
use Rattle.replies.specs.declared.reply.Reply.{Reply}
use Rattle.replies.specs.declared.reply.Reply.TheVariants.{Audited, Node, Refused, Settled}
use Rattle.request_check.specs.declared.checked.Checked.{Checked}
use Rattle.request_check.specs.declared.checked.Checked.TheVariants as asks
use Rattle.request_check.specs.declared.checked.CheckedRead.{CheckedRead}
use Rattle.request_check.specs.declared.stores.CheckedStore.{CheckedStore}
use Rattle.request_check.specs.declared.stores.CheckedStore.TheVariants.{Audit, Repair, Settle, Stream, Trim}
use Rattle.tao_base.specs.Queries.{query_shard}
use Rattle.tao_base.specs.declared.entry.Entry.{Entry}
use Rattle.tao_base.specs.declared.id.StoreName.{StoreName}
use Rattle.tao_base.specs.declared.query.Answer.{Answer}
use Rattle.tao_core.specs.Calls.{world_of}
use Rattle.tao_core.specs.Core.{Moment}
use Rattle.tao_core.specs.Settling.{AnswersRepair, AnswersSettle, repaired_as}
use Rattle.tao_core.specs.StoreReplies.{AnswersAudit, IsAudit, log_for}
use Rattle.tao_core.specs.Streams.{AnswersStream, asked_stream, streamed_as}
use Rattle.tao_core.specs.Trims.{AnswersTrim}
use Rattle.tao_keeper.proofs.Growing.{same_or_other}
use Rattle.tao_keeper.specs.Table.{Becomes, Stays, Table, Tables, after_cut}
use Rattle.topology.specs.Config.{Settings}
use Rattle.tao_schema.specs.Schema.{types_of}
use Rattle.write_model.specs.Machine.{Settles}
use Rattle.write_model.specs.Merges.{Stores}

-- ---- repairs

module _ (shard : ℕ) (old new : Moment) (plain : Plain) (is : IsPlainOf old plain) (on : GoesOnUsable old new) (keeps : KeepsCalls old new)
    (changes : RepairsAlone (types_of old.core.settings.schema) plain.stores (stores_at new).logs) where
  abbrev Asked : Checked
  Asked = asks.Store (Repair shard)

  repaired_so : (reply : Reply) → SaysRightly (types_of old.core.settings.schema) plain Asked reply (plain_with plain new plain.settled)
      → settled_after plain reply (stores_at new).logs ≡ plain.settled → StepsPlainly (Some Asked) old plain reply new
  repaired_so reply says same =
      let back : plain.settled ≡ settled_after plain reply (stores_at new).logs = sym same in
      steps_so old new plain is on keeps Asked reply
      (subst (λ settled. SaysRightly (types_of old.core.settings.schema) plain Asked reply (plain_with plain new settled)) back says) changes (λ plan. refl) (λ session. refl)
      (subst (IsSettledSince new) back (settled_rests old new on plain.settled is.settled))

  repaired_steps : (outcome : Result (Option Ran) Refusal) → SaysJobs shard (stores_at new) outcome
      → StepsPlainly (Some Asked) old plain (repaired_as outcome) new
  repaired_steps (Ok None) says = repaired_so (repaired_as (Ok None)) says refl
  repaired_steps (Ok (Some ran)) says = repaired_so (repaired_as (Ok (Some ran))) says refl
  repaired_steps (Err refusal) says = repaired_so (Refused refusal) tt refl

repair_line : (shard : ℕ) → KeepsLine (asks.Store (Repair shard))
repair_line shard old new plain reply is line =
    let answers : AnswersRepair true shard old reply new = line.answers in
    let on = line.on in
    let s = old.core.settings in
    let now = stores_are old new on in
    let merges = repair_merges s shard (world_of old) (world_of new) answers.outcome answers.repairs in
    let says = repair_says s shard (world_of old) (world_of new) answers.outcome line.can answers.repairs in
    let changes = subst (λ (st : Stores). RepairsAlone (types_of s.schema) plain.stores st.logs) (sym now)
    (subst (λ st. RepairsAlone (types_of s.schema) st (stores_in s new.keepers.told).logs) (sym is.stores) merges) in
    subst (λ r. StepsPlainly (Some (asks.Store (Repair shard))) old plain r new) (sym answers.reply_is)
    (repaired_steps shard old new plain is on (keeps_calls old new answers.rest) changes answers.outcome
    (subst (λ st. SaysJobs shard st answers.outcome) (sym now) says))

-- ---- settles

module _ (old new : Moment) (plain : Plain) (is : IsPlainOf old plain) (on : GoesOnUsable old new) where
  -- what was merged, from the plain state on
  from_plain : Settles (types_of old.core.settings.schema) (stores_at old) (stores_at new).logs
      → Settles (types_of old.core.settings.schema) plain.stores (stores_at new).logs
  from_plain settles = subst (λ st. Settles (types_of old.core.settings.schema) st (stores_at new).logs) (sym is.stores) settles

  settle_steps : (reply : Reply) → AnswersSettle true old reply new → StepsPlainly (Some (asks.Store Settle)) old plain reply new
  settle_steps (Settled logs) answers =
      steps_so old new plain is on (keeps_calls old new answers.rest) (asks.Store Settle) (Settled logs) (settled_says old new on logs answers)
      (from_plain (settled_changes old new on logs answers)) (λ plan. refl) (λ session. refl) (settled_now old new on logs answers)
  settle_steps other answers =
      steps_so old new plain is on (unsettled_keeps old new answers.0 answers.2) (asks.Store Settle) other tt
      (from_plain (settles_now old new on (unsettled old new answers.0 answers.2))) (λ plan. refl) (λ session. refl) (settled_rests old new on plain.settled is.settled)

settle_line : KeepsLine (asks.Store Settle)
settle_line old new plain reply is line = settle_steps old new plain is line.on reply line.answers

-- ---- audits

-- the answer is that of the shard's log
audit_says : (m : Moment) (call : CheckedRead) (given : Answer) (position : ℕ) → query_shard call.query < m.core.settings.shards
    → IsAudit (types_of m.core.settings.schema) (log_for m.core.settings m.keepers call.query) call.query given position
    → IsAuditOf (types_of m.core.settings.schema) (stores_at m).logs call (Audited given position)
audit_says m call given position here audit =
    let types = types_of m.core.settings.schema in
    let whole : Audited given position ≡ Audited (answer types (log_for m.core.settings m.keepers call.query) call.query)
    (length (log_for m.core.settings m.keepers call.query)) = λ i. Audited (audit.answer_is i) (audit.position_is i) in
    record {
      reply_is = subst (λ log. Audited given position ≡ Audited (answer types log call.query) (length log))
          (sym (log_is m.core.settings m.keepers.told (query_shard call.query) here)) whole;
    }

-- where only keepers were asked
module _ (old new : Moment) (plain : Plain) (is : IsPlainOf old plain) (on : GoesOnUsable old new) where
  pub same_stores : Stays old.keepers.told new.keepers.told → (stores_at new).logs ≡ plain.stores.logs
  same_stores stays =
      let tables : new.keepers.told ≡ old.keepers.told = λ i at. stays at i in
      let one : stores_at new ≡ stores_at old = stores_are old new on ∙ ap (stores_in old.core.settings) tables in
      ap (λ (st : Stores). st.logs) (one ∙ sym is.stores)

  module _ (call : CheckedRead) (keeps : KeepsCalls old new) (here : query_shard call.query < old.core.settings.shards) where
    audit_steps : (reply : Reply) → AnswersAudit true old.core.settings old.keepers call reply new.keepers
        → StepsPlainly (Some (asks.Store (Audit call))) old plain reply new
    audit_steps (Audited given position) answers =
        steps_so old new plain is on keeps (asks.Store (Audit call)) (Audited given position)
        (subst (λ (st : Stores). IsAuditOf (types_of old.core.settings.schema) st.logs call (Audited given position)) (sym is.stores)
        (audit_says old call given position here (answers.0 refl)))
        (same_stores (answers.1 refl)) (λ plan. refl) (λ session. refl) (settled_rests old new on plain.settled is.settled)
    audit_steps (Refused (OfStore (refused.KeeperFault count))) answers =
        steps_so old new plain is on keeps (asks.Store (Audit call)) (Refused (OfStore (refused.KeeperFault count))) tt
        (same_stores (answers.tables refl)) (λ plan. refl) (λ session. refl) (settled_rests old new on plain.settled is.settled)
    audit_steps (Refused (Memory position)) answers =
        steps_so old new plain is on keeps (asks.Store (Audit call)) (Refused (Memory position)) tt
        (same_stores (answers.tables refl)) (λ plan. refl) (λ session. refl) (settled_rests old new on plain.settled is.settled)
    audit_steps other answers = absurd answers

audit_line : (call : CheckedRead) → KeepsLine (asks.Store (Audit call))
audit_line call old new plain reply is line =
    let answers : AnswersAudit true old.core.settings old.keepers call reply new.keepers × (new ≡ record old { keepers = new.keepers }) = line.answers in
    audit_steps old new plain is line.on call (keeps_core old new (ap (λ (m : Moment). m.core) answers.1)) line.can reply answers.0

-- ---- streams

-- logs of shards stay where their masters' do
logs_stay : (s : Settings) (old new : Tables) → ((shard : ℕ) → (new (master_store s shard)).log ≡ (old (master_store s shard)).log)
    → (stores_in s new).logs ≡ (stores_in s old).logs
logs_stay s old new same = λ i. each_shard (λ shard. same shard i) 0 s.shards

-- no step of a stream changes one
taken_stream : (s : Settings) (at : StoreName) (e : Entry) (said : StreamVerdict) (old new : Tables) → StreamsTo s at e (Ok said) old new → (shard : ℕ)
    → (new (master_store s shard)).log ≡ (old (master_store s shard)).log
taken_stream s at e verdict.Applied old new streams shard = ap (λ (t : Table). t.log) (streams.1.gains.others (master_store s shard)
    (λ is. absurd (streams.1.slave (subst (λ (x : StoreName). x.region ≡ master_of s x.shard) is refl))))
taken_stream s at e verdict.Old old new streams shard = ap (λ (t : Table). t.log) (streams.1 (master_store s shard))
taken_stream s at e verdict.Gap old new streams shard = ap (λ (t : Table). t.log) (streams.1 (master_store s shard))
taken_stream s at e verdict.None old new streams shard = absurd streams

refused_stream : (s : Settings) (asked : AskedStream) (refusal : Refusal) (old new : World) → RefusesStream true s asked refusal old new
    → Stays old.keepers.told new.keepers.told
refused_stream s asked (OfNode (NoEntry count position)) old new is = is.2.tables refl
refused_stream s asked (OfStore (refused.KeeperFault count)) old new is = is.2.same.tables refl
refused_stream s asked (OfStore (refused.LinkFault count when)) old new is = is.3.tables refl
refused_stream s asked (Memory position) old new is = is.1.same.tables refl
refused_stream s asked other old new is = absurd is

stream_same : (s : Settings) (asked : AskedStream) (result : Result Streamed Refusal) (old new : World) → StreamsOver true s asked result old new
    → (stores_in s new.keepers.told).logs ≡ (stores_in s old.keepers.told).logs
stream_same s asked (Ok streamed) old new (inl nothing) =
    logs_stay s old.keepers.told new.keepers.told (λ shard. ap (λ (t : Table). t.log) (nothing.rest.tables refl (master_store s shard)))
stream_same s asked (Ok streamed) old new (inr step) = logs_stay s old.keepers.told new.keepers.told
    (taken_stream s asked.at step.entry streamed.verdict old.keepers.told new.keepers.told (step.streams refl))
stream_same s asked (Err refusal) old new is = logs_stay s old.keepers.told new.keepers.told
    (λ shard. ap (λ (t : Table). t.log) (refused_stream s asked refusal old new is (master_store s shard)))

module _ (region shard : ℕ) (position : Option ℕ) (old new : Moment) (plain : Plain) (is : IsPlainOf old plain) (on : GoesOnUsable old new) where
  abbrev AskedStep : Checked
  AskedStep = asks.Store (Stream region shard position)

  -- it says nothing of the plain state
  stream_so : (reply : Reply) → KeepsCalls old new → (stores_at new).logs ≡ plain.stores.logs
      → settled_after plain reply (stores_at new).logs ≡ plain.settled → StepsPlainly (Some AskedStep) old plain reply new
  stream_so reply keeps same none =
      steps_so old new plain is on keeps AskedStep reply tt same (λ plan. refl) (λ session. refl)
      (subst (IsSettledSince new) (sym none) (settled_rests old new on plain.settled is.settled))

  stream_came : (outcome : Result Streamed Refusal) → KeepsCalls old new → (stores_at new).logs ≡ plain.stores.logs
      → StepsPlainly (Some AskedStep) old plain (streamed_as outcome) new
  stream_came (Ok streamed) keeps same = stream_so (streamed_as (Ok streamed)) keeps same refl
  stream_came (Err refusal) keeps same = stream_so (streamed_as (Err refusal)) keeps same refl

  stream_steps : (reply : Reply) → AnswersStream true (asked_stream region shard position) old reply new
      → StepsPlainly (Some AskedStep) old plain reply new
  stream_steps reply (inl refuses) =
      let stays : Stays old.keepers.told new.keepers.told = λ at. ap (λ (m : Moment). m.keepers.told at) refuses.same in
      subst (λ r. StepsPlainly (Some AskedStep) old plain r new) (sym refuses.reply_is)
      (stream_so (Refused (OfNode (IsMaster (asked_stream region shard position).at))) (keeps_core old new (ap (λ (m : Moment). m.core) refuses.same))
      (same_stores old new plain is on stays) refl)
  stream_steps reply (inr streams) =
      let s = old.core.settings in
      let own = stream_same s (asked_stream region shard position) streams.outcome (world_of old) (world_of new) streams.streams in
      subst (λ r. StepsPlainly (Some AskedStep) old plain r new) (sym streams.reply_is)
      (stream_came streams.outcome (keeps_calls old new streams.rest)
      (ap (λ (st : Stores). st.logs) (stores_are old new on) ∙ own ∙ ap (λ (st : Stores). st.logs) (sym is.stores)))

stream_line : (region shard : ℕ) (position : Option ℕ) → KeepsLine (asks.Store (Stream region shard position))
stream_line region shard position old new plain reply is line = stream_steps region shard position old new plain is line.on reply line.answers

-- ---- trims

-- a log that is cut keeps its entries, and so does every other
cut_keeps : (old new : Tables) (at : StoreName) (upto : ℕ) → Becomes old new at (after_cut (old at) upto) → (x : StoreName) → (new x).log ≡ (old x).log
cut_keeps old new at upto becomes x = elim (same_or_other x at) [
  | inl is ↦ subst (λ n. (new n).log ≡ (old n).log) (sym is) (ap (λ (t : Table). t.log) becomes.here)
  | inr other ↦ ap (λ (t : Table). t.log) (becomes.others x other)
]

module _ (region shard position : ℕ) (old new : Moment) (plain : Plain) (is : IsPlainOf old plain) (on : GoesOnUsable old new) where
  abbrev AskedTrim : Checked
  AskedTrim = asks.Store (Trim region shard position)

  -- it says nothing of the plain state
  trim_so : (reply : Reply) → KeepsCalls old new → (stores_at new).logs ≡ plain.stores.logs
      → settled_after plain reply (stores_at new).logs ≡ plain.settled → StepsPlainly (Some AskedTrim) old plain reply new
  trim_so reply keeps same none =
      steps_so old new plain is on keeps AskedTrim reply tt same (λ plan. refl) (λ session. refl)
      (subst (IsSettledSince new) (sym none) (settled_rests old new on plain.settled is.settled))

  trim_steps : (reply : Reply) → AnswersTrim true (region_store region shard) position old reply new → StepsPlainly (Some AskedTrim) old plain reply new
  trim_steps reply (inl trims) =
      let s = old.core.settings in
      let own = logs_stay s old.keepers.told new.keepers.told
      (λ n. cut_keeps old.keepers.told new.keepers.told (region_store region shard) trims.trimmed.cut (trims.trims.tables refl) (master_store s n)) in
      subst (λ r. StepsPlainly (Some AskedTrim) old plain r new) (sym trims.reply_is)
      (trim_so (Node (node.Trimmed trims.trimmed)) (keeps_calls old new (ap (λ (m : Moment). m.core) trims.rest))
      (ap (λ (st : Stores). st.logs) (stores_are old new on) ∙ own ∙ ap (λ (st : Stores). st.logs) (sym is.stores)) refl)
  trim_steps reply (inr fails) =
      subst (λ r. StepsPlainly (Some AskedTrim) old plain r new) (sym fails.reply_is)
      (trim_so (Refused fails.refusal) (keeps_core old new (ap (λ (m : Moment). m.core) fails.rest))
      (same_stores old new plain is on (fails.tables refl)) refl)

trim_line : (region shard position : ℕ) → KeepsLine (asks.Store (Trim region shard position))
trim_line region shard position old new plain reply is line = trim_steps region shard position old new plain is line.on reply line.answers

-- ---- all of them

pub store_line : (asked : CheckedStore) → KeepsLine (asks.Store asked)
store_line (Repair shard) = repair_line shard
store_line Settle = settle_line
store_line (Audit call) = audit_line call
store_line (Stream region shard position) = stream_line region shard position
store_line (Trim region shard position) = trim_line region shard position
