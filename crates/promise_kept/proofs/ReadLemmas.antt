-- Reads: one that is over was answered or refused, and its answer is right.
use Rattle.std.proofs.Common.{◌≡◌, ◌<◌, ◌≤◌, ◌∙◌, ◌⊎◌, ℕ, true, Some, refl, sym, ap, subst}
use Rattle.std.proofs.Common.{arith, inl, inr}
use Rattle.core_model.specs.Stores.{master_log, stores_in}
use Rattle.core_plans.specs.HeldReads.{HasComeTo, version_now, wanted_by}
use Rattle.core_steps.specs.Reads.{IsLegalNow}
use Rattle.graph_model.proofs.Exact.{version_take}
use Rattle.graph_model.specs.Legal.{IsLegal}
use Rattle.graph_model.specs.Log.{version}
use Rattle.plain_promise.specs.Promise.{AreSameLogs, Begun, Logs, floor_at_start, log_read}
use Rattle.promise_kept.proofs.Going.{log_is}
use Rattle.promise_kept.proofs.Refusing.{EndsRefused}
use Rattle.promise_kept.specs.Seen.{IsReadFor}
use Rattle.read_plan.specs.Ends.{EndsAt, EndsWith}
use Rattle.read_plan.specs.Readings.{Reading}
use Rattle.read_plan.specs.declared.end.ReadEnd.TheVariants as ended
use Rattle.read_plan.specs.declared.standing.Standing.{Standing}
use Rattle.read_plan.specs.declared.standing.Standing.TheVariants.{Asking, Ended, Keeping, Looking, Mastering}
use Rattle.replies.specs.declared.calls.CallReply.TheVariants as called
use Rattle.replies.specs.declared.calls.ReadReply.{ReadReply}
use Rattle.replies.specs.declared.refusals.Refusal.{Refusal}
use Rattle.replies.specs.declared.reply.Reply.{Reply}
use Rattle.replies.specs.declared.reply.Reply.TheVariants.{Called, Refused}
use Rattle.request_check.specs.declared.checked.CheckedRead.{CheckedRead}
use Rattle.tao_base.specs.Queries.{query_key, query_shard}
use Rattle.tao_base.specs.declared.query.Query.{Query}
use Rattle.tao_keeper.specs.KeeperState.{KeeperState}
use Rattle.tao_schema.specs.Schema.{types_of}
use Rattle.topology.specs.Config.{Settings}
use Rattle.write_model.specs.Merges.{log_of}

-- ---- a read that is over

-- it was answered or refused
pub record IsReadReply (reply : Reply) : Type 0 where
  pub is : ((answer : ReadReply) × (reply ≡ Called (called.Read answer))) ⊎ ((refusal : Refusal) × (reply ≡ Refused refusal))

reply_at : (at : Standing) (q : Reading) (reply : Reply) → EndsRefused at → EndsAt at q reply → IsReadReply reply
reply_at (Ended (ended.Answered answer version held)) q reply so ends = record { is = inl (_, ends) }
reply_at (Ended (ended.Refused own)) q reply so ends = record { is = inr (so.0, ends ∙ so.1) }
reply_at Looking q reply so ends = absurd ends
reply_at Asking q reply so ends = absurd ends
reply_at Mastering q reply so ends = absurd ends
reply_at (Keeping given) q reply so ends = absurd ends

pub read_reply_is : (q : Reading) (reply : Reply) → EndsRefused q.at → EndsWith q reply → IsReadReply reply
read_reply_is q reply so ends = reply_at q.at q reply so ends

-- ---- the version of an answer

abbrev version_in : Reply → ℕ
version_in (Called (called.Read reply)) = reply.version
version_in reply = 0

come_to : (at : Standing) (q : Reading) (reply : ReadReply) (least now : ℕ) → EndsRefused at → EndsAt at q (Called (called.Read reply))
    → HasComeTo least now at → least ≤ reply.version
come_to (Ended (ended.Answered answer version held)) q reply least now so ends come =
    let same : reply.version ≡ version = ap version_in ends in
    subst (λ v. least ≤ v) (sym same) come
come_to (Ended (ended.Refused own)) q reply least now so ends come =
    let never : Called (called.Read reply) ≡ Refused so.0 = ends ∙ so.1 in
    absurd (cc (never))
come_to Looking q reply least now so ends come = absurd ends
come_to Asking q reply least now so ends come = absurd ends
come_to Mastering q reply least now so ends come = absurd ends
come_to (Keeping given) q reply least now so ends come = absurd ends

-- ---- an answer is right

module _ (s : Settings) (keepers : KeeperState) (began : Begun) (read : CheckedRead) (q : Reading) (under : IsReadFor s keepers began read q)
    (here : query_shard q.query < s.shards) (so : EndsRefused q.at) (reply : ReadReply) (over : EndsWith q (Called (called.Read reply))) where
  abbrev Now : Logs
  Now = (stores_in s keepers.told).logs

  pub answer_legal : IsLegalNow true s (wanted_by q) reply keepers
      → IsLegal (types_of s.schema) (log_read Now read) read.query (floor_at_start began (query_key read.query)) reply.answer reply.version
  answer_legal legal =
      let types = types_of s.schema in
      let in_log = subst (λ l. IsLegal types l q.query q.floor reply.answer reply.version)
      (sym (log_is s keepers.told (query_shard q.query) here)) (legal refl) in
      let of_read = subst (λ (query : Query). IsLegal types (log_of Now (query_shard query)) query q.floor reply.answer reply.version) under.query_is in_log in
      subst (λ n. IsLegal types (log_read Now read) read.query n reply.answer reply.version) under.floor_is of_read

  pub answer_whole : read.critical ≡ true → version (log_read began.logs read) (query_key read.query) ≤ reply.version
  answer_whole critical = come_to q.at q reply _ _ so over (under.whole refl (under.critical_is ∙ critical))

  version_read : version_now s q keepers ≡ version (log_read Now read) (query_key read.query)
  version_read = ap (λ l. version l (query_key q.query)) (sym (log_is s keepers.told (query_shard q.query) here))
      ∙ ap (λ (query : Query). version (log_of Now (query_shard query)) (query_key query)) under.query_is

  pub answer_last : IsLegalNow true s (wanted_by q) reply keepers → (logs : Logs) → began.settled ≡ Some logs → AreSameLogs logs Now
      → reply.version ≡ version (log_read Now read) (query_key read.query)
  answer_last legal logs is same =
      let found = legal refl in
      let log = master_log s keepers.told (query_shard q.query) in
      let least = come_to q.at q reply _ _ so over (under.last logs is same) in
      let most : reply.version ≤ version log (query_key q.query) =
      subst (λ v. v ≤ version log (query_key q.query)) (sym found.version_is) (version_take found.n log (query_key q.query)) in
      let now = version_read in
      omega (arith, least, most, now)
