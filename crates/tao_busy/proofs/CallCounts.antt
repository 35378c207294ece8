-- A call that adds something was refused, or its entry stands in what its pass has then seen.
use Rattle.std.proofs.Common.{◌≡◌, ℕ, ◌≤◌, Bool, true, false, List, [], ◌∷◌, Some, Result, Ok, Err, refl, sym, subst, ◌∙◌, inl, inr, arith}
use Rattle.std.specs.Prelude.{slice_get, take}
use Rattle.std.proofs.lemmas.List.Sums.{sum_by-cons}
use Rattle.cluster_writes.specs.Replies.{AnswersWrite, IsEntryOf, RepliesToWrite, WritesIn}
use Rattle.core_model.specs.Asked.{AuthoredWrite, client_call}
use Rattle.graph_model.specs.Log.{entry_at}
use Rattle.load_audit.specs.Listed.{is_add, missing_add, missing_adds}
use Rattle.load_gen.specs.Summary.{refusals_in}
use Rattle.load_shares.proofs.Additions.{additions_stand, some_parts}
use Rattle.load_shares.proofs.Shared.{missing_length}
use Rattle.load_shares.specs.Adding.{IsCheckedOf}
use Rattle.load_shares.specs.Seen.{BeginLogs}
use Rattle.outcomes.specs.Results.{◌>>=◌}
use Rattle.replies.specs.declared.calls.CallReply.TheVariants.{Read as OfRead, Write as OfWrite}
use Rattle.replies.specs.declared.calls.WriteReply.{WriteReply}
use Rattle.replies.specs.declared.refusals.NameRefused.{NameRefused}
use Rattle.replies.specs.declared.refusals.Refusal.{Refusal}
use Rattle.replies.specs.declared.reply.Reply.{Reply}
use Rattle.replies.specs.declared.reply.Reply.TheVariants as reply
use Rattle.request_check.specs.Calls.{checked_write_call}
use Rattle.request_check.specs.declared.checked.CheckedCall.TheVariants as of_call
use Rattle.request_check.specs.declared.checked.CheckedWrite.{CheckedWrite}
use Rattle.requests.specs.declared.calls.Call.TheVariants as call
use Rattle.requests.specs.declared.calls.WriteCall.{WriteCall}
use Rattle.requests.specs.declared.request.Request.{Request}
use Rattle.requests.specs.declared.request.Request.TheVariants as request
use Rattle.shard_log.specs.View.{View}
use Rattle.shared_tiers.specs.Calls.{Calling, RepliesTo, RepliesToNamed}
use Rattle.shared_tiers.specs.locked_nodes.Begun.{Begun, begun}
use Rattle.shared_tiers.specs.locked_nodes.Cluster.{OnCluster}
use Rattle.tao_base.specs.Writes.{write_shard}
use Rattle.tao_base.specs.declared.entry.Entry.{Entry}
use Rattle.tao_base.specs.declared.entry.Origin.TheVariants.{Client}
use Rattle.tao_schema.specs.Schema.{types_of}

module _ {M : Type 0} (on : OnCluster M) (old new : Calling) (told_so : on.tells ≡ true) (logs : List (List Entry))
    (begin : BeginLogs logs new.pass.notes)
  where
    none_of : (r : Request) → missing_add logs r ≡ 0 → (n : ℕ) → missing_adds logs (r ∷ []) ≤ n
    none_of r none n = omega (arith, sum_by-cons (missing_add logs) r [], none)

    refused : (asked : WriteCall) (why : Refusal) (said : Reply) → said ≡ reply.Refused why
        → missing_adds logs (request.Call (call.Write asked) ∷ []) ≤ refusals_in (request.Call (call.Write asked)) said
    refused asked why said is =
        subst (λ x. missing_adds logs (request.Call (call.Write asked) ∷ []) ≤ refusals_in (request.Call (call.Write asked)) x) (sym is)
        (missing_length logs (request.Call (call.Write asked) ∷ []))

    -- a write that was answered
    answered : (asked : WriteCall) (w : CheckedWrite) (begins : Begun) (told : WriteReply) → IsCheckedOf asked w
        → AnswersWrite on begins (client_call (Client w.session w.seq) w.write) old.pass new.pass new.link told
        → missing_adds logs (request.Call (call.Write asked) ∷ []) ≤ 0
    answered asked w begins told checked answers =
        let authored : AuthoredWrite = client_call (Client w.session w.seq) w.write in
        let seen = some_parts (λ (b : View). WritesIn on.making begins authored b.entries told) (slice_get new.pass.notes (write_shard w.write))
        (answers.written told_so) in
        by told.written.changed refl seen.0 seen.1 seen.2
      where
        by : (changed : Bool) → told.written.changed ≡ changed → (b : View) → slice_get new.pass.notes (write_shard w.write) ≡ Some b
            → WritesIn on.making begins (client_call (Client w.session w.seq) w.write) b.entries told
            → missing_adds logs (request.Call (call.Write asked) ∷ []) ≤ 0
        by true changed b at writes =
            let entry = some_parts (IsEntryOf begins (client_call (Client w.session w.seq) w.write) b.entries told.written.retry)
            (entry_at b.entries told.written.position) (writes.entry changed) in
            additions_stand.stands logs new.pass.notes asked (write_shard w.write) b told.written.position entry.0 begin at entry.1
            (entry.2.once.origin_is ∙ both_of)
          where
            both_of : Client w.session w.seq ≡ Client asked.session asked.seq
            both_of = let s = checked.session_is in let q = checked.seq_is in λ i. Client (s i) (q i)
        by false changed b at writes = kind (is_add asked.write) refl
          where
            kind : (add : Bool) → is_add asked.write ≡ add → missing_adds logs (request.Call (call.Write asked) ∷ []) ≤ 0
            kind false no_add = additions_stand.plain logs asked no_add
            kind true add =
                let nothing = writes.nothing changed in
                absurd (checked.adds add (types_of on.making.settings.schema) (take nothing.n b.entries) (Client w.session w.seq) nothing.nothing)

    replied : (asked : WriteCall) (w : CheckedWrite) (begins : Begun) (said : Reply) → IsCheckedOf asked w
        → RepliesToWrite on begins (client_call (Client w.session w.seq) w.write) old.pass new.pass new.link said
        → missing_adds logs (request.Call (call.Write asked) ∷ []) ≤ refusals_in (request.Call (call.Write asked)) said
    replied asked w begins (reply.Called (OfWrite told)) checked replies =
        omega (arith, answered asked w begins told checked replies)
    replied asked w begins (reply.Called (OfRead told)) checked replies = absurd replies
    replied asked w begins (reply.Refused why) checked replies = refused asked why (reply.Refused why) refl
    replied asked w begins reply.Configured checked replies = absurd replies
    replied asked w begins (reply.BadConfiguration field) checked replies = absurd replies
    replied asked w begins (reply.BadStores store position) checked replies = absurd replies
    replied asked w begins (reply.Opened session) checked replies = absurd replies
    replied asked w begins (reply.Plan plan) checked replies = absurd replies
    replied asked w begins (reply.Node node) checked replies = absurd replies
    replied asked w begins (reply.Settled lengths) checked replies = absurd replies
    replied asked w begins (reply.Audited answer position) checked replies = absurd replies

    named : (asked : WriteCall) (said : Reply) (found : Result CheckedWrite NameRefused) → checked_write_call on.making.settings asked ≡ found
        → RepliesToNamed on old new (found >>= (λ (w : CheckedWrite). Ok (of_call.Write w))) said
        → missing_adds logs (request.Call (call.Write asked) ∷ []) ≤ refusals_in (request.Call (call.Write asked)) said
    named asked said (Err name) is replies = refused asked _ said replies.said_is
    named asked said (Ok w) is replies =
        let checked = additions_stand.checked on.making.settings asked w is in
        let since = some_parts (λ seen. RepliesToWrite on (begun seen old.link) (client_call (Client w.session w.seq) w.write) old.pass new.pass new.link said)
        (slice_get old.pass.notes (write_shard w.write)) replies in
        replied asked w (begun since.0 old.link) said checked since.2

    pub call_counts : (r : Request) (said : Reply) → RepliesTo on old new r said → missing_adds logs (r ∷ []) ≤ refusals_in r said
    call_counts (request.Call (call.Write asked)) said (inl other) = refused asked _ said other.1.said_is
    call_counts (request.Call (call.Write asked)) said (inr (own, inl short)) = refused asked _ said short.said_is
    call_counts (request.Call (call.Write asked)) said (inr (own, inr so)) = named asked said (checked_write_call on.making.settings asked) refl so
    call_counts (request.Call (call.Read asked)) said replies = none_of (request.Call (call.Read asked)) refl _
    call_counts (request.Open opening) said replies = none_of (request.Open opening) refl _
    call_counts (request.Plan asked) said replies = none_of (request.Plan asked) refl _
    call_counts (request.Cache asked) said replies = none_of (request.Cache asked) refl _
    call_counts (request.Store asked) said replies = none_of (request.Store asked) refl _
    call_counts (request.Health asked) said replies = none_of (request.Health asked) refl _
    call_counts (request.Link asked) said replies = none_of (request.Link asked) refl _
