-- A call is refused for nothing but want of memory, where nothing is in its way.
use Rattle.std.proofs.Common.{◌≡◌, ℕ, zero, suc, ◌+◌, ◌≤◌, ◌<◌, true, false, List, [], ◌∷◌, drop, length, Option, Some, None, Result, Ok, Err, refl, sym, ap, subst, inl, inr, arith, length-append}
use Rattle.std.specs.Prelude.{◌==◌, IfErr, IsSomeAnd, nat_le, slice_get}
use Rattle.std.specs.Result.{result_ok}
use Rattle.std.proofs.lemmas.Bool.Decides.{nat_tests}
use Rattle.std.proofs.lemmas.Grind.{flat_map-append}
use Rattle.std.proofs.lemmas.List.Sums.{count_by-le-length}
use Rattle.std.proofs.lemmas.Option.{slice_get_within}
use Rattle.cluster_reads.specs.Reads.{RefusesRead, RepliesToRead, asked_with}
use Rattle.cluster_writes.specs.Replies.{RefusesWrite, RepliesToWrite}
use Rattle.core_model.specs.Asked.{AuthoredWrite, client_call}
use Rattle.counts.specs.Count.{Rose}
use Rattle.graph_model.proofs.Members.{All-in, IsIn, in_any, in_append_left, in_from_contains}
use Rattle.graph_model.specs.Edges.{edge_record, number_of}
use Rattle.graph_model.specs.Log.{additions, is_addition}
use Rattle.graph_model.specs.Soundness.{EdgeUpdate, updates_of}
use Rattle.load_audit.proofs.LastRecords.{in_all, last_record_laws}
use Rattle.load_audit.specs.Listed.{write_in}
use Rattle.load_audit.specs.LiveEdges.{last_records, records_of}
use Rattle.load_gen.specs.Summary.{refusals_in}
use Rattle.load_shares.proofs.Additions.{some_parts, stands_on}
use Rattle.load_shares.specs.Seen.{BeginLogs}
use Rattle.load_shares.specs.Tallies.{says_memory}
use Rattle.load_shares.specs.Workloads.{IsConfiguredRequest, IsSession}
use Rattle.outcomes.specs.Results.{◌>>=◌}
use Rattle.replies.specs.declared.calls.CallReply.TheVariants.{Read as OfRead, Write as OfWrite}
use Rattle.replies.specs.declared.refusals.NameRefused.{NameRefused}
use Rattle.replies.specs.declared.refusals.Refusal.{Refusal}
use Rattle.replies.specs.declared.refusals.Refusal.TheVariants.{Memory, Store}
use Rattle.replies.specs.declared.refusals.StoreRefused.TheVariants.{KeeperFault, LinkFault, LogFull, SeqReused, ShardFull, StampFull, TooOld}
use Rattle.replies.specs.declared.refusals.When.TheVariants.{After, Before}
use Rattle.replies.specs.declared.reply.Reply.{Reply}
use Rattle.replies.specs.declared.reply.Reply.TheVariants as reply
use Rattle.request_check.specs.Calls.{checked_read_call, checked_write_call}
use Rattle.request_check.specs.declared.checked.CheckedCall.TheVariants as of_call
use Rattle.request_check.specs.declared.checked.CheckedRead.{CheckedRead}
use Rattle.request_check.specs.declared.checked.CheckedWrite.{CheckedWrite}
use Rattle.requests.specs.declared.calls.Call.TheVariants as call
use Rattle.requests.specs.declared.calls.ReadCall.{ReadCall}
use Rattle.requests.specs.declared.calls.WriteCall.{WriteCall}
use Rattle.requests.specs.declared.request.Request.{Request}
use Rattle.requests.specs.declared.request.Request.TheVariants as request
use Rattle.shard_log.proofs.Beginnings.{begins-rest}
use Rattle.shard_log.specs.View.{Begins, View}
use Rattle.core_model.specs.shard_tables.Written.{IsLogFull, IsReused, IsShardFull, IsStampFull, IsTooOld}
use Rattle.shared_stores.specs.Asked.{asked_of_seen}
use Rattle.shared_tiers.specs.Calls.{Calling, RepliesTo, RepliesToNamed}
use Rattle.shared_tiers.specs.locked_nodes.Begun.{Begun, begun}
use Rattle.shared_tiers.specs.locked_nodes.Cluster.{OnCluster}
use Rattle.tao_base.proofs.Tests.{eqb-same}
use Rattle.tao_base.specs.Queries.{query_shard}
use Rattle.tao_base.specs.Stamps.{stamp_of}
use Rattle.tao_base.specs.Writes.{write_shard}
use Rattle.tao_base.specs.declared.edge.EdgeState.{EdgeState}
use Rattle.tao_base.specs.declared.entry.Entry.{Entry}
use Rattle.tao_base.specs.declared.entry.Origin.TheVariants.{Client}
use Rattle.tao_base.specs.declared.write.Write.{Write}
use Rattle.tao_base.specs.declared.write.Write.TheVariants.{ObjAdd, ObjUpdate, ObjDelete, AssocAdd, AssocDelete, AssocChangeType}
use Rattle.topology.specs.Config.{Settings}
use Rattle.write_model.specs.Writes.{own_updates}
use Rattle.write_touches.specs.Touching.{lacks_serial, lacks_stamp}
use Rattle.tao_busy.specs.Refusing.{EachLog, HasOwnEntries, HasRoomToWrite, HaveClearWay, IsCallOf}

-- ---- what a log with room has

-- a log that has few entries has a serial for one object more
serial_left : (entries : List Entry) (write : Write) → length entries < 65536 → lacks_serial entries write ≡ true → ⊥
serial_left entries (ObjAdd shard otype payload) few full =
    let added : additions entries ≤ length entries = count_by-le-length (λ (e : Entry). is_addition e.kind) entries in
    none (additions entries + 1) full (omega (arith, added, few))
  where
    none : (n : ℕ) → nat_le 281474976710655 n ≡ true → n ≤ 65536 → ⊥
    none n is small = grind (arith, nat_tests)
serial_left entries (ObjUpdate id payload) few full = absurd (cc)
serial_left entries (ObjDelete id) few full = absurd (cc)
serial_left entries (AssocAdd id1 atype id2 time payload) few full = absurd (cc)
serial_left entries (AssocDelete id1 atype id2) few full = absurd (cc)
serial_left entries (AssocChangeType id1 atype id2 newtype) few full = absurd (cc)

-- what a beginning of a log says of an edge is a record of the log
is_record : (entries log : List Entry) (u : EdgeUpdate) → Begins entries log → edge_record entries u.0 u.1 u.2 ≡ Some u.3 → IsIn u (records_of log)
is_record entries log u begins is =
    let last = in_from_contains (last_records (records_of entries)) u (last_record_laws.all entries u is) in
    subst (λ xs. IsIn u (records_of xs)) (begins-rest entries log begins)
    (subst (IsIn u) (sym (flat_map-append updates_of entries (drop (length entries) log)))
    (in_append_left (records_of entries) (records_of (drop (length entries) log)) u (in_all u (records_of entries) last)))

stamp_left : (s : Settings) (entries log : List Entry) (write : Write) → Begins entries log → HasRoomToWrite s log → lacks_stamp entries write ≡ true → ⊥
stamp_left s entries log write begins room full =
    let found = in_any (λ (u : EdgeUpdate). number_of (edge_record entries u.0 u.1 u.2) == 4611686018427387903) (own_updates 0 entries write) full in
    by found.0 (edge_record entries found.0.0 found.0.1 found.0.2) refl
    (eqb-same (number_of (edge_record entries found.0.0 found.0.1 found.0.2)) 4611686018427387903 found.2)
  where
    by : (u : EdgeUpdate) (found : Option EdgeState) → edge_record entries u.0 u.1 u.2 ≡ found → number_of found ≡ 4611686018427387903 → ⊥
    by u None is number = absurd (omega (arith, number))
    by u (Some state) is number =
        All-in (λ (v : EdgeUpdate). (stamp_of v.3).number ≡ 4611686018427387903 → ⊥) (records_of log) (u.0, u.1, u.2, state) room.stamps
        (is_record entries log (u.0, u.1, u.2, state) begins is) number

shorter : (entries log : List Entry) → Begins entries log → length entries ≤ length log
shorter entries log begins =
    let whole = ap length (begins-rest entries log begins) in
    let parts = length-append entries (drop (length entries) log) in
    omega (arith, whole, parts)

-- ---- a call

module _ {M : Type 0} (on : OnCluster M) (old new : Calling) (told_so : on.tells ≡ true) (logs : List (List Entry)) (begin : BeginLogs logs new.pass.notes)
    (long : length new.pass.notes ≡ on.making.settings.shards) (before : old.link.faults ≡ 0) (after : new.link.faults ≡ 0)
  where
    no_link : Rose old.link.faults new.link.faults → ⊥
    no_link rose = omega (arith, rose, before, after)

    -- what is so in what the pass has seen of a shard's log is so of a beginning of the log
    in_log : (shard : ℕ) (P : View → Type 0) → IsSomeAnd (slice_get new.pass.notes shard) P
        → ((note : View) (log : List Entry) → shard < on.making.settings.shards → slice_get logs shard ≡ Some log → Begins note.entries log → P note → ⊥) → ⊥
    in_log shard P so none =
        let seen = some_parts P (slice_get new.pass.notes shard) so in
        let log = some_parts (Begins seen.0.entries) (slice_get logs shard) (begin shard seen.0 seen.1) in
        let within = slice_get_within new.pass.notes shard seen.0 seen.1 in
        none seen.0 log.0 (omega (arith, long, within)) log.1 log.2 seen.2

    module _ (r : Request) (way : HaveClearWay on logs (r ∷ [])) where
      configured : IsConfiguredRequest on.making.settings r
      configured = All-in (IsConfiguredRequest on.making.settings) (r ∷ []) r way.configured (inl refl)

      own : EachLog (HasOwnEntries on.making.settings r) logs
      own = All-in (λ (one : Request). EachLog (HasOwnEntries on.making.settings one) logs) (r ∷ []) r way.own (inl refl)

      -- ---- a read

      no_read : (since : Begun) → since.faults ≡ old.link.faults → (refusal : Refusal) → RefusesRead on since new.link.faults refusal
          → says_memory (reply.Refused refusal) ≡ false → ⊥
      no_read since is (Store (LinkFault count Before)) cause well = no_link (subst (λ n. Rose n new.link.faults) is cause)
      no_read since is (Store (LinkFault count (After position))) cause well = absurd cause
      no_read since is (Store (KeeperFault count)) cause well = cause way.steady
      no_read since is (Memory position) cause well = absurd (cc)
      no_read since is refusal cause well = absurd cause

      -- ---- a write

      module _ (w : CheckedWrite) (is_write : write_in on.making.settings r ≡ Some w) where
        abbrev authored : AuthoredWrite
        authored = client_call (Client w.session w.seq) w.write

        abbrev here : ℕ
        here = write_shard w.write

        room : (log : List Entry) → slice_get logs here ≡ Some log → HasRoomToWrite on.making.settings log
        room log at = way.room here log at

        few : (note : View) (log : List Entry) → slice_get logs here ≡ Some log → Begins note.entries log → length note.entries < on.making.settings.log_max
        few note log at begins =
            let some = (room log at).entries in
            let less = shorter note.entries log begins in
            omega (arith, some, less)

        not_old : (cut position : ℕ) (note : View) → here < on.making.settings.shards
            → IsTooOld (asked_of_seen on.making here note.entries authored) cut position → ⊥
        not_old cut zero note inside is = absurd is.stands
        not_old cut (suc position) note inside is =
            let none = way.uncut here inside in
            let old_one = is.old in
            absurd (omega (arith, none, old_one))

        not_reused : (position : ℕ) (note : View) (log : List Entry) → slice_get logs here ≡ Some log → Begins note.entries log
            → IsReused (asked_of_seen on.making here note.entries authored) position → ⊥
        not_reused position note log at begins is =
            is.differs (own here log at w position is.entry is_write (stands_on note.entries log position is.entry begins is.stands.stands) is.stands.origin_is)

        not_full : (serial : ℕ) (note : View) (log : List Entry) → slice_get logs here ≡ Some log → Begins note.entries log
            → IsShardFull (asked_of_seen on.making here note.entries authored) serial → ⊥
        not_full serial note log at begins is =
            let less = few note log at begins in
            let limit = way.limit in
            serial_left note.entries w.write (omega (arith, less, limit)) is.full

        not_stamped : (number : ℕ) (note : View) (log : List Entry) → slice_get logs here ≡ Some log → Begins note.entries log
            → IsStampFull (asked_of_seen on.making here note.entries authored) number → ⊥
        not_stamped number note log at begins is = stamp_left on.making.settings note.entries log w.write begins (room log at) is.full

        not_long : (count : ℕ) (note : View) (log : List Entry) → slice_get logs here ≡ Some log → Begins note.entries log
            → IsLogFull (asked_of_seen on.making here note.entries authored) count → ⊥
        not_long count note log at begins is =
            let less = few note log at begins in
            let full = is.full in
            absurd (omega (arith, less, full))

        no_write : (since : Begun) → since.faults ≡ old.link.faults → (refusal : Refusal)
            → RefusesWrite on since authored new.pass new.link.faults refusal → says_memory (reply.Refused refusal) ≡ false → ⊥
        no_write since is (Store (LinkFault count Before)) cause well = no_link (subst (λ n. Rose n new.link.faults) is cause)
        no_write since is (Store (LinkFault count (After position))) cause well = no_link (subst (λ n. Rose n new.link.faults) is cause.0)
        no_write since is (Store (KeeperFault count)) cause well = cause way.steady
        no_write since is (Store (TooOld cut position)) cause well =
            in_log here (λ note. IsTooOld (asked_of_seen on.making here note.entries authored) cut position) (cause told_so)
            (λ note log inside at begins so. not_old cut position note inside so)
        no_write since is (Store (SeqReused position)) cause well =
            in_log here (λ note. IsReused (asked_of_seen on.making here note.entries authored) position) (cause told_so)
            (λ note log inside at begins so. not_reused position note log at begins so)
        no_write since is (Store (ShardFull serial)) cause well =
            in_log here (λ note. IsShardFull (asked_of_seen on.making here note.entries authored) serial) (cause told_so)
            (λ note log inside at begins so. not_full serial note log at begins so)
        no_write since is (Store (StampFull number)) cause well =
            in_log here (λ note. IsStampFull (asked_of_seen on.making here note.entries authored) number) (cause told_so)
            (λ note log inside at begins so. not_stamped number note log at begins so)
        no_write since is (Store (LogFull count)) cause well =
            in_log here (λ note. IsLogFull (asked_of_seen on.making here note.entries authored) count) (cause told_so)
            (λ note log inside at begins so. not_long count note log at begins so)
        no_write since is (Memory position) cause well = absurd (cc)
        no_write since is refusal cause well = absurd cause

        -- a write is answered
        wrote : (asked : WriteCall) (since : Begun) → since.faults ≡ old.link.faults → (said : Reply)
            → RepliesToWrite on since authored old.pass new.pass new.link said → says_memory said ≡ false → refusals_in (request.Call (call.Write asked)) said ≡ 0
        wrote asked since is (reply.Called (OfWrite told)) replies well = refl
        wrote asked since is (reply.Called (OfRead told)) replies well = absurd replies
        wrote asked since is (reply.Refused why) replies well = absurd (no_write since is why replies.0 well)
        wrote asked since is reply.Configured replies well = absurd replies
        wrote asked since is (reply.BadConfiguration field) replies well = absurd replies
        wrote asked since is (reply.BadStores store position) replies well = absurd replies
        wrote asked since is (reply.Opened session) replies well = absurd replies
        wrote asked since is (reply.Plan plan) replies well = absurd replies
        wrote asked since is (reply.Node node) replies well = absurd replies
        wrote asked since is (reply.Settled lengths) replies well = absurd replies
        wrote asked since is (reply.Audited answer position) replies well = absurd replies

      -- a read is answered
      told_read : (asked : ReadCall) (one : CheckedRead) (since : Begun) → since.faults ≡ old.link.faults → (said : Reply)
          → RepliesToRead on since (asked_with on.making old.pass one.query one.critical) old.pass new.pass new.link said → says_memory said ≡ false
          → refusals_in (request.Call (call.Read asked)) said ≡ 0
      told_read asked one since is (reply.Called (OfRead told)) replies well = refl
      told_read asked one since is (reply.Called (OfWrite told)) replies well = absurd replies
      told_read asked one since is (reply.Refused why) replies well = absurd (no_read since is why replies.0 well)
      told_read asked one since is reply.Configured replies well = absurd replies
      told_read asked one since is (reply.BadConfiguration field) replies well = absurd replies
      told_read asked one since is (reply.BadStores store position) replies well = absurd replies
      told_read asked one since is (reply.Opened session) replies well = absurd replies
      told_read asked one since is (reply.Plan plan) replies well = absurd replies
      told_read asked one since is (reply.Node node) replies well = absurd replies
      told_read asked one since is (reply.Settled lengths) replies well = absurd replies
      told_read asked one since is (reply.Audited answer position) replies well = absurd replies

    -- a write whose names were looked up
    named_write : (asked : WriteCall) (said : Reply) → HaveClearWay on logs (request.Call (call.Write asked) ∷ []) → (found : Result CheckedWrite NameRefused)
        → checked_write_call on.making.settings asked ≡ found
        → IfErr (found >>= (λ (w : CheckedWrite). Ok (of_call.Write w))) (λ refused. ⊥)
        → RepliesToNamed on old new (found >>= (λ (w : CheckedWrite). Ok (of_call.Write w))) said → says_memory said ≡ false
        → refusals_in (request.Call (call.Write asked)) said ≡ 0
    named_write asked said way (Err name) is fine replies well = absurd fine
    named_write asked said way (Ok w) is fine replies well =
        let since = some_parts (λ seen. RepliesToWrite on (begun seen old.link) (client_call (Client w.session w.seq) w.write) old.pass new.pass new.link said)
        (slice_get old.pass.notes (write_shard w.write)) replies in
        wrote (request.Call (call.Write asked)) way w (ap result_ok is) asked (begun since.0 old.link) refl said since.2 well

    named_read : (asked : ReadCall) (said : Reply) → HaveClearWay on logs (request.Call (call.Read asked) ∷ []) → (found : Result CheckedRead NameRefused)
        → checked_read_call on.making.settings asked ≡ found
        → IfErr (found >>= (λ (one : CheckedRead). Ok (of_call.Read one))) (λ refused. ⊥)
        → RepliesToNamed on old new (found >>= (λ (one : CheckedRead). Ok (of_call.Read one))) said → says_memory said ≡ false
        → refusals_in (request.Call (call.Read asked)) said ≡ 0
    named_read asked said way (Err name) is fine replies well = absurd fine
    named_read asked said way (Ok one) is fine replies well =
        let since = some_parts (λ seen. RepliesToRead on (begun seen old.link) (asked_with on.making old.pass one.query one.critical) old.pass new.pass new.link said)
        (slice_get old.pass.notes (query_shard one.query)) replies in
        told_read (request.Call (call.Read asked)) way asked one (begun since.0 old.link) refl said since.2 well

    short_of : (said : Reply) → said ≡ reply.Refused (Memory 0) → says_memory said ≡ false → ⊥
    short_of said is well = let says : says_memory said ≡ true = ap says_memory is in absurd (cc)

    -- a call of the pass's session is refused for want of memory alone
    pub unrefused : (r : Request) (said : Reply) → IsCallOf old.pass.session r → HaveClearWay on logs (r ∷ []) → RepliesTo on old new r said
        → says_memory said ≡ false → refusals_in r said ≡ 0
    unrefused (request.Call (call.Write asked)) said mine way (inl other) well = absurd (other.0 mine)
    unrefused (request.Call (call.Write asked)) said mine way (inr (own_one, inl short)) well = absurd (short_of said short.said_is well)
    unrefused (request.Call (call.Write asked)) said mine way (inr (own_one, inr so)) well =
        named_write asked said way (checked_write_call on.making.settings asked) refl (configured (request.Call (call.Write asked)) way).named so well
    unrefused (request.Call (call.Read asked)) said mine way (inl other) well = absurd (other.0 mine)
    unrefused (request.Call (call.Read asked)) said mine way (inr (own_one, inl short)) well = absurd (short_of said short.said_is well)
    unrefused (request.Call (call.Read asked)) said mine way (inr (own_one, inr so)) well =
        named_read asked said way (checked_read_call on.making.settings asked) refl (configured (request.Call (call.Read asked)) way).named so well
    unrefused (request.Open opening) said mine way replies well = absurd mine
    unrefused (request.Plan asked) said mine way replies well = absurd mine
    unrefused (request.Cache asked) said mine way replies well = absurd mine
    unrefused (request.Store asked) said mine way replies well = absurd mine
    unrefused (request.Health asked) said mine way replies well = absurd mine
    unrefused (request.Link asked) said mine way replies well = absurd mine

-- ---- whose call it is

pub session_of : (s : Settings) (session : ℕ) (r : Request) → IsCallOf session r → IsConfiguredRequest s r → IsSession s session
session_of s session (request.Call asked) mine is = subst (IsSession s) mine is.session
session_of s session (request.Open opening) mine is = absurd mine
session_of s session (request.Plan asked) mine is = absurd mine
session_of s session (request.Cache asked) mine is = absurd mine
session_of s session (request.Store asked) mine is = absurd mine
session_of s session (request.Health asked) mine is = absurd mine
session_of s session (request.Link asked) mine is = absurd mine
