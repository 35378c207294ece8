-- A run of six lines, worked: a session opens, adds an edge, reads it twice, audits its list, and settles. And eight replies that are no step of the promise.
use Rattle.std.specs.Prelude.{◌≡◌, ◌∷◌, ◌==◌, [], true, false, List, Some, None, if◌then◌else◌}
use Rattle.node_name.specs.declared.NodeName.TheVariants.{Follower}
use Rattle.plain_promise.specs.Promise.{Logs, Plain, RunsPlainly, Said, SaysPlainly, seen_version}
use Rattle.replies.specs.declared.calls.CallReply.TheVariants as called
use Rattle.replies.specs.declared.calls.InverseEnd.TheVariants as inverse
use Rattle.replies.specs.declared.calls.ReadReply.{ReadReply}
use Rattle.replies.specs.declared.calls.WriteKind.TheVariants as kind
use Rattle.replies.specs.declared.calls.WriteReply.{WriteReply}
use Rattle.replies.specs.declared.nodes.KeptOrNot.TheVariants.{Kept}
use Rattle.replies.specs.declared.refusals.NodeRefused.TheVariants.{NodeDown}
use Rattle.replies.specs.declared.refusals.Refusal.TheVariants.{Node as OfNode}
use Rattle.replies.specs.declared.refusals.When.{When}
use Rattle.replies.specs.declared.refusals.When.TheVariants.{After, Before}
use Rattle.replies.specs.declared.reply.Reply.{Reply}
use Rattle.replies.specs.declared.reply.Reply.TheVariants.{Audited, Called, Opened, Refused, Settled}
use Rattle.request_check.specs.declared.checked.Checked.{Checked}
use Rattle.request_check.specs.declared.checked.Checked.TheVariants as asks
use Rattle.request_check.specs.declared.stores.CheckedStore.TheVariants.{Audit, Settle}
use Rattle.request_check.specs.declared.checked.CheckedCall.TheVariants.{Read, Write}
use Rattle.request_check.specs.declared.checked.CheckedRead.{CheckedRead}
use Rattle.tao_base.specs.declared.entry.Entry.{Entry}
use Rattle.tao_base.specs.declared.query.Answer.TheVariants.{Edges as EdgesAre}
use Rattle.tao_base.specs.declared.query.Query.TheVariants.{AssocRange}
use Rattle.tao_base.specs.declared.write.Write.TheVariants.{AssocAdd}
use Rattle.words.specs.declared.ReadWord.TheVariants as word
use Rattle.write_model.specs.Examples.{add, after_merges, edge, far, far_follow, first_add, follows, four_types, likes, one_type}
use Rattle.write_model.specs.Merges.{Stores, no_epochs}
use Rattle.graph_model.specs.Soundness.{EdgeUpdate}

-- the stores of one shard with this log, and no open job
abbrev pub with_log : List Entry → Stores
with_log log = record { logs = log ∷ []; job = λ shard position. None; epochs = no_epochs }

-- before the first line nothing was written, and nobody has learnt of anything
abbrev pub at_first : Plain
at_first = record { stores = with_log []; learnt = λ session. []; seen = λ session. []; held = λ plan. None; settled = None }

-- once the edge is written, session 1 has learnt of its entry
abbrev pub once_written : Plain
once_written = record at_first { stores = with_log first_add; learnt = λ session. if session == 1 then first_add else [] }

-- session 1 opens
abbrev pub opens : Said
opens = record { asked = Some (asks.Open 1 0 0); reply = Opened 1 }

-- session 1 adds the edge from id 1 to id 2
abbrev pub adds : Checked
adds = asks.Call (Write (record { session = 1; seq = 1; write = add 2 5 }))

-- its reply: the entry is at position 1
abbrev pub added_at_1 : WriteReply
added_at_1 = record { kind = kind.AssocAdd; written = record { changed = true; inverse = inverse.None; position = 1; retry = false }; hops = 2 }

-- session 1 reads the list of id 1
abbrev pub reads_list : CheckedRead
reads_list = record { session = 1; query = AssocRange 1 likes 0 10; critical = false }

-- the list has the one edge, by its leader's store
abbrev pub list_from_store : ReadReply
list_from_store = record { word = word.AssocRange; answer = EdgesAre (edge 2 5 1 ∷ []); version = 1; hops = 2; store = true; kept = Kept }

-- the list has the one edge, by the session's follower, which kept it
abbrev pub list_kept : ReadReply
list_kept = record list_from_store { hops = 0; store = false }

-- once session 1 has read the list
abbrev pub once_read : Plain
once_read = record once_written { seen = λ session. if session == 1 then seen_version reads_list list_from_store ∷ [] else [] }

-- once session 1 has read the list twice
abbrev pub read_again : Plain
read_again = record once_written {
  seen = λ session. if session == 1 then seen_version reads_list list_kept ∷ seen_version reads_list list_from_store ∷ [] else [];
}

-- once that is settled
abbrev pub once_settled : Plain
once_settled = record read_again { settled = Some (first_add ∷ []) }

-- the six lines, with their replies
abbrev pub six_lines : List Said
six_lines =
    opens
    ∷ record { asked = Some adds; reply = Called (called.Write added_at_1) }
    ∷ record { asked = Some (asks.Call (Read reads_list)); reply = Called (called.Read list_from_store) }
    ∷ record { asked = Some (asks.Call (Read reads_list)); reply = Called (called.Read list_kept) }
    ∷ record { asked = Some (asks.Store (Audit reads_list)); reply = Audited (EdgesAre (edge 2 5 1 ∷ [])) 1 }
    ∷ record { asked = Some (asks.Store Settle); reply = Settled (1 ∷ []) }
    ∷ []

-- they are a run of the promise
pub record SixLinesRun : Type 0 where
  pub run : RunsPlainly one_type at_first six_lines once_settled

-- a read that tells an empty list, where its session has learnt of the edge
abbrev pub list_before : ReadReply
list_before = record { word = word.AssocRange; answer = EdgesAre []; version = 0; hops = 0; store = false; kept = Kept }

-- the stores once the edge is written, with an open job of its entry
abbrev pub job_left : List EdgeUpdate → Stores
job_left us = record (with_log first_add) { job = λ shard position. Some us }

-- before the first line, where there are two shards
abbrev pub two_shards : Plain
two_shards = record at_first { stores = record (with_log []) { logs = [] ∷ [] ∷ [] } }

-- session 1 adds an edge from id 1 to an id of the other shard
abbrev pub follows_far : Checked
follows_far = asks.Call (Write (record { session = 1; seq = 1; write = AssocAdd 1 follows far 7 [] }))

-- its reply: the entry is at position 1, and the inverse is written
abbrev pub followed_at_1 : WriteReply
followed_at_1 = record { kind = kind.AssocAdd; written = record { changed = true; inverse = inverse.Written; position = 1; retry = false }; hops = 4 }

-- both ends of it: the entry, and the merge at the other shard
abbrev pub both_ends : Logs
both_ends = far_follow ∷ after_merges 0 [] far_follow ∷ []

-- a write is refused since a node is down, after its entry stands or before
abbrev pub node_is_down : When → Reply
node_is_down when = Refused (OfNode (NodeDown (Follower 0 0 0) when))

-- session 2 reads the list
abbrev pub other_reads : CheckedRead
other_reads = record reads_list { session = 2 }

-- once it has read it: it has learnt of no entry, and has seen version 1
abbrev pub once_seen : Plain
once_seen = record at_first {
  stores = with_log first_add;
  seen = λ session. if session == 2 then seen_version other_reads list_from_store ∷ [] else [];
}

-- these eight replies are no step of the promise, whatever state they lead to
pub record EightAreRefused : Type 0 where
  -- a read below its session's floor
  pub below_floor : (new : Plain) → SaysPlainly one_type once_written (Some (asks.Call (Read reads_list))) (Called (called.Read list_before)) new → ⊥
  -- a read that goes back behind the version that its session has seen
  pub gone_back : (new : Plain) → SaysPlainly one_type once_seen (Some (asks.Call (Read other_reads))) (Called (called.Read list_before)) new → ⊥
  -- a write that is acknowledged and doesn't stand
  pub not_standing : (new : Plain) → new.stores ≡ with_log [] → SaysPlainly one_type at_first (Some adds) (Called (called.Write added_at_1)) new → ⊥
  -- a write that is refused with an entry that doesn't stand
  pub not_there : (new : Plain) → new.stores ≡ with_log [] → SaysPlainly one_type at_first (Some adds) (node_is_down (After 1)) new → ⊥
  -- a write that is refused without the entry that its line has written
  pub not_said : (new : Plain) → new.stores ≡ with_log first_add → SaysPlainly one_type at_first (Some adds) (node_is_down Before) new → ⊥
  -- a settle that leaves an open job
  pub job_open : (new : Plain) (us : List EdgeUpdate) → new.stores ≡ job_left us
      → SaysPlainly one_type once_written (Some (asks.Store Settle)) (Settled (1 ∷ [])) new → ⊥
  -- an audit of a front of the log
  pub front_audited : (new : Plain) → SaysPlainly one_type once_written (Some (asks.Store (Audit reads_list))) (Audited (EdgesAre []) 0) new → ⊥
  -- a write whose session didn't learn of the entry that its line added at the other end
  pub end_unlearnt : (new : Plain) → new.stores.logs ≡ both_ends → new.learnt 1 ≡ far_follow
      → SaysPlainly four_types two_shards (Some follows_far) (Called (called.Write followed_at_1)) new → ⊥
