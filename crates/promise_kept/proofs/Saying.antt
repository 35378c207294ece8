-- What the reply to a line of a call says, in the words of the promise.
use Rattle.std.proofs.Common.{◌≡◌, ◌⊎◌, ℕ, zero, suc, List, Option, Some, None, refl, sym, subst, inl, inr}
use Rattle.core_model.specs.Stores.{stores_in}
use Rattle.plain_promise.specs.Promise.{Begun, IsAcknowledged, Logs, Plain, ReadsRightly, RefusesAt, SaysOfCall, SeenVersion, refused_at, settled_after}
use Rattle.promise_kept.proofs.ReadLemmas.{IsReadReply}
use Rattle.promise_kept.proofs.WriteEnds.{WasDone, answer_of}
use Rattle.promise_kept.proofs.WriteStages.{IsRefusedSo, RefusesHere}
use Rattle.replies.specs.declared.calls.CallReply.TheVariants as called
use Rattle.replies.specs.declared.calls.ReadReply.{ReadReply}
use Rattle.replies.specs.declared.reply.Reply.{Reply}
use Rattle.replies.specs.declared.reply.Reply.TheVariants.{Called, Settled}
use Rattle.request_check.specs.declared.checked.CheckedCall.{CheckedCall}
use Rattle.request_check.specs.declared.checked.CheckedCall.TheVariants.{Read, Write}
use Rattle.request_check.specs.declared.checked.CheckedRead.{CheckedRead}
use Rattle.request_check.specs.declared.checked.CheckedWrite.{CheckedWrite}
use Rattle.tao_base.specs.EdgeTypes.{EdgeTypes}
use Rattle.tao_base.specs.declared.entry.Entry.{Entry}
use Rattle.tao_core.specs.HeldCalls.{numbered_reply}
use Rattle.tao_keeper.specs.Table.{Tables}
use Rattle.tao_schema.specs.Schema.{types_of}
use Rattle.topology.specs.Config.{Settings}
use Rattle.write_model.specs.Merges.{Stores}
use Rattle.write_plan.specs.Plans.{Writing, reply_after}
use Rattle.write_plan.specs.declared.committed.Committed.{Committed}

-- no reply to a line of a call is that of a settle
pub not_settled : (types : EdgeTypes) (began : Begun) (old new : Plain) (was : Logs) (reply : Reply) (logs : Logs) → SaysOfCall types began was reply new
    → settled_after old reply logs ≡ old.settled
not_settled types began old new was (Settled lengths) logs says = absurd says
not_settled types began old new was other logs says = refl

-- a call that began, as its parts
abbrev pub began_as : CheckedCall → Begun → Begun
began_as asked began = record began { call = asked }

-- ---- reads

refuses_read : (read : CheckedRead) (old : Logs) (new : Stores) (n : ℕ) → new.logs ≡ old → RefusesAt n (Read read) old new
refuses_read read old new zero same = same
refuses_read read old new (suc n) same = same

module _ (types : EdgeTypes) (began : Begun) (read : CheckedRead) (old : Logs) (new : Plain) (reply : Reply) (replied : IsReadReply reply)
    (same : new.stores.logs ≡ old)
    (right : (answer : ReadReply) → reply ≡ Called (called.Read answer) → ReadsRightly types (began_as (Read read) began) read answer new.stores.logs) where
  -- the reply to a read at once
  pub read_says : SaysOfCall types (began_as (Read read) began) old reply new
  read_says = elim replied.is [
    | inl answered ↦ subst (λ r. SaysOfCall types (began_as (Read read) began) old r new) (sym answered.1) (right answered.0 answered.1)
    | inr refused ↦
        subst (λ r. SaysOfCall types (began_as (Read read) began) old r new) (sym refused.1) (refuses_read read old new.stores (refused_at refused.0) same)
  ]

  -- and to one that was held
  pub held_read_says : (number : ℕ) → SaysOfCall types (began_as (Read read) began) old (numbered_reply number reply) new
  held_read_says number = elim replied.is [
    | inl answered ↦
        subst (λ r. SaysOfCall types (began_as (Read read) began) old (numbered_reply number r) new) (sym answered.1) (right answered.0 answered.1)
    | inr refused ↦
        subst (λ r. SaysOfCall types (began_as (Read read) began) old (numbered_reply number r) new) (sym refused.1)
        (refuses_read read old new.stores (refused_at refused.0) same)
  ]

-- ---- writes

-- a plain state of these stores
abbrev pub plain_at : Settings → Tables → (ℕ → List Entry) → (ℕ → List SeenVersion) → (ℕ → Option Begun) → Option Logs → Plain
plain_at s tables learnt seen held settled =
    record { stores = stores_in s tables; learnt = learnt; seen = seen; held = held; settled = settled }

module _ (s : Settings) (was now : Tables) (began : Begun) (write : CheckedWrite) (learnt_now : ℕ → List Entry) (saw_now : ℕ → List SeenVersion)
    (held_now : ℕ → Option Begun) (settled_now : Option Logs) where
  abbrev Old : Logs
  Old = (stores_in s was).logs

  abbrev New : Plain
  New = plain_at s now learnt_now saw_now held_now settled_now

  abbrev Says : Reply → Type 0
  Says reply = SaysOfCall (types_of s.schema) (began_as (Write write) began) Old reply New

  refuses_write : (n : ℕ) → RefusesHere Old write (stores_in s now).logs n → RefusesAt n (Write write) Old New.stores
  refuses_write zero same = same
  refuses_write (suc n) stands = stands

  module _ (q : Writing) (reply : Reply)
      (right : (c : Committed) → q.committed ≡ Some c → q.refused ≡ None → reply ≡ reply_after c q.job q.hops
      → IsAcknowledged (types_of s.schema) (began_as (Write write) began) write (answer_of c q) Old New) where
    -- the reply to a write at once
    pub write_says : IsRefusedSo Old write (stores_in s now).logs reply ⊎ WasDone q reply → Says reply
    write_says (inl refused) = subst Says (sym refused.1) (refuses_write (refused_at refused.0) refused.2)
    write_says (inr done) = subst Says (sym done.reply_is) (right done.c done.committed_is done.unrefused done.reply_is)

    -- and to one that was held
    pub held_write_says : (number : ℕ) → IsRefusedSo Old write (stores_in s now).logs reply ⊎ WasDone q reply
        → Says (numbered_reply number reply)
    held_write_says number (inl refused) =
        subst (λ r. Says (numbered_reply number r)) (sym refused.1) (refuses_write (refused_at refused.0) refused.2)
    held_write_says number (inr done) =
        subst (λ r. Says (numbered_reply number r)) (sym done.reply_is) (right done.c done.committed_is done.unrefused done.reply_is)
