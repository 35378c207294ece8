-- When a cluster refuses a request at once.
use Rattle.std.proofs.Common.{ℕ, Option, None, Some, Result, Ok, Err, subst, inl, inr}
use Rattle.std.specs.Prelude.{IsSomeAnd, slice_get}
use Rattle.cluster_reads.specs.Reads.{RepliesToRead, asked_with}
use Rattle.cluster_writes.specs.Replies.{RepliesToWrite}
use Rattle.core_model.specs.Asked.{client_call}
use Rattle.cluster_closing.specs.locked_nodes.Begun.{begun}
use Rattle.cluster_closing.specs.locked_nodes.Cluster.{OnCluster}
use Rattle.replies.specs.declared.refusals.LineRefused.TheVariants.{NotHere}
use Rattle.replies.specs.declared.refusals.NameRefused.{NameRefused}
use Rattle.replies.specs.declared.refusals.Refusal.TheVariants.{Line, Session}
use Rattle.replies.specs.declared.refusals.SessionRefused.TheVariants.{NoSession}
use Rattle.replies.specs.declared.reply.Reply.{Reply}
use Rattle.replies.specs.declared.reply.Reply.TheVariants.{Refused}
use Rattle.request_check.specs.Calls.{checked_call}
use Rattle.request_check.specs.declared.checked.CheckedCall.{CheckedCall}
use Rattle.request_check.specs.declared.checked.CheckedCall.TheVariants.{Read, Write}
use Rattle.requests.specs.CallWords.{asking_session}
use Rattle.requests.specs.RequestWords.{request_word}
use Rattle.requests.specs.declared.calls.Call.{Call}
use Rattle.requests.specs.declared.request.Request.{Request}
use Rattle.requests.specs.declared.request.Request.TheVariants as request
use Rattle.tao_base.specs.Queries.{query_shard}
use Rattle.tao_base.specs.Writes.{write_shard}
use Rattle.tao_base.specs.declared.entry.Origin.TheVariants.{Client}
use Rattle.words.specs.declared.Word.{Word}
use Rattle.shared_tiers.specs.Calls.{AsksCall, Calling, RefusesAtOnce, RepliesTo, RepliesToCall, RepliesToChecked, RepliesToNamed, RepliesToOwn}
use Rattle.shared_tiers.specs.Exactly.{AreExact, IsOfAnother, RefusesExactly}

never_some : {X : Type 0} (P : X → Type 0) (o : Option X) → ((x : X) → P x → ⊥) → IsSomeAnd o P → ⊥
never_some P (Some x) never is = never x is
never_some P None never is = is

module _ {M : Type 0} (on : OnCluster M) (old new : Calling) where
  -- ---- what a read or a write is never refused for

  checked_line : (call : CheckedCall) (word : Word) → RepliesToChecked on old new call (Refused (Line (NotHere word))) → ⊥
  checked_line (Read call) word replies =
      never_some (λ seen. RepliesToRead on (begun seen old.link) (asked_with on.making old.pass call.query call.critical) old.pass new.pass new.link
      (Refused (Line (NotHere word)))) (slice_get old.pass.notes (query_shard call.query)) (λ seen both. both.0) replies
  checked_line (Write call) word replies =
      never_some (λ seen. RepliesToWrite on (begun seen old.link) (client_call (Client call.session call.seq) call.write) old.pass new.pass new.link
      (Refused (Line (NotHere word)))) (slice_get old.pass.notes (write_shard call.write)) (λ seen both. both.0) replies

  checked_session : (call : CheckedCall) (session : ℕ) → RepliesToChecked on old new call (Refused (Session (NoSession session))) → ⊥
  checked_session (Read call) session replies =
      never_some (λ seen. RepliesToRead on (begun seen old.link) (asked_with on.making old.pass call.query call.critical) old.pass new.pass new.link
      (Refused (Session (NoSession session)))) (slice_get old.pass.notes (query_shard call.query)) (λ seen both. both.0) replies
  checked_session (Write call) session replies =
      never_some (λ seen. RepliesToWrite on (begun seen old.link) (client_call (Client call.session call.seq) call.write) old.pass new.pass new.link
      (Refused (Session (NoSession session)))) (slice_get old.pass.notes (write_shard call.write)) (λ seen both. both.0) replies

  named_line : (found : Result CheckedCall NameRefused) (word : Word) → RepliesToNamed on old new found (Refused (Line (NotHere word))) → ⊥
  named_line (Ok call) word replies = checked_line call word replies
  named_line (Err name) word refuses = (let e = refuses.said_is in absurd (cc))

  named_session : (found : Result CheckedCall NameRefused) (session : ℕ) → RepliesToNamed on old new found (Refused (Session (NoSession session))) → ⊥
  named_session (Ok call) session replies = checked_session call session replies
  named_session (Err name) session refuses = (let e = refuses.said_is in absurd (cc))

  own_line : (call : Call) (word : Word) → RepliesToOwn on old new call (Refused (Line (NotHere word))) → ⊥
  own_line call word replies = elim replies [
    | inl none ↦ (let e = none.said_is in absurd (cc))
    | inr named ↦ named_line (checked_call on.making.settings call) word named
  ]

  own_session : (call : Call) (session : ℕ) → RepliesToOwn on old new call (Refused (Session (NoSession session))) → ⊥
  own_session call session replies = elim replies [
    | inl none ↦ (let e = none.said_is in absurd (cc))
    | inr named ↦ named_session (checked_call on.making.settings call) session named
  ]

  call_line : (call : Call) (word : Word) → RepliesToCall on old new call (Refused (Line (NotHere word))) → ⊥
  call_line call word replies = elim replies [
    | inl other ↦ (let e = other.1.said_is in absurd (cc))
    | inr own ↦ own_line call word own.1
  ]

  -- ---- calls, and other requests

  exact_call : (call : Call) (said : Reply) → RepliesToCall on old new call said → RefusesExactly old (request.Call call) said
  exact_call call said replies = record {
    not_here = (
      λ says asks. call_line call says.0 (subst (RepliesToCall on old new call) says.1 replies),
      λ never. absurd (never tt),
    );
    no_session = (
      λ says same. elim replies [
        | inl other ↦ other.0 same
        | inr own ↦ own_session call says.0 (subst (RepliesToOwn on old new call) says.1 own.1)
      ],
      λ differ. elim replies [
        | inl other ↦ (asking_session call, other.1.said_is)
        | inr own ↦ absurd (differ own.0)
      ],
    );
  }

  exact_other : (asked : Request) (said : Reply) → (AsksCall asked → ⊥) → (IsOfAnother old.pass.session asked → ⊥)
      → RefusesAtOnce old new (Line (NotHere (request_word asked))) said → RefusesExactly old asked said
  exact_other asked said no_call no_other refuses = record {
    not_here = (λ says. no_call, λ never. (request_word asked, refuses.said_is));
    no_session = (λ says. (let e = refuses.said_is in let f = says.1 in absurd (cc)), λ other. absurd (no_other other));
  }

  exact_of : (asked : Request) (said : Reply) → RepliesTo on old new asked said → RefusesExactly old asked said
  exact_of (request.Call call) said replies = exact_call call said replies
  exact_of (request.Open opening) said refuses = exact_other (request.Open opening) said (λ h. h) (λ h. h) refuses
  exact_of (request.Plan asked) said refuses = exact_other (request.Plan asked) said (λ h. h) (λ h. h) refuses
  exact_of (request.Cache asked) said refuses = exact_other (request.Cache asked) said (λ h. h) (λ h. h) refuses
  exact_of (request.Store asked) said refuses = exact_other (request.Store asked) said (λ h. h) (λ h. h) refuses
  exact_of (request.Health asked) said refuses = exact_other (request.Health asked) said (λ h. h) (λ h. h) refuses
  exact_of (request.Link asked) said refuses = exact_other (request.Link asked) said (λ h. h) (λ h. h) refuses

pub are_exact : {M : Type 0} (on : OnCluster M) → AreExact on
are_exact on = record { exact = λ old new asked said replies. exact_of on old new asked said replies }
