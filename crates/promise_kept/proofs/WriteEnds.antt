-- A write that is over: what its reply says stands, or its refusal says where its entry stands.
use Rattle.std.proofs.Common.{◌≡◌, ◌∙◌, ◌⊎◌, ◌∷◌, ◌++◌, [], ℕ, Bool, List, Option, Some, None, refl, sym, ap, subst, inl, inr}
use Rattle.std.proofs.lemmas.List.Elements.{Contains-append_cases}
use Rattle.std.specs.Option.{option_map}
use Rattle.std.specs.Prelude.{⊤, Contains, IfSome, IsSomeAnd, option_and_then, slice_get, unwrap_or}
use Rattle.core_model.proofs.Places.{one_some}
use Rattle.core_model.specs.Stores.{stores_in}
use Rattle.core_plans.specs.Held.{learnt_of_write, next_stage}
use Rattle.core_plans.specs.declared.held.HeldPlan.TheVariants.{Write as OfWrite}
use Rattle.plain_promise.specs.Promise.{Begun, FoundNothing, IsAcknowledged, Logs, SeenVersion, StandsAsLearnt, SaysId, gained}
use Rattle.promise_kept.proofs.Adding.{gained_past, here_learnt}
use Rattle.promise_kept.proofs.WriteStages.{IsRefusedSo, WritesSoFar}
use Rattle.promise_kept.specs.Seen.{HasJobOf, HasWritten, IsAnsweredFor, IsLearnt, OwesNothing}
use Rattle.replies.specs.declared.calls.InverseEnd.TheVariants as inverse
use Rattle.replies.specs.declared.calls.WriteKind.{WriteKind}
use Rattle.replies.specs.declared.calls.WriteKind.TheVariants as kind
use Rattle.replies.specs.declared.calls.WriteReply.{WriteReply}
use Rattle.replies.specs.declared.reply.Reply.{Reply}
use Rattle.request_check.specs.declared.checked.CheckedWrite.{CheckedWrite}
use Rattle.shard_tables.specs.Added.{first_put, put_by}
use Rattle.tao_base.specs.declared.data.Pair.{Pair}
use Rattle.tao_base.specs.declared.entry.Entry.{Entry}
use Rattle.tao_base.specs.declared.entry.Touch.{Touch}
use Rattle.tao_base.specs.declared.id.Key.TheVariants.{Obj}
use Rattle.tao_base.specs.declared.id.OType.{OType}
use Rattle.tao_base.specs.declared.write.Write.{Write}
use Rattle.tao_base.specs.declared.write.Write.TheVariants.{AssocAdd, AssocChangeType, AssocDelete, ObjAdd, ObjDelete, ObjUpdate}
use Rattle.tao_keeper.specs.KeeperState.{KeeperState}
use Rattle.tao_keeper.specs.declared.jobs.Job.{Job}
use Rattle.tao_schema.specs.Schema.{types_of}
use Rattle.topology.specs.Config.{Settings}
use Rattle.write_model.specs.Merges.{Stores}
use Rattle.write_model.specs.Writes.{FitsWrite, Names}
use Rattle.write_plan.specs.Committing.{kind_said}
use Rattle.write_plan.specs.Plans.{Writing, back_stage, has_other, inverse_said, job_stage, reply_after, reply_by, reply_of, stage_from, written_by}
use Rattle.write_plan.specs.Stages.{stage_said}
use Rattle.write_plan.specs.declared.committed.Committed.{Committed}
use Rattle.write_plan.specs.declared.progress.OtherEnd.{OtherEnd}
use Rattle.write_plan.specs.declared.progress.OtherEnd.TheVariants.{Due, Ended, Merged, Open}
use Rattle.write_plan.specs.declared.stage.WriteStage.{WriteStage}

-- ---- what is said of the object that was added

abbrev IsIdSaid : WriteKind → List Touch → Type 0
IsIdSaid (kind.ObjAdd id) ts = IsSomeAnd (slice_get ts 0) (λ t. t.key ≡ Obj id)
IsIdSaid other ts = ⊤

said_id : (told : WriteKind) (e : Entry) → IsIdSaid told e.touches → SaysId told e
said_id (kind.ObjAdd id) e h = h
said_id other e h = tt

added_id : (shard : ℕ) (otype : OType) (payload : List Pair) (ts : List Touch) (told : WriteKind) → Names (ObjAdd shard otype payload) ts
    → option_map kind.ObjAdd (first_put ts) ≡ Some told → IsIdSaid told ts
added_id shard otype payload [] told named is = absurd named
added_id shard otype payload (t ∷ ts) told named is =
    let put : put_by t.key t.change ≡ Some named.0 = ap (λ k. put_by k t.change) named.2 ∙ ap (put_by (Obj named.0)) named.3 in
    let same : Some (kind.ObjAdd named.0) ≡ Some told = ap (option_map kind.ObjAdd) (sym put) ∙ is in
    subst (λ k. IsIdSaid k (t ∷ ts)) (one_some (kind.ObjAdd named.0) told same) named.2

says_id : (write : Write) (e : Entry) (told : WriteKind) → FitsWrite e write → kind_said write (Some e) ≡ Some told → SaysId told e
says_id (ObjAdd shard otype payload) e told fits is = said_id told e (added_id shard otype payload e.touches told fits.named is)
says_id (ObjUpdate id payload) e told fits is = subst (λ k. SaysId k e) (one_some kind.ObjUpdate told is) tt
says_id (ObjDelete id) e told fits is = subst (λ k. SaysId k e) (one_some kind.ObjDelete told is) tt
says_id (AssocAdd id1 atype id2 time payload) e told fits is = subst (λ k. SaysId k e) (one_some kind.AssocAdd told is) tt
says_id (AssocDelete id1 atype id2) e told fits is = subst (λ k. SaysId k e) (one_some kind.AssocDelete told is) tt
says_id (AssocChangeType id1 atype id2 newtype) e told fits is = subst (λ k. SaysId k e) (one_some kind.AssocChangeType told is) tt

-- ---- what is said of the other end

-- where nothing is left to do and the inverse is said to be written, the entry owes nothing
nothing_owed : (job : Option Job) (at : OtherEnd) (other : Bool) (next : WriteStage)
    → stage_said (unwrap_or (option_and_then (λ _. job_stage at) job) next) ≡ None → inverse_said other at ≡ inverse.Written → OwesNothing job at
nothing_owed None at other next over told = tt
nothing_owed (Some j) Ended other next over told = tt
nothing_owed (Some j) Due other next over told = absurd (cc)
nothing_owed (Some j) Merged other next over told = absurd (cc)
nothing_owed (Some j) (Open why) other next over told = absurd (cc)

-- ---- its reply

-- what was answered, once a write was carried out
abbrev pub answer_of : Committed → Writing → WriteReply
answer_of c q = record {
  kind = c.kind;
  written = written_by c.wrote.retry (inverse_said (has_other c) q.job) c.wrote.entry;
  hops = q.hops;
}

-- it was carried out
pub record WasDone (q : Writing) (reply : Reply) : Type 0 where
  pub c : Committed
  pub committed_is : q.committed ≡ Some c
  pub unrefused : q.refused ≡ None
  pub reply_is : reply ≡ reply_after c q.job q.hops

reply_cases : (start : Logs) (call : CheckedWrite) (now : Logs) (q : Writing) (refused : Option Reply) (committed : Option Committed) (reply : Reply)
    → q.refused ≡ refused → q.committed ≡ committed → IfSome refused (IsRefusedSo start call now)
    → reply_by refused committed q.job q.hops ≡ Some reply → IsRefusedSo start call now reply ⊎ WasDone q reply
reply_cases start call now q (Some own) committed reply refused_is committed_is so is =
    inl (subst (IsRefusedSo start call now) (one_some own reply is) so)
reply_cases start call now q None None reply refused_is committed_is so is = absurd (cc)
reply_cases start call now q None (Some c) reply refused_is committed_is so is =
    inr (record { c = c; committed_is = committed_is; unrefused = refused_is; reply_is = sym (one_some (reply_after c q.job q.hops) reply is) })

module _ (s : Settings) (began : Begun) (call : CheckedWrite) (start : Logs) (q : Writing) (keepers : KeeperState)
    (so : WritesSoFar s began call start q keepers) where
  abbrev Now : Stores
  Now = stores_in s keepers.told

  pub write_reply_is : (reply : Reply) → reply_of q ≡ Some reply → IsRefusedSo start call Now.logs reply ⊎ WasDone q reply
  write_reply_is reply is = reply_cases start call Now.logs q q.refused q.committed reply refl refl so.refused is

  -- each entry that its lines have added it tells
  pub each_learnt : (e : Entry) → Contains (began.added ++ gained start Now.logs) e → IsLearnt (learnt_of_write q) e
  each_learnt e has = elim (Contains-append_cases began.added (gained start Now.logs) e has) [
    | inl before ↦ so.for_call.added e before
    | inr now ↦ (let past = gained_past start Now.logs e now in so.adds past.shard past.position e past.stands past.past)
  ]

  -- it stands, and who has learnt of these entries has learnt of it; or there was nothing to change
  abbrev IsDone : List Entry → WriteReply → Type 0
  IsDone learnt reply =
      ((entry : Entry) × StandsAsLearnt (types_of s.schema) Now call reply entry × Contains learnt entry)
      ⊎ FoundNothing (types_of s.schema) began Now call reply

  module _ (over : next_stage (OfWrite q) ≡ None) (c : Committed) (committed_is : q.committed ≡ Some c) (unrefused : q.refused ≡ None) where
    pub answered_now : IsAnsweredFor s Now began call q.job c
    answered_now = subst (λ o. IfSome o (IsAnsweredFor s Now began call q.job)) committed_is so.for_call.answered

    left_over : stage_said (unwrap_or (option_and_then (λ _. job_stage q.job) c.wrote.job) (back_stage c.passed q.back)) ≡ None
    left_over = subst (λ o. stage_said (stage_from None o q.job q.back) ≡ None) committed_is
        (subst (λ r. stage_said (stage_from r q.committed q.job q.back) ≡ None) unrefused over)

    -- it stands, and its session has learnt of it; or there was nothing to change
    done_by : (learnt : List Entry) (retry : Bool) (entry : Option Entry) → HasWritten s Now began call entry → HasJobOf s Now q.job c.wrote.job entry
        → kind_said call.write entry ≡ Some c.kind → ((e : Entry) → entry ≡ Some e → Contains learnt e)
        → IsDone learnt (record { kind = c.kind; written = written_by retry (inverse_said (has_other c) q.job) entry; hops = q.hops })
    done_by learnt retry None had none kind_is has = inr (record { n = had.n; since = had.since; nothing = had.nothing; position_is = refl })
    done_by learnt retry (Some e) stood job kind_is has = inl (
      e,
      record {
        stands = stood;
        position_is = refl;
        id_is = says_id call.write e c.kind stood.fits kind_is;
        other_ends = λ told. job.there (nothing_owed c.wrote.job q.job (has_other c) (back_stage c.passed q.back) left_over told);
      },
      has e refl,
    )

    pub acknowledged : (learnt : ℕ → List Entry) (saw : ℕ → List SeenVersion) (held : ℕ → Option Begun) (settled : Option Logs)
        → ((e : Entry) → IsLearnt (learnt_of_write q) e → Contains (learnt call.session) e)
        → IsAcknowledged (types_of s.schema) began call (answer_of c q) start (record { stores = Now; learnt = learnt; seen = saw; held = held; settled = settled })
    acknowledged learnt saw held settled has = record {
      done = done_by (learnt call.session) c.wrote.retry c.wrote.entry answered_now.written answered_now.job answered_now.kind_is
          (λ e entry. has e (here_learnt q c committed_is e entry));
      learns = λ e added. has e (each_learnt e added);
    }
