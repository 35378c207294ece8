-- A write that took a stage is still on its way.
use Rattle.std.proofs.Common.{◌≡◌, ℕ, ◌≤◌, false, true, List, Option, Some, None, Result, Ok, Err, refl, ap, sym, subst, ◌∙◌, arith}
use Rattle.std.specs.Prelude.{◌-◌, ◌<◌, ◌≢◌, ⊤, IfErr, IfOk, IfSome, IsSome, IsSomeAnd, IsTrue, length, option_and_then, slice_get}
use Rattle.counts.proofs.Rises.{Rose-earlier, Rose-later}
use Rattle.counts.specs.Count.{Rose}
use Rattle.hop_count.specs.Hops.{hops_after}
use Rattle.cluster_writes.proofs.StageLemmas.{commits_since, held_in, if_map, if_none, if_some, left_later, left_near, of_some, some_of}
use Rattle.cluster_writes.proofs.StageLemmas.{stands_at, stands_on}
use Rattle.cluster_writes.specs.Open.{HasFailedSince, HasNotes, IsAnswerOf, IsBeforeEnd, IsCommitOf, IsCommitRefused, IsDoneThere, IsFarView, IsLeftFor}
use Rattle.cluster_writes.specs.Open.{IsLinkRefusal, IsMergeOf, IsNotEnded, IsRefusedFor, IsUnderWay, IsWayNote, IsWriteOf, IsWrittenThere, KnowsJob}
use Rattle.cluster_writes.specs.Open.{MergesSo, Opening, OwesIn, RefusesCommit, RefusesOpen, StepsAtOnce, StepsWrite, call_planned}
use Rattle.cluster_writes.specs.declared.merging.CameOfMerge.{CameOfMerge}
use Rattle.cluster_writes.specs.declared.open.OpenWrite.{OpenWrite}
use Rattle.core_model.specs.Asked.{AuthoredWrite, client_call}
use Rattle.core_model.specs.Jobs.{far_shard}
use Rattle.core_model.specs.Serving.{IsFollowerFor, IsLeaderFor}
use Rattle.graph_model.specs.Soundness.{is_client}
use Rattle.locked_nodes.specs.Cluster.{OnCluster}
use Rattle.locked_writes.specs.Writes.{CommitsIn, MergesSince}
use Rattle.log_names.specs.Names.{IsOfLog}
use Rattle.replies.specs.declared.calls.ScheduledWhy.{ScheduledWhy}
use Rattle.replies.specs.declared.refusals.Refusal.{Refusal}
use Rattle.replies.specs.declared.refusals.Refusal.TheVariants as refusal_is
use Rattle.replies.specs.declared.refusals.StoreRefused.TheVariants as store
use Rattle.replies.specs.declared.reply.Reply.{Reply}
use Rattle.replies.specs.declared.reply.Reply.TheVariants as reply
use Rattle.shard_log.proofs.GrowthLemmas.{grows-self, grows-trans}
use Rattle.shard_log.specs.View.{Grows, View}
use Rattle.shard_tables.specs.Written.{LiesOn, StandsIn}
use Rattle.shard_tables.specs.declared.writes.Wrote.{Wrote}
use Rattle.shared_stores.specs.Owed.{IsDoneIn, IsOwed, IsOwedIn, owed_by}
use Rattle.tao_base.specs.Writes.{ChangesType, write_shard}
use Rattle.tao_base.specs.declared.entry.Entry.{Entry}
use Rattle.tao_base.specs.declared.entry.Origin.{Origin}
use Rattle.tao_base.specs.declared.write.Write.{Write}
use Rattle.tao_keeper.specs.declared.jobs.Job.{Job}
use Rattle.tao_link.specs.Shown.{LinkShown}
use Rattle.tao_schema.specs.Schema.{types_of}
use Rattle.write_plan.specs.Committing.{has_inverse, kind_said}
use Rattle.write_plan.specs.Plans.{Writing, after_stage, answered_entry, answered_job, answered_passed, next_of, when_of, written_there}
use Rattle.write_plan.specs.declared.committed.Committed.{Committed}
use Rattle.write_plan.specs.declared.progress.OtherEnd.{OtherEnd}
use Rattle.write_plan.specs.declared.progress.OtherEnd.TheVariants.{Due, Merged, Ended, Open}
use Rattle.write_plan.specs.declared.progress.WayBack.TheVariants.{Ahead, Relayed, Applied}
use Rattle.write_plan.specs.declared.results.CommitAnswer.{CommitAnswer}
use Rattle.write_plan.specs.declared.results.LeftOpen.{LeftOpen}
use Rattle.write_plan.specs.declared.results.LeftOpen.TheVariants as remains
use Rattle.write_plan.specs.declared.results.LeftOpen.TheVariants.{Scheduled}
use Rattle.write_plan.specs.declared.results.WriteResult.TheVariants as came_of
use Rattle.write_plan.specs.declared.stage.WriteStage.TheVariants as stage

-- a job is none of another standing
due_merged : (job : OtherEnd) → job ≡ Due → job ≡ Merged → ⊥
due_merged job due merged = absurd (let e : Due ≡ Merged = sym due ∙ merged in cc)

due_ended : (job : OtherEnd) → job ≡ Due → job ≡ Ended → ⊥
due_ended job due ended = absurd (let e : Due ≡ Ended = sym due ∙ ended in cc)

due_open : (job : OtherEnd) (reason : ScheduledWhy) → job ≡ Due → job ≡ Open reason → ⊥
due_open job reason due open_is = absurd (let e : Due ≡ Open reason = sym due ∙ open_is in cc)

same_reason : (one two : ScheduledWhy) → Open one ≡ Open two → one ≡ two
same_reason one two is = cc

none_some : {X : Type 0} (o : Option X) (x : X) → o ≡ Some x → o ≡ None → ⊥
none_some o x is none = absurd (let e : None ≡ Some x = sym none ∙ is in cc)

none_held : {X : Type 0} (o : Option X) → IsSome o → o ≡ None → ⊥
none_held None some none = absurd (let e : false ≡ true = some in cc)
none_held (Some x) some none = absurd (let e : Some x ≡ None = none in cc)

-- the first that is known of what was written at the other end
known_there : (before more : Option Wrote) (P : Wrote → Type 0) → IfSome before P → IfSome more P → IfSome (written_there before more) P
known_there None more P was now = now
known_there (Some wrote) more P was now = was

known_now : (before : Option Wrote) (wrote : Wrote) → IsSome (written_there before (Some wrote))
known_now None wrote = refl
known_now (Some first) wrote = refl

-- the plan is of the same write, at the same follower, with the same answer of its commit
record IsSamePlan (p q : Writing) : Type 0 where
  pub home : q.region ≡ p.region
  pub write : q.write ≡ p.write
  pub origin : q.origin ≡ p.origin
  pub follower : q.follower ≡ p.follower
  pub committed : q.committed ≡ p.committed

module _ {M : Type 0} (on : OnCluster M) where
  -- ---- what a write on its way owes and has

  owed_at : (begun : Opening) (w : OpenWrite) (c : Committed) (job : Job) (e : Entry) → IsOfLog on.log (write_shard w.plan.write) w.seen
      → IsCommitOf on begun w c → c.wrote.job ≡ Some job → c.wrote.entry ≡ Some e → far_shard job ≢ write_shard w.plan.write
      → IsOwedIn on.tells on.making on.log w.seen (owed_by (write_shard w.plan.write) job e)
  owed_at begun w c job e log of job_is entry_is away = record {
    owes = of_some c.wrote.entry e
        (λ f. far_shard job ≢ write_shard w.plan.write
        → IsOwed on.tells (types_of on.making.settings.schema) (owed_by (write_shard w.plan.write) job f)) entry_is
        (of_some c.wrote.job job (λ j. IfSome c.wrote.entry (λ f. far_shard j ≢ write_shard w.plan.write
        → IsOwed on.tells (types_of on.making.settings.schema) (owed_by (write_shard w.plan.write) j f))) job_is of.commits.owes) away;
    log_is = log;
    stands = stands_on c.wrote.note w.seen e of.sees (of_some c.wrote.entry e (StandsIn c.wrote.note) entry_is of.commits.stands);
  }

  owed_by_commit : (begun : Opening) (w : OpenWrite) (o : Option Committed) (job : Job) (e : Entry) → IsOfLog on.log (write_shard w.plan.write) w.seen
      → IfSome o (IsCommitOf on begun w) → option_and_then (λ (c : Committed). c.wrote.job) o ≡ Some job
      → option_and_then (λ (c : Committed). c.wrote.entry) o ≡ Some e → far_shard job ≢ write_shard w.plan.write
      → IsOwedIn on.tells on.making on.log w.seen (owed_by (write_shard w.plan.write) job e)
  owed_by_commit begun w None job e log of job_is entry_is away = absurd (let x : None ≡ Some job = job_is in cc)
  owed_by_commit begun w (Some c) job e log of job_is entry_is away = owed_at begun w c job e log of job_is entry_is away

  -- its job is owed
  pub owes_in : (begun : Opening) (faults : ℕ) (w : OpenWrite) → IsWriteOf on begun faults w → OwesIn on w.plan w.seen
  owes_in begun faults w is = record {
    owed = λ job e job_is entry_is away. owed_by_commit begun w w.plan.committed job e is.log_is is.committed job_is entry_is away;
  }

  -- what was written there is so for each plan of the same write, with the same answer of its commit
  module _ (p q : Writing) (write : q.write ≡ p.write) (committed : q.committed ≡ p.committed) where
    far_like : (view : View) → IfSome (answered_job p) (IsFarView on p view) → IfSome (answered_job q) (IsFarView on q view)
    far_like view far =
        subst (λ o. IfSome (option_and_then (λ (c : Committed). c.wrote.job) o) (IsFarView on q view)) (sym committed)
        (if_map (answered_job p) (IsFarView on p view) (IsFarView on q view)
        (λ job is. record {
          away = subst (λ (x : Write). far_shard job ≢ write_shard x) (sym write) is.away;
          there = is.there;
          log_is = is.log_is;
          told_is = is.told_is;
        }) far)

    written_like : (notes : List View) (wrote : Wrote) → IsWrittenThere on notes p wrote → IsWrittenThere on notes q wrote
    written_like notes wrote is = record {
      done = subst (λ (o : Option Committed). IfSome (option_and_then (λ (c : Committed). c.wrote.job) o)
          (λ job. IfSome (option_and_then (λ (c : Committed). c.wrote.entry) o)
          (λ e. IsDoneIn on.making on.log wrote.note (owed_by (write_shard q.write) job e)))) (sym committed)
          (subst (λ (x : Write). IfSome (answered_job p) (λ job. IfSome (answered_entry p)
          (λ e. IsDoneIn on.making on.log wrote.note (owed_by (write_shard x) job e)))) (sym write) is.done);
      far = far_like wrote.note is.far;
      since = subst (λ (o : Option Committed). IfSome (option_and_then (λ (c : Committed). c.wrote.job) o)
          (λ job. IfSome (slice_get notes (far_shard job)) (λ own. Grows own wrote.note))) (sym committed) is.since;
      stands = is.stands;
      lies = subst (λ (o : Option Committed). IfSome (option_and_then (λ (c : Committed). c.wrote.job) o)
          (λ job. IfSome wrote.entry (LiesOn wrote.note (far_shard job)))) (sym committed) is.lies;
      answers = subst (λ (o : Option Committed). IsSome (option_and_then (λ (c : Committed). c.wrote.entry) o)) (sym committed) is.answers;
      merges = λ told.
          subst (λ (o : Option Committed). IfSome (option_and_then (λ (c : Committed). c.wrote.job) o) (λ job. IsSomeAnd (slice_get notes (far_shard job))
          (λ own. MergesSince (write_shard q.write) job own.entries wrote.note.entries wrote.entry))) (sym committed)
          (subst (λ (x : Write). IfSome (answered_job p) (λ job. IsSomeAnd (slice_get notes (far_shard job))
          (λ own. MergesSince (write_shard x) job own.entries wrote.note.entries wrote.entry))) (sym write) (is.merges told));
    }

    others_like : (notes : List View) (o : Option Wrote) → IfSome o (IsWrittenThere on notes p) → IfSome o (IsWrittenThere on notes q)
    others_like notes o = if_map o (IsWrittenThere on notes p) (IsWrittenThere on notes q) (written_like notes)

    fars_like : (o : Option View) → IfSome o (λ view. IfSome (answered_job p) (IsFarView on p view))
        → IfSome o (λ view. IfSome (answered_job q) (IsFarView on q view))
    fars_like o = if_map o (λ view. IfSome (answered_job p) (IsFarView on p view)) (λ view. IfSome (answered_job q) (IsFarView on q view)) far_like

  commit_of : (begun : Opening) (faults : ℕ) (w : OpenWrite) (c : Committed) → IsWriteOf on begun faults w → w.plan.committed ≡ Some c
      → IsCommitOf on begun w c
  commit_of begun faults w c is c_is = of_some w.plan.committed c (IsCommitOf on begun w) c_is is.committed

  way_note : (begun : Opening) (faults : ℕ) (w : OpenWrite) (c : Committed) → IsWriteOf on begun faults w → w.plan.committed ≡ Some c
      → IsWayNote on w.plan c.wrote.note
  way_note begun faults w c is c_is =
      let of = commit_of begun faults w c is c_is in
      record {
        log_is = of.commits.log_is;
        stands = subst (λ o. IfSome (option_and_then (λ (x : Committed). x.wrote.entry) o) (StandsIn c.wrote.note)) (sym c_is) of.commits.stands;
        lies = subst (λ o. IfSome (option_and_then (λ (x : Committed). x.wrote.entry) o) (LiesOn c.wrote.note (write_shard w.plan.write))) (sym c_is)
            of.commits.lies;
      }

  -- what is handed out for the leader that was passed
  pub record IsToRelay (p : Writing) (note : View) : Type 0 where
    pub committed : IsSome p.committed
    pub passes : IsSome (answered_passed p)
    pub passed : IfSome (answered_passed p) (IsLeaderFor on.making.settings (write_shard p.write))
    pub noted : IsWayNote on p note

  -- what is handed out for the follower
  pub record IsToApply (p : Writing) (note : View) : Type 0 where
    pub committed : IsSome p.committed
    pub follower : IsFollowerFor on.making.settings (write_shard p.write) p.follower
    pub noted : IsWayNote on p note

  -- the note for the leader that was passed is there
  pub relay_held : (begun : Opening) (faults : ℕ) (w : OpenWrite) → IsWriteOf on begun faults w → next_of w.plan ≡ stage.Relay
      → IfSome w.plan.committed (λ c. w.plan.relay ≡ Some c.wrote.note)
  relay_held begun faults w is next =
      let at = stands_at w.plan stage.Relay next in
      let of = commit_of begun faults w at.c is at.is in
      if_some w.plan.committed at.c (λ c. w.plan.relay ≡ Some c.wrote.note) at.is
      (held_in at.c.passed (w.plan.relay ≡ Some at.c.wrote.note) at.at.0 (of.notes.relay at.going at.at.1))

  pub spare_held : (begun : Opening) (faults : ℕ) (w : OpenWrite) → IsWriteOf on begun faults w → next_of w.plan ≡ stage.Apply
      → IfSome w.plan.committed (λ c. w.plan.spare ≡ Some c.wrote.note)
  spare_held begun faults w is next =
      let at = stands_at w.plan stage.Apply next in
      let of = commit_of begun faults w at.c is at.is in
      if_some w.plan.committed at.c (λ c. w.plan.spare ≡ Some c.wrote.note) at.is (of.notes.spare at.going at.at)

  pub relay_committed : (w : OpenWrite) → next_of w.plan ≡ stage.Relay → IsSome w.plan.committed
  relay_committed w next = let at = stands_at w.plan stage.Relay next in some_of w.plan.committed at.c at.is

  pub apply_committed : (w : OpenWrite) → next_of w.plan ≡ stage.Apply → IsSome w.plan.committed
  apply_committed w next = let at = stands_at w.plan stage.Apply next in some_of w.plan.committed at.c at.is

  pub inverse_committed : (w : OpenWrite) → next_of w.plan ≡ stage.Inverse → IsSome w.plan.committed
  inverse_committed w next = let at = stands_at w.plan stage.Inverse next in some_of w.plan.committed at.c at.is

  -- what is handed out is right for the leader
  pub to_relay : (begun : Opening) (faults : ℕ) (w : OpenWrite) (note : View) (p : Writing) → IsWriteOf on begun faults w → next_of w.plan ≡ stage.Relay
      → IfSome w.plan.committed (λ c. note ≡ c.wrote.note) → p ≡ record w.plan { relay = None } → IsToRelay p note
  to_relay begun faults w note p is next note_is p_is =
      let at = stands_at w.plan stage.Relay next in
      let of = commit_of begun faults w at.c is at.is in
      let noted : IsWayNote on w.plan note =
      subst (λ (v : View). IsWayNote on w.plan v) (sym (of_some w.plan.committed at.c (λ c. note ≡ c.wrote.note) at.is note_is))
      (way_note begun faults w at.c is at.is) in
      subst (λ (q : Writing). IsToRelay q note) (sym p_is) (record {
        committed = some_of w.plan.committed at.c at.is;
        passes = subst (λ o. IsSome (option_and_then (λ (c : Committed). c.passed) o)) (sym at.is) at.at.0;
        passed = subst (λ o. IfSome (option_and_then (λ (c : Committed). c.passed) o) (IsLeaderFor on.making.settings (write_shard w.plan.write))) (sym at.is)
            of.passed;
        noted = record { log_is = noted.log_is; stands = noted.stands; lies = noted.lies };
      })

  -- and for the follower
  pub to_apply : (begun : Opening) (faults : ℕ) (w : OpenWrite) (note : View) (p : Writing) → IsWriteOf on begun faults w → next_of w.plan ≡ stage.Apply
      → IfSome w.plan.committed (λ c. note ≡ c.wrote.note) → p ≡ record w.plan { spare = None } → IsToApply p note
  to_apply begun faults w note p is next note_is p_is =
      let at = stands_at w.plan stage.Apply next in
      let noted : IsWayNote on w.plan note =
      subst (λ (v : View). IsWayNote on w.plan v) (sym (of_some w.plan.committed at.c (λ c. note ≡ c.wrote.note) at.is note_is))
      (way_note begun faults w at.c is at.is) in
      subst (λ (q : Writing). IsToApply q note) (sym p_is) (record {
        committed = some_of w.plan.committed at.c at.is;
        follower = is.follower;
        noted = record { log_is = noted.log_is; stands = noted.stands; lies = noted.lies };
      })

  -- a job that is to be ended is done
  pub done_held : (begun : Opening) (faults : ℕ) (w : OpenWrite) → IsWriteOf on begun faults w → next_of w.plan ≡ stage.End
      → IsSomeAnd w.done (IsDoneThere on w.plan)
  done_held begun faults w is next = let at = stands_at w.plan stage.End next in is.job.merged at.at.1

  -- ---- a stage

  module _ (begun : Opening) (before after : ℕ) (w : OpenWrite) (seen : View) (is : IsWriteOf on begun before w) (le : before ≤ after)
      (grows : Grows w.seen seen) where
    still : HasFailedSince begun before → HasFailedSince begun after
    still failed = Rose-later begun.faults before after failed le

    since : Rose before after → HasFailedSince begun after
    since rose = Rose-earlier begun.faults before after is.later rose

    seen_on : (c : Committed) (p : Writing) (ended far : Option View) → IsCommitOf on begun w c → call_planned p ≡ call_planned w.plan → HasNotes p c
        → IsCommitOf on begun (record { plan = p; seen = seen; done = ended; far = far }) c
    seen_on c p ended far of same notes = record {
      commits = subst (λ (call : AuthoredWrite). CommitsIn on.tells on.making on.log call begun.seen c.wrote) (sym same) of.commits;
      sees = grows-trans c.wrote.note w.seen seen of.sees grows;
      kind = ap (λ (call : AuthoredWrite). kind_said call.write c.wrote.entry) same ∙ of.kind;
      paired = of.paired ∙ ap (λ (call : AuthoredWrite). has_inverse (types_of on.making.settings.schema) call.write) (sym same);
      leader = subst (λ (call : AuthoredWrite). IsLeaderFor on.making.settings (write_shard call.write) c.leader) (sym same) of.leader;
      passed = subst (λ (call : AuthoredWrite). IfSome c.passed (IsLeaderFor on.making.settings (write_shard call.write))) (sym same) of.passed;
      notes = notes;
    }

    -- a committed write of which a stage was taken
    kept : (c : Committed) (q : Writing) (ended far : Option View) → w.plan.committed ≡ Some c → IsSamePlan w.plan q → HasNotes q c
        → KnowsJob on begun after (record { plan = q; seen = seen; done = ended; far = far })
        → IfSome q.refused (RefusesOpen on begun after (record { plan = q; seen = seen; done = ended; far = far }))
        → IsWriteOf on begun after (record { plan = q; seen = seen; done = ended; far = far })
    kept c q ended far c_is same notes knows refuses = record {
      home = subst (λ n. n < length on.making.settings.regions) (sym same.home) is.home;
      here = subst (λ (x : Write). write_shard x < on.making.settings.shards) (sym same.write) is.here;
      follower = subst (λ (x : Write). IsFollowerFor on.making.settings (write_shard x) q.follower) (sym same.write)
          (subst (IsFollowerFor on.making.settings (write_shard w.plan.write)) (sym same.follower) is.follower);
      changes = subst (ChangesType (types_of on.making.settings.schema)) (sym same.write) is.changes;
      client = subst (λ (o : Origin). IsTrue (is_client o)) (sym same.origin) is.client;
      log_is = subst (λ (x : Write). IsOfLog on.log (write_shard x) seen) (sym same.write) (grows.log_is ∙ is.log_is);
      grows = grows-trans begun.seen w.seen seen is.grows grows;
      later = omega (arith, is.later, le);
      fresh = λ none. absurd (none_some q.committed c (same.committed ∙ c_is) none);
      committed = if_some q.committed c (IsCommitOf on begun (record { plan = q; seen = seen; done = ended; far = far })) (same.committed ∙ c_is)
          (seen_on c q ended far (commit_of begun before w c is c_is) (ap (client_call q.origin) same.write ∙ ap (λ o. client_call o w.plan.write) same.origin)
          notes);
      job = knows;
      refused = refuses;
    }

    -- ---- relay and apply

    way_knows : (q : Writing) → q ≡ record w.plan { relay = q.relay; spare = q.spare; back = q.back; refused = q.refused; hops = q.hops }
        → KnowsJob on begun after (record { plan = q; seen = seen; done = w.done; far = w.far })
    way_knows q q_is = subst (λ (p : Writing). KnowsJob on begun after (record { plan = p; seen = seen; done = w.done; far = w.far })) (sym q_is) (record {
      merged = is.job.merged;
      known = λ merged. let k = is.job.known merged in record { other = k.other; alone = k.alone };
      ended = λ ended. let k = is.job.ended ended in record { other = k.other; alone = k.alone };
      other = others_like w.plan (record w.plan { relay = q.relay; spare = q.spare; back = q.back; refused = q.refused; hops = q.hops }) refl refl begun.notes
          w.plan.other is.job.other;
      left = λ reason open_is. left_later on (HasFailedSince begun before) (HasFailedSince begun after) w.far reason still (is.job.left reason open_is);
      far = fars_like w.plan (record w.plan { relay = q.relay; spare = q.spare; back = q.back; refused = q.refused; hops = q.hops }) refl refl w.far is.job.far;
      none = is.job.none;
    })

    link_refuses : (v : OpenWrite) (said : Reply) → IsLinkRefusal (Rose before after) (when_of (answered_entry v.plan)) said
        → RefusesOpen on begun after v said
    link_refuses v said r = subst (RefusesOpen on begun after v) (sym r.reply_is) (since r.rose, refl)

    relay_came : (came : Result ⊤ Reply) (hops : ℕ) → next_of w.plan ≡ stage.Relay
        → IfErr came (IsLinkRefusal (Rose before after) (when_of (answered_entry w.plan)))
        → StepsWrite on begun after hops w
        (record { plan = after_stage w.plan (came_of.Relay came) hops; seen = seen; done = w.done; far = w.far })
    relay_came (Ok done) hops next fails =
        let at = stands_at w.plan stage.Relay next in
        let of = commit_of begun before w at.c is at.is in
        record {
          write = kept at.c (after_stage w.plan (came_of.Relay (Ok done)) hops) w.done w.far at.is
              (record { home = refl; write = refl; origin = refl; follower = refl; committed = refl })
              (record {
                spare = λ going early. of.notes.spare going (subst IsBeforeEnd (sym at.at.1) tt);
                relay = λ going ahead. absurd (let e : Relayed ≡ Ahead = ahead in cc);
              })
              (way_knows (after_stage w.plan (came_of.Relay (Ok done)) hops) refl)
              (if_none w.plan.refused
              (RefusesOpen on begun after (record { plan = after_stage w.plan (came_of.Relay (Ok done)) hops; seen = seen; done = w.done; far = w.far }))
              at.going);
          same = refl;
          hops = refl;
        }
    relay_came (Err said) hops next fails =
        let at = stands_at w.plan stage.Relay next in
        record {
          write = kept at.c (after_stage w.plan (came_of.Relay (Err said)) hops) w.done w.far at.is
              (record { home = refl; write = refl; origin = refl; follower = refl; committed = refl })
              (record {
                spare = λ going early. absurd (let e : Some said ≡ None = going in cc);
                relay = λ going ahead. absurd (let e : Some said ≡ None = going in cc);
              })
              (way_knows (after_stage w.plan (came_of.Relay (Err said)) hops) refl)
              (link_refuses (record { plan = after_stage w.plan (came_of.Relay (Err said)) hops; seen = seen; done = w.done; far = w.far }) said fails);
          same = refl;
          hops = refl;
        }

    apply_came : (came : Result ⊤ Reply) (hops : ℕ) → next_of w.plan ≡ stage.Apply
        → IfErr came (IsLinkRefusal (Rose before after) (when_of (answered_entry w.plan)))
        → StepsWrite on begun after hops w
        (record { plan = after_stage w.plan (came_of.Apply came) hops; seen = seen; done = w.done; far = w.far })
    apply_came (Ok done) hops next fails =
        let at = stands_at w.plan stage.Apply next in
        record {
          write = kept at.c (after_stage w.plan (came_of.Apply (Ok done)) hops) w.done w.far at.is
              (record { home = refl; write = refl; origin = refl; follower = refl; committed = refl })
              (record {
                spare = λ going early. absurd early;
                relay = λ going ahead. absurd (let e : Applied ≡ Ahead = ahead in cc);
              })
              (way_knows (after_stage w.plan (came_of.Apply (Ok done)) hops) refl)
              (if_none w.plan.refused
              (RefusesOpen on begun after (record { plan = after_stage w.plan (came_of.Apply (Ok done)) hops; seen = seen; done = w.done; far = w.far }))
              at.going);
          same = refl;
          hops = refl;
        }
    apply_came (Err said) hops next fails =
        let at = stands_at w.plan stage.Apply next in
        record {
          write = kept at.c (after_stage w.plan (came_of.Apply (Err said)) hops) w.done w.far at.is
              (record { home = refl; write = refl; origin = refl; follower = refl; committed = refl })
              (record {
                spare = λ going early. absurd (let e : Some said ≡ None = going in cc);
                relay = λ going ahead. absurd (let e : Some said ≡ None = going in cc);
              })
              (way_knows (after_stage w.plan (came_of.Apply (Err said)) hops) refl)
              (link_refuses (record { plan = after_stage w.plan (came_of.Apply (Err said)) hops; seen = seen; done = w.done; far = w.far }) said fails);
          same = refl;
          hops = refl;
        }

    -- ---- inverse and end

    -- the job goes on, and the way back stays
    job_kept : (c : Committed) (q : Writing) (ended far : Option View) → w.plan.refused ≡ None → w.plan.committed ≡ Some c
        → q ≡ record w.plan { job = q.job; other = q.other; hops = q.hops }
        → KnowsJob on begun after (record { plan = q; seen = seen; done = ended; far = far })
        → IsWriteOf on begun after (record { plan = q; seen = seen; done = ended; far = far })
    job_kept c q ended far going c_is q_is knows =
        let of = commit_of begun before w c is c_is in
        kept c q ended far c_is
        (record {
          home = ap (λ (p : Writing). p.region) q_is;
          write = ap (λ (p : Writing). p.write) q_is;
          origin = ap (λ (p : Writing). p.origin) q_is;
          follower = ap (λ (p : Writing). p.follower) q_is;
          committed = ap (λ (p : Writing). p.committed) q_is;
        })
        (subst (λ (p : Writing). HasNotes p c) (sym q_is) (record { spare = of.notes.spare; relay = of.notes.relay }))
        knows
        (if_none q.refused (RefusesOpen on begun after (record { plan = q; seen = seen; done = ended; far = far }))
        (ap (λ (p : Writing). p.refused) q_is ∙ going))

    has_job : (c : Committed) (o : Option Committed) → o ≡ Some c → IsSome c.wrote.job → option_and_then (λ (x : Committed). x.wrote.job) o ≡ None → ⊥
    has_job c o c_is some none =
        none_held c.wrote.job some (sym (ap (option_and_then (λ (x : Committed). x.wrote.job)) c_is) ∙ none)

    inverse_came : (came : CameOfMerge) (result : Result Wrote LeftOpen) (hops : ℕ) → next_of w.plan ≡ stage.Inverse
        → MergesSo on begun.notes w.plan (Rose before after) came result
        → IfSome came.far (λ view. IfSome (answered_job w.plan) (IsFarView on w.plan view))
        → StepsWrite on begun after hops w
        (record { plan = after_stage w.plan (came_of.Inverse result) hops; seen = seen; done = came.done; far = came.far })
    inverse_came came (Ok wrote) hops next so is_far =
        let at = stands_at w.plan stage.Inverse next in
        record {
          write = job_kept at.c (after_stage w.plan (came_of.Inverse (Ok wrote)) hops) came.done came.far at.going at.is refl (record {
            merged = λ merged. so.1;
            known = λ merged. record { other = known_now w.plan.other wrote; alone = so.2 };
            ended = λ e. absurd (let x : Merged ≡ Ended = e in cc);
            other = others_like w.plan (after_stage w.plan (came_of.Inverse (Ok wrote)) hops) refl refl begun.notes (written_there w.plan.other (Some wrote))
                (known_there w.plan.other (Some wrote) (IsWrittenThere on begun.notes w.plan) is.job.other so.0);
            left = λ reason open_is. absurd (let e : Merged ≡ Open reason = open_is in cc);
            far = fars_like w.plan (after_stage w.plan (came_of.Inverse (Ok wrote)) hops) refl refl came.far is_far;
            none = λ none. absurd (has_job at.c w.plan.committed at.is at.at.0 none);
          });
          same = refl;
          hops = refl;
        }
    inverse_came came (Err (Scheduled why wrote)) hops next so is_far =
        let at = stands_at w.plan stage.Inverse next in
        record {
          write = job_kept at.c (after_stage w.plan (came_of.Inverse (Err (Scheduled why wrote))) hops) came.done came.far at.going at.is refl (record {
            merged = λ merged. absurd (let e : Open why ≡ Merged = merged in cc);
            known = λ merged. absurd (let e : Open why ≡ Merged = merged in cc);
            ended = λ e. absurd (let x : Open why ≡ Ended = e in cc);
            other = others_like w.plan (after_stage w.plan (came_of.Inverse (Err (Scheduled why wrote))) hops) refl refl begun.notes (written_there w.plan.other wrote)
                (known_there w.plan.other wrote (IsWrittenThere on begun.notes w.plan) is.job.other so.1);
            left = λ reason open_is.
                subst (IsLeftFor on (HasFailedSince begun after) came.far) (same_reason why reason open_is)
                (left_later on (Rose before after) (HasFailedSince begun after) came.far why since so.0);
            far = fars_like w.plan (after_stage w.plan (came_of.Inverse (Err (Scheduled why wrote))) hops) refl refl came.far is_far;
            none = λ none. absurd (has_job at.c w.plan.committed at.is at.at.0 none);
          });
          same = refl;
          hops = refl;
        }
    inverse_came came (Err (remains.Refused said)) hops next so is_far = absurd so

    end_came : (result : Result ⊤ LeftOpen) (hops : ℕ) → next_of w.plan ≡ stage.End → IfErr result (IsNotEnded on)
        → StepsWrite on begun after hops w
        (record { plan = after_stage w.plan (came_of.End result) hops; seen = seen; done = None; far = w.far })
    end_came (Ok ended) hops next so =
        let at = stands_at w.plan stage.End next in
        record {
          write = job_kept at.c (after_stage w.plan (came_of.End (Ok ended)) hops) None w.far at.going at.is refl (record {
            merged = λ merged. absurd (let e : Ended ≡ Merged = merged in cc);
            known = λ merged. absurd (let e : Ended ≡ Merged = merged in cc);
            ended = λ ended. let k = is.job.known at.at.1 in record { other = k.other; alone = k.alone };
            other = others_like w.plan (after_stage w.plan (came_of.End (Ok ended)) hops) refl refl begun.notes w.plan.other is.job.other;
            left = λ reason open_is. absurd (let e : Ended ≡ Open reason = open_is in cc);
            far = fars_like w.plan (after_stage w.plan (came_of.End (Ok ended)) hops) refl refl w.far is.job.far;
            none = λ none. absurd (has_job at.c w.plan.committed at.is at.at.0 none);
          });
          same = refl;
          hops = refl;
        }
    end_came (Err (Scheduled why None)) hops next so =
        let at = stands_at w.plan stage.End next in
        record {
          write = job_kept at.c (after_stage w.plan (came_of.End (Err (Scheduled why None))) hops) None w.far at.going at.is refl (record {
            merged = λ merged. absurd (let e : Open why ≡ Merged = merged in cc);
            known = λ merged. absurd (let e : Open why ≡ Merged = merged in cc);
            ended = λ ended. absurd (let e : Open why ≡ Ended = ended in cc);
            other = others_like w.plan (after_stage w.plan (came_of.End (Err (Scheduled why None))) hops) refl refl begun.notes (written_there w.plan.other None)
                (known_there w.plan.other None (IsWrittenThere on begun.notes w.plan) is.job.other tt);
            left = λ reason open_is.
                subst (IsLeftFor on (HasFailedSince begun after) w.far) (same_reason why reason open_is) (left_near on (HasFailedSince begun after) w.far why so);
            far = fars_like w.plan (after_stage w.plan (came_of.End (Err (Scheduled why None))) hops) refl refl w.far is.job.far;
            none = λ none. absurd (has_job at.c w.plan.committed at.is at.at.0 none);
          });
          same = refl;
          hops = refl;
        }
    end_came (Err (Scheduled why (Some wrote))) hops next so = absurd so
    end_came (Err (remains.Refused said)) hops next so = absurd so

    -- ---- commit

    refusal_open : (v : OpenWrite) (refusal : Refusal) → v.plan.committed ≡ None
        → IsCommitRefused on (call_planned v.plan) v.seen (Rose before after) refusal → IsRefusedFor on begun after v refusal
    refusal_open v (refusal_is.Store (store.LinkFault count when)) none so =
        (since so.0, so.1 ∙ sym (ap (λ o. when_of (option_and_then (λ (c : Committed). c.wrote.entry) o)) none))
    refusal_open v (refusal_is.Store (store.KeeperFault count)) none so = (none, so)
    refusal_open v (refusal_is.Store (store.TooOld cut position)) none so = (none, so)
    refusal_open v (refusal_is.Store (store.SeqReused position)) none so = (none, so)
    refusal_open v (refusal_is.Store (store.ShardFull serial)) none so = (none, so)
    refusal_open v (refusal_is.Store (store.StampFull number)) none so = (none, so)
    refusal_open v (refusal_is.Store (store.LogFull count)) none so = (none, so)
    refusal_open v (refusal_is.Store (store.Unsettled shard reason)) none so = (none, so)
    refusal_open v (refusal_is.Line line) none so = (none, so)
    refusal_open v (refusal_is.Plan plan) none so = (none, so)
    refusal_open v (refusal_is.Session session) none so = (none, so)
    refusal_open v (refusal_is.Name name) none so = (none, so)
    refusal_open v (refusal_is.Node node) none so = (none, so)
    refusal_open v (refusal_is.Memory position) none so = (none, so)

    reply_open : (v : OpenWrite) (said : Reply) → v.plan.committed ≡ None
        → RefusesCommit on (call_planned v.plan) v.seen (Rose before after) said → RefusesOpen on begun after v said
    reply_open v (reply.Refused refusal) none so = refusal_open v refusal none so
    reply_open v (reply.Called called) none so = so
    reply_open v reply.Configured none so = so
    reply_open v (reply.BadConfiguration field) none so = so
    reply_open v (reply.BadStores at position) none so = so
    reply_open v (reply.Opened session) none so = so
    reply_open v (reply.Plan plan) none so = so
    reply_open v (reply.Node node) none so = so
    reply_open v (reply.Settled logs) none so = so
    reply_open v (reply.Audited answer position) none so = so

    commit_came : (came : Result CommitAnswer Reply) (hops : ℕ) → next_of w.plan ≡ stage.Commit
        → IfOk came (IsAnswerOf on (call_planned w.plan) w.seen seen) → IfErr came (RefusesCommit on (call_planned w.plan) seen (Rose before after))
        → StepsWrite on begun after hops w
        (record { plan = after_stage w.plan (came_of.Commit came) hops; seen = seen; done = w.done; far = w.far })
    commit_came (Ok answer) hops next so fails =
        let at = stands_at w.plan stage.Commit next in
        let fresh = is.fresh at.1 in
        let v : OpenWrite = record { plan = after_stage w.plan (came_of.Commit (Ok answer)) hops; seen = seen; done = w.done; far = w.far } in
        record {
          write = record {
            home = is.home;
            here = is.here;
            follower = is.follower;
            changes = is.changes;
            client = is.client;
            log_is = grows.log_is ∙ is.log_is;
            grows = grows-trans begun.seen w.seen seen is.grows grows;
            later = omega (arith, is.later, le);
            fresh = λ none. absurd (let e : Some answer.committed ≡ None = none in cc);
            committed = record {
              commits = commits_since on.tells on.making on.log (call_planned w.plan) begun.seen w.seen answer.committed.wrote is.grows so.commits;
              sees = so.sees;
              kind = so.kind;
              paired = so.paired;
              leader = so.leader;
              passed = so.passed;
              notes = record { spare = λ going early. ap Some so.spare; relay = λ going ahead. so.relay };
            };
            job = record {
              merged = λ merged. absurd (due_merged w.plan.job fresh.job merged);
              known = λ merged. absurd (due_merged w.plan.job fresh.job merged);
              ended = λ ended. absurd (due_ended w.plan.job fresh.job ended);
              other = if_none w.plan.other (IsWrittenThere on begun.notes v.plan) fresh.other;
              left = λ reason open_is. absurd (due_open w.plan.job reason fresh.job open_is);
              far = if_none w.far (λ view. IfSome (answered_job v.plan) (IsFarView on v.plan view)) fresh.far;
              none = λ none. fresh.job;
            };
            refused = if_none w.plan.refused (RefusesOpen on begun after v) at.0;
          };
          same = refl;
          hops = refl;
        }
    commit_came (Err said) hops next so fails =
        let at = stands_at w.plan stage.Commit next in
        let fresh = is.fresh at.1 in
        let v : OpenWrite = record { plan = after_stage w.plan (came_of.Commit (Err said)) hops; seen = seen; done = w.done; far = w.far } in
        record {
          write = record {
            home = is.home;
            here = is.here;
            follower = is.follower;
            changes = is.changes;
            client = is.client;
            log_is = grows.log_is ∙ is.log_is;
            grows = grows-trans begun.seen w.seen seen is.grows grows;
            later = omega (arith, is.later, le);
            fresh = λ none. record { job = fresh.job; other = fresh.other; far = fresh.far };
            committed = if_none w.plan.committed (IsCommitOf on begun v) at.1;
            job = record {
              merged = is.job.merged;
              known = λ merged. let k = is.job.known merged in record { other = k.other; alone = k.alone };
              ended = λ ended. let k = is.job.ended ended in record { other = k.other; alone = k.alone };
              other = others_like w.plan v.plan refl refl begun.notes w.plan.other is.job.other;
              left = λ reason open_is. left_later on (HasFailedSince begun before) (HasFailedSince begun after) w.far reason still (is.job.left reason open_is);
              far = fars_like w.plan v.plan refl refl w.far is.job.far;
              none = is.job.none;
            };
            refused = reply_open v said at.1 fails;
          };
          same = refl;
          hops = refl;
        }

  -- ---- stages, as the plan takes them

  -- so many carries
  pub counted_steps : (begun : Opening) (faults hops first now : ℕ) (w v : OpenWrite) → hops ≡ now - first → StepsWrite on begun faults hops w v
      → StepsWrite on begun faults (now - first) w v
  counted_steps begun faults hops first now w v is steps = subst (λ n. StepsWrite on begun faults n w v) is steps

  pub commit_steps : (begun : Opening) (before after : ℕ) (w : OpenWrite) (seen : View) (came : Result CommitAnswer Reply) (hops : ℕ) (q : Writing)
      → IsWriteOf on begun before w → next_of w.plan ≡ stage.Commit → before ≤ after → Grows w.seen seen
      → IfOk came (IsAnswerOf on (call_planned w.plan) w.seen seen) → IfErr came (RefusesCommit on (call_planned w.plan) seen (Rose before after))
      → (stage.Commit ≡ next_of w.plan → q ≡ after_stage w.plan (came_of.Commit came) hops)
      → StepsWrite on begun after hops w (record { plan = q; seen = seen; done = w.done; far = w.far })
  commit_steps begun before after w seen came hops q is next le grows so fails takes =
      subst (λ (p : Writing). StepsWrite on begun after hops w (record { plan = p; seen = seen; done = w.done; far = w.far })) (sym (takes (sym next)))
      (commit_came begun before after w seen is le grows came hops next so fails)

  pub inverse_steps : (begun : Opening) (before after : ℕ) (w : OpenWrite) (seen : View) (came : CameOfMerge) (hops : ℕ) (q : Writing) (ended far : Option View)
      → IsWriteOf on begun before w → next_of w.plan ≡ stage.Inverse → before ≤ after → Grows w.seen seen
      → IsMergeOf on begun.notes w.plan (Rose before after) came → (stage.Inverse ≡ next_of w.plan → q ≡ after_stage w.plan (came_of.Inverse came.result) hops)
      → ended ≡ came.done → far ≡ came.far → StepsWrite on begun after hops w (record { plan = q; seen = seen; done = ended; far = far })
  inverse_steps begun before after w seen came hops q ended far is next le grows so takes ended_is far_is =
      subst (λ (o : Option View). StepsWrite on begun after hops w (record { plan = q; seen = seen; done = ended; far = o })) (sym far_is)
      (subst (λ (o : Option View). StepsWrite on begun after hops w (record { plan = q; seen = seen; done = o; far = came.far })) (sym ended_is)
      (subst (λ (p : Writing). StepsWrite on begun after hops w (record { plan = p; seen = seen; done = came.done; far = came.far })) (sym (takes (sym next)))
      (inverse_came begun before after w seen is le grows came came.result hops next so.result so.far)))

  pub end_steps : (w : OpenWrite) (seen : View) (result : Result ⊤ LeftOpen) (q : Writing) (ended : Option View) → next_of w.plan ≡ stage.End
      → Grows w.seen seen → IfErr result (IsNotEnded on) → (stage.End ≡ next_of w.plan → q ≡ after_stage w.plan (came_of.End result) 0) → ended ≡ None
      → StepsAtOnce on w (record { plan = q; seen = seen; done = ended; far = w.far })
  end_steps w seen result q ended next grows so takes ended_is = record {
    steps = λ begun faults is.
        subst (λ (o : Option View). StepsWrite on begun faults 0 w (record { plan = q; seen = seen; done = o; far = w.far })) (sym ended_is)
        (subst (λ (p : Writing). StepsWrite on begun faults 0 w (record { plan = p; seen = seen; done = None; far = w.far })) (sym (takes (sym next)))
        (end_came begun faults faults w seen is (omega arith) grows result 0 next so));
  }

  pub relay_steps : (begun : Opening) (before after : ℕ) (w : OpenWrite) (came : Result ⊤ Reply) (hops : ℕ) (p q : Writing)
      → IsWriteOf on begun before w → next_of w.plan ≡ stage.Relay → before ≤ after → p ≡ record w.plan { relay = None }
      → IfErr came (IsLinkRefusal (Rose before after) (when_of (answered_entry p)))
      → (stage.Relay ≡ next_of p → q ≡ after_stage p (came_of.Relay came) hops)
      → StepsWrite on begun after hops w (record { plan = q; seen = w.seen; done = w.done; far = w.far })
  relay_steps begun before after w came hops p q is next le p_is fails takes =
      let takes_of : stage.Relay ≡ next_of w.plan → q ≡ after_stage w.plan (came_of.Relay came) hops =
      subst (λ (x : Writing). stage.Relay ≡ next_of x → q ≡ after_stage x (came_of.Relay came) hops) p_is takes in
      subst (λ (x : Writing). StepsWrite on begun after hops w (record { plan = x; seen = w.seen; done = w.done; far = w.far })) (sym (takes_of (sym next)))
      (relay_came begun before after w w.seen is le (grows-self w.seen) came hops next
      (subst (λ (x : Writing). IfErr came (IsLinkRefusal (Rose before after) (when_of (answered_entry x)))) p_is fails))

  pub apply_steps : (begun : Opening) (before after : ℕ) (w : OpenWrite) (came : Result ⊤ Reply) (hops : ℕ) (p q : Writing)
      → IsWriteOf on begun before w → next_of w.plan ≡ stage.Apply → before ≤ after → p ≡ record w.plan { spare = None }
      → IfErr came (IsLinkRefusal (Rose before after) (when_of (answered_entry p)))
      → (stage.Apply ≡ next_of p → q ≡ after_stage p (came_of.Apply came) hops)
      → StepsWrite on begun after hops w (record { plan = q; seen = w.seen; done = w.done; far = w.far })
  apply_steps begun before after w came hops p q is next le p_is fails takes =
      let takes_of : stage.Apply ≡ next_of w.plan → q ≡ after_stage w.plan (came_of.Apply came) hops =
      subst (λ (x : Writing). stage.Apply ≡ next_of x → q ≡ after_stage x (came_of.Apply came) hops) p_is takes in
      subst (λ (x : Writing). StepsWrite on begun after hops w (record { plan = x; seen = w.seen; done = w.done; far = w.far })) (sym (takes_of (sym next)))
      (apply_came begun before after w w.seen is le (grows-self w.seen) came hops next
      (subst (λ (x : Writing). IfErr came (IsLinkRefusal (Rose before after) (when_of (answered_entry x)))) p_is fails))

  -- ---- one after another

  pub under_way_on : (begun : Opening) (call : AuthoredWrite) (old new : LinkShown) (w v : OpenWrite) → IsUnderWay on begun call old w
      → old.carries ≤ new.carries → StepsWrite on begun new.faults (new.carries - old.carries) w v → IsUnderWay on begun call new v
  under_way_on begun call old new w v under le steps = record {
    write = steps.write;
    same = steps.same ∙ under.same;
    hops = (
        let later : begun.carries ≤ old.carries = under.hops.later in
        let before : w.plan.hops ≡ hops_after 0 (old.carries - begun.carries) = under.hops.hops_are in
        let after : v.plan.hops ≡ hops_after w.plan.hops (new.carries - old.carries) = steps.hops in
        record { later = omega (arith, later, le); hops_are = omega (arith, later, le, before, after) });
  }

  -- a write that begins is under way
  pub under_way_first : (begun : Opening) (link : LinkShown) (w : OpenWrite) → IsWriteOf on begun link.faults w → begun.carries ≡ link.carries
      → w.plan.hops ≡ 0 → IsUnderWay on begun (call_planned w.plan) link w
  under_way_first begun link w is carries hops = record {
    write = is;
    same = refl;
    hops = record { later = omega (arith, carries); hops_are = omega (arith, carries, hops) };
  }
