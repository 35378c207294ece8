-- What the reply to a write says of what its session's pass has then seen.
use Rattle.std.proofs.Common.{◌≡◌, ℕ, zero, suc, ◌≤◌, ◌<◌, ◌+◌, Bool, true, false, List, [], ◌∷◌, length, min, take, Option, Some, None}
use Rattle.std.proofs.Common.{refl, ap, sym, subst, ◌∙◌, arith}
use Rattle.std.proofs.lemmas.List.{length-take, take_min}
use Rattle.std.proofs.lemmas.Option.{get_or_from_slice_get}
use Rattle.std.specs.Prelude.{All, IfSome, IsSomeAnd, slice_get, slice_index_or, slice_set, option_and_then, unwrap_or}
use Rattle.core_model.proofs.Places.{set_get}
use Rattle.core_model.specs.Asked.{AuthoredWrite}
use Rattle.core_model.specs.Jobs.{far_shard}
use Rattle.graph_model.proofs.Members.{All-from_in, All-in}
use Rattle.graph_model.specs.Log.{entry_at}
use Rattle.graph_model.specs.Records.{HasStamp}
use Rattle.graph_model.specs.Soundness.{EdgeUpdate}
use Rattle.locked_nodes.proofs.Seeing.{one_some, some_and, some_parts}
use Rattle.locked_nodes.specs.Begun.{Begun}
use Rattle.locked_nodes.specs.Passes.{SeesNote}
use Rattle.locked_writes.specs.Writes.{MergesSince, StandsOnce}
use Rattle.node_name.specs.declared.NodeName.{NodeName}
use Rattle.replies.specs.declared.calls.InverseEnd.{InverseEnd}
use Rattle.replies.specs.declared.calls.InverseEnd.TheVariants as inverse
use Rattle.replies.specs.declared.calls.ScheduledWhy.{ScheduledWhy}
use Rattle.replies.specs.declared.calls.WriteKind.{WriteKind}
use Rattle.session_pass.specs.Passes.{SeenPass, after_meeting}
use Rattle.shard_log.proofs.Beginnings.{begins-length, longer_whole}
use Rattle.shard_log.proofs.GrowthLemmas.{first_stay}
use Rattle.shard_log.specs.View.{Grows, View, longer_view}
use Rattle.shard_tables.specs.Written.{AnswersAs}
use Rattle.shared_stores.specs.Asked.{asked_of_seen}
use Rattle.shared_stores.specs.Making.{Making}
use Rattle.tao_base.specs.EdgeTypes.{EdgeTypes}
use Rattle.tao_base.specs.Ids.{shard_of}
use Rattle.tao_base.specs.Writes.{write_kind, write_shard}
use Rattle.tao_base.specs.declared.entry.Entry.{Entry}
use Rattle.tao_base.specs.declared.entry.Kind.{Kind}
use Rattle.tao_base.specs.declared.entry.Origin.{Origin}
use Rattle.tao_base.specs.declared.entry.Touch.{Touch}
use Rattle.tao_keeper.specs.declared.jobs.Job.{Job}
use Rattle.tao_schema.specs.Schema.{types_of}
use Rattle.write_model.specs.Merges.{job_of, merge_of}
use Rattle.write_model.specs.Writes.{FitsWrite, next_entry, touches_of}
use Rattle.write_plan.specs.Plans.{back_stage, inverse_said, job_stage, written_by}
use Rattle.write_plan.specs.declared.progress.OtherEnd.{OtherEnd}
use Rattle.write_plan.specs.declared.progress.OtherEnd.TheVariants.{Due, Merged, Ended, Open}
use Rattle.write_plan.specs.declared.progress.WayBack.{WayBack}
use Rattle.write_plan.specs.declared.stage.WriteStage.TheVariants.{Done}
use Rattle.cluster_writes.specs.Replies.{HasSeen, HasSeenFull, HasSeenRecord, IsEntryOf, WritesIn, owed_job}

-- ---- what is seen

-- what is so in a note that what was seen before begins is so in what the pass has then seen
pub seen_so : (pass : SeenPass) (shard : ℕ) (from note : View) (P : List Entry → Type 0) → slice_get pass.notes shard ≡ Some (longer_view from note)
    → Grows from note → P note.entries → HasSeen pass shard (λ b. P b.entries)
seen_so pass shard from note P at grows is =
    some_and (λ (b : View). P b.entries) (slice_get pass.notes shard) (longer_view from note) at
    (subst P (sym (longer_whole from.entries note.entries grows.begins)) is)

-- a pass that met a note which what it had seen begins has then seen just that
unset : {X : Type 0} (xs : List X) (k : ℕ) (x : X) → slice_get xs k ≡ None → slice_get (slice_set xs k x) k ≡ None
unset [] k x none = none
unset (y ∷ ys) zero x none = absurd (let e : Some y ≡ None = none in cc)
unset (y ∷ ys) (suc k) x none = unset ys k x none

pub met_whole : (old new : List View) (far : ℕ) (note : View) → new ≡ after_meeting far note old → SeesNote far note new
    → IfSome (slice_get old far) (λ own. Grows own note) → IsSomeAnd (slice_get new far) (λ v. v.entries ≡ note.entries)
met_whole old new far note same sees since = by (slice_get old far) refl since
  where
    after : slice_get new far ≡ slice_get (after_meeting far note old) far
    after = ap (λ (ns : List View). slice_get ns far) same

    by : (o : Option View) → slice_get old far ≡ o → IfSome o (λ own. Grows own note) → IsSomeAnd (slice_get new far) (λ v. v.entries ≡ note.entries)
    by None none since =
        let now = some_parts (Grows note) (slice_get new far) sees in
        absurd (let e : None ≡ Some now.0 = sym (after ∙ unset old far (longer_view (slice_index_or old far note) note) none) ∙ now.1 in cc)
    by (Some own) at since =
        let index : slice_index_or old far note ≡ own = get_or_from_slice_get old far own note at in
        let set : slice_get new far ≡ Some (longer_view own note) =
        after ∙ ap (λ (v : View). slice_get (slice_set old far (longer_view v note)) far) index ∙ set_get old far own (longer_view own note) at in
        some_and (λ (v : View). v.entries ≡ note.entries) (slice_get new far) (longer_view own note) set
        (longer_whole own.entries note.entries since.begins)

-- what is so of the entry at its position in a note
pub entry_so : (log : List Entry) (e : Entry) (P : Entry → Type 0) → entry_at log e.position ≡ Some e → P e → IfSome (entry_at log e.position) P
entry_so log e P at is = subst (λ o. IfSome o P) (sym at) is

-- records that a note has, which is all that was seen of their shard, were seen there
pub records_seen : (pass : SeenPass) (far : ℕ) (note : View) (us : List EdgeUpdate) → IsSomeAnd (slice_get pass.notes far) (λ v. v.entries ≡ note.entries)
    → All (λ u. shard_of u.0 ≡ far) us → All (HasStamp note.entries) us → All (HasSeenRecord pass) us
records_seen pass far note us whole there done = All-from_in (HasSeenRecord pass) us (λ u k.
    let now = some_parts (λ (v : View). v.entries ≡ note.entries) (slice_get pass.notes far) whole in
    let here : HasSeen pass far (λ v. HasStamp v.entries u) =
    some_and (λ (v : View). HasStamp v.entries u) (slice_get pass.notes far) now.0 now.1
    (subst (λ l. HasStamp l u) (sym now.2) (All-in (HasStamp note.entries) us u done k)) in
    subst (λ s. HasSeen pass s (λ v. HasStamp v.entries u)) (sym (All-in (λ (v : EdgeUpdate). shard_of v.0 ≡ far) us u there k)) here)

module _ (pass : SeenPass) (far : ℕ) (note : View) (sees : SeesNote far note pass.notes) (us : List EdgeUpdate) (there : All (λ u. shard_of u.0 ≡ far) us) where
  -- where the note is full, so is what was seen of the shard's log
  pub full_seen : (m : Making) → m.settings.log_max ≤ length note.entries → All (HasSeenFull m pass) us
  full_seen m full = All-from_in (HasSeenFull m pass) us (λ u k.
      let now = some_parts (Grows note) (slice_get pass.notes far) sees in
      let long = begins-length note.entries now.0.entries now.2.begins in
      let here : HasSeen pass far (λ v. m.settings.log_max ≤ length v.entries) =
      some_and (λ (v : View). m.settings.log_max ≤ length v.entries) (slice_get pass.notes far) now.0 now.1 (omega (arith, full, long)) in
      subst (λ s. HasSeen pass s (λ v. m.settings.log_max ≤ length v.entries)) (sym (All-in (λ (v : EdgeUpdate). shard_of v.0 ≡ far) us u there k)) here)

-- ---- what was merged

-- the job that an entry owes
pub job_said : (types : EdgeTypes) (e : Entry) (job : Job) → job.position ≡ e.position → job.edges ≡ job_of types e → job ≡ owed_job types e
job_said types e job position records =
    let first : job ≡ record { position = e.position; edges = job.edges } = ap (λ (n : ℕ). record job { position = n }) position in
    first ∙ ap (λ (us : List EdgeUpdate). record (owed_job types e) { edges = us }) records

-- what there was to merge in what was seen, there was in what is seen later
merges_grow : (from : ℕ) (job : Job) (seen : List Entry) (u v : View) (wrote : Option Entry) → length seen ≤ length u.entries → Grows u v
    → MergesSince from job seen u.entries wrote → MergesSince from job seen v.entries wrote
merges_grow from job seen u v wrote long grows is =
    let n : ℕ = min is.n (length u.entries) in
    let same : take n v.entries ≡ take is.n u.entries = first_stay u v n grows (omega arith) ∙ take_min is.n u.entries in
    record {
      n = n;
      since = (let before = is.since in omega (arith, long, before));
      entry_is = is.entry_is ∙ ap (λ (es : List Entry). merge_of es from job.position job.edges) (sym same);
    }

-- what there was to merge in a note, there was in what the pass has then seen
pub merges_seen : (old new : SeenPass) (from : ℕ) (job : Job) (note : View) (wrote : Option Entry)
    → HasSeen old (far_shard job) (λ own. MergesSince from job own.entries note.entries wrote)
    → IfSome (slice_get old.notes (far_shard job)) (λ own. Grows own note) → SeesNote (far_shard job) note new.notes
    → HasSeen old (far_shard job) (λ own. HasSeen new (far_shard job) (λ seen. MergesSince from job own.entries seen.entries wrote))
merges_seen old new from job note wrote merges since sees =
    let far = far_shard job in
    let was = some_parts (λ (own : View). MergesSince from job own.entries note.entries wrote) (slice_get old.notes far) merges in
    let now = some_parts (Grows note) (slice_get new.notes far) sees in
    let grown : Grows was.0 note = subst (λ o. IfSome o (λ own. Grows own note)) was.1 since in
    let long : length was.0.entries ≤ length note.entries = begins-length was.0.entries note.entries grown.begins in
    some_and (λ (own : View). HasSeen new far (λ seen. MergesSince from job own.entries seen.entries wrote)) (slice_get old.notes far) was.0 was.1
    (some_and (λ (seen : View). MergesSince from job was.0.entries seen.entries wrote) (slice_get new.notes far) now.0 now.1
    (merges_grow from job was.0.entries note now.0 wrote long now.2 was.2))

-- ---- what was written

next_position : (log : List Entry) (kind : Kind) (origin : Origin) (ts : List Touch) (e : Entry) → next_entry log kind origin ts ≡ Some e
    → e.position ≡ length log + 1
next_position log kind origin [] e h = absurd (cc)
next_position log kind origin (t ∷ ts) e h = ap (λ (x : Entry). x.position) (sym (one_some _ _ h))

module _ (m : Making) (begun : Begun) (call : AuthoredWrite) (log : List Entry) (n : ℕ) (since : length begun.seen.entries ≤ n)
    (long : length begun.seen.entries ≤ length log) where
  -- a new entry stands past what was seen before
  past : (retry : Bool) (e : Entry) → AnswersAs (asked_of_seen m (write_shard call.write) (take n log) call) retry (Some e) → retry ≡ false
      → length begun.seen.entries < e.position
  past true e answers fresh = absurd (let h : true ≡ false = fresh in cc)
  past false e answers fresh =
      let at : e.position ≡ length (take n log) + 1 =
      next_position (take n log) (write_kind call.write) call.origin (touches_of (types_of m.settings.schema) 0 (take n log) call.write) e
      answers.next.forward in
      let cut = length-take n log in
      omega (arith, at, cut, since, long)

  -- what the reply says was written is so in the log
  pub writes_in : (retry : Bool) (entry : Option Entry) (said : InverseEnd) (kind : WriteKind) (hops : ℕ)
      → AnswersAs (asked_of_seen m (write_shard call.write) (take n log) call) retry entry → IfSome entry (StandsOnce log call.origin)
      → IfSome entry (λ e. FitsWrite e call.write)
      → WritesIn m begun call log (record { kind = kind; written = written_by retry said entry; hops = hops })
  writes_in retry (Some e) said kind hops answers once fits = record {
    entry = λ changed. some_and (IsEntryOf begun call log retry) (entry_at log e.position) e once.stands
        (record { once = once; fits = fits; new = past retry e answers });
    nothing = λ none. absurd (let h : true ≡ false = none in cc);
  }
  writes_in true None said kind hops answers once fits = absurd answers
  writes_in false None said kind hops answers once fits = record {
    entry = λ changed. absurd (let h : false ≡ true = changed in cc);
    nothing = λ none. record { n = n; since = since; nothing = answers.nothing };
  }

-- ---- the job of a write that is done

-- where its inverse is said to be written, it was ended
pub is_ended : (passed : Option NodeName) (job : Job) (back : WayBack) (b : Bool) (far : OtherEnd)
    → unwrap_or (option_and_then (λ _. job_stage far) (Some job)) (back_stage passed back) ≡ Done → inverse_said b far ≡ inverse.Written → far ≡ Ended
is_ended passed job back b Due done said = absurd (cc)
is_ended passed job back b Merged done said = absurd (cc)
is_ended passed job back b Ended done said = refl
is_ended passed job back true (Open why) done said = absurd (cc)
is_ended passed job back false (Open why) done said = absurd (cc)

-- where its inverse is said to be scheduled, it is left open for that reason
pub is_open : (b : Bool) (far : OtherEnd) (reason : ScheduledWhy) → inverse_said b far ≡ inverse.Scheduled reason → far ≡ Open reason
is_open true (Open why) reason said = cc
is_open false (Open why) reason said = cc
is_open true Due reason said = absurd (cc)
is_open true Merged reason said = absurd (cc)
is_open true Ended reason said = absurd (cc)
is_open false Due reason said = absurd (cc)
is_open false Merged reason said = absurd (cc)
is_open false Ended reason said = absurd (cc)
