-- Jobs merged one after another.
use Rattle.std.proofs.Common.{◌≡◌, ℕ, ◌≢◌, List, [], ◌∷◌, ◌++◌, append-nil, append_assoc, inl, inr, refl, sym, ap, ◌∙◌, subst}
use Rattle.std.proofs.lemmas.Bool.{cases_eq}
use Rattle.std.proofs.lemmas.Grind.{fold-append}
use Rattle.std.proofs.lemmas.List.Elements.{All-contains, All-push, All-weaker}
use Rattle.std.specs.Prelude.{All, Contains, Option, Some, None, fold, option_to_list}
use Rattle.tao_base.specs.EdgeTypes.{EdgeTypes, InversesMatch}
use Rattle.tao_base.specs.declared.id.Id.{Id}
use Rattle.tao_base.specs.declared.id.AType.{AType}
use Rattle.tao_base.specs.declared.edge.EdgeState.{EdgeState}
use Rattle.tao_base.specs.declared.entry.Entry.{Entry}
use Rattle.write_model.proofs.JoinOrder.{any_order}
use Rattle.graph_model.proofs.Members.{IsIn, All-from_in, All-in, contains_from_in, in_flat_map, in_flat_map_parts, in_from_contains}
use Rattle.write_model.proofs.MergeRecords.{record_merged}
use Rattle.write_model.proofs.Merging.{merge_done, merge_origin, merge_origin_is, merge_stays, merges_nothing}
use Rattle.write_model.specs.WriteLaws.{StaysSound}
use Rattle.graph_model.proofs.Rising.{stamps_stay}
use Rattle.graph_model.specs.Edges.{edge_record}
use Rattle.write_model.specs.MergeLaws.{AreMergeable, AreMerged, IsFarEntry, IsMergeable, IsNewOrDone, MergesJoin, OrderIsFree, join_all, merged}
use Rattle.write_model.specs.MergeLaws.{merged_in_turn, records_at, records_of}
use Rattle.graph_model.specs.Records.{Agree, HasStamp, join}
use Rattle.write_model.specs.Merges.{JobSource, job_of, merge_entry, source_number}
use Rattle.graph_model.specs.Soundness.{IsSound, IsSoundOf}

-- the jobs: any of them is the only one under its shard and number
record AreJobs (types : EdgeTypes) (shard : ℕ) (jobs : List JobSource) : Type 0 where
  match : InversesMatch types
  there : (job : JobSource) → IsIn job jobs → job.other ≡ shard
  far : (job : JobSource) → IsIn job jobs → IsFarEntry types job.shard shard job.entry
  one : (job other : JobSource) → IsIn job jobs → IsIn other jobs → job.shard ≡ other.shard → source_number job ≡ source_number other → job ≡ other

-- the log has become a longer one, in which all jobs that were new may still be merged
record Grows (types : EdgeTypes) (shard : ℕ) (jobs : List JobSource) (log new : List Entry) : Type 0 where
  sound : IsSoundOf types shard new
  more : List Entry
  longer : new ≡ log ++ more
  origins : (job : JobSource) → IsIn job jobs → IsNewOrDone types new job

stays_done : (types : EdgeTypes) (log more : List Entry) (e : Entry) → IsSound (log ++ more) → All (HasStamp log) (job_of types e)
    → All (HasStamp (log ++ more)) (job_of types e)
stays_done types log more e sound done = All-weaker (HasStamp log) (HasStamp (log ++ more)) (λ u h. (stamps_stay log).stays more u sound h)
    (job_of types e) done

module _ (types : EdgeTypes) (shard : ℕ) (jobs : List JobSource) (are : AreJobs types shard jobs) where
  -- another job may still be merged after one that is merged
  still_open : (log : List Entry) (m : Entry) (job other : JobSource) → IsIn job jobs → IsIn other jobs → IsSound (log ++ m ∷ [])
      → m.origin ≡ merge_origin job
      → All (HasStamp (log ++ m ∷ [])) (job_of types job.entry) → IsNewOrDone types log other → IsNewOrDone types (log ++ m ∷ []) other
  still_open log m job other h k sound origin done (inr there) = inr (stays_done types log (m ∷ []) other.entry sound there)
  still_open log m job other h k sound origin done (inl new) = elim (cases_eq job.shard other.shard) [
    | inl shards ↦ elim (cases_eq (source_number job) (source_number other)) [
      | inl positions ↦ inr (subst (λ j. All (HasStamp (log ++ m ∷ [])) (job_of types j.entry)) (are.one job other h k shards positions) done)
      | inr apart ↦ inl (All-push (λ old. old.origin ≢ merge_origin other) log m new
          (λ e. apart (let same : merge_origin job ≡ merge_origin other = sym origin ∙ e in cc)))
    ]
    | inr apart ↦ inl (All-push (λ old. old.origin ≢ merge_origin other) log m new
        (λ e. apart (let same : merge_origin job ≡ merge_origin other = sym origin ∙ e in cc)))
  ]

  one_more : (log : List Entry) (job : JobSource) → IsIn job jobs → IsSoundOf types shard log
      → ((other : JobSource) → IsIn other jobs → IsNewOrDone types log other)
      → (o : Option Entry) → merge_entry types log job ≡ o
      → Grows types shard jobs log (log ++ option_to_list o) × All (HasStamp (log ++ option_to_list o)) (job_of types job.entry)
  one_more log job h sound origins None e =
      subst (λ l. Grows types shard jobs log l × All (HasStamp l) (job_of types job.entry)) (sym (append-nil log))
      (record { sound = sound; more = []; longer = sym (append-nil log); origins = origins }, (merges_nothing log).done types job e)
  one_more log job h sound origins (Some m) e =
      let at : job.other ≡ shard = are.there job h in
      let may : IsMergeable types log job = record {
        inverses = are.match;
        sound = subst (λ s. IsSoundOf types s log) (sym at) sound;
        far = subst (λ s. IsFarEntry types job.shard s job.entry) (sym at) (are.far job h);
        origin = origins job h;
      } in
      let stays = subst (λ s. StaysSound types s log m) at (merge_stays types log job m may e) in
      let done = merge_done types log job m may e in (
        record {
          sound = stays.sound;
          more = m ∷ [];
          longer = refl;
          origins = λ other k. still_open log m job other h k stays.sound.sound (merge_origin_is types log job m e) done (origins other k);
        },
        done,
      )

  in_turn : (js : List JobSource) → ((job : JobSource) → IsIn job js → IsIn job jobs) → (log : List Entry) → IsSoundOf types shard log
      → ((other : JobSource) → IsIn other jobs → IsNewOrDone types log other)
      → Grows types shard jobs log (fold (merged types) log js)
      × ((job : JobSource) → IsIn job js → All (HasStamp (fold (merged types) log js)) (job_of types job.entry))
  in_turn [] among log sound origins = (record { sound = sound; more = []; longer = sym (append-nil log); origins = origins }, λ job h. absurd h)
  in_turn (j ∷ js) among log sound origins =
      let step = one_more log j (among j (inl refl)) sound origins (merge_entry types log j) refl in
      let rest = in_turn js (λ job h. among job (inr h)) (merged types log j) step.0.sound step.0.origins in (
        record {
          sound = rest.0.sound;
          more = step.0.more ++ rest.0.more;
          longer = rest.0.longer ∙ ap (λ l. l ++ rest.0.more) step.0.longer ∙ append_assoc log step.0.more rest.0.more;
          origins = rest.0.origins;
        },
        done_of (merged types log j) (fold (merged types) (merged types log j) js) rest.0.more rest.0.longer rest.0.sound.sound step.1 rest.1,
      )
    where
      done_of : (part whole more : List Entry) → whole ≡ part ++ more → IsSound whole → All (HasStamp part) (job_of types j.entry)
          → ((job : JobSource) → IsIn job js → All (HasStamp whole) (job_of types job.entry)) → (job : JobSource) → IsIn job (j ∷ js)
          → All (HasStamp whole) (job_of types job.entry)
      done_of part whole more e sound first later job (inl k) =
          subst (λ x. All (HasStamp whole) (job_of types x.entry)) k
          (subst (λ l. All (HasStamp l) (job_of types j.entry)) (sym e) (stays_done types part more j.entry (subst IsSound e sound) first))
      done_of part whole more e sound first later job (inr k) = later job k

  -- the record after jobs merged one after another
  record_in_turn : (js : List JobSource) → ((job : JobSource) → IsIn job js → IsIn job jobs) → (log : List Entry) (id1 : Id) (atype : AType) (id2 : Id)
      → edge_record (fold (merged types) log js) id1 atype id2 ≡ join_all (edge_record log id1 atype id2) (records_of types js id1 atype id2)
  record_in_turn [] among log id1 atype id2 = refl
  record_in_turn (j ∷ js) among log id1 atype id2 =
      let here : List EdgeState = records_at id1 atype id2 (job_of types j.entry) in
      record_in_turn js (λ job h. among job (inr h)) (merged types log j) id1 atype id2
      ∙ ap (λ o. join_all o (records_of types js id1 atype id2))
      (record_merged types j shard (are.far j (among j (inl refl))) are.match log id1 atype id2)
      ∙ sym (fold-append (λ old state. join old (Some state)) (edge_record log id1 atype id2) here (records_of types js id1 atype id2))

are_jobs : (types : EdgeTypes) (shard : ℕ) (log : List Entry) (jobs : List JobSource) → AreMergeable types shard log jobs → AreJobs types shard jobs
are_jobs types shard log jobs may = record {
  match = may.inverses;
  there = λ job h. All-in (λ j. j.other ≡ shard) jobs job may.there h;
  far = λ job h. All-in (λ j. IsFarEntry types j.shard shard j.entry) jobs job may.far h;
  one = λ job other h k. may.one job other (contains_from_in jobs job h) (contains_from_in jobs other k);
}

pub are_merged : (types : EdgeTypes) (shard : ℕ) (log : List Entry) (jobs : List JobSource) → AreMergeable types shard log jobs
    → AreMerged types shard log jobs
are_merged types shard log jobs may =
    let are : AreJobs types shard jobs = are_jobs types shard log jobs may in
    let all = in_turn types shard jobs are jobs (λ job h. h) log may.sound (λ job h. All-in (IsNewOrDone types log) jobs job may.origins h) in
    record {
      sound = all.0.sound;
      done = All-from_in (λ job. All (HasStamp (merged_in_turn types log jobs)) (job_of types job.entry)) jobs all.1;
      record_is = record_in_turn types shard jobs are jobs (λ job h. h) log;
    }

pub merges_join : (shard : ℕ) (log : List Entry) → MergesJoin shard log
merges_join shard log = record { merges = λ types jobs may. are_merged types shard log jobs may }

-- the same jobs in another order may be merged too
other_order : (types : EdgeTypes) (shard : ℕ) (log : List Entry) (jobs others : List JobSource) → AreMergeable types shard log jobs
    → ((job : JobSource) → Contains others job → Contains jobs job) → AreMergeable types shard log others
other_order types shard log jobs others may from = record {
  inverses = may.inverses;
  sound = may.sound;
  there = All-from_in (λ job. job.other ≡ shard) others
      (λ job h. All-contains (λ j. j.other ≡ shard) jobs job may.there (from job (contains_from_in others job h)));
  far = All-from_in (λ job. IsFarEntry types job.shard shard job.entry) others
      (λ job h. All-contains (λ j. IsFarEntry types j.shard shard j.entry) jobs job may.far (from job (contains_from_in others job h)));
  origins = All-from_in (IsNewOrDone types log) others
      (λ job h. All-contains (IsNewOrDone types log) jobs job may.origins (from job (contains_from_in others job h)));
  one = λ job other h k. may.one job other (from job h) (from other k);
}

same_records : (types : EdgeTypes) (jobs others : List JobSource) → ((job : JobSource) → Contains jobs job → Contains others job)
    → (id1 : Id) (atype : AType) (id2 : Id) (s : EdgeState)
    → IsIn s (records_of types jobs id1 atype id2) → IsIn s (records_of types others id1 atype id2)
same_records types jobs others to id1 atype id2 s h =
    let at : JobSource → List EdgeState = λ job. records_at id1 atype id2 (job_of types job.entry) in
    let r = in_flat_map_parts at jobs s h in
    in_flat_map at others r.0 s (in_from_contains others r.0 (to r.0 (contains_from_in jobs r.0 r.1))) r.2

pub order_is_free : (shard : ℕ) (log : List Entry) → OrderIsFree shard log
order_is_free shard log = record {
  same = λ types jobs others may both id1 atype id2 agree.
      (let r : Option EdgeState = edge_record log id1 atype id2 in
      let all : List EdgeState = option_to_list r ++ records_of types jobs id1 atype id2 in
      (are_merged types shard log jobs may).record_is id1 atype id2
      ∙ any_order r (records_of types jobs id1 atype id2) (records_of types others id1 atype id2)
      (same_records types jobs others (λ job. (both job).0) id1 atype id2) (same_records types others jobs (λ job. (both job).1) id1 atype id2)
      (λ x y h k. All-in (Agree x) all y (All-in (λ z. All (Agree z) all) all x agree h) k)
      ∙ sym ((are_merged types shard log others (other_order types shard log jobs others may (λ job. (both job).1))).record_is id1 atype id2));
}
