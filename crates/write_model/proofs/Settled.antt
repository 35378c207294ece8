-- Merging and ending the jobs in order is a settle.
use Rattle.std.proofs.Common.{◌≡◌, ◌≢◌, ℕ, ◌<◌, List, [], ◌∷◌, ◌++◌, length, inl, inr, refl, sym, ap, ◌∙◌, subst, arith}
use Rattle.std.proofs.lemmas.Bool.{cases_eq, cases_lt}
use Rattle.std.proofs.lemmas.List.Elements.{All-nil, All-push}
use Rattle.std.proofs.lemmas.Option.{same_Some}
use Rattle.std.specs.Prelude.{All, AllPairs, Option, Some, None}
use Rattle.tao_base.specs.EdgeTypes.{EdgeTypes, InversesMatch}
use Rattle.tao_base.specs.declared.entry.Entry.{Entry}
use Rattle.write_model.proofs.CoverMerges.{merges_keep, merges_grow}
use Rattle.write_model.proofs.Growing.{entry_stays}
use Rattle.graph_model.proofs.Members.{IsIn, All-in, AllPairs-from_recursion, pairs_append, recursion_from_AllPairs}
use Rattle.write_model.proofs.OpenJobs.{job_found, open_jobs_are_owed}
use Rattle.write_model.specs.CoverLaws.{SettlesInOrder}
use Rattle.write_model.specs.Machine.{ComesBefore, IsOpenJob, MayMerge, MergeInTurn, MergesNews, Settles}
use Rattle.write_model.specs.Merges.{JobSource, Stores, job_of, log_of}
use Rattle.graph_model.specs.Log.{entry_at}
use Rattle.graph_model.specs.Soundness.{EdgeUpdate}
use Rattle.write_model.specs.Steps.{AreSoundAndCovered, EndsJob, HaveNoJobs, IsNextJob, MergesJob, Settling}

-- one more job merged in turn
in_turn_push : (types : EdgeTypes) (a b c : List (List Entry)) (jobs : List JobSource) (owed : JobSource) → MergeInTurn types a b jobs → MayMerge types b c owed
    → MergeInTurn types a c (jobs ++ owed ∷ [])
in_turn_push types a b c [] owed h may = (c, subst (λ l. MayMerge types l c owed) h may, refl)
in_turn_push types a b c (job ∷ jobs) owed h may = (h.0, h.1, in_turn_push types h.0 b c jobs owed h.2 may)

may_merge : (types : EdgeTypes) (a b : List (List Entry)) (owed : JobSource) → MergesNews types a b owed → MayMerge types a b owed
may_merge types a b owed (inl n) = inl n.1
may_merge types a b owed (inr m) = inr m

in_order_push : (jobs : List JobSource) (owed : JobSource) → AllPairs ComesBefore jobs → All (λ done. ComesBefore done owed) jobs
    → AllPairs ComesBefore (jobs ++ owed ∷ [])
in_order_push jobs owed order before =
    AllPairs-from_recursion ComesBefore (jobs ++ owed ∷ [])
    (pairs_append ComesBefore jobs (owed ∷ []) (recursion_from_AllPairs ComesBefore jobs order) (tt, tt) (λ x y h k. last x y h k))
  where
    last : (x y : JobSource) → IsIn x jobs → IsIn y (owed ∷ []) → ComesBefore x y
    last x y h (inl e) = subst (ComesBefore x) e (All-in (λ done. ComesBefore done owed) jobs x before h)
    last x y h (inr k) = absurd k

no_pairs : AllPairs ComesBefore []
no_pairs i j d lt in' = absurd (omega arith)

module _ (types : EdgeTypes) (start now mid : Stores) (jobs : List JobSource) (owed : JobSource)
    (so_far : Settling types start now jobs) (next : IsNextJob types now owed) (merge : MergesJob types now mid owed) where
  was : IsOpenJob types start owed × All (λ done. ComesBefore done owed) jobs
  was = so_far.left owed next.first.job

  merged_so_far : MergeInTurn types start.logs mid.logs (jobs ++ owed ∷ [])
  merged_so_far = in_turn_push types start.logs now.logs mid.logs jobs owed so_far.merges (may_merge types now.logs mid.logs owed merge.merges)

  open_so_far : All (IsOpenJob types start) (jobs ++ owed ∷ [])
  open_so_far = All-push (IsOpenJob types start) jobs owed so_far.open_jobs was.0

  order_so_far : AllPairs ComesBefore (jobs ++ owed ∷ [])
  order_so_far = in_order_push jobs owed so_far.in_order was.1

  stopped : Settles types start mid.logs
  stopped = record { jobs = jobs ++ owed ∷ []; open_jobs = open_so_far; in_order = order_so_far; merges = merged_so_far }

  module _ (new : Stores) (match : InversesMatch types) (kept : AreSoundAndCovered types now) (end : EndsJob types mid new owed) where
    kept_mid : AreSoundAndCovered types mid
    kept_mid = merges_keep.keep types now mid owed match kept merge

    -- a job that is left isn't the one that was ended
    not_ended : (other : JobSource) → IsOpenJob types new other → other.shard ≡ owed.shard → other.entry.position ≢ owed.entry.position
    not_ended other h same at =
        let none : None ≡ Some (job_of types other.entry) =
        sym (ap (new.job other.shard) at ∙ ap (λ i. new.job i owed.entry.position) same ∙ end.ends.here) ∙ h.job_is in
        absurd (cc)

    -- and was open before
    was_open : (other : JobSource) → IsOpenJob types new other → IsOpenJob types now other
    was_open other h =
        let job_is : now.job other.shard other.entry.position ≡ Some (job_of types other.entry) =
        sym (end.ends.others other.shard other.entry.position (not_ended other h) ∙ merge.jobs other.shard other.entry.position) ∙ h.job_is in
        let job = job_found types now other.shard other.entry.position (job_of types other.entry) kept job_is in
        let stands : entry_at (log_of mid.logs other.shard) other.entry.position ≡ Some job.entry =
        entry_stays types (log_of now.logs) (log_of mid.logs) (merges_grow types now mid owed match kept merge) other.shard other.entry.position
        job.entry job.stands in
        let there : entry_at (log_of mid.logs other.shard) other.entry.position ≡ Some other.entry =
        subst (λ l. entry_at (log_of l other.shard) other.entry.position ≡ Some other.entry) end.logs h.stands in
        let one : job.entry ≡ other.entry = same_Some job.entry other.entry (sym stands ∙ there) in
        record {
          epoch_is = h.epoch_is ∙ ap (λ x. x.of other.shard) (end.epochs ∙ merge.epochs);
          stands = subst (λ e. entry_at (log_of now.logs other.shard) other.entry.position ≡ Some e) one job.stands;
          job_is = job_is;
        }

    -- it comes after the one that was ended
    comes_after : (other : JobSource) → IsOpenJob types new other → IsOpenJob types now other → ComesBefore owed other
    comes_after other h before = elim (cases_lt owed.shard other.shard) [
      | inl lt ↦ inl lt
      | inr le ↦ elim (cases_eq other.shard owed.shard) [
        | inl same ↦ inr (sym same, later (sym same))
        | inr apart ↦ (let none : None ≡ Some (job_of types other.entry) = sym (next.lower other.shard other.entry.position (omega (arith, le, apart)))
            ∙ before.job_is in absurd (cc))
      ]
    ]
      where
        later : owed.shard ≡ other.shard → owed.entry.position < other.entry.position
        later same = elim (cases_lt owed.entry.position other.entry.position) [
          | inl lt ↦ lt
          | inr le ↦ elim (cases_eq other.entry.position owed.entry.position) [
            | inl at ↦ absurd (not_ended other h (sym same) at)
            | inr apart ↦ (
                let none : None ≡ Some (job_of types other.entry) =
                sym (next.first.first other.entry.position (omega (arith, le, apart))) ∙ ap (λ i. now.job i other.entry.position) same ∙ before.job_is in
                absurd (cc))
          ]
        ]

    left_now : (other : JobSource) → IsOpenJob types new other → IsOpenJob types start other × All (λ done. ComesBefore done other) (jobs ++ owed ∷ [])
    left_now other h =
        let before = was_open other h in
        let first = so_far.left other before in
        (first.0, All-push (λ done. ComesBefore done other) jobs owed first.1 (comes_after other h before))

    one_more : Settling types start new (jobs ++ owed ∷ [])
    one_more = record {
      open_jobs = open_so_far;
      in_order = order_so_far;
      merges = subst (λ l. MergeInTurn types start.logs l (jobs ++ owed ∷ [])) (sym end.logs) merged_so_far;
      left = left_now;
    }

none_is_open : (types : EdgeTypes) (now : Stores) → AreSoundAndCovered types now
    → ((shard position : ℕ) → shard < length now.logs → now.job shard position ≡ None) → HaveNoJobs now
none_is_open types now kept none shard position = by_job (now.job shard position) refl
  where
    by_job : (o : Option (List EdgeUpdate)) → now.job shard position ≡ o → now.job shard position ≡ None
    by_job None h = h
    by_job (Some us) h = none shard position (open_jobs_are_owed.within types now shard position us kept h)

pub settles_in_order : SettlesInOrder
settles_in_order = record {
  begins = λ types start. record {
    open_jobs = All-nil (IsOpenJob types start);
    in_order = no_pairs;
    merges = refl;
    left = λ owed h. (h, All-nil (λ done. ComesBefore done owed));
  };
  goes_on = λ types start now mid new jobs owed match kept so_far next merge end. one_more types start now mid jobs owed so_far next merge new match kept end;
  stops = λ types start now jobs so_far. record { jobs = jobs; open_jobs = so_far.open_jobs; in_order = so_far.in_order; merges = so_far.merges };
  stops_within = λ types start now mid jobs owed so_far next merge. stopped types start now mid jobs owed so_far next merge;
  ends = λ types now kept none. none_is_open types now kept none;
}
