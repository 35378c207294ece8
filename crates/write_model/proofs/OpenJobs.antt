-- What an open job owes, and where it may be merged.
use Rattle.std.proofs.Common.{◌≡◌, ℕ, List, [], inl, inr, refl, sym, ap, ◌∙◌, subst}
use Rattle.std.proofs.Math.Logic.{∥∥₁_elim}
use Rattle.std.proofs.Props.{props}
use Rattle.std.proofs.lemmas.Bool.{cases_lt}
use Rattle.std.proofs.lemmas.List.{get_or_past}
use Rattle.std.proofs.lemmas.Option.{same_Some}
use Rattle.std.specs.Prelude.{Contains, Option, None, Some, length, ◌<◌}
use Rattle.tao_base.specs.EdgeTypes.{EdgeTypes, InversesMatch}
use Rattle.tao_base.specs.Ids.{shard_of}
use Rattle.tao_base.specs.declared.entry.Entry.{Entry}
use Rattle.write_model.proofs.CoverEmpty.{nothing_at}
use Rattle.write_model.proofs.Covered.{at_place, covered_jobs_may_merge}
use Rattle.write_model.proofs.FarJobs.{jobs_are_far}
use Rattle.graph_model.proofs.Members.{All-from_in, All-in, contains_from_in}
use Rattle.write_model.proofs.WrittenRecords.{first_of}
use Rattle.write_model.specs.CoverLaws.{OpenJobsAreOwed}
use Rattle.write_model.specs.MergeLaws.{IsMergeable}
use Rattle.write_model.specs.Merges.{HasJob, IsJob, JobSource, Stores, job_of, log_of}
use Rattle.graph_model.specs.Records.{HasStamp}
use Rattle.graph_model.specs.Log.{entry_at}
use Rattle.graph_model.specs.Soundness.{EdgeUpdate}
use Rattle.write_model.specs.Steps.{AreSoundAndCovered, IsJobOf, IsOwed}

-- a job has one entry, the one at its position
the_job : (types : EdgeTypes) (log : List Entry) (position : ℕ) (us : List EdgeUpdate) (found : Option Entry) → entry_at log position ≡ found
    → ∥ IsJob types log position us ∥₁ → IsJob types log position us
the_job types log position us None at is = absurd (∥∥₁_elim is (hlevel props) (λ job. let none : None ≡ Some job.entry = sym at ∙ job.stands in absurd (cc)))
the_job types log position us (Some e) at is = record {
  entry = e;
  stands = at;
  job_is = ∥∥₁_elim is (hlevel props) (λ job. job.job_is ∙ ap (job_of types) (same_Some job.entry e (sym job.stands ∙ at)));
  some = ∥∥₁_elim is (hlevel props) (λ job. job.some);
}

module _ (types : EdgeTypes) (stores : Stores) (shard position : ℕ) (us : List EdgeUpdate) (kept : AreSoundAndCovered types stores)
    (h : stores.job shard position ≡ Some us) where
  pub job_found : IsJob types (log_of stores.logs shard) position us
  job_found = the_job types (log_of stores.logs shard) position us (entry_at (log_of stores.logs shard) position) refl
      ((kept.covered.each shard).jobs position us h)

  position_is : job_found.entry.position ≡ position
  position_is = (at_place types shard (log_of stores.logs shard) position job_found.entry (kept.sound shard) job_found.stands).2

  stands_there : entry_at (log_of stores.logs shard) job_found.entry.position ≡ Some job_found.entry
  stands_there = ap (entry_at (log_of stores.logs shard)) position_is ∙ job_found.stands

  abbrev owes_to : ℕ → JobSource
  owes_to other = record { shard = shard; epoch = stores.epochs.of shard; entry = job_found.entry; other = other }

  source_of_write : (u : EdgeUpdate) → Contains us u → IsJobOf types stores shard position us (owes_to (shard_of u.0))
  source_of_write u k =
      let at = at_place types shard (log_of stores.logs shard) position job_found.entry (kept.sound shard) job_found.stands in
      let far = (jobs_are_far shard (log_of stores.logs shard)).far types (kept.sound shard) at.0 job_found.entry u at.1
      (subst (λ vs. Contains vs u) job_found.job_is k) in
      record {
        job = record { epoch_is = refl; stands = stands_there; job_is = ap (stores.job shard) position_is ∙ h ∙ ap Some job_found.job_is };
        owes = record { epoch_is = refl; stands = stands_there; there = far.there };
        shard_is = refl;
        position_is = position_is;
        records_are = job_found.job_is;
      }

  within : shard < length stores.logs
  within = elim (cases_lt shard (length stores.logs)) [
    | inl lt ↦ lt
    | inr past ↦ absurd (nothing_at position job_found.entry
        (subst (λ l. entry_at l position ≡ Some job_found.entry) (get_or_past stores.logs shard [] past) job_found.stands))
  ]

entry_owes : (types : EdgeTypes) (stores : Stores) (shard position : ℕ) (e : Entry) (u : EdgeUpdate) → AreSoundAndCovered types stores
    → entry_at (log_of stores.logs shard) position ≡ Some e → Contains (job_of types e) u
    → IsOwed types stores (record { shard = shard; epoch = stores.epochs.of shard; entry = e; other = shard_of u.0 })
entry_owes types stores shard position e u kept stands h =
    let at = at_place types shard (log_of stores.logs shard) position e (kept.sound shard) stands in
    let far = (jobs_are_far shard (log_of stores.logs shard)).far types (kept.sound shard) at.0 e u at.1 h in
    record { epoch_is = refl; stands = ap (entry_at (log_of stores.logs shard)) at.2 ∙ stands; there = far.there }

-- what is owed may be merged where one of its records lies
pub may_be_merged : (types : EdgeTypes) (stores : Stores) (owed : JobSource) → InversesMatch types → AreSoundAndCovered types stores → IsOwed types stores owed
    → (u : EdgeUpdate) → Contains (job_of types owed.entry) u → shard_of u.0 ≡ owed.other → IsMergeable types (log_of stores.logs owed.other) owed
may_be_merged types stores owed match kept owes u h there =
    let may = covered_jobs_may_merge.may types stores match kept.sound kept.covered owed.shard owed.entry.position owed.entry u owes.stands h in
    subst (λ epoch. IsMergeable types (log_of stores.logs owed.other) (record { shard = owed.shard; epoch = epoch; entry = owed.entry; other = owed.other }))
    (sym owes.epoch_is)
    (subst (λ s. IsMergeable types (log_of stores.logs s) (record { shard = owed.shard; epoch = stores.epochs.of owed.shard; entry = owed.entry; other = s }))
    there may)

owed_mergeable : (types : EdgeTypes) (stores : Stores) (owed : JobSource) → InversesMatch types → AreSoundAndCovered types stores → IsOwed types stores owed
    → 0 < length (job_of types owed.entry) → IsMergeable types (log_of stores.logs owed.other) owed
owed_mergeable types stores owed match kept owes some =
    let first = first_of (job_of types owed.entry) some in
    may_be_merged types stores owed match kept owes first.0 (contains_from_in (job_of types owed.entry) first.0 first.1)
    (All-in (λ x. shard_of x.0 ≡ owed.other) (job_of types owed.entry) first.0 owes.there first.1)

-- a job that isn't open is there
pub closed_is_there : (types : EdgeTypes) (stores : Stores) (owed : JobSource) → AreSoundAndCovered types stores → IsOwed types stores owed
    → stores.job owed.shard owed.entry.position ≡ None → HasJob types (log_of stores.logs owed.other) owed.entry
closed_is_there types stores owed kept owes none = All-from_in (HasStamp (log_of stores.logs owed.other)) (job_of types owed.entry) (λ u h.
    subst (λ s. HasStamp (log_of stores.logs s) u) (All-in (λ x. shard_of x.0 ≡ owed.other) (job_of types owed.entry) u owes.there h)
    (All-in (λ x. HasStamp (log_of stores.logs (shard_of x.0)) x) (job_of types owed.entry) u
    ((kept.covered.each owed.shard).owed owed.entry.position owed.entry owes.stands none) h))

pub open_jobs_are_owed : OpenJobsAreOwed
open_jobs_are_owed = record {
  some = λ types stores shard position us kept h. (job_found types stores shard position us kept h).some;
  owed = λ types stores shard position us u kept h k. (
    owes_to types stores shard position us kept h (shard_of u.0),
    source_of_write types stores shard position us kept h u k,
    refl,
  );
  owes = λ types stores shard position e u kept stands h. entry_owes types stores shard position e u kept stands h;
  mergeable = λ types stores owed match kept owes some. owed_mergeable types stores owed match kept owes some;
  closed = λ types stores owed kept owes none. closed_is_there types stores owed kept owes none;
  within = λ types stores shard position us kept h. within types stores shard position us kept h;
}
