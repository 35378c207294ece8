-- Where no job is open every edge is paired, until the next commit.
use Rattle.std.proofs.Common.{◌≡◌, ◌≢◌, ℕ, false, List, [], ◌∷◌, inl, inr, refl, sym, ap, ◌∙◌}
use Rattle.std.proofs.lemmas.Bool.{cases_eq}
use Rattle.std.proofs.lemmas.List.Elements.{All-contains}
use Rattle.std.specs.Prelude.{Contains, Option, Some, None, not}
use Rattle.tao_base.specs.EdgeTypes.{EdgeTypes, InversesMatch}
use Rattle.tao_base.specs.Ids.{shard_of}
use Rattle.tao_base.specs.Stamps.{stamp_of}
use Rattle.tao_base.specs.declared.edge.EdgeState.{EdgeState}
use Rattle.tao_base.specs.declared.id.AType.{AType}
use Rattle.tao_base.specs.declared.id.Id.{Id}
use Rattle.write_model.proofs.CoverEnds.{cases_job, end_keeps}
use Rattle.write_model.proofs.CoverMerges.{merges_keep}
use Rattle.write_model.proofs.WrittenRecords.{wrote_it}
use Rattle.graph_model.proofs.Joins.{same_stamp}
use Rattle.graph_model.proofs.Lists.{apart-eqb}
use Rattle.graph_model.proofs.Members.{contains_filter_map}
use Rattle.write_model.proofs.Merging.{merges_nothing}
use Rattle.write_model.proofs.OpenJobs.{closed_is_there}
use Rattle.graph_model.proofs.NearEnds.{near_ends_are_paired, other_end-is}
use Rattle.write_model.specs.CoverLaws.{NoJobsArePaired}
use Rattle.graph_model.specs.Edges.{edge_record}
use Rattle.write_model.specs.Machine.{ArePaired}
use Rattle.write_model.specs.Merges.{IsCovered, IsWritten, Stores, job_of, log_of}
use Rattle.graph_model.specs.Records.{HasStamp, is_later}
use Rattle.graph_model.specs.Soundness.{EdgeUpdate, other_end, updates_of}
use Rattle.write_model.specs.Steps.{AllRest, AreSound, AreSoundAndCovered, HaveNoJobs, WorksOff, WorksOffAll}
use Rattle.write_model.specs.Writes.{is_near, when}

-- two records of which neither is later, and that are one where their stamps are
same_record : (a b : Option EdgeState) → ((s : EdgeState) → a ≡ Some s → is_later s b ≡ false) → ((t : EdgeState) → b ≡ Some t → is_later t a ≡ false)
    → ((s t : EdgeState) → a ≡ Some s → b ≡ Some t → stamp_of s ≡ stamp_of t → s ≡ t) → a ≡ b
same_record None None f g agree = refl
same_record None (Some t) f g agree = let k = g t refl in absurd (cc)
same_record (Some s) None f g agree = let k = f s refl in absurd (cc)
same_record (Some s) (Some t) f g agree = ap Some (agree s t refl refl (same_stamp (stamp_of s) (stamp_of t) (g t refl) (f s refl)))

module _ (types : EdgeTypes) (stores : Stores) (sound : AreSound types stores.logs)
    (each : (s : ℕ) → IsCovered types (log_of stores.logs) stores.epochs.of (stores.job s) s)
    (none : HaveNoJobs stores) where
  found : (id1 : Id) (atype : AType) (id2 : Id) (s : EdgeState) → edge_record (log_of stores.logs (shard_of id1)) id1 atype id2 ≡ Some s
      → IsWritten (log_of stores.logs) (id1, atype, id2, s)
  found id1 atype id2 s h =
      let w = wrote_it id1 atype id2 s (log_of stores.logs (shard_of id1)) (sound (shard_of id1)).sound h in
      record { position = w.position; entry = w.entry; stands = w.stands; writes = w.writes }

  -- what stands at one end is at the other end, or a later record
  one_way : (id1 : Id) (atype inverse : AType) (id2 : Id) → types.inverse atype ≡ Some inverse → shard_of id2 ≢ shard_of id1
      → (s : EdgeState) → edge_record (log_of stores.logs (shard_of id1)) id1 atype id2 ≡ Some s
      → is_later s (edge_record (log_of stores.logs (shard_of id2)) id2 inverse id1) ≡ false
  one_way id1 atype inverse id2 inv apart s h =
      let u : EdgeUpdate = (id1, atype, id2, s) in
      let v : EdgeUpdate = (id2, inverse, id1, s) in
      let w = found id1 atype id2 s h in
      let far : not (is_near u) ≡ not false = ap not (apart-eqb (shard_of id2) (shard_of id1) apart) in
      let other : when (not (is_near u)) (other_end types u) ≡ Some v = ap (λ b. when b (other_end types u)) far ∙ other_end-is types inverse u inv in
      let owed : Contains (job_of types w.entry) v = contains_filter_map (λ x. when (not (is_near x)) (other_end types x))
      (updates_of w.entry) u v w.writes other in
      All-contains (λ x. HasStamp (log_of stores.logs (shard_of x.0)) x) (job_of types w.entry) v
      ((each (shard_of id1)).owed w.position w.entry w.stands (none (shard_of id1) w.position)) owed

  pub far_paired : InversesMatch types → (id1 : Id) (atype inverse : AType) (id2 : Id) → types.inverse atype ≡ Some inverse → shard_of id2 ≢ shard_of id1
      → edge_record (log_of stores.logs (shard_of id1)) id1 atype id2 ≡ edge_record (log_of stores.logs (shard_of id2)) id2 inverse id1
  far_paired match id1 atype inverse id2 inv apart =
      same_record (edge_record (log_of stores.logs (shard_of id1)) id1 atype id2) (edge_record (log_of stores.logs (shard_of id2)) id2 inverse id1)
      (one_way id1 atype inverse id2 inv apart) (one_way id2 inverse atype id1 (match atype inverse inv) (λ e. apart (sym e)))
      (λ s t h k same. (each (shard_of id1)).one (id1, atype, id2, s) (id2, inverse, id1, t) refl (found id1 atype id2 s h) (found id2 inverse id1 t k)
      (inr (other_end-is types inverse (id1, atype, id2, s) inv)) same)

  pub all_paired : InversesMatch types → ArePaired types stores.logs
  all_paired match id1 atype inverse id2 inv = elim (cases_eq (shard_of id2) (shard_of id1)) [
    | inl near ↦ (
        near_ends_are_paired (shard_of id1) (log_of stores.logs (shard_of id1)) types match (sound (shard_of id1)) id1 atype inverse id2 inv refl near
        ∙ ap (λ i. edge_record (log_of stores.logs i) id2 inverse id1) (sym near))
    | inr apart ↦ far_paired match id1 atype inverse id2 inv apart
  ]

-- Where no job is open, working off leaves the logs.
module _ (types : EdgeTypes) (match : InversesMatch types) where
  rests : (old new : Stores) → AreSoundAndCovered types old → HaveNoJobs old → WorksOff types old new → (new.logs ≡ old.logs) × HaveNoJobs new
      × AreSoundAndCovered types new
  rests old new kept none (owed, inl m) = (
    elim m.merges [
      | inl n ↦ n.1
      | inr g ↦ (
          let there = closed_is_there types old owed kept m.owes (none owed.shard owed.entry.position) in
          let nothing = (merges_nothing (log_of old.logs owed.other)).nothing types owed there in
          let some : None ≡ Some g.merged = sym nothing ∙ g.is in
          absurd (cc))
    ],
    (λ shard position. m.jobs shard position ∙ none shard position),
    merges_keep.keep types old new owed match kept m,
  )
  rests old new kept none (owed, inr e) = (
    e.logs,
    (λ shard position. elim (cases_job types old new owed kept e shard position) [
      | inl at ↦ ap (new.job shard) at.1 ∙ ap (λ i. new.job i owed.entry.position) at.0 ∙ e.ends.here
      | inr apart ↦ e.ends.others shard position apart ∙ none shard position
    ]),
    end_keeps types old new owed kept e,
  )

  all_rest : (first old : Stores) (later : List Stores) → old.logs ≡ first.logs → AreSoundAndCovered types old → HaveNoJobs old → WorksOffAll types old later
      → AllRest first later
  all_rest first old [] same kept none h = tt
  all_rest first old (new ∷ later) same kept none h =
      let now = rests old new kept none h.0 in
      (now.0 ∙ same, now.1, all_rest first new later (now.0 ∙ same) now.2 now.1 h.1)

pub no_jobs_are_paired : NoJobsArePaired
no_jobs_are_paired = record {
  paired = λ types stores match kept none. all_paired types stores kept.sound kept.covered.each none match;
  stays = λ types old later match kept none h. all_rest types match old old later refl kept none h;
}
