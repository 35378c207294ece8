-- A repair is a merge and then the end of the job, as steps of the stores of all shards.
use Rattle.std.proofs.Common.{◌≡◌, ◌⊎◌, ◌∙◌, inl, inr, refl, ap, subst, sym}
use Rattle.std.specs.Prelude.{Option, Some, None, Result, Ok, Err}
use Rattle.edge_repair.proofs.Tables.{gains_and_stays}
use Rattle.edge_repair.specs.JobBetween.{JobBetween}
use Rattle.edge_repair.specs.Laws.{IsOwedBetween, MergesAndEnds, NothingHappens, RepairLaws, RepairsAreSteps}
use Rattle.edge_repair.specs.Merging.{MergesBy, MergesDue, RepairsAs, due_entry}
use Rattle.edge_repair.specs.declared.refusal.RepairRefusal.{RepairRefusal}
use Rattle.edge_repair.specs.declared.refusal.RepairRefusal.TheVariants.{KeeperFault, LinkFault, LogFull, OutOfMemory}
use Rattle.edge_repair.specs.declared.repairs.RepairOutcome.{RepairOutcome}
use Rattle.master_tables.proofs.Calls.{calls_are_steps, numbers_are_positions}
use Rattle.master_tables.specs.Masters.{Masters, stores_of}
use Rattle.shard_tables.specs.Written.{TableGains}
use Rattle.tao_base.specs.EdgeTypes.{EdgeTypes}
use Rattle.tao_base.specs.declared.entry.Entry.{Entry}
use Rattle.tao_keeper.specs.Table.{Becomes, Stays, Tables, after_end}
use Rattle.tao_link.specs.declared.link.Carry.{Carry}
use Rattle.write_model.proofs.CoverEnds.{ends_keep}
use Rattle.write_model.proofs.CoverMerges.{merges_keep}
use Rattle.write_model.specs.Machine.{IsFirstJob, MergesNews, Repairs}
use Rattle.write_model.specs.Merges.{JobSource, Stores, job_of, merge_of, source_number}
use Rattle.write_model.specs.Steps.{AreSoundAndCovered, EndsJob, MergesJob}

-- stores with the same logs and jobs are sound and covered as well
same_stores_are_kept : (types : EdgeTypes) (old new : Stores) → NothingHappens old new → AreSoundAndCovered types old → AreSoundAndCovered types new
same_stores_are_kept types old new same kept =
    let is : new ≡ old = λ i. record { logs = same.logs i; job = λ shard position. same.jobs shard position i; epochs = same.epochs i } in
    subst (AreSoundAndCovered types) (sym is) kept

module _ (types : EdgeTypes) (m : Masters) (old new : Tables) (owed : JobSource) (j : JobBetween) (p : IsOwedBetween types m old owed j) where
  due_is : merge_of (old (m.name owed.other)).log owed.shard (source_number owed) (job_of types owed.entry) ≡ due_entry j old
  due_is = sym (ap (λ n. merge_of (old n).log j.from.shard j.job.position j.job.edges) p.to_is
      ∙ ap (λ s. merge_of (old (m.name owed.other)).log s j.job.position j.job.edges) (ap (λ n. n.shard) p.from_is ∙ m.of_shard owed.shard)
      ∙ ap (λ q. merge_of (old (m.name owed.other)).log owed.shard q j.job.edges) p.position_is
      ∙ ap (λ us. merge_of (old (m.name owed.other)).log owed.shard owed.entry.position us) p.records_are
      ∙ ap (λ n. merge_of (old (m.name owed.other)).log owed.shard n (job_of types owed.entry))
      (sym ((numbers_are_positions m old).number_is types owed p.owes)))

  merges_step : (mid : Tables) → MergesDue j old mid → MergesJob types (stores_of m old) (stores_of m mid) owed
  merges_step mid merges = by (due_entry j old) due_is (subst (λ n. TableGains old mid n (due_entry j old) None) p.to_is merges)
    where
      by : (due : Option Entry) → merge_of (old (m.name owed.other)).log owed.shard (source_number owed) (job_of types owed.entry) ≡ due
          → TableGains old mid (m.name owed.other) due None → MergesJob types (stores_of m old) (stores_of m mid) owed
      by None is stays = (calls_are_steps m old mid).merges_none types owed p.within.1 p.owes is stays
      by (Some e) is gains = (calls_are_steps m old mid).merges types owed e p.within.1 p.owes is gains

  ends_step : (mid : Tables) → MergesJob types (stores_of m old) (stores_of m mid) owed → Becomes mid new j.from (after_end (mid j.from) j.job.position)
      → EndsJob types (stores_of m mid) (stores_of m new) owed
  ends_step mid merges ends =
      let left = merges_keep.done types (stores_of m old) (stores_of m mid) owed p.inverses p.kept merges in
      let here : Becomes mid new (m.name owed.shard) (after_end (mid (m.name owed.shard)) j.job.position) =
      subst (λ n. Becomes mid new n (after_end (mid n) j.job.position)) p.from_is ends in
      (calls_are_steps m mid new).ends types owed p.within.0 left.0 left.1
      (subst (λ q. Becomes mid new (m.name owed.shard) (after_end (mid (m.name owed.shard)) q)) p.position_is here)

  repaired_steps : (failed : Option Carry) (repaired : RepairOutcome) → RepairsAs j failed old new (Ok repaired)
      → MergesAndEnds types (stores_of m old) (stores_of m new) owed
  repaired_steps failed repaired is =
      let merges = merges_step is.between is.merges.merges in
      record { mid = stores_of m is.between; merges = merges; ends = ends_step is.between merges is.ends }

  nothing : Stays old new → NothingHappens (stores_of m old) (stores_of m new)
  nothing stays = let same = (calls_are_steps m old new).stays stays in record { logs = same.0; jobs = same.1; epochs = refl }

  at_most : (mid : Tables) → Stays mid new → Stays old mid ⊎ MergesDue j old mid
      → NothingHappens (stores_of m old) (stores_of m new) ⊎ MergesJob types (stores_of m old) (stores_of m new) owed
  at_most mid stays (inl same) = inl (nothing (λ s. stays s ∙ same s))
  at_most mid stays (inr merges) = inr (merges_step new (gains_and_stays old mid new j.to.name (due_entry j old) merges stays))

  merged_at_most : (failed : Option Carry) (mid : Tables) (refusal : RepairRefusal) → MergesBy j failed old mid (Err refusal) → Stays old mid
      ⊎ MergesDue j old mid
  merged_at_most failed mid KeeperFault merges = merges
  merged_at_most failed mid OutOfMemory merges = merges
  merged_at_most failed mid (LogFull count) merges = inl merges.stays
  merged_at_most failed mid LinkFault merges = elim merges [ inl there ↦ inl there.1 | inr back ↦ inr back.1 ]

  refused_steps : (failed : Option Carry) (refusal : RepairRefusal) → RepairsAs j failed old new (Err refusal)
      → NothingHappens (stores_of m old) (stores_of m new) ⊎ MergesJob types (stores_of m old) (stores_of m new) owed
  refused_steps failed refusal is = at_most is.between is.ends (merged_at_most failed is.between refusal is.merges)

  first_repairs : (failed : Option Carry) (repaired : RepairOutcome) → RepairsAs j failed old new (Ok repaired) → IsFirstJob types (stores_of m old) owed
      → Repairs types (stores_of m old) (stores_of m new).logs owed
  first_repairs failed repaired is first =
      let steps = repaired_steps failed repaired is in
      record { first = first; merges = subst (λ logs. MergesNews types (stores_of m old).logs logs owed) (sym steps.ends.logs) steps.merges.merges }

  kept_at_most : NothingHappens (stores_of m old) (stores_of m new) ⊎ MergesJob types (stores_of m old) (stores_of m new) owed
      → AreSoundAndCovered types (stores_of m new)
  kept_at_most (inl nothing) = same_stores_are_kept types (stores_of m old) (stores_of m new) nothing p.kept
  kept_at_most (inr merges) = merges_keep.keep types (stores_of m old) (stores_of m new) owed p.inverses p.kept merges

  stay_kept : (failed : Option Carry) (result : Result RepairOutcome RepairRefusal) → RepairsAs j failed old new result
      → AreSoundAndCovered types (stores_of m new)
  stay_kept failed (Ok repaired) is =
      let steps = repaired_steps failed repaired is in
      ends_keep.keep types steps.mid (stores_of m new) owed (merges_keep.keep types (stores_of m old) steps.mid owed p.inverses p.kept steps.merges) steps.ends
  stay_kept failed (Err refusal) is = kept_at_most (refused_steps failed refusal is)

  pub are_steps : RepairsAreSteps types m old new owed j
  are_steps = record { repaired = repaired_steps; refused = refused_steps; first = first_repairs; kept = stay_kept }

pub repair_laws : RepairLaws
repair_laws = record { are_steps = are_steps }
