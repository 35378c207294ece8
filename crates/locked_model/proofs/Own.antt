-- What a store does under its own lock alone: a write, and the end of a job.
use Rattle.std.proofs.Common.{◌≡◌, ◌≢◌, ℕ, ◌+◌, ◌<◌, length, inl, inr, sym, ap, ◌∙◌, subst, arith}
use Rattle.std.proofs.lemmas.Bool.{both_ways, cases_eq}
use Rattle.std.proofs.lemmas.Option.{same_Some}
use Rattle.std.specs.Prelude.{Contains, Some, None, IsTrue, max}
use Rattle.tao_base.specs.EdgeTypes.{EdgeTypes}
use Rattle.tao_base.specs.Ids.{shard_of}
use Rattle.tao_base.specs.Stamps.{stamp_of}
use Rattle.tao_base.specs.declared.entry.Entry.{Entry}
use Rattle.tao_base.specs.declared.entry.Origin.{Origin}
use Rattle.tao_base.specs.declared.write.Write.{Write}
use Rattle.graph_model.specs.Edges.{edge_record, number_of}
use Rattle.graph_model.specs.Log.{entry_at}
use Rattle.graph_model.specs.Records.{HasStamp, is_news}
use Rattle.graph_model.specs.Soundness.{EdgeUpdate, IsSoundOf, is_client, other_end, updates_of}
use Rattle.write_model.proofs.Agreeing.{near_reached, own_shard, turned}
use Rattle.write_model.proofs.BothEnds.{IsOtherEnd, other_end_from}
use Rattle.write_model.proofs.CoverCommits.{no_merge, none_opened, opened_is}
use Rattle.write_model.proofs.CoverEnds.{job_there}
use Rattle.write_model.proofs.Forward.{forward_follows}
use Rattle.write_model.proofs.Growing.{GainsAt, Grown, entry_at-last, entry_at-within, gained_grown, gained_sound, job_stays}
use Rattle.write_model.proofs.NextNumbers.{forward_origin, numbers_follow}
use Rattle.write_model.proofs.WrittenRecords.{is_news_here, same_stamp_there}
use Rattle.write_model.specs.Merges.{AreThere, HasItsJobs, IsJob, IsWritten, JobSource, OwesOpenly, job_of}
use Rattle.write_model.specs.Steps.{opened_job}
use Rattle.write_model.specs.WriteLaws.{IsAdmitted}
use Rattle.write_model.specs.Writes.{epoch_base, forward_entry}
use Rattle.locked_model.proofs.Gained.{stays_kept}
use Rattle.locked_model.specs.Locked.{EndsOwn, GainsOwn, IsKept, JobTurns, Knowledge}
use Rattle.locked_model.specs.LockedLaws.{LockedEndsKeep, LockedWritesKeep}

module _ (types : EdgeTypes) (shard : ℕ) (old new : Knowledge) (origin : Origin) (write : Write) (e : Entry) (was : IsKept types shard old)
    (client : IsTrue (is_client origin)) (may : IsAdmitted types shard (old.log shard) origin write)
    (is : forward_entry types (old.epoch shard) (old.log shard) origin write ≡ Some e) (g : GainsOwn old new shard e)
    (opens : JobTurns old new e.position (opened_job (job_of types e))) where
  gain : GainsAt types old.log new.log shard e
  gain = record { here = g.here; elsewhere = g.others; stays = (forward_follows shard (old.log shard) origin write e).stays types (old.epoch shard) may is }

  grown : Grown old.log new.log
  grown = gained_grown types old.log new.log shard e gain

  sound_new : (s : ℕ) → IsSoundOf types s (new.log s)
  sound_new = gained_sound types old.log new.log shard e gain was.sound

  is_clients : IsTrue (is_client e.origin)
  is_clients = subst (λ o. IsTrue (is_client o)) (sym (forward_origin types (old.epoch shard) (old.log shard) origin write e is)) client

  position_is : e.position ≡ length (old.log shard) + 1
  position_is = gain.stays.follows.position_is

  opened_at : new.job (length (old.log shard) + 1) ≡ opened_job (job_of types e)
  opened_at = subst (λ i. new.job i ≡ opened_job (job_of types e)) position_is opens.here

  last_stands : entry_at (new.log shard) (length (old.log shard) + 1) ≡ Some e
  last_stands = subst (λ l. entry_at l (length (old.log shard) + 1) ≡ Some e) (sym g.here) (entry_at-last (old.log shard) e)

  elsewhere : (p : ℕ) → p ≢ length (old.log shard) + 1 → new.job p ≡ old.job p
  elsewhere p apart = opens.others p (λ at. apart (at ∙ position_is))

  jobs : HasItsJobs types (new.log shard) new.job
  jobs p us h = elim (cases_eq p (length (old.log shard) + 1)) [
    | inl at ↦ (
        let opened = opened_is (job_of types e) us (sym opened_at ∙ subst (λ i. new.job i ≡ Some us) at h) in
        subst (λ i. ∥ IsJob types (new.log shard) i us ∥₁) (sym at) ∣ record { entry = e; stands = last_stands; job_is = opened.0; some = opened.1 } ∣₁)
    | inr apart ↦ job_stays types old.log new.log grown shard p us (was.covered.jobs p us (sym (elsewhere p apart) ∙ h))
  ]

  not_past : (p : ℕ) (x : Entry) → entry_at (old.log shard) p ≡ Some x → p ≢ length (old.log shard) + 1
  not_past p x h at = let within = entry_at-within (old.log shard) p x h in absurd (omega (arith, within, at))

  own_stamp : (u : EdgeUpdate) → Contains (updates_of e) u → (stamp_of u.3).shard ≡ shard_of u.0
  own_stamp u h = own_shard (new.log shard) (sound_new shard).sound (length (old.log shard) + 1) e u last_stands is_clients h

  -- a stamp of the entry is later than all that was seen of the shard's stamps: nothing that was seen has it
  one : (u v : EdgeUpdate) → shard_of u.0 ≡ shard → Contains (updates_of e) u → IsWritten old.log v → IsOtherEnd types u (v.0, v.1, v.2, u.3)
      → stamp_of u.3 ≡ stamp_of v.3 → shard_of u.0 ≢ shard_of u.2 → u.3 ≡ v.3
  one u v here h x other same apart =
      let back : EdgeUpdate = (u.0, u.1, u.2, v.3) in
      let next = numbers_follow types (old.epoch shard) (old.log shard) origin write e u is h in
      let above : epoch_base (old.epoch shard) < (stamp_of v.3).number =
      is_above (epoch_base (old.epoch shard)) (number_of (edge_record (old.log shard) next.id1 next.atype next.id2)) (stamp_of u.3).number (stamp_of v.3).number
      next.number_is (ap (λ s. s.number) same) in
      let reached : HasStamp (old.log shard) back = was.own v back x (other_end_from types v back (turned types may.inverses u v other)) here
      (ap (λ s. s.shard) (sym same) ∙ own_stamp u h ∙ here) above in
      absurd (both_ways (is_news (old.log shard) u) (same_stamp_there (old.log shard) u v.3 same reached)
      (is_news_here (old.log shard) e u gain.stays.follows h))
    where
      is_above : (base n number other : ℕ) → number ≡ max n base + 1 → number ≡ other → base < other
      is_above base n number other next same = grind (arith, next, same)

  stamps : (u v : EdgeUpdate) → IsWritten new.log u → shard_of u.0 ≡ shard → Contains (updates_of e) u → other_end types u ≡ Some v
      → (stamp_of u.3).shard ≡ shard_of v.0 → HasStamp (new.log (shard_of v.0)) v
  stamps u v w here h other at = near_reached types new.log sound_new u v w other (sym (own_stamp u h) ∙ at)

  write_keeps : IsKept types shard new
  write_keeps = stays_kept types old new shard e gain was (record {
    jobs = jobs;
    still_open = λ p x at none. sym (elsewhere p (not_past p x at)) ∙ none;
    owed = none_opened (λ u. HasStamp (new.log (shard_of u.0)) u) (job_of types e) (new.job (length (old.log shard) + 1)) opened_at;
    one = one;
    stamps = stamps;
    merge = λ from number h. absurd (no_merge e.origin from number is_clients h);
    source = λ from number h. absurd (no_merge e.origin from number is_clients h);
  }) g.epoch g.begun

pub locked_writes_keep : LockedWritesKeep
locked_writes_keep = record { keep = write_keeps }

module _ (types : EdgeTypes) (old new : Knowledge) (owed : JobSource) (was : IsKept types owed.shard old) (h : EndsOwn types old new owed) where
  abbrev position : ℕ
  position = owed.entry.position

  all_there : (x : Entry) → entry_at (old.log owed.shard) position ≡ Some x → AreThere old.log (job_of types x)
  all_there x at =
      let one : owed.entry ≡ x = same_Some owed.entry x (sym h.sees.stands ∙ at) in
      subst (λ y. AreThere old.log (job_of types y)) one (job_there types old.log owed h.sees.there h.done)

  still_owed : OwesOpenly types old.log new.job owed.shard
  still_owed p x stands none = elim (cases_eq p position) [
    | inl at ↦ all_there x (subst (λ i. entry_at (old.log owed.shard) i ≡ Some x) at stands)
    | inr apart ↦ was.covered.owed p x stands (sym (h.ends.others p apart) ∙ none)
  ]

  jobs_left : HasItsJobs types (old.log owed.shard) new.job
  jobs_left p us j = elim (cases_eq p position) [
    | inl at ↦ (let none : None ≡ Some us = sym (ap new.job at ∙ h.ends.here) ∙ j in absurd (cc))
    | inr apart ↦ was.covered.jobs p us (sym (h.ends.others p apart) ∙ j)
  ]

  end_keeps : IsKept types owed.shard new
  end_keeps =
      subst (λ l. IsKept types owed.shard (record { log = l; epoch = new.epoch; job = new.job; begun = new.begun })) (sym h.log)
      (subst (λ f. IsKept types owed.shard (record { log = old.log; epoch = f; job = new.job; begun = new.begun })) (sym h.epoch)
      (subst (λ b. IsKept types owed.shard (record { log = old.log; epoch = old.epoch; job = new.job; begun = b })) (sym h.begun) (record {
        sound = was.sound;
        covered = record { owed = still_owed; jobs = jobs_left; one = was.covered.one; stamps = was.covered.stamps; merges = was.covered.merges };
        own = was.own;
        sources = was.sources;
        fits = was.fits;
      })))

pub locked_ends_keep : LockedEndsKeep
locked_ends_keep = record { keep = end_keeps }
