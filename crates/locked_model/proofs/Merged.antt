-- A store merges a job whose entry it has seen.
use Rattle.std.proofs.Common.{◌≡◌, ◌≢◌, ℕ, ◌+◌, List, [], ◌∷◌, length, take, refl, sym, ap, ◌∙◌, subst, arith}
use Rattle.std.proofs.lemmas.List.{length-append, take_all}
use Rattle.std.proofs.lemmas.List.Elements.{All-contains}
use Rattle.std.specs.Prelude.{Contains, Some, None, filter}
use Rattle.tao_base.specs.EdgeTypes.{EdgeTypes, InversesMatch}
use Rattle.tao_base.specs.Ids.{shard_of}
use Rattle.tao_base.specs.Stamps.{stamp_of}
use Rattle.tao_base.specs.declared.entry.Entry.{Entry}
use Rattle.tao_base.specs.declared.entry.Origin.TheVariants.{Merge}
use Rattle.graph_model.proofs.Members.{IsIn, All-from_in, contains_from_in, in_filter_parts, in_from_contains}
use Rattle.graph_model.specs.Log.{entry_at}
use Rattle.graph_model.specs.Records.{HasStamp, is_news}
use Rattle.graph_model.specs.Soundness.{EdgeUpdate, IsSoundOf, other_end, updates_of}
use Rattle.write_model.proofs.Agreeing.{agree_here, back, reached_there, written_here}
use Rattle.write_model.proofs.BothEnds.{IsOtherEnd, other_end_is}
use Rattle.write_model.proofs.Covered.{at_place, new_or_done}
use Rattle.write_model.proofs.FarJobs.{jobs_are_far}
use Rattle.write_model.proofs.Growing.{GainsAt, Grown, entry_stays, gained_grown, gained_sound, job_stays, written_stays}
use Rattle.write_model.proofs.Merging.{merge_done, merge_origin_is, merge_stays, merge_touches, merge_updates, some_news}
use Rattle.write_model.proofs.WrittenRecords.{first_of, job_source}
use Rattle.write_model.specs.MergeLaws.{IsFarEntry, IsMergeable, IsNewOrDone}
use Rattle.write_model.specs.Merges.{AreThere, HasItsJobs, HasJob, IsMergeAt, IsWritten, JobSource, job_of, merge_entry, number_in, source_number}
use Rattle.locked_model.proofs.Gained.{stays_kept}
use Rattle.locked_model.specs.Locked.{GainsOwn, IsMergedFrom, IsKept, Knowledge, SeesOwed}
use Rattle.locked_model.specs.LockedLaws.{LockedMergesKeep}

may_merge : (types : EdgeTypes) (k : Knowledge) (owed : JobSource) → IsKept types owed.other k → SeesOwed types k owed
    → IsNewOrDone types (k.log owed.other) owed
may_merge types k owed kept sees =
    new_or_done types k.log k.epoch owed.other owed.entry.position owed (kept.sound owed.other) kept.covered.merges sees.epoch_is sees.stands refl

module _ (types : EdgeTypes) (old new : Knowledge) (owed : JobSource) (m : Entry) (match : InversesMatch types) (was : IsKept types owed.other old)
    (sees : SeesOwed types old owed) (is : merge_entry types (old.log owed.other) owed ≡ Some m) (g : GainsOwn old new owed.other m) where
  abbrev e : Entry
  e = owed.entry

  abbrev log : List Entry
  log = old.log owed.other

  abbrev news : List EdgeUpdate
  news = filter (is_news log) (job_of types e)

  mergeable : IsMergeable types log owed
  mergeable =
      let first = first_of news (some_news types log owed m is) in
      let in_job : IsIn first.0 (job_of types e) = (in_filter_parts (is_news log) (job_of types e) first.0 first.1).0 in
      let lies : shard_of first.0.0 ≡ owed.other = All-contains (λ x. shard_of x.0 ≡ owed.other) (job_of types e) first.0 sees.there
      (contains_from_in (job_of types e) first.0 in_job) in
      let place = at_place types owed.shard (old.log owed.shard) e.position e (was.sound owed.shard) sees.stands in
      record {
        inverses = match;
        sound = was.sound owed.other;
        far = subst (λ s. IsFarEntry types owed.shard s e) lies
            ((jobs_are_far owed.shard (old.log owed.shard)).far types (was.sound owed.shard) place.0 e first.0 place.1
            (contains_from_in (job_of types e) first.0 in_job));
        origin = may_merge types old owed was sees;
      }

  gain : GainsAt types old.log new.log owed.other m
  gain = record { here = g.here; elsewhere = g.others; stays = merge_stays types log owed m mergeable is }

  grown : Grown old.log new.log
  grown = gained_grown types old.log new.log owed.other m gain

  sound_new : (s : ℕ) → IsSoundOf types s (new.log s)
  sound_new = gained_sound types old.log new.log owed.other m gain was.sound

  merged_done : HasJob types (new.log owed.other) e
  merged_done = subst (λ l. HasJob types l e) (sym g.here) (merge_done types log owed m mergeable is)

  whole : take (length log + 1) (new.log owed.other) ≡ new.log owed.other
  whole =
      let longer : length (new.log owed.other) ≡ length log + 1 = ap length g.here ∙ length-append log (m ∷ []) in
      take_all (length log + 1) (new.log owed.other) (omega (arith, longer))

  stands_new : entry_at (new.log owed.shard) e.position ≡ Some e
  stands_new = entry_stays types old.log new.log grown owed.shard e.position e sees.stands

  in_job : (u : EdgeUpdate) → Contains (updates_of m) u → Contains (job_of types e) u
  in_job u k =
      let in_news : IsIn u news = in_from_contains news u (subst (λ us. Contains us u) (merge_updates types log owed m is) k) in
      contains_from_in (job_of types e) u (in_filter_parts (is_news log) (job_of types e) u in_news).0

  merge_at : (from number : ℕ) → m.origin ≡ Merge from number
      → ∥ IsMergeAt types (new.log from) (old.epoch from) (take (length log + 1) (new.log owed.other)) m number ∥₁
  merge_at from number origin =
      let same : Merge owed.shard (source_number owed) ≡ Merge from number = sym (merge_origin_is types log owed m is) ∙ origin in
      let from_is : owed.shard ≡ from = cc in
      let number_is : source_number owed ≡ number = cc in
      subst (λ s. ∥ IsMergeAt types (new.log s) (old.epoch s) (take (length log + 1) (new.log owed.other)) m number ∥₁) from_is ∣ record {
        position = e.position;
        entry = e;
        number_is = sym number_is ∙ ap (λ epoch. number_in epoch e.position) sees.epoch_is;
        stands = stands_new;
        touches = merge_touches types log owed m is;
        done = subst (λ l. HasJob types l e) (sym whole) merged_done;
      } ∣₁

  source_at : (from number : ℕ) → m.origin ≡ Merge from number → ∥ IsMergedFrom types (new.log from) m ∥₁
  source_at from number origin =
      let same : Merge owed.shard (source_number owed) ≡ Merge from number = sym (merge_origin_is types log owed m is) ∙ origin in
      let from_is : owed.shard ≡ from = cc in
      subst (λ s. ∥ IsMergedFrom types (new.log s) m ∥₁) from_is ∣ record { position = e.position; entry = e; stands = stands_new; owed = in_job } ∣₁

  -- a record that the merge wrote was written at the other end
  record Source (u : EdgeUpdate) : Type 0 where
    of : EdgeUpdate
    other : IsOtherEnd types of u
    stands : IsWritten old.log of

  source : (u : EdgeUpdate) → Contains (updates_of m) u → Source u
  source u k =
      let far = job_source types e u (in_job u k) in
      let lies = written_here types owed.shard (old.log owed.shard) (was.sound owed.shard) e.position e far.of sees.stands far.writes in
      record {
        of = far.of;
        other = far.other;
        stands = record {
          position = e.position;
          entry = e;
          stands = subst (λ s. entry_at (old.log s) e.position ≡ Some e) (sym lies) sees.stands;
          writes = far.writes;
        };
      }

  owes_back : AreThere new.log (job_of types m)
  owes_back = All-from_in (λ u. HasStamp (new.log (shard_of u.0)) u) (job_of types m) (λ u k.
      let far = job_source types m u (contains_from_in (job_of types m) u k) in
      let from = source far.of far.writes in
      let same : from.of ≡ u = back types match far.of from.of u from.other far.other in
      subst (λ w. HasStamp (new.log (shard_of w.0)) w) same
      (reached_there types new.log sound_new from.of (written_stays types old.log new.log grown from.of from.stands)))

  one : (u v : EdgeUpdate) → shard_of u.0 ≡ owed.other → Contains (updates_of m) u → IsWritten old.log v → IsOtherEnd types u (v.0, v.1, v.2, u.3)
      → stamp_of u.3 ≡ stamp_of v.3 → shard_of u.0 ≢ shard_of u.2 → u.3 ≡ v.3
  one u v lies k x other same apart =
      let from = source u k in
      let at : from.of ≡ (v.0, v.1, v.2, u.3) = back types match u from.of (v.0, v.1, v.2, u.3) from.other other in
      agree_here types old.log was.sound (v.0, v.1, v.2, u.3) v (subst (IsWritten old.log) at from.stands) x
      (record { id1 = refl; atype = refl; id2 = refl }) same

  stamps : (u v : EdgeUpdate) → IsWritten new.log u → shard_of u.0 ≡ owed.other → Contains (updates_of m) u → other_end types u ≡ Some v
      → (stamp_of u.3).shard ≡ shard_of v.0 → HasStamp (new.log (shard_of v.0)) v
  stamps u v w lies k other at =
      let from = source u k in
      let same : from.of ≡ v = back types match u from.of v from.other (other_end_is types u v other) in
      subst (λ x. HasStamp (new.log (shard_of x.0)) x) same
      (reached_there types new.log sound_new from.of (written_stays types old.log new.log grown from.of from.stands))

  merged_kept : new.job ≡ old.job → IsKept types owed.other new
  merged_kept same = stays_kept types old new owed.other m gain was (record {
    jobs = subst (HasItsJobs types (new.log owed.other)) (sym same) (λ p us j. job_stays types old.log new.log grown owed.other p us (was.covered.jobs p us j));
    still_open = λ p x at none. subst (λ job. job p ≡ None) same none;
    owed = λ none. owes_back;
    one = one;
    stamps = stamps;
    merge = merge_at;
    source = source_at;
  }) g.epoch g.begun

pub locked_merges_keep : LockedMergesKeep
locked_merges_keep = record { may = may_merge; keep = merged_kept; done = merged_done }
