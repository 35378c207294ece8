-- A commit with its job keeps the stores sound and covered.
use Rattle.std.proofs.Common.{◌≡◌, ◌≢◌, ℕ, ◌+◌, List, [], ◌∷◌, length, inl, inr, refl, sym, ap, ◌∙◌, subst, arith, take}
use Rattle.std.proofs.lemmas.Bool.{both_ways, cases_eq}
use Rattle.std.proofs.lemmas.List.Elements.{All-nil}
use Rattle.std.proofs.lemmas.Option.{same_Some}
use Rattle.std.specs.Prelude.{All, Contains, Option, Some, None, IsTrue, sum_by, max, ◌≤◌, ◌<◌}
use Rattle.tao_base.specs.EdgeTypes.{EdgeTypes, InversesMatch}
use Rattle.tao_base.specs.Ids.{shard_of}
use Rattle.tao_base.specs.Stamps.{stamp_of}
use Rattle.tao_base.specs.declared.edge.EdgeState.{EdgeState}
use Rattle.tao_base.specs.declared.entry.Entry.{Entry}
use Rattle.tao_base.specs.declared.entry.Origin.{Origin}
use Rattle.tao_base.specs.declared.entry.Origin.TheVariants.{Client, Merge}
use Rattle.tao_base.specs.declared.id.AType.{AType}
use Rattle.tao_base.specs.declared.id.Id.{Id}
use Rattle.tao_base.specs.declared.write.Write.{Write}
use Rattle.write_model.proofs.Agreeing.{AgreesFar, agree_all, near_reached, own_shard, turned, written_here}
use Rattle.write_model.proofs.BothEnds.{IsOtherEnd, other_end_from}
use Rattle.write_model.proofs.Forward.{forward_follows}
use Rattle.write_model.proofs.Growing.{GainsAt, Grown, IsGain, entry_at-last, entry_at-within, gained_entry, gained_grown, gains_at}
use Rattle.write_model.proofs.Growing.{gained_sound, gained_sum, gained_written, job_stays, merge_stays, stamp_stays, there_stays}
use Rattle.write_model.proofs.NextNumbers.{forward_origin, numbers_follow}
use Rattle.write_model.proofs.WrittenRecords.{is_news_here, same_stamp_there, wrote_it}
use Rattle.write_model.specs.CoverLaws.{CommitsKeep}
use Rattle.graph_model.specs.Edges.{edge_record, number_of}
use Rattle.graph_model.specs.Records.{HasStamp, is_news}
use Rattle.write_model.specs.Merges.{AreThere, HasItsJobs, HasItsMerges, IsJob, IsMergeAt, IsWritten, OwesOpenly, Stores, entries_ever, job_of, log_of}
use Rattle.write_model.specs.Merges.{number_in}
use Rattle.graph_model.specs.Log.{entry_at}
use Rattle.graph_model.specs.Soundness.{EdgeUpdate, is_client, other_end, updates_of}
use Rattle.write_model.specs.Steps.{AreSound, AreSoundAndCovered, CommitsWithJob, opened_job}
use Rattle.write_model.specs.WriteLaws.{IsAdmitted}
use Rattle.write_model.specs.Writes.{epoch_base}

-- What is to be shown of the entry that a log gains and of the open jobs, so that the stores stay covered.
pub record KeepsCover (types : EdgeTypes) (old new : Stores) (shard : ℕ) (e : Entry) : Type 0 where
  pub jobs : (s : ℕ) → HasItsJobs types (log_of new.logs s) (new.job s)
  pub still_open : (s p : ℕ) (x : Entry) → entry_at (log_of old.logs s) p ≡ Some x → new.job s p ≡ None → old.job s p ≡ None
  pub owed : new.job shard (length (log_of old.logs shard) + 1) ≡ None → AreThere (log_of new.logs) (job_of types e)
  -- a record that it writes is the one with its stamp at the other end, which lies on another shard
  pub one : (u v : EdgeUpdate) → shard_of u.0 ≡ shard → Contains (updates_of e) u → IsWritten (log_of old.logs) v → IsOtherEnd types u (v.0, v.1, v.2, u.3)
      → stamp_of u.3 ≡ stamp_of v.3 → shard_of u.0 ≢ shard_of u.2 → u.3 ≡ v.3
  pub stamps : (u v : EdgeUpdate) → IsWritten (log_of new.logs) u → shard_of u.0 ≡ shard → Contains (updates_of e) u → other_end types u ≡ Some v
      → (stamp_of u.3).shard ≡ shard_of v.0 → HasStamp (log_of new.logs (shard_of v.0)) v
  pub merge : (from number : ℕ) → e.origin ≡ Merge from number → ∥ IsMergeAt types (log_of new.logs from) (old.epochs.of from)
      (take (length (log_of old.logs shard) + 1) (log_of new.logs shard)) e number ∥₁
  pub numbers : (u : EdgeUpdate) → Contains (updates_of e) u → (stamp_of u.3).number ≤ number_in old.epochs.last (entries_ever old) + 1

module _ (types : EdgeTypes) (old new : Stores) (shard : ℕ) (e : Entry) (match : InversesMatch types) (g : IsGain types old.logs new.logs shard e)
    (was : AreSoundAndCovered types old) (k : KeepsCover types old new shard e) where
  gained : GainsAt types (log_of old.logs) (log_of new.logs) shard e
  gained = gains_at types old.logs new.logs shard e g

  grown : Grown (log_of old.logs) (log_of new.logs)
  grown = gained_grown types (log_of old.logs) (log_of new.logs) shard e gained

  sound_new : AreSound types new.logs
  sound_new = gained_sound types (log_of old.logs) (log_of new.logs) shard e gained was.sound

  owed_new : (s : ℕ) → OwesOpenly types (log_of new.logs) (new.job s) s
  owed_new s p x stands none = elim (gained_entry types (log_of old.logs) (log_of new.logs) shard e gained s p x stands) [
    | inl before ↦ there_stays types (log_of old.logs) (log_of new.logs) grown sound_new (job_of types x)
        ((was.covered.each s).owed p x before (k.still_open s p x before none))
    | inr last ↦ (
        let at : new.job shard (length (log_of old.logs shard) + 1) ≡ None = subst (λ i. new.job shard i ≡ None) last.1
        (subst (λ i. new.job i p ≡ None) last.0 none) in
        subst (λ y. AreThere (log_of new.logs) (job_of types y)) last.2 (k.owed at))
  ]

  -- of two far ends one was there before
  far_new : AgreesFar types (log_of new.logs)
  far_new u v w x other same apart = elim (gained_written types (log_of old.logs) (log_of new.logs) shard e gained u w) [
    | inl w_old ↦ elim (gained_written types (log_of old.logs) (log_of new.logs) shard e gained v x) [
      | inl x_old ↦ (was.covered.each (shard_of u.0)).one u v refl w_old x_old (inr (other_end_from types u (v.0, v.1, v.2, u.3) other)) same
      | inr x_new ↦ sym (k.one v u x_new.0 x_new.1 w_old (turned types match u v other) (sym same)
          (λ q. apart (ap shard_of (sym other.id2) ∙ sym q ∙ ap shard_of other.id1)))
    ]
    | inr w_new ↦ elim (gained_written types (log_of old.logs) (log_of new.logs) shard e gained v x) [
      | inl x_old ↦ k.one u v w_new.0 w_new.1 x_old other same apart
      | inr x_new ↦ absurd (apart (w_new.0 ∙ sym x_new.0 ∙ ap shard_of other.id1))
    ]
  ]

  stamps_new : (u v : EdgeUpdate) → IsWritten (log_of new.logs) u → other_end types u ≡ Some v → (stamp_of u.3).shard ≡ shard_of v.0
      → epoch_base (old.epochs.of (shard_of v.0)) < (stamp_of u.3).number → HasStamp (log_of new.logs (shard_of v.0)) v
  stamps_new u v w other is above = elim (gained_written types (log_of old.logs) (log_of new.logs) shard e gained u w) [
    | inl before ↦ stamp_stays types (log_of old.logs) (log_of new.logs) grown sound_new (shard_of v.0) v
        ((was.covered.each (shard_of u.0)).stamps u v refl before other is above)
    | inr last ↦ k.stamps u v w last.0 last.1 other is
  ]

  merges_new : (s : ℕ) → HasItsMerges types (log_of new.logs) old.epochs.of s
  merges_new s p x from number at origin above = elim (gained_entry types (log_of old.logs) (log_of new.logs) shard e gained s p x at) [
    | inl before ↦ merge_stays types (log_of old.logs) (log_of new.logs) grown s p x from (old.epochs.of from) number before
        ((was.covered.each s).merges p x from number before origin above)
    | inr last ↦ (
        subst (λ y. IsMerged (take p (log_of new.logs s)) y) last.2
        (subst (λ i. IsMerged (take p (log_of new.logs i)) e) (sym last.0)
        (subst (λ i. IsMerged (take i (log_of new.logs shard)) e) (sym last.1)
        (k.merge from number (ap (λ y. y.origin) last.2 ∙ origin)))))
  ]
    where
      IsMerged : List Entry → Entry → Type 0
      IsMerged entries y = ∥ IsMergeAt types (log_of new.logs from) (old.epochs.of from) entries y number ∥₁

  more_ever : sum_by length new.logs + old.epochs.lost ≡ entries_ever old + 1
  more_ever = let sum = gained_sum types old.logs new.logs shard e g in omega (arith, sum)

  numbers_new : (u : EdgeUpdate) → IsWritten (log_of new.logs) u → (stamp_of u.3).number ≤ number_in old.epochs.last (sum_by length new.logs + old.epochs.lost)
  numbers_new u w =
      let more = more_ever in
      elim (gained_written types (log_of old.logs) (log_of new.logs) shard e gained u w) [
        | inl before ↦ (let n = was.covered.numbers u before in omega (arith, n, more))
        | inr last ↦ (let n = k.numbers u last.1 in omega (arith, n, more))
      ]

  pub stays_covered : new.epochs ≡ old.epochs → AreSoundAndCovered types new
  stays_covered same = subst (λ epochs. AreSoundAndCovered types (record { logs = new.logs; job = new.job; epochs = epochs })) (sym same) (record {
    sound = sound_new;
    covered = record {
      each = λ s. record {
        owed = owed_new s;
        jobs = k.jobs s;
        one = agree_all types (log_of new.logs) sound_new far_new s;
        stamps = λ u v here. stamps_new u v;
        merges = merges_new s;
      };
      numbers = numbers_new;
      epochs = was.covered.epochs;
    };
  })

-- the job that is opened
pub opened_is : (us vs : List EdgeUpdate) → opened_job us ≡ Some vs → (vs ≡ us) × (0 < length vs)
opened_is [] vs h = absurd (cc)
opened_is (u ∷ us) vs h = let same = same_Some (u ∷ us) vs h in (sym same, subst (λ ws. 0 < length ws) same (omega arith))

-- where none was opened there was no record
pub none_opened : (P : EdgeUpdate → Type 0) (us : List EdgeUpdate) (o : Option (List EdgeUpdate)) → o ≡ opened_job us → o ≡ None → All P us
none_opened P [] o h none = All-nil P
none_opened P (u ∷ us) o h none = absurd (cc)

pub no_merge : (origin : Origin) (from number : ℕ) → IsTrue (is_client origin) → origin ≡ Merge from number → ⊥
no_merge (Client session seq) from number client h = absurd (cc)
no_merge (Merge shard position) from number client h = absurd (cc)

module _ (types : EdgeTypes) (old new : Stores) (shard epoch : ℕ) (origin : Origin) (write : Write) (e : Entry)
    (was : AreSoundAndCovered types old) (client : IsTrue (is_client origin)) (may : IsAdmitted types shard (log_of old.logs shard) origin write)
    (c : CommitsWithJob types old new (record { shard = shard; epoch = epoch; origin = origin; asked = write }) e) where
  gain : IsGain types old.logs new.logs shard e
  gain = record {
    within = c.commits.gained.0;
    is = c.commits.gained.1;
    stays = (forward_follows shard (log_of old.logs shard) origin write e).stays types epoch may c.commits.is;
  }

  gain_at : GainsAt types (log_of old.logs) (log_of new.logs) shard e
  gain_at = gains_at types old.logs new.logs shard e gain

  is_clients : IsTrue (is_client e.origin)
  is_clients = subst (λ o. IsTrue (is_client o)) (sym (forward_origin types epoch (log_of old.logs shard) origin write e c.commits.is)) client

  position_is : e.position ≡ length (log_of old.logs shard) + 1
  position_is = gain.stays.follows.position_is

  opened_at : new.job shard (length (log_of old.logs shard) + 1) ≡ opened_job (job_of types e)
  opened_at = subst (λ i. new.job shard i ≡ opened_job (job_of types e)) position_is c.opens.here

  last_stands : entry_at (log_of new.logs shard) (length (log_of old.logs shard) + 1) ≡ Some e
  last_stands = subst (λ l. entry_at l (length (log_of old.logs shard) + 1) ≡ Some e) (sym (gain_at.here))
      (entry_at-last (log_of old.logs shard) e)

  job_here : (us : List EdgeUpdate) → new.job shard (length (log_of old.logs shard) + 1) ≡ Some us
      → IsJob types (log_of new.logs shard) (length (log_of old.logs shard) + 1) us
  job_here us h =
      let is = opened_is (job_of types e) us (sym opened_at ∙ h) in
      record { entry = e; stands = last_stands; job_is = is.0; some = is.1 }

  elsewhere : (s p : ℕ) → (s ≡ shard → p ≢ length (log_of old.logs shard) + 1) → new.job s p ≡ old.job s p
  elsewhere s p apart = c.opens.others s p (λ same at. apart same (at ∙ position_is))

  job_new : (s : ℕ) → HasItsJobs types (log_of new.logs s) (new.job s)
  job_new s p us h = elim (cases_eq s shard) [
    | inl same ↦ elim (cases_eq p (length (log_of old.logs shard) + 1)) [
      | inl at ↦ (
          subst (λ i. ∥ IsJob types (log_of new.logs i) p us ∥₁) (sym same)
          (subst (λ i. ∥ IsJob types (log_of new.logs shard) i us ∥₁) (sym at)
          ∣ job_here us (subst (λ i. new.job shard i ≡ Some us) at (subst (λ i. new.job i p ≡ Some us) same h)) ∣₁))
      | inr apart ↦ job_before s p us (λ q. apart) h
    ]
    | inr apart ↦ job_before s p us (λ q. absurd (apart q)) h
  ]
    where
      job_before : (s p : ℕ) (us : List EdgeUpdate) → (s ≡ shard → p ≢ length (log_of old.logs shard) + 1) → new.job s p ≡ Some us
          → ∥ IsJob types (log_of new.logs s) p us ∥₁
      job_before s p us apart h =
          job_stays types (log_of old.logs) (log_of new.logs) (gained_grown types (log_of old.logs) (log_of new.logs) shard e gain_at) s p us
          ((was.covered.each s).jobs p us (sym (elsewhere s p apart) ∙ h))

  not_past : (s p : ℕ) (x : Entry) → entry_at (log_of old.logs s) p ≡ Some x → s ≡ shard → p ≢ length (log_of old.logs shard) + 1
  not_past s p x h same at = let within = entry_at-within (log_of old.logs shard) p x (subst (λ i. entry_at (log_of old.logs i) p ≡ Some x) same h) in
      absurd (omega (arith, within, at))

  -- the number of a record that stood
  number_stood : (id1 : Id) (atype : AType) (id2 : Id) (o : Option EdgeState) → edge_record (log_of old.logs shard) id1 atype id2 ≡ o
      → number_of o ≤ number_in old.epochs.last (entries_ever old)
  number_stood id1 atype id2 None h = omega arith
  number_stood id1 atype id2 (Some state) h =
      let w = wrote_it id1 atype id2 state (log_of old.logs shard) (was.sound shard).sound h in
      let here = written_here types shard (log_of old.logs shard) (was.sound shard) w.position w.entry (id1, atype, id2, state) w.stands w.writes in
      was.covered.numbers (id1, atype, id2, state) (record {
        position = w.position;
        entry = w.entry;
        stands = subst (λ s. entry_at (log_of old.logs s) w.position ≡ Some w.entry) (sym here) w.stands;
        writes = w.writes;
      })

  numbers : (u : EdgeUpdate) → Contains (updates_of e) u → (stamp_of u.3).number ≤ number_in old.epochs.last (entries_ever old) + 1
  numbers u h =
      let next = numbers_follow types epoch (log_of old.logs shard) origin write e u c.commits.is h in
      let few = number_stood next.id1 next.atype next.id2 (edge_record (log_of old.logs shard) next.id1 next.atype next.id2) refl in
      let base = epoch_below epoch (old.epochs.of shard) old.epochs.last c.epoch_is (was.covered.epochs shard) in
      at_most (number_of (edge_record (log_of old.logs shard) next.id1 next.atype next.id2)) (epoch_base epoch) (epoch_base old.epochs.last) (entries_ever old)
      (stamp_of u.3).number few base next.number_is
    where
      epoch_below : (epoch own last : ℕ) → epoch ≡ own → own ≤ last → epoch_base epoch ≤ epoch_base last
      epoch_below epoch own last is le = omega (arith, is, le)

      at_most : (n base last ever number : ℕ) → n ≤ last + ever → base ≤ last → number ≡ max n base + 1 → number ≤ last + ever + 1
      at_most n base last ever number few le is = grind (arith, few, le, is)

  -- a stamp of the entry is later than all that was at the other end: nothing there has it
  one : (u v : EdgeUpdate) → shard_of u.0 ≡ shard → Contains (updates_of e) u → IsWritten (log_of old.logs) v → IsOtherEnd types u (v.0, v.1, v.2, u.3)
      → stamp_of u.3 ≡ stamp_of v.3 → shard_of u.0 ≢ shard_of u.2 → u.3 ≡ v.3
  one u v here h x other same apart =
      let back : EdgeUpdate = (u.0, u.1, u.2, v.3) in
      let next = numbers_follow types epoch (log_of old.logs shard) origin write e u c.commits.is h in
      let own : (stamp_of u.3).shard ≡ shard_of u.0 =
      own_shard (log_of new.logs shard) (gained_sound types (log_of old.logs) (log_of new.logs) shard e gain_at was.sound shard).sound
      (length (log_of old.logs shard) + 1) e u last_stands is_clients h in
      let above : epoch_base (old.epochs.of (shard_of u.0)) < (stamp_of v.3).number =
      is_above epoch (old.epochs.of (shard_of u.0)) (number_of (edge_record (log_of old.logs shard) next.id1 next.atype next.id2)) (stamp_of u.3).number
      (stamp_of v.3).number (c.epoch_is ∙ ap old.epochs.of (sym here)) next.number_is (ap (λ s. s.number) same) in
      let reached : HasStamp (log_of old.logs (shard_of u.0)) back =
      (was.covered.each (shard_of v.0)).stamps v back refl x (other_end_from types v back (turned types may.inverses u v other))
      (ap (λ s. s.shard) (sym same) ∙ own) above in
      let there : HasStamp (log_of old.logs shard) u = subst (λ s. HasStamp (log_of old.logs s) u) here
      (same_stamp_there (log_of old.logs (shard_of u.0)) u v.3 same reached) in
      absurd (both_ways (is_news (log_of old.logs shard) u) there (is_news_here (log_of old.logs shard) e u gain.stays.follows h))
    where
      is_above : (epoch own n number other : ℕ) → epoch ≡ own → number ≡ max n (epoch_base epoch) + 1 → number ≡ other → epoch_base own < other
      is_above epoch own n number other is next same = grind (arith, is, next, same)

  stamps : (u v : EdgeUpdate) → IsWritten (log_of new.logs) u → shard_of u.0 ≡ shard → Contains (updates_of e) u → other_end types u ≡ Some v
      → (stamp_of u.3).shard ≡ shard_of v.0 → HasStamp (log_of new.logs (shard_of v.0)) v
  stamps u v w here h other is =
      let sound = gained_sound types (log_of old.logs) (log_of new.logs) shard e gain_at was.sound in
      let own : (stamp_of u.3).shard ≡ shard_of u.0 =
      own_shard (log_of new.logs shard) (sound shard).sound (length (log_of old.logs shard) + 1) e u last_stands is_clients h in
      near_reached types (log_of new.logs) sound u v w other (sym own ∙ is)

  commit_keeps : AreSoundAndCovered types new
  commit_keeps = stays_covered types old new shard e may.inverses gain was (record {
    jobs = job_new;
    still_open = λ s p x at none. sym (elsewhere s p (not_past s p x at)) ∙ none;
    owed = none_opened (λ u. HasStamp (log_of new.logs (shard_of u.0)) u) (job_of types e) (new.job shard (length (log_of old.logs shard) + 1)) opened_at;
    one = one;
    stamps = stamps;
    merge = λ from number h. absurd (no_merge e.origin from number is_clients h);
    numbers = numbers;
  }) c.epochs

  commit_stands : entry_at (log_of new.logs shard) e.position ≡ Some e
  commit_stands = ap (entry_at (log_of new.logs shard)) position_is ∙ last_stands

pub commits_keep : CommitsKeep
commits_keep = record {
  stands = λ types old new w e was client may c. commit_stands types old new w.shard w.epoch w.origin w.asked e was client may c;
  keep = λ types old new w e was client may c. commit_keeps types old new w.shard w.epoch w.origin w.asked e was client may c;
}
