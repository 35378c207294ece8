-- A store learns the whole log of another one.
use Rattle.std.proofs.Common.{◌≡◌, ◌≢◌, ◌⊎◌, ℕ, ◌<◌, ◌≤◌, List, [], ◌++◌, append-nil, length, drop, inl, inr, sym, ap, ◌∙◌, subst}
use Rattle.std.proofs.lemmas.Bool.{cases_eq}
use Rattle.std.specs.Prelude.{Some}
use Rattle.tao_base.specs.EdgeTypes.{EdgeTypes, InversesMatch}
use Rattle.tao_base.specs.Ids.{shard_of}
use Rattle.tao_base.specs.Stamps.{stamp_of}
use Rattle.tao_base.specs.declared.entry.Entry.{Entry}
use Rattle.graph_model.specs.Log.{entry_at}
use Rattle.graph_model.specs.Records.{HasStamp}
use Rattle.graph_model.proofs.Rising.{stamps_stay}
use Rattle.graph_model.specs.Soundness.{EdgeUpdate, IsSound, IsSoundOf, other_end}
use Rattle.write_model.proofs.Agreeing.{agree_here, turned}
use Rattle.write_model.proofs.BothEnds.{IsOtherEnd, other_end_is}
use Rattle.write_model.proofs.Growing.{Grown, job_stays, merge_stays, stamp_stays, there_stays}
use Rattle.write_model.specs.Merges.{HasItsMerges, HasItsStamps, HasOneRecord, IsWritten, OwesOpenly, job_of}
use Rattle.write_model.specs.Writes.{epoch_base}
use Rattle.locked_model.proofs.Agreeing.{agree_between}
use Rattle.locked_model.proofs.Gained.{source_stays}
use Rattle.locked_model.proofs.Prefixes.{seen_more}
use Rattle.locked_model.specs.Locked.{HasItsOwn, HasItsSources, IsKept, Knowledge, LearnsWhole, SeeEachOther}
use Rattle.locked_model.specs.LockedLaws.{LockedLearnsKeep}

module _ (types : EdgeTypes) (s t : ℕ) (a b new : Knowledge) (match : InversesMatch types) (apart : s ≢ t) (epochs : a.epoch ≡ b.epoch)
    (of_a : IsKept types s a) (of_b : IsKept types t b) (sees : SeeEachOther s t a b) (h : LearnsWhole s a b new) where
  own_log : new.log t ≡ b.log t
  own_log = h.others t (λ e. apart (sym e))

  grown_at : (i : ℕ) → (more : List Entry) × (new.log i ≡ b.log i ++ more)
  grown_at i = elim (cases_eq i s) [
    | inl same ↦ (
        let more : List Entry = drop (length (b.log s)) (a.log s) in
        (more, subst (λ j. new.log j ≡ b.log j ++ more) (sym same) (h.here ∙ seen_more (b.log s) (a.log s) sees.back)))
    | inr off ↦ ([], h.others i off ∙ sym (append-nil (b.log i)))
  ]

  grown : Grown b.log new.log
  grown = record { more = λ i. (grown_at i).0; is = λ i. (grown_at i).1 }

  sound_new : (i : ℕ) → IsSoundOf types i (new.log i)
  sound_new i = elim (cases_eq i s) [
    | inl same ↦ subst (λ j. IsSoundOf types j (new.log j)) (sym same) (subst (IsSoundOf types s) (sym h.here) (of_a.sound s))
    | inr off ↦ subst (IsSoundOf types i) (sym (h.others i off)) (of_b.sound i)
  ]

  -- what is written now is what the first store has, or what the second one had
  written_at : (u : EdgeUpdate) → IsWritten new.log u → ((shard_of u.0 ≡ s) × IsWritten a.log u) ⊎ IsWritten b.log u
  written_at u w = elim (cases_eq (shard_of u.0) s) [
    | inl same ↦ inl (
      same,
      record {
        position = w.position;
        entry = w.entry;
        stands = subst (λ l. entry_at l w.position ≡ Some w.entry) (ap new.log same ∙ h.here ∙ ap a.log (sym same)) w.stands;
        writes = w.writes;
      },
    )
    | inr off ↦ inr (record {
      position = w.position;
      entry = w.entry;
      stands = subst (λ l. entry_at l w.position ≡ Some w.entry) (h.others (shard_of u.0) off) w.stands;
      writes = w.writes;
    })
  ]

  -- on its own shard that is what it had
  written_own : (u : EdgeUpdate) → shard_of u.0 ≡ t → IsWritten new.log u → IsWritten b.log u
  written_own u here w = record {
    position = w.position;
    entry = w.entry;
    stands = subst (λ l. entry_at l w.position ≡ Some w.entry) (ap new.log here ∙ own_log ∙ ap b.log (sym here)) w.stands;
    writes = w.writes;
  }

  stays : (i : ℕ) (u : EdgeUpdate) → HasStamp (b.log i) u → HasStamp (new.log i) u
  stays = stamp_stays types b.log new.log grown sound_new

  entry_own : (p : ℕ) (e : Entry) → entry_at (new.log t) p ≡ Some e → entry_at (b.log t) p ≡ Some e
  entry_own p e at = subst (λ l. entry_at l p ≡ Some e) own_log at

  owed_new : OwesOpenly types new.log b.job t
  owed_new p x stands none = there_stays types b.log new.log grown sound_new (job_of types x) (of_b.covered.owed p x (entry_own p x stands) none)

  far_new : (u v : EdgeUpdate) → shard_of u.0 ≡ t → IsWritten new.log u → IsWritten new.log v → IsOtherEnd types u (v.0, v.1, v.2, u.3)
      → other_end types u ≡ Some (v.0, v.1, v.2, u.3) → stamp_of u.3 ≡ stamp_of v.3 → u.3 ≡ v.3
  far_new u v here w x other is same = elim (written_at v x) [
    | inr before ↦ of_b.covered.one u v here (written_own u here w) before (inr is) same
    | inl whole ↦ sym (agree_between types match s t a b of_a of_b sees v u whole.0 here apart whole.1 (written_own u here w)
        (turned types match u v other) (sym same))
  ]

  one_new : HasOneRecord types new.log t
  one_new u v here w x (inl one) same = agree_here types new.log sound_new u v w x one same
  one_new u v here w x (inr other) same = far_new u v here w x (other_end_is types u (v.0, v.1, v.2, u.3) other) other same

  stamps_new : HasItsStamps types new.log b.epoch t
  stamps_new u v here w other at above = stays (shard_of v.0) v (of_b.covered.stamps u v here (written_own u here w) other at above)

  merges_new : HasItsMerges types new.log b.epoch t
  merges_new p x from number at origin above =
      let before = entry_own p x at in
      merge_stays types b.log new.log grown t p x from (b.epoch from) number before (of_b.covered.merges p x from number before origin above)

  -- what the first store has of the second one's stamps was at the second one's end
  own_new : HasItsOwn types new.log b.epoch t
  own_new u v w other at is above = elim (written_at u w) [
    | inr before ↦ stays t v (of_b.own u v before other at is above)
    | inl whole ↦ (
        let number : epoch_base (a.epoch (shard_of v.0)) < (stamp_of u.3).number =
        subst (λ f. epoch_base (f (shard_of v.0)) < (stamp_of u.3).number) (sym epochs)
        (subst (λ i. epoch_base (b.epoch i) < (stamp_of u.3).number) (sym at) above) in
        let seen : HasStamp (a.log (shard_of v.0)) v = of_a.covered.stamps u v whole.0 whole.1 other (is ∙ sym at) number in
        subst (λ l. HasStamp l v) (sym own_log) (there v (subst (λ i. HasStamp (a.log i) v) at seen)))
  ]
    where
      there : (v : EdgeUpdate) → HasStamp (a.log t) v → HasStamp (b.log t) v
      there v k =
          let whole = seen_more (a.log t) (b.log t) sees.there in
          subst (λ l. HasStamp l v) (sym whole)
          ((stamps_stay (a.log t)).stays (drop (length (a.log t)) (b.log t)) v (subst IsSound whole (of_b.sound t).sound) k)

  sources_new : HasItsSources types new.log b.begun t
  sources_new p x from number past at origin =
      source_stays types b.log new.log grown from x (of_b.sources p x from number past (entry_own p x at) origin)

  learn_keeps : IsKept types t new
  learn_keeps =
      subst (λ f. IsKept types t (record { log = new.log; epoch = f; job = new.job; begun = new.begun })) (sym h.epoch)
      (subst (λ j. IsKept types t (record { log = new.log; epoch = b.epoch; job = j; begun = new.begun })) (sym h.job)
      (subst (λ n. IsKept types t (record { log = new.log; epoch = b.epoch; job = b.job; begun = n })) (sym h.begun) (record {
        sound = sound_new;
        covered = record {
          owed = owed_new;
          jobs = λ p us j. job_stays types b.log new.log grown t p us (of_b.covered.jobs p us j);
          one = one_new;
          stamps = stamps_new;
          merges = merges_new;
        };
        own = own_new;
        sources = sources_new;
        fits = subst (λ l. b.begun ≤ length l) (sym own_log) of_b.fits;
      })))

pub locked_learns_keep : LockedLearnsKeep
locked_learns_keep = record { keep = learn_keeps }
