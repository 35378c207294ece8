-- What all locks keep together.
use Rattle.std.proofs.Common.{◌≡◌, ◌≢◌, ℕ, List, ◌++◌, length, drop, inl, inr, refl, sym, ap, ◌∙◌, subst, arith, ◌<◌}
use Rattle.std.proofs.Math.Logic.{∥∥₁_map}
use Rattle.std.proofs.Props.{props}
use Rattle.std.proofs.lemmas.Bool.{cases_eq}
use Rattle.std.proofs.lemmas.List.Elements.{All-weaker}
use Rattle.std.specs.Prelude.{Option, Some, None, take}
use Rattle.tao_base.specs.EdgeTypes.{EdgeTypes, InversesMatch}
use Rattle.tao_base.specs.Ids.{shard_of}
use Rattle.tao_base.specs.Stamps.{stamp_of}
use Rattle.tao_base.specs.declared.entry.Entry.{Entry}
use Rattle.graph_model.proofs.Rising.{stamps_stay}
use Rattle.graph_model.specs.Log.{entry_at}
use Rattle.graph_model.specs.Records.{HasStamp}
use Rattle.graph_model.specs.Soundness.{EdgeUpdate, IsSound, IsSoundOf}
use Rattle.write_model.proofs.Agreeing.{AgreesFar, agree_all}
use Rattle.write_model.proofs.Growing.{entry_at-more, entry_at-within}
use Rattle.write_model.proofs.Paired.{all_paired}
use Rattle.write_model.specs.Merges.{HasItsJobs, HasItsMerges, HasItsStamps, IsCovered, IsMergeAt, IsWritten, OwesOpenly, Stores, job_of, log_of}
use Rattle.write_model.specs.Steps.{AreSound, AreSoundAndCovered}
use Rattle.write_model.specs.Writes.{epoch_base}
use Rattle.locked_model.proofs.Agreeing.{agree_between}
use Rattle.locked_model.proofs.Prefixes.{seen_more, seen_whole}
use Rattle.locked_model.specs.Locked.{AreLocked, IsKept, IsSeenOf, Knowledge, begun_with}
use Rattle.locked_model.specs.LockedLaws.{LocksBegin, LocksCover}

module _ (types : EdgeTypes) (stores : Stores) (k : ℕ → Knowledge) (locked : AreLocked types stores k) where
  -- what a store has seen of a log begins it
  begins : (s t : ℕ) → IsSeenOf ((k s).log t) (log_of stores.logs t)
  begins s t = elim (cases_eq s t) [
    | inl same ↦ (
        let whole : log_of stores.logs t ≡ (k s).log t = sym (locked.logs t) ∙ ap (λ i. (k i).log t) (sym same) in
        subst (IsSeenOf ((k s).log t)) (sym whole) (seen_whole ((k s).log t)))
    | inr apart ↦ subst (IsSeenOf ((k s).log t)) (locked.logs t) (locked.see s t apart).there
  ]

  more : (s t : ℕ) → log_of stores.logs t ≡ (k s).log t ++ drop (length ((k s).log t)) (log_of stores.logs t)
  more s t = seen_more ((k s).log t) (log_of stores.logs t) (begins s t)

  sound_all : AreSound types stores.logs
  sound_all s = subst (IsSoundOf types s) (locked.logs s) ((locked.kept s).sound s)

  stands_all : (s t p : ℕ) (e : Entry) → entry_at ((k s).log t) p ≡ Some e → entry_at (log_of stores.logs t) p ≡ Some e
  stands_all s t p e at = subst (λ l. entry_at l p ≡ Some e) (sym (more s t))
      (entry_at-more ((k s).log t) (drop (length ((k s).log t)) (log_of stores.logs t)) p e at)

  stamp_all : (s t : ℕ) (u : EdgeUpdate) → HasStamp ((k s).log t) u → HasStamp (log_of stores.logs t) u
  stamp_all s t u h =
      let later : List Entry = drop (length ((k s).log t)) (log_of stores.logs t) in
      subst (λ l. HasStamp l u) (sym (more s t)) ((stamps_stay ((k s).log t)).stays later u (subst IsSound (more s t) (sound_all t).sound) h)

  -- what stands in a log is what its store has
  own_entry : (s p : ℕ) (e : Entry) → entry_at (log_of stores.logs s) p ≡ Some e → entry_at ((k s).log s) p ≡ Some e
  own_entry s p e at = subst (λ l. entry_at l p ≡ Some e) (sym (locked.logs s)) at

  own_written : (s : ℕ) (u : EdgeUpdate) → shard_of u.0 ≡ s → IsWritten (log_of stores.logs) u → IsWritten (k s).log u
  own_written s u here w = record {
    position = w.position;
    entry = w.entry;
    stands = subst (λ i. entry_at ((k s).log i) w.position ≡ Some w.entry) (sym here)
        (own_entry s w.position w.entry (subst (λ i. entry_at (log_of stores.logs i) w.position ≡ Some w.entry) here w.stands));
    writes = w.writes;
  }

  owed : (s : ℕ) → OwesOpenly types (log_of stores.logs) (stores.job s) s
  owed s p x stands none =
      let closed : (k s).job p ≡ None = ap (λ (job : ℕ → Option (List EdgeUpdate)). job p) (locked.jobs s) ∙ none in
      All-weaker (λ u. HasStamp ((k s).log (shard_of u.0)) u) (λ u. HasStamp (log_of stores.logs (shard_of u.0)) u)
      (λ u. stamp_all s (shard_of u.0) u) (job_of types x) ((locked.kept s).covered.owed p x (own_entry s p x stands) closed)

  far : InversesMatch types → AgreesFar types (log_of stores.logs)
  far match u v w x other same apart =
      let s : ℕ = shard_of u.0 in
      let t : ℕ = shard_of v.0 in
      let off : s ≢ t = λ e. apart (e ∙ ap shard_of other.id1) in
      agree_between types match s t (k s) (k t) (locked.kept s) (locked.kept t) (locked.see s t off) u v refl refl off (own_written s u refl w)
      (own_written t v refl x) other same

  stamps : (s : ℕ) → HasItsStamps types (log_of stores.logs) stores.epochs.of s
  stamps s = subst (λ f. HasItsStamps types (log_of stores.logs) f s) (locked.epochs s)
      (λ u v here w other at above. stamp_all s (shard_of v.0) v ((locked.kept s).covered.stamps u v here (own_written s u here w) other at above))

  merges : (s : ℕ) → HasItsMerges types (log_of stores.logs) stores.epochs.of s
  merges s = subst (λ f. HasItsMerges types (log_of stores.logs) f s) (locked.epochs s) (λ p x from number at origin above.
      subst (λ l. ∥ IsMergeAt types (log_of stores.logs from) ((k s).epoch from) (take p l) x number ∥₁) (locked.logs s)
      (∥∥₁_map ((locked.kept s).covered.merges p x from number (own_entry s p x at) origin above) (λ m. record {
        position = m.position;
        entry = m.entry;
        number_is = m.number_is;
        stands = stands_all s from m.position m.entry m.stands;
        touches = m.touches;
        done = m.done;
      })))

  each : InversesMatch types → (s : ℕ) → IsCovered types (log_of stores.logs) stores.epochs.of (stores.job s) s
  each match s = record {
    owed = owed s;
    jobs = subst (HasItsJobs types (log_of stores.logs s)) (locked.jobs s)
        (subst (λ l. HasItsJobs types l (k s).job) (locked.logs s) (locked.kept s).covered.jobs);
    one = agree_all types (log_of stores.logs) sound_all (far match) s;
    stamps = stamps s;
    merges = merges s;
  }

pub locks_cover : LocksCover
locks_cover = record {
  sound = sound_all;
  each = λ types stores k match locked. each types stores k locked match;
  paired = λ types stores k match locked none. all_paired types stores (sound_all types stores k locked) (each types stores k locked match) none match;
}

-- stores that have seen all logs whole
begin_kept : (types : EdgeTypes) (stores : Stores) → AreSoundAndCovered types stores → (shard : ℕ) → IsKept types shard (begun_with stores shard)
begin_kept types stores kept shard = record {
  sound = kept.sound;
  covered = kept.covered.each shard;
  own = λ u v w other at is above. subst (λ s. HasStamp (log_of stores.logs s) v) at
      ((kept.covered.each (shard_of u.0)).stamps u v refl w other (is ∙ sym at)
      (subst (λ s. epoch_base (stores.epochs.of s) < (stamp_of u.3).number) (sym at) above));
  sources = λ p e from number past at origin.
      (let within = entry_at-within (log_of stores.logs shard) p e at in absurd (omega (arith, past, within)));
  fits = omega arith;
}

pub locks_begin : LocksBegin
locks_begin = record {
  begin = λ types stores kept. record {
    kept = begin_kept types stores kept;
    see = λ s t apart. record {
      there = seen_whole (log_of stores.logs t);
      back = seen_whole (log_of stores.logs s);
      least_there = omega arith;
      least_back = omega arith;
    };
    logs = λ s. refl;
    jobs = λ s. refl;
    epochs = λ s. refl;
  };
}

-- That a lock keeps what it keeps has at most one proof, so a store's type may keep it as its invariant.
pub kept_is_a_fact : (types : EdgeTypes) (shard : ℕ) (k : Knowledge) → IsProp (IsKept types shard k)
kept_is_a_fact types shard k = hlevel props
