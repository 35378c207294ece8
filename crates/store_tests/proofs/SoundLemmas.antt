-- Logs that are sound stay so.
use Rattle.std.proofs.Common.{ℕ, Option, Some, None, Result, Ok, Err, sym, subst, inl, inr}
use Rattle.tao_base.specs.EdgeTypes.{EdgeTypes}
use Rattle.tao_base.specs.declared.entry.Entry.{Entry}
use Rattle.tao_base.specs.declared.id.StoreName.{StoreName}
use Rattle.graph_model.specs.Soundness.{IsSoundOf}
use Rattle.tao_keeper.proofs.Growing.{same_or_other}
use Rattle.tao_keeper.specs.Table.{Changes, Stays, Tables, after_cut}
use Rattle.tao_keeper.specs.declared.jobs.Job.{Job}
use Rattle.shard_tables.specs.StoreView.{Store}
use Rattle.shard_tables.specs.Stores.{HasSeen}
use Rattle.shard_tables.specs.Written.{TableGains}
use Rattle.shard_tables.specs.declared.store.StoreRole.{StoreRole}
use Rattle.store_tests.specs.Stores.{AreSound, IsStoreAs}

-- no table changes
pub stays_sound : (types : EdgeTypes) (old new : Tables) → Stays old new → AreSound types old → AreSound types new
stays_sound types old new stays sound = record {
  of_each = λ at. subst (λ t. IsSoundOf types at.shard t.log) (sym (stays at)) (sound.of_each at);
}

-- and a store stays one over these tables
pub stays_store : (role : StoreRole) (old new : Tables) (store : Store) → Stays old new → IsStoreAs role old store → IsStoreAs role new store
stays_store role old new store stays of = record {
  role_is = of.role_is;
  kept = record {
    told_is = of.kept.told_is;
    seen = λ told. subst (λ t. HasSeen store.role t.log store.view.entries) (sym (stays store.name)) (of.kept.seen told);
  };
}

-- one store's log gains an entry, or none, and is sound
pub gains_sound : (types : EdgeTypes) (old new : Tables) (at : StoreName) (added : Option Entry) (job : Option Job) → TableGains old new at added job
    → AreSound types old → IsSoundOf types at.shard (new at).log → AreSound types new
gains_sound types old new at None job stays sound here = stays_sound types old new stays sound
gains_sound types old new at (Some e) job becomes sound here = record {
  of_each = λ other. elim (same_or_other other at) [
    | inl same ↦ subst (λ (s : StoreName). IsSoundOf types s.shard (new s).log) (sym same) here
    | inr differs ↦ subst (λ t. IsSoundOf types other.shard t.log) (sym (becomes.others other differs)) (sound.of_each other)
  ];
}

-- one store's log is cut, or the cut failed
pub cut_sound : {T E : Type 0} (types : EdgeTypes) (result : Result T E) (old new : Tables) (at : StoreName) (upto : ℕ)
    → Changes result old new at (after_cut (old at) upto) → AreSound types old → AreSound types new
cut_sound types (Err e) old new at upto stays sound = stays_sound types old new stays sound
cut_sound types (Ok done) old new at upto becomes sound = record {
  of_each = λ other. elim (same_or_other other at) [
    | inl same ↦ subst (λ (s : StoreName). IsSoundOf types s.shard (new s).log) (sym same)
        (subst (λ t. IsSoundOf types at.shard t.log) (sym becomes.here) (sound.of_each at))
    | inr differs ↦ subst (λ t. IsSoundOf types other.shard t.log) (sym (becomes.others other differs)) (sound.of_each other)
  ];
}
