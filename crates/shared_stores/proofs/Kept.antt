-- A store under its lock stays one of its cluster, where its tables stay and where its master's log gains an entry.
use Rattle.std.proofs.Common.{◌≡◌, ◌≢◌, ℕ, ◌+◌, ◌≤◌, Bool, true, List, [], ◌∷◌, ◌++◌, length, Option, Some, None, refl, ap, sym, subst, ◌∙◌, arith}
use Rattle.std.proofs.lemmas.List.{length-append}
use Rattle.std.specs.Prelude.{if◌then◌else◌}
use Rattle.graph_model.specs.Soundness.{IsSoundOf}
use Rattle.graph_model.specs.Told.{WhereTold}
use Rattle.locked_model.specs.Locked.{GainsOwn, IsKept}
use Rattle.log_names.specs.Names.{LogNames}
use Rattle.shard_log.specs.View.{View}
use Rattle.shard_tables.specs.StoreView.{Store}
use Rattle.shard_tables.specs.Stores.{store_with}
use Rattle.shard_tables.specs.Written.{TableGains}
use Rattle.shard_tables.specs.declared.store.StoreRole.{StoreRole}
use Rattle.shard_tables.specs.declared.store.StoreRole.TheVariants.{Master, Slave}
use Rattle.tao_base.proofs.Tests.{apart-eqb, eqb-self}
use Rattle.tao_base.specs.declared.entry.Entry.{Entry}
use Rattle.tao_keeper.specs.Table.{Becomes, Stays, Tables, after_commit}
use Rattle.tao_keeper.specs.declared.jobs.Job.{Job}
use Rattle.tao_schema.specs.Schema.{types_of}
use Rattle.shared_stores.specs.Locked.{IsSharedStore, KeepsMaster, KeepsSlave, entries_seen, known, locked}
use Rattle.shared_stores.specs.Making.{Making}

no_slave : (role : StoreRole) → role ≡ Master → role ≢ Slave
no_slave role master slave = let one : Master ≡ Slave = sym master ∙ slave in absurd (cc)

-- ---- what a store knows

module _ (m : Making) (store : Store) (notes : List View) where
  -- its own log is its keeper's
  pub own_log : (told : Tables) → (known m (locked store told notes)).log store.name.shard ≡ (told store.name).log
  own_log told = ap (λ b. if b then (told store.name).log else entries_seen notes store.name.shard) (eqb-self store.name.shard)

  -- another one's is what its note has seen
  pub other_log : (told : Tables) (shard : ℕ) → shard ≢ store.name.shard → (known m (locked store told notes)).log shard ≡ entries_seen notes shard
  other_log told shard apart = ap (λ b. if b then (told store.name).log else entries_seen notes shard) (apart-eqb shard store.name.shard apart)

  pub gains_own : (old new : Tables) (e : Entry) (job : Option Job) → Becomes old new store.name (after_commit (old store.name) e job)
      → GainsOwn (known m (locked store old notes)) (known m (locked store new notes)) store.name.shard e
  gains_own old new e job gains = record {
    here = own_log new ∙ ap (λ t. t.log) gains.here ∙ ap (λ l. l ++ e ∷ []) (sym (own_log old));
    others = λ shard apart. other_log new shard apart ∙ sym (other_log old shard apart);
    epoch = refl;
    begun = refl;
  }

-- ---- what its lock keeps

module _ (tells : Bool) (m : Making) (log : LogNames) where
  same_tables : (old new : Tables) → WhereTold tells (Stays old new) → tells ≡ true → new ≡ old
  same_tables old new stays told = λ i at. stays told at i

  -- it was read
  reads : (store : Store) (old new : Tables) (notes : List View) → IsSharedStore tells m log (locked store old notes) → WhereTold tells (Stays old new)
      → IsSharedStore tells m log (locked store new notes)
  reads store old new notes is stays = record {
    is = is.is;
    log_is = is.log_is;
    told_is = is.told_is;
    notes = is.notes;
    past_cut = λ told. subst (λ t. m.cut store.name.shard ≤ length (t store.name).log) (sym (same_tables old new stays told)) (is.past_cut told);
    master = λ told. subst (λ t. store.role ≡ Master → KeepsMaster m (locked store t notes)) (sym (same_tables old new stays told)) (is.master told);
    slave = λ told. subst (λ t. store.role ≡ Slave → KeepsSlave m (locked store t notes)) (sym (same_tables old new stays told)) (is.slave told);
  }

  pub kept_read : (store after : Store) (old new : Tables) (notes : List View) → IsSharedStore tells m log (locked store old notes) → after ≡ store
      → WhereTold tells (Stays old new) → IsSharedStore tells m log (locked after new notes)
  kept_read store after old new notes is same stays =
      subst (λ (x : Store). IsSharedStore tells m log (locked x new notes)) (sym same) (reads store old new notes is stays)

  -- a master's log is sound
  pub sound_own : (store : Store) (told : Tables) (notes : List View) → IsSharedStore tells m log (locked store told notes) → store.role ≡ Master
      → WhereTold tells (IsSoundOf (types_of m.settings.schema) store.name.shard (told store.name).log)
  sound_own store told notes is master heard =
      subst (IsSoundOf (types_of m.settings.schema) store.name.shard) (own_log m store notes told) ((is.master heard master).kept.sound store.name.shard)

  -- it gains an entry, or none, and what it knows is kept
  module _ (store : Store) (old new : Tables) (notes : List View) (is : IsSharedStore tells m log (locked store old notes))
      (master : store.role ≡ Master) where
    -- what it knows stays so, where no table changes
    pub stays_known : tells ≡ true → Stays old new → IsKept (types_of m.settings.schema) store.name.shard (known m (locked store new notes))
    stays_known told stays =
        subst (λ t. IsKept (types_of m.settings.schema) store.name.shard (known m (locked store t notes))) (sym (same_tables old new (λ yes. stays) told))
        (is.master told master).kept

    gains : (added : Option Entry) (job : Option Job) → WhereTold tells (TableGains old new store.name added job)
        → WhereTold tells (IsKept (types_of m.settings.schema) store.name.shard (known m (locked store new notes)))
        → IsSharedStore tells m log (locked (store_with store added) new notes)
    gains None job stays kept = reads store old new notes is stays
    gains (Some e) job becomes kept = record {
      is = record { place_is = is.is.place_is; here = is.is.here; limit_is = is.is.limit_is; epoch_is = is.is.epoch_is; role_is = is.is.role_is };
      log_is = is.log_is;
      told_is = is.told_is;
      notes = is.notes;
      past_cut = λ told.
          (let longer : length (new store.name).log ≡ length (old store.name).log + 1 =
          ap (λ t. length t.log) (becomes told).here ∙ length-append (old store.name).log (e ∷ []) in
          let was = is.past_cut told in
          omega (arith, longer, was));
      master = λ told role. record {
        whole = ap (λ l. l ++ e ∷ []) (is.master told master).whole ∙ sym (ap (λ t. t.log) (becomes told).here);
        cut_is = ap (λ t. t.cut) (becomes told).here ∙ (is.master told master).cut_is;
        kept = kept told;
        begun = (is.master told master).begun;
      };
      slave = λ told role. absurd (no_slave store.role master role);
    }

    pub kept_gains : (after : Store) (added : Option Entry) (job : Option Job) → after ≡ store_with store added
        → WhereTold tells (TableGains old new store.name added job)
        → WhereTold tells (IsKept (types_of m.settings.schema) store.name.shard (known m (locked store new notes)))
        → IsSharedStore tells m log (locked after new notes)
    kept_gains after added job grown table kept =
        subst (λ (x : Store). IsSharedStore tells m log (locked x new notes)) (sym grown) (gains added job table kept)
