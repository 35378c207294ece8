-- A slave's store under its lock stays one of its cluster where it takes the next entry of its master's log.
use Rattle.std.proofs.Common.{◌≡◌, ◌≢◌, ℕ, ◌+◌, Bool, true, List, [], ◌∷◌, ◌++◌, length, drop}
use Rattle.std.proofs.Common.{Option, Some, None, Result, Ok, Err, IfOk, ap, sym, subst, ◌∙◌, arith}
use Rattle.std.proofs.Math.Logic.{∥∥₁_map}
use Rattle.std.proofs.lemmas.List.{length-append}
use Rattle.std.specs.Prelude.{IfSome}
use Rattle.graph_model.proofs.EntryLemmas.{entry_at-last}
use Rattle.graph_model.proofs.Sound.{sound_of_grows}
use Rattle.graph_model.specs.Log.{entry_at}
use Rattle.graph_model.specs.Soundness.{EdgeUpdate, IsSoundOf}
use Rattle.graph_model.specs.Told.{WhereTold}
use Rattle.log_names.specs.Names.{LogNames}
use Rattle.region_stream.specs.Following.{FollowsTo, IsNextOf, StepsTo, entry_moved}
use Rattle.shard_log.proofs.Beginnings.{begins-rest, begins-trans}
use Rattle.shard_log.specs.View.{Begins, View}
use Rattle.shard_tables.specs.StoreView.{Store}
use Rattle.shard_tables.specs.Stores.{HasSeen, IsStoreOf}
use Rattle.shard_tables.specs.Written.{StandsIn, TableGains}
use Rattle.shard_tables.specs.declared.refusal.StoreRefusal.{StoreRefusal}
use Rattle.shard_tables.specs.declared.store.StoreRole.{StoreRole}
use Rattle.shard_tables.specs.declared.store.StoreRole.TheVariants.{Master, Slave}
use Rattle.tao_base.specs.EdgeTypes.{EdgeTypes}
use Rattle.tao_base.specs.declared.entry.Entry.{Entry}
use Rattle.tao_keeper.specs.Table.{Becomes, Table, Tables, after_commit}
use Rattle.tao_schema.specs.Schema.{types_of}
use Rattle.write_model.proofs.Covered.{at_place}
use Rattle.write_model.proofs.Growing.{entry_at-more}
use Rattle.write_model.specs.Merges.{HasItsJobs}
use Rattle.shared_stores.proofs.Kept.{kept_read, sound_own}
use Rattle.shared_stores.specs.Locked.{IsSharedStore, locked}
use Rattle.shared_stores.specs.Making.{Making}

no_master : (role : StoreRole) → role ≡ Slave → role ≢ Master
no_master role slave master = let one : Slave ≡ Master = sym slave ∙ master in absurd (cc)

-- what stands in a log stands in each that it begins
stands_on : (part whole : List Entry) (position : ℕ) (e : Entry) → Begins part whole → entry_at part position ≡ Some e → entry_at whole position ≡ Some e
stands_on part whole position e begins stands =
    subst (λ xs. entry_at xs position ≡ Some e) (begins-rest part whole begins) (entry_at-more part (drop (length part) whole) position e stands)

-- the jobs of a log are those of its entries after one more, which opens none
jobs_stay : (types : EdgeTypes) (log : List Entry) (e : Entry) (jobs : ℕ → Option (List EdgeUpdate)) → HasItsJobs types log jobs
    → HasItsJobs types (log ++ e ∷ []) jobs
jobs_stay types log e jobs was = λ position us job. ∥∥₁_map (was position us job) (λ h.
    record { entry = h.entry; stands = entry_at-more log (e ∷ []) position h.entry h.stands; job_is = h.job_is; some = h.some })

-- the stores of a shard's master and of a slave of it, and the slave's store after a step of their stream
module _ (tells : Bool) (m : Making) (log : LogNames) (master slave after : Store) (from to now : Tables) (others notes : List View)
    (leads : IsSharedStore tells m log (locked master from others)) (is : IsSharedStore tells m log (locked slave to notes))
    (here : master.name.shard ≡ slave.name.shard) (is_master : master.role ≡ Master) (is_slave : slave.role ≡ Slave) (of_keeper : IsStoreOf tells now after)
  where
    -- the master has seen its keeper's log, which is sound
    master_whole : tells ≡ true → master.view.entries ≡ (from master.name).log
    master_whole told = (leads.master told is_master).whole

    master_sound : tells ≡ true → IsSoundOf (types_of m.settings.schema) master.name.shard (from master.name).log
    master_sound = sound_own tells m log master from others leads is_master

    module _ (e : Entry) (follows : FollowsTo master.view slave after)
        (gains : WhereTold tells (Becomes to now slave.name (after_commit (to slave.name) e None))) where
      abbrev moved : Store
      moved = record slave { view = after.view }

      log_now : tells ≡ true → (now slave.name).log ≡ (to slave.name).log ++ e ∷ []
      log_now told = ap (λ t. t.log) (gains told).here

      -- the slave has seen its log, which begins the master's
      seen_now : tells ≡ true → Begins (now slave.name).log after.view.entries
      seen_now told =
          subst (λ role. HasSeen role (now slave.name).log after.view.entries) is_slave
          ((subst (λ (x : Store). IsStoreOf tells now x) follows.is of_keeper).seen told)

      begins_now : tells ≡ true → Begins (now slave.name).log (from master.name).log
      begins_now told =
          subst (Begins (now slave.name).log) (master_whole told)
          (begins-trans (now slave.name).log after.view.entries master.view.entries (seen_now told) follows.within.begins)

      sound_now : tells ≡ true → IsSoundOf (types_of m.settings.schema) slave.name.shard (now slave.name).log
      sound_now told =
          subst (λ shard. IsSoundOf (types_of m.settings.schema) shard (now slave.name).log) here
          (subst (IsSoundOf (types_of m.settings.schema) master.name.shard) (sym (begins_now told))
          ((sound_of_grows master.name.shard (from master.name).log e).begins (types_of m.settings.schema) (master_sound told) (length (now slave.name).log)))

      gained : IsSharedStore tells m log (locked moved now notes)
      gained = record {
        is = record { place_is = is.is.place_is; here = is.is.here; limit_is = is.is.limit_is; epoch_is = is.is.epoch_is; role_is = is.is.role_is };
        log_is = follows.grows.log_is ∙ is.log_is;
        told_is = of_keeper.told_is;
        notes = is.notes;
        past_cut = λ told.
            (let longer : length (now slave.name).log ≡ length (to slave.name).log + 1 =
            ap length (log_now told) ∙ length-append (to slave.name).log (e ∷ []) in
            let was = is.past_cut told in
            omega (arith, longer, was));
        master = λ told role. absurd (no_master slave.role is_slave role);
        slave = λ told role. record {
          begins = seen_now told;
          sound = sound_now told;
          jobs = subst (λ (t : Table). HasItsJobs (types_of m.settings.schema) t.log t.jobs) (sym (gains told).here)
              (jobs_stay (types_of m.settings.schema) (to slave.name).log e (to slave.name).jobs (is.slave told is_slave).jobs);
        };
      }

      -- the entry then stands in what the slave has seen
      stands_now : WhereTold tells (IsNextOf (from master.name).log (to slave.name).log (Some e)) → StandsIn after.view e
      stands_now next told =
          let heard : tells ≡ true = sym of_keeper.told_is ∙ told in
          let place = at_place (types_of m.settings.schema) master.name.shard (from master.name).log (length (to slave.name).log + 1) e (master_sound heard)
          (next heard).1 in
          stands_on (now slave.name).log after.view.entries e.position e (seen_now heard)
          (subst (λ n. entry_at (now slave.name).log n ≡ Some e) (sym place.2)
          (subst (λ xs. entry_at xs (length (to slave.name).log + 1) ≡ Some e) (sym (log_now heard)) (entry_at-last (to slave.name).log e)))

    -- what a step of the stream leaves of the slave's store, and what it answers
    pub record Followed (r : Result (Option Entry) StoreRefusal) : Type 0 where
      pub kept : IsSharedStore tells m log (locked after now notes)
      pub stands : IfOk r (λ found. IfSome found (StandsIn after.view))

    pub followed : (r : Result (Option Entry) StoreRefusal) → WhereTold tells (IfOk r (IsNextOf (from master.name).log (to slave.name).log))
        → StepsTo master.view (entry_moved r) slave after → WhereTold tells (TableGains to now slave.name (entry_moved r) None) → Followed r
    followed (Ok (Some e)) next steps table = record {
      kept = subst (λ (x : Store). IsSharedStore tells m log (locked x now notes)) (sym steps.is) (gained e steps table);
      stands = stands_now e steps table next;
    }
    followed (Ok None) next steps table = record { kept = kept_read tells m log slave after to now notes is steps table; stands = tt }
    followed (Err refusal) next steps table = record { kept = kept_read tells m log slave after to now notes is steps table; stands = tt }
