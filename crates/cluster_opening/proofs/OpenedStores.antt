-- Each store of the nodes that a cluster begins with may lie behind a lock, with its keeper and its notes.
use Rattle.std.proofs.Common.{◌≡◌, ◌≢◌, ℕ, ◌≤◌, ◌<◌, Bool, true, List, [], length, Some, refl, ap, sym, subst, ◌∙◌, inl, inr}
use Rattle.std.proofs.Common.{arith}
use Rattle.std.proofs.lemmas.Bool.{cases_Bool, cases_eq, cases_lt, eqb-true}
use Rattle.std.proofs.lemmas.Option.{slice_get_cases, slice_get_past, slice_get_within, unwrap_or-slice_get}
use Rattle.std.specs.Option.{option_map_or}
use Rattle.std.specs.Prelude.{◌==◌, if◌then◌else◌, slice_get, unwrap_or}
use Rattle.graph_model.specs.Soundness.{IsSoundOf}
use Rattle.graph_model.specs.Told.{WhereTold}
use Rattle.core_model.proofs.FoundStores.{master_found, named_stands, same_name}
use Rattle.core_model.proofs.Settled.{pen_of}
use Rattle.core_model.specs.Fleet.{Fleet}
use Rattle.core_model.specs.Pens.{pens_of, view_or_none}
use Rattle.core_model.specs.Stores.{HaveMasterRegions, IsConfiguredStore, IsStoreAt, master_of, master_store, masters_of, store_place}
use Rattle.core_model.specs.Stores.{stores_in}
use Rattle.locked_nodes.proofs.core_nodes_lemmas.KnownStores.{known_store}
use Rattle.keepers.specs.Shown.{place_of, told_in}
use Rattle.locked_model.specs.Locked.{IsKept, Knowledge, begun_with}
use Rattle.locked_model.specs.LockedLaws.{LocksBegin}
use Rattle.log_names.specs.Names.{LogNames}
use Rattle.master_tables.proofs.Calls.{tables_are_stores}
use Rattle.master_tables.proofs.Each.{each_length}
use Rattle.shard_log.specs.View.{Begins, View}
use Rattle.shard_tables.specs.StoreView.{Store}
use Rattle.shard_tables.specs.Stores.{HasSeen}
use Rattle.shard_tables.specs.declared.store.StoreRole.{StoreRole}
use Rattle.shard_tables.specs.declared.store.StoreRole.TheVariants.{Master, Slave}
use Rattle.shared_stores.specs.Locked.{AreNotesOf, IsSharedStore, KeepsMaster, KeepsSlave, entries_seen, known, locked}
use Rattle.shared_stores.specs.Making.{Making}
use Rattle.tao_base.proofs.Tests.{apart-eqb, eqb-self}
use Rattle.tao_base.specs.declared.entry.Entry.{Entry}
use Rattle.tao_base.specs.declared.id.StoreName.{StoreName}
use Rattle.tao_keeper.specs.KeeperState.{KeeperState}
use Rattle.tao_keeper.specs.Table.{Table, Tables, empty_table}
use Rattle.tao_schema.specs.Schema.{types_of}
use Rattle.topology.specs.Config.{Settings}
use Rattle.write_model.specs.Merges.{HasItsJobs, log_of}
use Rattle.cluster_opening.specs.Opening.{AreEach, AreNotesFor, AreWholeNotes, HaveNotes, IsOpenedOver, logs_of, making_of}
use Rattle.cluster_opening.specs.declared.opening.Noted.{Noted}

-- ---- roles

master_region : (region master : ℕ) → Master ≡ (if region == master then Master else Slave) → region ≡ master
master_region region master is = elim (cases_Bool (region == master)) [
  | inl same ↦ eqb-true region master same
  | inr other ↦ (
      let one : Master ≡ Slave = is ∙ ap (λ b. if b then Master else Slave) other in
      absurd (cc))
]

-- ---- what the keepers tell of a store

module _ {M : Type 0} (state : M → KeeperState) (shards : ℕ) (keepers : List M) where
  -- is what its own keeper tells
  pub told_here : (at : StoreName) (keeper : M) → slice_get keepers (place_of shards at) ≡ Some keeper
      → told_in state shards keepers at ≡ (state keeper).told at
  told_here at keeper stands = ap (λ o. option_map_or (λ k. (state k).told at) o empty_table) stands

-- ---- logs past the last shard are empty

log_past : (logs : List (List Entry)) (shard : ℕ) → length logs ≤ shard → log_of logs shard ≡ []
log_past logs shard past = sym (unwrap_or-slice_get logs shard []) ∙ ap (λ o. unwrap_or o []) (slice_get_past logs shard past)

seen_past : (notes : List View) (shard : ℕ) → length notes ≤ shard → entries_seen notes shard ≡ []
seen_past notes shard past = ap (λ o. option_map_or (λ v. v.entries) o []) (slice_get_past notes shard past)

seen_here : (notes : List View) (shard : ℕ) (note : View) → slice_get notes shard ≡ Some note → entries_seen notes shard ≡ note.entries
seen_here notes shard note at = ap (λ o. option_map_or (λ v. v.entries) o []) at

module _ (s : Settings) (tables : Tables) (f : Fleet) (cuts : List ℕ) (regions : HaveMasterRegions s) where
  abbrev m : Making
  m = making_of s f.stores cuts

  -- ---- a master

  module _ (begins : LocksBegin) (is : IsOpenedOver true s tables f cuts) (shard : ℕ) (here : shard < s.shards) where
    abbrev at : StoreName
    at = master_store s shard

    configured : IsConfiguredStore s at
    configured = record { region = regions shard; shard = here }

    -- the log of a shard of the configuration, by its pen
    log_whole : (other : ℕ) → other < s.shards → (pens_of f.stores other).entries ≡ log_of (stores_in s tables).logs other
    log_whole other lt =
        (pen_of s tables f.stores other regions is.consistent.stores lt).0 ∙ sym ((tables_are_stores (masters_of s) tables).log_is other lt)

    module _ (notes : List View) (whole : AreWholeNotes (pens_of f.stores) s.shards notes) where
      -- the notes have seen all logs
      noted : (other : ℕ) → entries_seen notes other ≡ log_of (stores_in s tables).logs other
      noted other = elim (cases_lt other s.shards) [
        | inl lt ↦ (elim (slice_get_cases notes other).1 [
          | inl e ↦ seen_here notes other e.0 e.2 ∙ (whole.each other e.0 e.2).whole ∙ log_whole other lt
          | inr e ↦ absurd (let past = e.0 in let long = whole.long in omega (arith, lt, past, long))
        ])
        | inr past ↦ (
            let long = whole.long in
            let many = each_length (λ k. (tables (master_store s k)).log) 0 s.shards in
            seen_past notes other (omega (arith, past, long)) ∙ sym (log_past (stores_in s tables).logs other (omega (arith, past, many))))
      ]

      own : (tables at).log ≡ log_of (stores_in s tables).logs shard
      own = sym ((tables_are_stores (masters_of s) tables).log_is shard here)

      -- so the store knows what it does in the beginning
      abbrev knows : Knowledge
      knows = record {
        log = λ other. if other == shard then (tables at).log else entries_seen notes other;
        epoch = λ other. 0;
        job = (tables at).jobs;
        begun = length (pens_of f.stores shard).entries;
      }

      log_is : (other : ℕ) → knows.log other ≡ log_of (stores_in s tables).logs other
      log_is other = elim (cases_eq other shard) [
        | inl same ↦ (
            ap (λ b. if b then (tables at).log else entries_seen notes other) (subst (λ k. (k == shard) ≡ true) (sym same) (eqb-self shard))
            ∙ own ∙ ap (log_of (stores_in s tables).logs) (sym same))
        | inr apart ↦ ap (λ b. if b then (tables at).log else entries_seen notes other) (apart-eqb other shard apart) ∙ noted other
      ]

      job_is : (position : ℕ) → (tables at).jobs position ≡ (stores_in s tables).job shard position
      job_is position = sym ((tables_are_stores (masters_of s) tables).job_is shard position here)

      knows_all : knows ≡ begun_with (stores_in s tables) shard
      knows_all = λ i. record {
        log = λ other. log_is other i;
        epoch = λ other. 0;
        job = λ position. job_is position i;
        begun = length (log_whole shard here i);
      }

      kept : IsKept (types_of s.schema) shard knows
      kept = subst (IsKept (types_of s.schema) shard) (sym knows_all)
          ((begins.begin (types_of s.schema) (stores_in s tables) (is.consistent.stores.kept refl)).kept shard)

      pub keeps_master : (store : Store) (told : Tables) → store.name ≡ at → told at ≡ tables at → store.view.entries ≡ (tables at).log
          → KeepsMaster m (locked store told notes)
      keeps_master store told name_is told_is seen =
          let table_is : told store.name ≡ tables at = ap told name_is ∙ told_is in
          let cut = is.cuts_are.each refl shard here in
          record {
            whole = seen ∙ ap (λ (t : Table). t.log) (sym table_is);
            cut_is = ap (λ (t : Table). t.cut) table_is ∙ sym (ap (λ n. unwrap_or (slice_get cuts n.shard) 0) name_is ∙ ap (λ o. unwrap_or o 0) cut);
            kept = (
                let same : knows ≡ known m (locked store told notes) = λ i. record {
                  log = λ other. if other == (sym name_is i).shard then (sym table_is i).log else entries_seen notes other;
                  epoch = λ other. 0;
                  job = (sym table_is i).jobs;
                  begun = length (pens_of f.stores (sym name_is i).shard).entries;
                } in
                subst (λ k. IsKept (types_of s.schema) k (known m (locked store told notes))) (sym (ap (λ (n : StoreName). n.shard) name_is))
                (subst (IsKept (types_of s.schema) shard) same kept));
            begun = λ other note stands. (let all = ap length (whole.each other note stands).whole in omega (arith, all));
          }

-- ---- any store

module _ {M : Type 0} (tells : Bool) (state : M → KeeperState) (s : Settings) (keepers : List M) (f : Fleet) (cuts : List ℕ)
    (regions : HaveMasterRegions s) (begins : LocksBegin) (is : IsOpenedOver tells s (told_in state s.shards keepers) f cuts) where
  abbrev tables : Tables
  tables = told_in state s.shards keepers

  abbrev making : Making
  making = making_of s f.stores cuts

  module _ (place : ℕ) (store : Store) (keeper : M) (stands : slice_get f.stores place ≡ Some store) (keeps : slice_get keepers place ≡ Some keeper) where
    stored : IsStoreAt s place store
    stored = is.consistent.stores.configured.each place store stands

    told_is : (state keeper).told store.name ≡ tables store.name
    told_is = sym (told_here state s.shards keepers store.name keeper (subst (λ n. slice_get keepers n ≡ Some keeper) stored.place_is keeps))

    table_log : length (tables store.name).log ≡ length ((state keeper).told store.name).log
    table_log = ap (λ (t : Table). length t.log) (sym told_is)

    heard : tells ≡ true → IsOpenedOver true s tables f cuts
    heard told = subst (λ b. IsOpenedOver b s tables f cuts) told is

    named_master : store.role ≡ Master → store.name ≡ master_store s store.name.shard
    named_master master =
        same_name store.name (master_store s store.name.shard)
        (master_region store.name.region (master_of s store.name.shard) (sym master ∙ stored.role_is)) refl

    past_cut : tells ≡ true → making.cut store.name.shard ≤ length ((state keeper).told store.name).log
    past_cut told =
        let cut = ap (λ o. unwrap_or o 0) (is.cuts_are.each told store.name.shard stored.here.shard) in
        let master : IsConfiguredStore s (master_store s store.name.shard) = record { region = regions store.name.shard; shard = stored.here.shard } in
        let come = (is.consistent.stores.cuts told).come store.name (master_store s store.name.shard) stored.here master refl in
        omega (arith, cut, come, table_log)

    master_keeps : (notes : List View) → AreWholeNotes (pens_of f.stores) s.shards notes → tells ≡ true → store.role ≡ Master
        → KeepsMaster making (locked store (state keeper).told notes)
    master_keeps notes whole told master =
        let name = named_master master in
        let seen : store.view.entries ≡ (tables store.name).log =
        subst (λ r. HasSeen r (tables store.name).log store.view.entries) master ((is.consistent.stores.seen place store stands).seen told) in
        keeps_master s tables f cuts regions begins (heard told) store.name.shard stored.here.shard notes whole store (state keeper).told name
        (subst (λ n. (state keeper).told n ≡ tables n) name told_is) (seen ∙ ap (λ n. (tables n).log) name)

    slave_keeps : (notes : List View) → tells ≡ true → store.role ≡ Slave → KeepsSlave making (locked store (state keeper).told notes)
    slave_keeps notes told slave =
        let known_is = known_store s tables f.stores (heard told).consistent.stores store.name stored.here in
        let seen : Begins (tables store.name).log store.view.entries =
        subst (λ r. HasSeen r (tables store.name).log store.view.entries) slave ((is.consistent.stores.seen place store stands).seen told) in
        let back : tables store.name ≡ (state keeper).told store.name = sym told_is in
        record {
          begins = subst (λ (t : Table). Begins t.log store.view.entries) back seen;
          sound = subst (λ (t : Table). IsSoundOf (types_of s.schema) store.name.shard t.log) back known_is.sound;
          jobs = subst (λ (t : Table). HasItsJobs (types_of s.schema) t.log t.jobs) back (is.jobs told store.name stored.here);
        }

    no_master : store.role ≡ Slave → store.role ≢ Master
    no_master slave master = let one : Master ≡ Slave = sym master ∙ slave in absurd (cc)

    -- the pen of a shard is told where the tables are
    pen_told : (shard : ℕ) → shard < s.shards → (pens_of f.stores shard).log.told ≡ tells
    pen_told shard here =
        let at : IsConfiguredStore s (master_store s shard) = record { region = regions shard; shard = here } in
        let there = named_stands s f.stores is.consistent.stores.configured (master_store s shard) at in
        let found = (master_found s f.stores is.consistent.stores.configured shard there.0 there.1).1 in
        ap (λ o. (view_or_none o).log.told) found
        ∙ (is.consistent.stores.seen (store_place s (master_store s shard)) there.0 there.1.stands).told_is

    -- each whole note is of its shard's log, and told so
    notes_of_logs : (notes : List View) → AreWholeNotes (pens_of f.stores) s.shards notes → AreNotesOf tells (logs_of f.stores) notes
    notes_of_logs notes whole shard note at =
        let within = slice_get_within notes shard note at in
        let long = whole.long in
        let of_log = (whole.each shard note at).log_is in
        record { log_is = of_log; told_is = ap (λ l. l.told) of_log ∙ pen_told shard (omega (arith, within, long)) }

    shared_by : (notes : List View) → AreNotesOf tells (logs_of f.stores) notes
        → WhereTold tells (store.role ≡ Master → KeepsMaster making (locked store (state keeper).told notes))
        → IsSharedStore tells making (logs_of f.stores) (locked store (state keeper).told notes)
    shared_by notes of_logs master = record {
      is = subst (λ n. IsStoreAt s n store) stored.place_is stored;
      log_is = sym (is.consistent.stores.follow place store stands).log_is;
      told_is = (is.consistent.stores.seen place store stands).told_is;
      notes = of_logs;
      past_cut = past_cut;
      master = master;
      slave = slave_keeps notes;
    }

    shared_as : (role : StoreRole) → store.role ≡ role → (notes : List View) → AreNotesFor (pens_of f.stores) s.shards role notes
        → IsSharedStore tells making (logs_of f.stores) (locked store (state keeper).told notes)
    shared_as Master role notes whole = shared_by notes (notes_of_logs notes whole) (master_keeps notes whole)
    shared_as Slave role notes none =
        shared_by notes (subst (AreNotesOf tells (logs_of f.stores)) (sym none) (λ shard note at. absurd (cc))) (λ told master. absurd (no_master role master))

    pub store_shared : (notes : List View) → AreNotesFor (pens_of f.stores) s.shards store.role notes
        → IsSharedStore tells making (logs_of f.stores) (locked store (state keeper).told notes)
    store_shared notes is_for = shared_as store.role refl notes is_for

  -- each, with its keeper and its notes
  pub each_shared : (m : Making) (log : LogNames) (stores : List Store) (noted : List Noted) → m ≡ making → log ≡ logs_of f.stores → stores ≡ f.stores
      → length keepers ≡ length f.stores → HaveNotes (pens_of f.stores) s.shards f.stores (length f.stores) noted
      → AreEach (λ store keeper notes. IsSharedStore tells m log (locked store (state keeper).told notes)) stores keepers noted
  each_shared m log stores noted m_is log_is stores_are many has =
      let all : AreEach (λ store keeper notes. IsSharedStore tells making (logs_of f.stores) (locked store (state keeper).told notes)) f.stores keepers noted =
      record {
        keepers_long = many;
        notes_long = has.long;
        each = λ place store keeper notes stands keeps here.
            store_shared place store keeper stands keeps notes.notes.items (has.each place store notes stands here);
      } in
      subst (λ xs. AreEach (λ store keeper notes. IsSharedStore tells m log (locked store (state keeper).told notes)) xs keepers noted) (sym stores_are)
      (subst (λ k. AreEach (λ store keeper notes. IsSharedStore tells k log (locked store (state keeper).told notes)) f.stores keepers noted) (sym m_is)
      (subst (λ l. AreEach (λ store keeper notes. IsSharedStore tells making l (locked store (state keeper).told notes)) f.stores keepers noted) (sym log_is)
      all))
