-- Nodes and stores that are taken out of their locks, one after another.
use Rattle.std.proofs.Common.{◌≡◌, ℕ, zero, suc, ◌+◌, ◌<◌, ◌++◌, List, [], ◌∷◌, length, Some, true, false, inl, inr, refl, sym, ap, subst, ◌∙◌, length-append, arith}
use Rattle.std.proofs.lemmas.Bool.{cases_lt}
use Rattle.std.proofs.lemmas.List.{length-map}
use Rattle.std.proofs.lemmas.Option.{slice_get_cases, slice_get_within}
use Rattle.std.specs.Option.{option_map_or}
use Rattle.std.specs.Prelude.{◌==◌, if◌then◌else◌, ◌≤◌, Bool, IfSome, Vec, slice_get}
use Rattle.core_model.specs.Fleet.{EachIs, Fleet, named}
use Rattle.core_model.specs.Stores.{store_count}
use Rattle.core_model.specs.declared.named.Named.{Named}
use Rattle.keepers.specs.Shown.{told_in}
use Rattle.locked_model.specs.Locked.{IsKept}
use Rattle.log_names.specs.Names.{LogNames}
use Rattle.node_name.specs.declared.NodeName.{NodeName}
use Rattle.shard_log.specs.View.{Begins, View}
use Rattle.shard_tables.specs.StoreView.{Store}
use Rattle.shared_stores.specs.Locked.{IsSharedStore, KeepsMaster, KeepsSlave, entries_seen, locked}
use Rattle.shared_stores.specs.Making.{Making}
use Rattle.tao_keeper.specs.KeeperState.{KeeperState}
use Rattle.tao_keeper.specs.Table.{Table, Tables, empty_table}
use Rattle.tao_schema.specs.Schema.{types_of}
use Rattle.graph_model.specs.Soundness.{IsSoundOf}
use Rattle.write_model.specs.Merges.{HasItsJobs}
use Rattle.shared_nodes.specs.Nodes.{IsSharedNode}
use Rattle.unlocked_nodes.specs.Unlocked.{AreFreedStores, IsFreedFollower, IsUnlocked, MaySettle, notes_of}
use Rattle.unlocked_nodes.specs.declared.unlocked.Unlocked.{Unlocked}
use Rattle.cluster_closing.specs.Freeing.{AreEachFreed, GainsStore}
use Rattle.cluster_closing.specs.declared.freeing.FreedStores.{FreedStores}

-- each node is such, with one more at the end
pub each_pushed : {N : Type 0} (Is : NodeName → N → Type 0) (nodes : List (Named N)) (last : Named N) → EachIs Is nodes → Is last.name last.node
    → EachIs Is (nodes ++ last ∷ [])
each_pushed {N} Is [] last each is zero name node at = let same : last ≡ named name node = cc in subst (λ (n : Named N). Is n.name n.node) same is
each_pushed Is [] last each is (suc place) name node at = absurd (cc)
each_pushed Is (n ∷ ns) last each is zero name node at = each zero name node at
each_pushed Is (n ∷ ns) last each is (suc place) name node at = each_pushed Is ns last (λ p. each (suc p)) is place name node at

-- of none each is such
pub each_none : {N : Type 0} (Is : NodeName → N → Type 0) (nodes : List (Named N)) → length nodes ≡ 0 → EachIs Is nodes
each_none Is [] none place name node at = absurd (cc)
each_none Is (n ∷ ns) none place name node at = absurd (omega (arith, none))

-- ---- one more at the end of a list

get_last : {X : Type 0} (xs : List X) (x : X) (place : ℕ) → place ≡ length xs → slice_get (xs ++ x ∷ []) place ≡ Some x
get_last [] x zero is = refl
get_last [] x (suc place) is = absurd (omega (arith, is))
get_last (y ∷ ys) x zero is = absurd (omega (arith, is))
get_last (y ∷ ys) x (suc place) is = get_last ys x place (omega (arith, is))

get_front : {X : Type 0} (xs : List X) (x : X) (place : ℕ) → place < length xs → slice_get (xs ++ x ∷ []) place ≡ slice_get xs place
get_front [] x place lt = absurd (omega (arith, lt))
get_front (y ∷ ys) x zero lt = refl
get_front (y ∷ ys) x (suc place) lt = get_front ys x place (omega (arith, lt))

some_one : {X : Type 0} {x y : X} → Some x ≡ Some y → x ≡ y
some_one same = cc

-- each store is such, with one more
module _ {K : Type 0} (Is : Store → K → List View → Type 0) (old new : FreedStores K) (are : AreEachFreed Is old) (gains : GainsStore Is old new) where
  many_stores : length new.stores.items ≡ length old.stores.items + 1
  many_stores = ap length gains.stores_are ∙ length-append old.stores.items (gains.store ∷ [])

  many_keepers : length new.keepers.items ≡ length old.keepers.items + 1
  many_keepers = ap length gains.keepers_are ∙ length-append old.keepers.items (gains.keeper ∷ [])

  at_front : (place : ℕ) → place < length old.stores.items → (store : Store) (keeper : K) → slice_get new.stores.items place ≡ Some store
      → slice_get new.keepers.items place ≡ Some keeper → IfSome (slice_get new.noted.items place) (λ notes. Is store keeper notes.items)
  at_front place lt store keeper at has =
      let stores = sym (ap (λ xs. slice_get xs place) gains.stores_are ∙ get_front old.stores.items gains.store place lt) ∙ at in
      let keepers = sym (ap (λ xs. slice_get xs place) gains.keepers_are
      ∙ get_front old.keepers.items gains.keeper place (let long = are.keepers_long in omega (arith, lt, long))) ∙ has in
      let noted = gains.noted_front place (let long = are.noted_long in omega (arith, lt, long)) in
      subst (λ o. IfSome o (λ notes. Is store keeper notes.items)) (sym noted) (are.each place store keeper stores keepers)

  at_last : (place : ℕ) → place ≡ length old.stores.items → (store : Store) (keeper : K) → slice_get new.stores.items place ≡ Some store
      → slice_get new.keepers.items place ≡ Some keeper → IfSome (slice_get new.noted.items place) (λ notes. Is store keeper notes.items)
  at_last place is store keeper at has =
      let one : gains.store ≡ store =
      some_one (sym (ap (λ xs. slice_get xs place) gains.stores_are ∙ get_last old.stores.items gains.store place is) ∙ at) in
      let two : gains.keeper ≡ keeper =
      some_one (sym (ap (λ xs. slice_get xs place) gains.keepers_are
      ∙ get_last old.keepers.items gains.keeper place (let long = are.keepers_long in omega (arith, is, long))) ∙ has) in
      let there : length old.noted.items ≡ place = let long = are.noted_long in omega (arith, is, long) in
      subst (λ p. IfSome (slice_get new.noted.items p) (λ notes. Is store keeper notes.items)) there
      (subst (λ k. IfSome (slice_get new.noted.items (length old.noted.items)) (λ notes. Is store k notes.items)) two
      (subst (λ x. IfSome (slice_get new.noted.items (length old.noted.items)) (λ notes. Is x gains.keeper notes.items)) one gains.is))

  pub freed_more : AreEachFreed Is new
  freed_more = record {
    keepers_long = (let long = are.keepers_long in omega (arith, long, many_stores, many_keepers));
    noted_long = (let long = are.noted_long in let more = gains.noted_long in omega (arith, long, more, many_stores));
    each = λ place store keeper at has. (
        let within = slice_get_within new.stores.items place store at in
        elim (cases_lt place (length old.stores.items)) [
          | inl lt ↦ at_front place lt store keeper at has
          | inr past ↦ at_last place (omega (arith, within, past, many_stores)) store keeper at has
        ]);
  }

-- ---- a store whose keeper is one of many

module _ (tells : Bool) (m : Making) (log : LogNames) (store : Store) (notes : List View) (one all : Tables) (same : one store.name ≡ all store.name) where
  master_so : KeepsMaster m (locked store one notes) → KeepsMaster m (locked store all notes)
  master_so keeps = record {
    whole = subst (λ (t : Table). store.view.entries ≡ t.log) same keeps.whole;
    cut_is = subst (λ (t : Table). t.cut ≡ m.cut store.name.shard) same keeps.cut_is;
    kept = subst (λ (t : Table). IsKept (types_of m.settings.schema) store.name.shard (record {
      log = λ shard. if shard == store.name.shard then t.log else entries_seen notes shard;
      epoch = λ shard. 0;
      job = t.jobs;
      begun = m.begun store.name.shard;
    })) same keeps.kept;
    begun = keeps.begun;
  }

  slave_so : KeepsSlave m (locked store one notes) → KeepsSlave m (locked store all notes)
  slave_so keeps = record {
    begins = subst (λ (t : Table). Begins t.log store.view.entries) same keeps.begins;
    sound = subst (λ (t : Table). IsSoundOf (types_of m.settings.schema) store.name.shard t.log) same keeps.sound;
    jobs = subst (λ (t : Table). HasItsJobs (types_of m.settings.schema) t.log t.jobs) same keeps.jobs;
  }

  shared_so : IsSharedStore tells m log (locked store one notes) → IsSharedStore tells m log (locked store all notes)
  shared_so shared = record {
    is = shared.is;
    log_is = shared.log_is;
    told_is = shared.told_is;
    notes = shared.notes;
    past_cut = λ told. subst (λ (t : Table). m.cut store.name.shard ≤ length t.log) same (shared.past_cut told);
    master = λ told is. master_so (shared.master told is);
    slave = λ told is. slave_so (shared.slave told is);
  }

-- ---- all of them

some_notes : {A : Type 0} (noted : List (Vec View A)) (place : ℕ) (notes : List View) (P : List View → Type 0) → slice_get (notes_of noted) place ≡ Some notes
    → IfSome (slice_get noted place) (λ own. P own.items) → P notes
some_notes [] place notes P at is = absurd (cc)
some_notes (v ∷ vs) zero notes P at is = let same : v.items ≡ notes = cc in subst P same is
some_notes (v ∷ vs) (suc place) notes P at is = some_notes vs place notes P at is

pub freed_stores : {K : Type 0} (tells : Bool) (state : K → KeeperState) (m : Making) (log : LogNames) (freed : FreedStores K)
    → AreEachFreed (λ store keeper notes. IsSharedStore tells m log (locked store (state keeper).told notes)) freed
    → AreFreedStores tells m log (told_in state m.settings.shards freed.keepers.items) freed.stores.items (notes_of freed.noted.items)
freed_stores {K} tells state m log freed are place store notes at has is =
    let within = slice_get_within freed.stores.items place store at in
    elim (slice_get_cases freed.keepers.items place).1 [
      | inl e ↦ (
          let found = subst (λ p. slice_get freed.keepers.items p ≡ Some e.0) is e.2 in
          shared_so tells m log store notes (state e.0).told (told_in state m.settings.shards freed.keepers.items)
          (sym (ap (λ o. option_map_or (λ (k : K). (state k).told store.name) o empty_table) found))
          (some_notes freed.noted.items place notes (λ ns. IsSharedStore tells m log (locked store (state e.0).told ns)) has (are.each place store e.0 at e.2)))
      | inr e ↦ absurd (let past = e.0 in let long = are.keepers_long in omega (arith, within, past, long))
    ]

-- what lay behind locks may be settled
pub may_settle : {K : Type 0} (tells : Bool) (state : K → KeeperState) (m : Making) (log : LogNames) (u : Unlocked) (freed : FreedStores K) (f : Fleet)
    (keepers : List K) → u.fleet ≡ f → f.stores ≡ freed.stores.items → u.noted.items ≡ freed.noted.items → u.met ≡ false → keepers ≡ freed.keepers.items
    → length freed.keepers.items ≡ store_count m.settings
    → AreEachFreed (λ store keeper notes. IsSharedStore tells m log (locked store (state keeper).told notes)) freed
    → EachIs (IsSharedNode m log) f.leaders → EachIs (IsFreedFollower m log) f.followers → MaySettle tells m log (told_in state m.settings.shards keepers) u
may_settle tells state m log u freed f keepers fleet stores noted unmet same many are lead follow = record {
  unmet = λ is.
      subst (λ ks. IsUnlocked tells m log (told_in state m.settings.shards ks) u.fleet (notes_of u.noted.items)) (sym same)
      (subst (λ (x : Fleet). IsUnlocked tells m log (told_in state m.settings.shards freed.keepers.items) x (notes_of u.noted.items)) (sym fleet)
      (subst (λ ns. IsUnlocked tells m log (told_in state m.settings.shards freed.keepers.items) f (notes_of ns)) (sym noted) (record {
        many = ap length stores ∙ (sym are.keepers_long ∙ many);
        noted_long = length-map freed.noted.items (λ notes. notes.items) ∙ (are.noted_long ∙ sym (ap length stores));
        stores = subst (λ xs. AreFreedStores tells m log (told_in state m.settings.shards freed.keepers.items) xs (notes_of freed.noted.items)) (sym stores)
            (freed_stores tells state m log freed are);
        leaders = lead;
        followers = follow;
      })));
  met = λ is. absurd (let e : true ≡ false = sym is ∙ unmet in cc);
}
