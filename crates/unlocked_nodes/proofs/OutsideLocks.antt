-- Stores whose locks kept what each knows, and that have met: together they are sound and covered.
use Rattle.std.proofs.Common.{◌≡◌, ◌≢◌, ℕ, zero, suc, ◌+◌, ◌≤◌, ◌<◌, true, false, List, [], ◌∷◌, length, Some, None, refl, ap, sym, subst, ◌∙◌, inl, inr}
use Rattle.std.proofs.Common.{◌⊎◌, arith}
use Rattle.std.proofs.lemmas.Bool.{cases_lt}
use Rattle.std.proofs.lemmas.Bool.Decides.{nat_tests}
use Rattle.std.proofs.lemmas.List.Elements.{All-from_recursion}
use Rattle.std.proofs.lemmas.Option.{slice_get_cases, slice_get_past, slice_get_within, unwrap_or-slice_get}
use Rattle.std.specs.Option.{option_map_or}
use Rattle.std.specs.Prelude.{◌==◌, if◌then◌else◌, nat_lt, slice_get, unwrap_or}
use Rattle.core_model.proofs.FoundStores.{master_found, named_stands}
use Rattle.core_model.specs.Fleet.{Fleet}
use Rattle.core_model.specs.Pens.{AreFirstNotes, pens_of, view_or_none}
use Rattle.core_model.specs.StoreLaws.{IsFoundAt}
use Rattle.core_model.specs.Stores.{AreKeptIn, HaveMasterRegions, IsConfiguredStore, master_log, master_store, masters_of, store_place, stores_in}
use Rattle.graph_model.specs.Log.{entry_at}
use Rattle.graph_model.specs.Records.{HasStamp}
use Rattle.graph_model.specs.Soundness.{EdgeUpdate, IsSoundOf, KeepsEnds, other_end}
use Rattle.locked_model.specs.Locked.{AreLocked, IsKept, IsSeenOf, Knowledge, SeeEachOther}
use Rattle.locked_model.specs.LockedLaws.{LocksCover}
use Rattle.log_names.specs.Names.{LogNames}
use Rattle.master_tables.proofs.Calls.{tables_are_stores}
use Rattle.master_tables.proofs.Each.{each_length}
use Rattle.shard_log.specs.View.{View}
use Rattle.shard_tables.specs.StoreView.{Store}
use Rattle.shared_stores.specs.Locked.{HaveBegun, KeepsMaster, entries_seen, locked}
use Rattle.shared_stores.specs.Making.{Making}
use Rattle.tao_base.proofs.Tests.{apart-eqb, eqb-self}
use Rattle.tao_base.specs.EdgeTypes.{EdgeTypes, InversesMatch}
use Rattle.tao_base.specs.Ids.{shard_of}
use Rattle.tao_base.specs.Stamps.{stamp_of}
use Rattle.tao_base.specs.declared.entry.Entry.{Entry}
use Rattle.tao_base.specs.declared.id.StoreName.{StoreName}
use Rattle.tao_keeper.specs.Table.{Tables}
use Rattle.tao_schema.specs.Schema.{types_of}
use Rattle.topology.specs.Config.{Settings}
use Rattle.write_model.proofs.Growing.{entry_at-within}
use Rattle.write_model.specs.Merges.{IsWritten, Stores, entries_ever, log_of}
use Rattle.write_model.specs.Writes.{epoch_base}
use Rattle.unlocked_nodes.specs.Looking.{AllHaveMet, LogsFit}
use Rattle.unlocked_nodes.specs.Unlocked.{IsUnlocked}
use Rattle.unlocked_nodes.proofs.StampNumbers.{number_fits}

-- a log was seen whole
seen_whole : (log : List Entry) → IsSeenOf log log
seen_whole [] = refl
seen_whole (e ∷ es) = ap (λ l. e ∷ l) (seen_whole es)

-- nothing stands in an empty log
none_stands : (log : List Entry) (position : ℕ) (e : Entry) → log ≡ [] → entry_at log position ≡ Some e → ⊥
none_stands log position e empty at =
    let within = entry_at-within log position e at in
    let none : length log ≡ 0 = ap length empty in
    at_zero log position e at (omega (arith, within, none))
  where
    at_zero : (log : List Entry) (position : ℕ) (e : Entry) → entry_at log position ≡ Some e → position ≡ 0 → ⊥
    at_zero log zero e at is = absurd (cc)
    at_zero log (suc position) e at is = absurd (omega (arith, is))

-- ---- a master's store, out of its lock

-- what the store of a shard's master knows, as its lock kept it: by its table, and by its notes
abbrev knows : Making → Tables → List View → ℕ → Knowledge
knows m tables notes shard = record {
  log = λ other. if other == shard then (tables (master_store m.settings shard)).log else entries_seen notes other;
  epoch = λ other. 0;
  job = (tables (master_store m.settings shard)).jobs;
  begun = m.begun shard;
}

record MasterKnows (m : Making) (tables : Tables) (f : Fleet) (shard : ℕ) : Type 0 where
  notes : List View
  first : AreFirstNotes (pens_of f.stores) m.settings.shards notes
  has_begun : HaveBegun m notes
  kept : IsKept (types_of m.settings.schema) shard (knows m tables notes shard)
  whole : (pens_of f.stores shard).entries ≡ master_log m.settings tables shard

module _ (m : Making) (log : LogNames) (tables : Tables) (f : Fleet) (noted : List (List View)) (unlocked : IsUnlocked true m log tables f noted)
    (met : AllHaveMet m.settings f noted) (regions : HaveMasterRegions m.settings) where
  abbrev s : Settings
  s = m.settings

  module _ (shard : ℕ) (lt : shard < s.shards) where
    abbrev at : StoreName
    at = master_store s shard

    here : IsConfiguredStore s at
    here = record { region = regions shard; shard = lt }

    knows_with : (store : Store) (notes : List View) → IsFoundAt s f.stores at store → slice_get noted (store_place s at) ≡ Some notes
        → MasterKnows m tables f shard
    knows_with store notes is stands =
        let master = master_found s f.stores met.configured shard store is in
        let place : store_place s at ≡ store_place s store.name = ap (store_place s) (sym is.name_is) in
        let shared = unlocked.stores (store_place s at) store notes is.stands stands place in
        let keeps : KeepsMaster m (locked store tables notes) = shared.master refl master.0 in
        record {
          notes = notes;
          first = met.notes (store_place s at) store notes is.stands stands master.0;
          has_begun = keeps.begun;
          kept = subst (λ (name : StoreName). IsKept (types_of s.schema) name.shard (record {
            log = λ other. if other == name.shard then (tables name).log else entries_seen notes other;
            epoch = λ other. 0;
            job = (tables name).jobs;
            begun = m.begun name.shard;
          })) is.name_is keeps.kept;
          whole = ap (λ (v : View). v.entries) (ap view_or_none master.1) ∙ keeps.whole ∙ ap (λ (name : StoreName). (tables name).log) is.name_is;
        }

    master_knows : MasterKnows m tables f shard
    master_knows =
        let there = named_stands s f.stores met.configured at here in
        let within = slice_get_within f.stores (store_place s at) there.0 there.1.stands in
        elim (slice_get_cases noted (store_place s at)).1 [
          | inl e ↦ knows_with there.0 e.0 there.1 e.2
          | inr e ↦ absurd (let past = e.0 in let long = unlocked.noted_long in omega (arith, within, past, long))
        ]

  -- ---- all of them

  abbrev all : Stores
  all = stores_in s tables

  -- the log of a shard of the configuration
  log_here : (shard : ℕ) → shard < s.shards → log_of all.logs shard ≡ master_log s tables shard
  log_here shard lt = (tables_are_stores (masters_of s) tables).log_is shard lt

  -- there is none of another one
  log_past : (shard : ℕ) → s.shards ≤ shard → log_of all.logs shard ≡ []
  log_past shard past =
      let many = each_length (λ k. (tables (master_store s k)).log) 0 s.shards in
      sym (unwrap_or-slice_get all.logs shard []) ∙ ap (λ o. unwrap_or o []) (slice_get_past all.logs shard (omega (arith, past, many)))

  -- who stands outside knows all logs
  abbrev outsider : Knowledge
  outsider = record { log = log_of all.logs; epoch = λ other. 0; job = λ position. None; begun = 0 }

  abbrev OneOf : ℕ → Type 0
  OneOf shard = (shard < s.shards) ⊎ (s.shards ≤ shard)

  abbrev k_by : (shard : ℕ) → OneOf shard → Knowledge
  k_by shard (inl lt) = knows m tables (master_knows shard lt).notes shard
  k_by shard (inr past) = outsider

  -- what a master knows of its own log, of another configured one, and of others
  own_is : (notes : List View) (shard : ℕ) → (knows m tables notes shard).log shard ≡ master_log s tables shard
  own_is notes shard = ap (λ b. if b then master_log s tables shard else entries_seen notes shard) (eqb-self shard)

  other_is : (notes : List View) (shard other : ℕ) → other ≢ shard → (knows m tables notes shard).log other ≡ entries_seen notes other
  other_is notes shard other apart = ap (λ b. if b then master_log s tables shard else entries_seen notes other) (apart-eqb other shard apart)

  past_is : (shard other : ℕ) (lt : shard < s.shards) → s.shards ≤ other → (knows m tables (master_knows shard lt).notes shard).log other ≡ []
  past_is shard other lt past =
      let notes = (master_knows shard lt).notes in
      let long = (master_knows shard lt).first.long in
      other_is notes shard other (λ same. absurd (omega (arith, lt, past, same)))
      ∙ ap (λ o. option_map_or (λ (v : View). v.entries) o []) (slice_get_past notes other (omega (arith, past, long)))

  log_is_by : (shard : ℕ) (d : OneOf shard) → (k_by shard d).log shard ≡ log_of all.logs shard
  log_is_by shard (inl lt) = own_is (master_knows shard lt).notes shard ∙ sym (log_here shard lt)
  log_is_by shard (inr past) = refl

  job_is_by : (shard : ℕ) (d : OneOf shard) (position : ℕ) → (k_by shard d).job position ≡ all.job shard position
  job_is_by shard (inl lt) position = sym ((tables_are_stores (masters_of s) tables).job_is shard position lt)
  job_is_by shard (inr past) position = sym (ap (λ b. if b then (tables (master_store s shard)).jobs position else None) (not_lower shard s.shards past))
    where
      not_lower : (a b : ℕ) → b ≤ a → nat_lt a b ≡ false
      not_lower a b le = grind (arith, nat_tests, le)

  -- ---- they have seen beginnings of each other's logs

  -- of one master what another one knows
  module _ (shard other : ℕ) (lt : shard < s.shards) (there : other < s.shards) (apart : other ≢ shard) where
    abbrev seen_by : ℕ → List Entry → Type 0
    seen_by begun seen = IsSeenOf seen (master_log s tables other) × (begun ≤ length seen)

    of_note : (note : View) → slice_get (master_knows shard lt).notes other ≡ Some note → seen_by (m.begun other) note.entries
    of_note note at =
        let seen = (master_knows shard lt).first.seen other note at in
        (subst (λ l. IsSeenOf note.entries l) (master_knows other there).whole seen.begins, (master_knows shard lt).has_begun other note at)

    sees : seen_by (m.begun other) ((knows m tables (master_knows shard lt).notes shard).log other)
    sees =
        let notes = (master_knows shard lt).notes in
        elim (slice_get_cases notes other).1 [
          | inl e ↦ subst (seen_by (m.begun other)) (sym (other_is notes shard other apart
              ∙ ap (λ o. option_map_or (λ (v : View). v.entries) o []) e.2)) (of_note e.0 e.2)
          | inr e ↦ absurd (let past = e.0 in let long = (master_knows shard lt).first.long in omega (arith, there, past, long))
        ]

  begins_with : (xs ys : List Entry) → xs ≡ ys → IsSeenOf xs ys
  begins_with xs ys same = subst (IsSeenOf xs) same (seen_whole xs)

  see_by : (a b : ℕ) (d : OneOf a) (e : OneOf b) → a ≢ b → SeeEachOther a b (k_by a d) (k_by b e)
  see_by a b (inl lt) (inl there) apart =
      let one = sees a b lt there (λ same. apart (sym same)) in
      let two = sees b a there lt apart in
      record {
        there = subst (IsSeenOf ((knows m tables (master_knows a lt).notes a).log b)) (sym (own_is (master_knows b there).notes b)) one.0;
        back = subst (IsSeenOf ((knows m tables (master_knows b there).notes b).log a)) (sym (own_is (master_knows a lt).notes a)) two.0;
        least_there = one.1;
        least_back = two.1;
      }
  see_by a b (inl lt) (inr past) apart = record {
    there = subst (λ l. IsSeenOf l (log_of all.logs b)) (sym (past_is a b lt past)) refl;
    back = begins_with (log_of all.logs a) _ (sym (log_is_by a (inl lt)));
    least_there = omega arith;
    least_back = (
        let fits = (master_knows a lt).kept.fits in
        let long : length ((knows m tables (master_knows a lt).notes a).log a) ≡ length (log_of all.logs a) = ap length (log_is_by a (inl lt)) in
        omega (arith, fits, long));
  }
  see_by a b (inr past) (inl lt) apart = record {
    there = begins_with (log_of all.logs b) _ (sym (log_is_by b (inl lt)));
    back = subst (λ l. IsSeenOf l (log_of all.logs a)) (sym (past_is b a lt past)) refl;
    least_there = (
        let fits = (master_knows b lt).kept.fits in
        let long : length ((knows m tables (master_knows b lt).notes b).log b) ≡ length (log_of all.logs b) = ap length (log_is_by b (inl lt)) in
        omega (arith, fits, long));
    least_back = omega arith;
  }
  see_by a b (inr past) (inr other) apart = record {
    there = seen_whole (log_of all.logs b);
    back = seen_whole (log_of all.logs a);
    least_there = omega arith;
    least_back = omega arith;
  }

  -- ---- each is kept

  abbrev types : EdgeTypes
  types = types_of s.schema

  sound_all : (shard : ℕ) → IsSoundOf types shard (log_of all.logs shard)
  sound_all shard = by (cases_lt shard s.shards)
    where
      by : OneOf shard → IsSoundOf types shard (log_of all.logs shard)
      by (inl lt) = subst (IsSoundOf types shard) (log_is_by shard (inl lt)) ((master_knows shard lt).kept.sound shard)
      by (inr past) = subst (IsSoundOf types shard) (sym (log_past shard past)) (record {
        sound = λ n e at. absurd (cc);
        ends = All-from_recursion (KeepsEnds types shard) [] tt;
      })

  -- nothing is written on a shard that isn't configured
  none_written : (u : EdgeUpdate) → s.shards ≤ shard_of u.0 → IsWritten (log_of all.logs) u → ⊥
  none_written u past w = none_stands (log_of all.logs (shard_of u.0)) w.position w.entry (log_past (shard_of u.0) past) w.stands

  -- what is owed there with its own stamp can't be
  own_past : (shard : ℕ) → s.shards ≤ shard → (u v : EdgeUpdate) → IsWritten (log_of all.logs) u → other_end types u ≡ Some v → shard_of v.0 ≡ shard
      → (stamp_of u.3).shard ≡ shard → epoch_base 0 < (stamp_of u.3).number → HasStamp (log_of all.logs shard) v
  own_past shard past u v w other there gave above = by (cases_lt (shard_of u.0) s.shards)
    where
      by : OneOf (shard_of u.0) → HasStamp (log_of all.logs shard) v
      by (inr out) = absurd (none_written u out w)
      by (inl lt) =
          let knowing = knows m tables (master_knows (shard_of u.0) lt).notes (shard_of u.0) in
          let written : IsWritten knowing.log u = record {
            position = w.position;
            entry = w.entry;
            stands = subst (λ l. entry_at l w.position ≡ Some w.entry) (sym (log_is_by (shard_of u.0) (inl lt))) w.stands;
            writes = w.writes;
          } in
          let stamp = (master_knows (shard_of u.0) lt).kept.covered.stamps u v refl written other (gave ∙ sym there) above in
          let empty : knowing.log (shard_of v.0) ≡ log_of all.logs shard =
          past_is (shard_of u.0) (shard_of v.0) lt (subst (λ i. s.shards ≤ i) (sym there) past) ∙ sym (log_past shard past) in
          subst (λ l. HasStamp l v) empty stamp

  kept_by : (shard : ℕ) (d : OneOf shard) → IsKept types shard (k_by shard d)
  kept_by shard (inl lt) = (master_knows shard lt).kept
  kept_by shard (inr past) = record {
    sound = sound_all;
    covered = record {
      owed = λ position e at none. absurd (none_stands (log_of all.logs shard) position e (log_past shard past) at);
      jobs = λ position us is. absurd (cc);
      one = λ u v lies w x. absurd (none_written u (subst (λ i. s.shards ≤ i) (sym lies) past) w);
      stamps = λ u v lies w. absurd (none_written u (subst (λ i. s.shards ≤ i) (sym lies) past) w);
      merges = λ position e from number at. absurd (none_stands (log_of all.logs shard) position e (log_past shard past) at);
    };
    own = own_past shard past;
    sources = λ position e from number after at. absurd (none_stands (log_of all.logs shard) position e (log_past shard past) at);
    fits = omega arith;
  }

  abbrev k : ℕ → Knowledge
  k shard = k_by shard (cases_lt shard s.shards)

  are_locked : AreLocked types all k
  are_locked = record {
    kept = λ shard. kept_by shard (cases_lt shard s.shards);
    see = λ a b apart. see_by a b (cases_lt a s.shards) (cases_lt b s.shards) apart;
    logs = λ shard. log_is_by shard (cases_lt shard s.shards);
    jobs = λ shard i position. job_is_by shard (cases_lt shard s.shards) position i;
    epochs = λ shard. epochs_by (cases_lt shard s.shards);
  }
    where
      epochs_by : {shard : ℕ} (d : OneOf shard) → (k_by shard d).epoch ≡ all.epochs.of
      epochs_by (inl lt) = refl
      epochs_by (inr past) = refl

  -- so they are sound and covered
  pub kept_outside : LocksCover → InversesMatch types → LogsFit s tables → AreKeptIn s tables
  kept_outside cover match fit = record {
    sound = cover.sound types all k are_locked;
    covered = record {
      each = cover.each types all k match are_locked;
      numbers = λ u w. within u (cases_lt (shard_of u.0) s.shards) w;
      epochs = λ shard. omega arith;
    };
  }
    where
      within : (u : EdgeUpdate) → OneOf (shard_of u.0) → IsWritten (log_of all.logs) u → (stamp_of u.3).number ≤ epoch_base 0 + entries_ever all
      within u (inr past) w = absurd (none_written u past w)
      within u (inl lt) w =
          let few = number_fits (entries_ever all) (master_log s tables (shard_of u.0)) w.position w.entry u (fit.fit (shard_of u.0) lt)
          (subst (λ l. entry_at l w.position ≡ Some w.entry) (log_here (shard_of u.0) lt) w.stands) w.writes in
          omega (arith, few)
