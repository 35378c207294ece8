-- What a stream reads of the stores: how long a slave's log is, and what its shard's log has next, or has long had.
use Rattle.std.proofs.Common.{◌≡◌, ◌⊎◌, ℕ, zero, suc, ◌+◌, ◌≤◌, ◌<◌, Bool, true, false, List, length, Option, Some, None, Result, Ok, Err, IfOk, IfSome}
use Rattle.std.proofs.Common.{refl, sym, ap, ◌∙◌, subst, add-one, inl, inr, arith}
use Rattle.std.proofs.lemmas.Bool.{leb-false, leb-true}
use Rattle.std.proofs.lemmas.Option.{slice_get_cases}
use Rattle.std.specs.Prelude.{IsSomeAnd, get_or, nat_le, slice_get, unwrap_or}
use Rattle.graph_model.specs.Log.{entry_at}
use Rattle.graph_model.specs.Told.{WhereTold}
use Rattle.shard_log.proofs.Beginnings.{begins-whole}
use Rattle.shard_log.specs.View.{Begins}
use Rattle.shard_tables.proofs.Standing.{own_place}
use Rattle.shard_tables.specs.StoreView.{Store}
use Rattle.shard_tables.specs.Written.{LiesOn, StandsIn}
use Rattle.shard_tables.specs.declared.refusal.StoreRefusal.{StoreRefusal}
use Rattle.tao_base.specs.declared.entry.Entry.{Entry}
use Rattle.tao_base.specs.declared.id.StoreName.{StoreName}
use Rattle.tao_keeper.proofs.Cuts.{cut_laws}
use Rattle.tao_keeper.specs.Table.{Stays, Table, Tables, live_entry}
use Rattle.tao_schema.specs.Schema.{types_of}
use Rattle.topology.specs.Config.{Settings}
use Rattle.write_model.proofs.Covered.{at_place}
use Rattle.core_model.proofs.FoundStores.{master_found, named_stands}
use Rattle.core_model.proofs.KeptStores.{sound_logs}
use Rattle.core_model.specs.Pens.{pens_of, view_or_none}
use Rattle.core_model.specs.Stores.{AreStoresOf, HaveMasterRegions, IsConfiguredStore, master_log, master_store}
use Rattle.core_nodes.proofs.KnownStores.{known_store}
use Rattle.core_nodes.specs.Streams.{FindsNext, IsNothingAt, IsOldThere, entry_found, next_position}
use Rattle.core_nodes.specs.declared.streams.NextEntry.{NextEntry}
use Rattle.core_nodes.specs.declared.streams.NextEntry.TheVariants as next

-- ---- logs

-- the entry that follows so many
entry_after : (log : List Entry) (n : ℕ) → entry_at log (n + 1) ≡ slice_get log n
entry_after log n = rw add-one refl

-- a log that has no entry at a place isn't longer than that
none_at_place : (log : List Entry) (n : ℕ) → slice_get log n ≡ None → length log ≤ n
none_at_place log n none = by_cases (slice_get_cases log n).1
  where
    by_cases : ((x : Entry) × (n < length log) × (slice_get log n ≡ Some x) × (get_or log n x ≡ x)) ⊎ ((length log ≤ n) × (slice_get log n ≡ None))
        → length log ≤ n
    by_cases (inl is) = absurd (let some : None ≡ Some is.0 = sym none ∙ is.2 in cc)
    by_cases (inr past) = past.0

-- a log that has no entry after so many has at most as many
none_after : (log : List Entry) (n : ℕ) → entry_at log (n + 1) ≡ None → length log ≤ n
none_after log n none = none_at_place log n (sym (entry_after log n) ∙ none)

-- past its end a log has no entry
none_past : (log : List Entry) (position : ℕ) → length log < position → entry_at log position ≡ None
none_past log zero past = refl
none_past log (suc n) past = by_cases (slice_get_cases log n).1
  where
    by_cases : ((x : Entry) × (n < length log) × (slice_get log n ≡ Some x) × (get_or log n x ≡ x)) ⊎ ((length log ≤ n) × (slice_get log n ≡ None))
        → slice_get log n ≡ None
    by_cases (inl is) = absurd (let within = is.1 in omega (arith, past, within))
    by_cases (inr there) = there.1

-- a log that begins another, which has no entry after it, is that
whole_log : (log master : List Entry) → Begins log master → entry_at master (length log + 1) ≡ None → log ≡ master
whole_log log master begins none = begins-whole log master begins (none_after master (length log) none)

-- ---- logs in two parts

-- a live entry stands in the log, past its cut
live_parts : (table : Table) (position : ℕ) (e : Entry) → live_entry table position ≡ Some e
    → (table.cut < position) × (entry_at table.log position ≡ Some e)
live_parts table position e is = by_test (nat_le position table.cut) refl
  where
    by_test : (old : Bool) → nat_le position table.cut ≡ old → (table.cut < position) × (entry_at table.log position ≡ Some e)
    by_test true old = absurd (let none : None ≡ Some e = rw old at is in cc)
    by_test false live = (leb-false position table.cut live, rw live at is)

-- past the cut the log has no other entries
live_none : (table : Table) (position : ℕ) → table.cut < position → live_entry table position ≡ None → entry_at table.log position ≡ None
live_none table position past none = sym (cut_laws.live table position past).0 ∙ none

-- where a log has come to a position, and has no live entry there, what it has there is old
old_within : (table : Table) (position : ℕ) → position ≤ length table.log → live_entry table position ≡ None → position ≤ table.cut
old_within table zero within none = omega arith
old_within table (suc n) within none = by_test (nat_le (suc n) table.cut) refl
  where
    by_test : (old : Bool) → nat_le (suc n) table.cut ≡ old → suc n ≤ table.cut
    by_test true old = leb-true (suc n) table.cut old
    by_test false live = absurd
        (let ends = none_at_place table.log n (live_none table (suc n) (leb-false (suc n) table.cut live) none) in omega (arith, within, ends))

-- ---- where the tables are told

module _ (s : Settings) (tables : Tables) (xs : List Store) (regions : HaveMasterRegions s) (are : AreStoresOf true s tables xs) (at : StoreName)
    (here : IsConfiguredStore s at) where
  -- the table of its shard's master
  abbrev master : Table
  master = tables (master_store s at.shard)

  master_here : IsConfiguredStore s (master_store s at.shard)
  master_here = record { region = regions at.shard; shard = here.shard }

  -- a store's log begins its shard's
  follows_master : Begins (tables at).log (master_log s tables at.shard)
  follows_master =
      let known = known_store s tables xs are at here in
      subst (Begins (tables at).log) known.whole known.begins

  -- an entry of the shard's log stands at its own position, and lies on the shard
  stands_there : (position : ℕ) (e : Entry) → entry_at (master_log s tables at.shard) position ≡ Some e
      → (e.position ≡ position) × (entry_at (master_log s tables at.shard) e.position ≡ Some e)
  stands_there position e stands =
      let sound = sound_logs s tables (are.kept refl) at.shard here.shard in (
        (at_place (types_of s.schema) at.shard (master_log s tables at.shard) position e sound stands).2,
        (own_place (types_of s.schema) at.shard (master_log s tables at.shard) position e sound stands).0,
      )

  -- what was found, by what was read of the two logs
  found_some : (asked : Option ℕ) (count : ℕ) (e : Entry) → count ≡ length (tables at).log
      → live_entry master (unwrap_or asked (count + 1)) ≡ Some e → FindsNext s tables at asked (next.Found e (count + 1))
  found_some asked count e long lives =
      let parts = live_parts master (unwrap_or asked (count + 1)) e lives in
      let there = stands_there (unwrap_or asked (count + 1)) e parts.1 in
      let follows : count + 1 ≡ next_position tables at = ap (λ n. n + 1) long in (
        follows,
        record {
          live = subst (λ n. master.cut < n) (sym there.0) parts.0;
          position_is = there.0 ∙ ap (unwrap_or asked) follows;
          stands = there.1;
        },
      )

  -- what is asked for is old
  old_there : (asked : Option ℕ) (otherwise : ℕ) → live_entry master (unwrap_or asked otherwise) ≡ None → IsSomeAnd asked (λ p. p ≤ length master.log)
      → IsOldThere s tables at.shard asked
  old_there None otherwise none within = absurd within
  old_there (Some position) otherwise none within =
      record { position = position; asked_is = refl; old = old_within master position within none }

  found_none : (asked : Option ℕ) (count : ℕ) (found : NextEntry) → count ≡ length (tables at).log
      → live_entry master (unwrap_or asked (count + 1)) ≡ None → IsNothingAt s tables at.shard asked (count + 1) found → FindsNext s tables at asked found
  found_none asked count (next.Found e position) long none is = absurd is
  found_none asked count (next.Old position) long none is =
      (is.0 ∙ ap (λ n. n + 1) long, old_there asked (count + 1) none is.1)
  found_none asked count (next.Nothing position) long none is =
      let come : master.cut ≤ length (tables at).log = (are.cuts refl).come at (master_store s at.shard) here master_here refl in
      let dead : live_entry master (count + 1) ≡ None = subst (λ o. live_entry master (unwrap_or o (count + 1)) ≡ None) is.0 none in
      let lacks : entry_at master.log (count + 1) ≡ None = live_none master (count + 1) (omega arith) dead in
      let after : entry_at master.log (length (tables at).log + 1) ≡ None = subst (λ n. entry_at master.log (n + 1) ≡ None) long lacks in (
        is.1 ∙ ap (λ n. n + 1) long,
        record { unasked = is.0; whole = whole_log (tables at).log master.log follows_master after },
      )
  found_none asked count (next.Past most position) long none is =
      let come : master.cut ≤ length master.log = (are.cuts refl).come (master_store s at.shard) (master_store s at.shard) master_here master_here refl in
      let most_is : most ≡ length master.log = is.1 in
      let past : most < position = is.2 in
      record { asked_is = is.0; count_is = is.1; lacks = none_past master.log position (omega arith); past = omega arith }

-- ---- as code reads the logs one after the other

module _ (tells : Bool) (s : Settings) (before mid : Tables) (xs : List Store) (regions : HaveMasterRegions s) (are : AreStoresOf tells s before xs)
    (at : StoreName) (here : IsConfiguredStore s at) (stay : WhereTold tells (Stays before mid)) (asked : Option ℕ) (count position : ℕ)
    (long : WhereTold tells (count ≡ length (before at).log)) (position_is : position ≡ unwrap_or asked (count + 1)) where
  told_stores : tells ≡ true → AreStoresOf true s before xs
  told_stores told = subst (λ t. AreStoresOf t s before xs) told are

  -- the log is the one before
  entry_before : tells ≡ true → live_entry (before (master_store s at.shard)) (unwrap_or asked (count + 1))
      ≡ live_entry (mid (master_store s at.shard)) position
  entry_before told =
      ap (live_entry (before (master_store s at.shard))) (sym position_is)
      ∙ ap (λ (t : Table). live_entry t position) (sym (stay told (master_store s at.shard)))

  pub finds_some : (found : Option Entry) (e : Entry) → WhereTold tells (found ≡ live_entry (mid (master_store s at.shard)) position) → found ≡ Some e
      → WhereTold tells (FindsNext s before at asked (next.Found e (count + 1)))
  finds_some found e read is told =
      found_some s before xs regions (told_stores told) at here asked count e (long told) (entry_before told ∙ sym (read told) ∙ is)

  pub finds_none : (found : Option Entry) (late : Tables) (r : Result NextEntry StoreRefusal)
      → WhereTold tells (found ≡ live_entry (mid (master_store s at.shard)) position) → found ≡ None → WhereTold tells (Stays mid late)
      → WhereTold tells (IfOk r (IsNothingAt s late at.shard asked (count + 1))) → WhereTold tells (IfOk r (FindsNext s before at asked))
  finds_none found late (Ok nothing) read is later says told =
      found_none s before xs regions (told_stores told) at here asked count nothing (long told) (entry_before told ∙ sym (read told) ∙ is)
      (nothing_before nothing (says told))
    where
      same_length : length (master_log s late at.shard) ≡ length (master_log s before at.shard)
      same_length = ap (λ (t : Table). length t.log) (later told (master_store s at.shard) ∙ stay told (master_store s at.shard))

      nothing_before : (nothing : NextEntry) → IsNothingAt s late at.shard asked (count + 1) nothing → IsNothingAt s before at.shard asked (count + 1) nothing
      nothing_before (next.Found e other) says = says
      nothing_before (next.Old other) says = (says.0, subst (λ n. IsSomeAnd asked (λ p. p ≤ n)) same_length says.1)
      nothing_before (next.Nothing other) says = says
      nothing_before (next.Past most other) says = (says.0, says.1 ∙ same_length, says.2)
  finds_none found late (Err refusal) read is later says told = tt

-- ---- the entry that was found, in what its shard's pen has seen

module _ (tells : Bool) (s : Settings) (tables : Tables) (xs : List Store) (regions : HaveMasterRegions s) (are : AreStoresOf tells s tables xs)
    (at : StoreName) (here : IsConfiguredStore s at) where
  -- the pen is told where the tables are
  pen_tells : (pens_of xs at.shard).log.told ≡ tells
  pen_tells =
      let master = named_stands s xs are.configured (master_store s at.shard) (record { region = regions at.shard; shard = here.shard }) in
      let found = (master_found s xs are.configured at.shard master.0 master.1).1 in
      ap (λ o. (view_or_none o).log.told) found ∙ (are.seen _ master.0 master.1.stands).told_is

  stands_seen : (asked : Option ℕ) (found : NextEntry) → WhereTold tells (FindsNext s tables at asked found)
      → IfSome (entry_found found) (StandsIn (pens_of xs at.shard))
  stands_seen asked (next.Found e position) finds = λ heard.
      let told : tells ≡ true = sym pen_tells ∙ heard in
      let known = known_store s tables xs (subst (λ t. AreStoresOf t s tables xs) told are) at here in
      subst (λ log. entry_at log e.position ≡ Some e) (sym known.whole) (finds told).1.stands
  stands_seen asked (next.Old position) finds = tt
  stands_seen asked (next.Nothing position) finds = tt
  stands_seen asked (next.Past most position) finds = tt

  lies_seen : (asked : Option ℕ) (found : NextEntry) → WhereTold tells (FindsNext s tables at asked found)
      → IfSome (entry_found found) (LiesOn (pens_of xs at.shard) at.shard)
  lies_seen asked (next.Found e position) finds = λ heard.
      let told : tells ≡ true = sym pen_tells ∙ heard in
      (own_place (types_of s.schema) at.shard (master_log s tables at.shard) e.position e (sound_logs s tables (are.kept told) at.shard here.shard)
      (finds told).1.stands).1
  lies_seen asked (next.Old position) finds = tt
  lies_seen asked (next.Nothing position) finds = tt
  lies_seen asked (next.Past most position) finds = tt

  pub found_stands : (asked : Option ℕ) (r : Result NextEntry StoreRefusal) → WhereTold tells (IfOk r (FindsNext s tables at asked))
      → IfOk r (λ found. IfSome (entry_found found) (StandsIn (pens_of xs at.shard)))
  found_stands asked (Ok found) finds = stands_seen asked found finds
  found_stands asked (Err refusal) finds = tt

  pub found_lies : (asked : Option ℕ) (r : Result NextEntry StoreRefusal) → WhereTold tells (IfOk r (FindsNext s tables at asked))
      → IfOk r (λ found. IfSome (entry_found found) (LiesOn (pens_of xs at.shard) at.shard))
  found_lies asked (Ok found) finds = lies_seen asked found finds
  found_lies asked (Err refusal) finds = tt
