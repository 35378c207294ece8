-- What each table in memory keeps.
use Rattle.std.proofs.Common.{ℕ, refl}
use Rattle.std.proofs.Math.Nat.{le_refl}
use Rattle.std.specs.BTreeMap.{BTreeMap, get}
use Rattle.std.specs.Option.{option_map_or}
use Rattle.std.specs.Prelude.{Option, Some, None}
use Rattle.tao_base.specs.declared.id.StoreName.{StoreName}
use Rattle.keeper_map.specs.declared.store.StoreTable.{StoreTable}
use Rattle.graph_model.specs.Soundness.{IsSound}
use Rattle.keeper_map.specs.Store.{store_cmp, store_key, table_of, tables_of}
use Rattle.tao_keeper.specs.Table.{AreOfEntries, IsCutWithin, empty_table}

sound_in : (found : Option StoreTable) → IsSound (option_map_or table_of found empty_table).log
sound_in None = λ n e h. absurd (cc)
sound_in (Some store) = store.sound

of_entries_in : (found : Option StoreTable) → AreOfEntries (option_map_or table_of found empty_table)
of_entries_in None = record { none_past = λ position past. refl }
of_entries_in (Some store) = record { none_past = store.of_entries }

cut_within_in : (found : Option StoreTable) → IsCutWithin (option_map_or table_of found empty_table)
cut_within_in None = le_refl 0
cut_within_in (Some store) = store.cut_within

-- the log of every store in memory is sound
pub told_sound : (stores : BTreeMap (ℕ × ℕ) StoreTable) (at : StoreName) → IsSound (tables_of stores at).log
told_sound stores at = sound_in (get store_cmp stores (store_key at))

-- the log of every store in memory has the entries that are old
pub told_cut_within : (stores : BTreeMap (ℕ × ℕ) StoreTable) (at : StoreName) → IsCutWithin (tables_of stores at)
told_cut_within stores at = cut_within_in (get store_cmp stores (store_key at))

-- no store in memory has a job past the end of its log
pub told_of_entries : (stores : BTreeMap (ℕ × ℕ) StoreTable) (at : StoreName) → AreOfEntries (tables_of stores at)
told_of_entries stores at = of_entries_in (get store_cmp stores (store_key at))
