-- The floors of a session: for each key the greatest version that it was told of.
use Rattle.std.specs.Prelude.{◌≡◌, ◌≢◌, ◌≤◌, ℕ, List, [], ◌∷◌, max, nat_lt, take, unwrap_or, if◌then◌else◌}
use Rattle.std.specs.Map.{lookup}
use Rattle.indexmap.specs.IndexMap.{insert_entry}
use Rattle.tao_base.specs.Keys.{key_shard, same_key}
use Rattle.tao_base.specs.declared.entry.Entry.{Entry}
use Rattle.tao_base.specs.declared.entry.Touch.{Touch}
use Rattle.tao_base.specs.declared.id.Key.{Key}

-- the floors, each under its key, and how many keys may be added without memory
pub record FloorTable : Type 0 where
  pub floors : List (Key × ℕ)
  pub spare : ℕ

-- the floor at a key; 0 where none was learnt
abbrev pub floor_at : List (Key × ℕ) → Key → ℕ
floor_at floors key = unwrap_or (lookup (same_key key) floors) 0

-- no key has a floor
pub record HasNoFloors (floors : List (Key × ℕ)) : Type 0 where
  pub none : (key : Key) → floor_at floors key ≡ 0

-- the floors after a version of a key was learnt. A key that has a floor keeps its place
abbrev pub with_learnt : Key → ℕ → List (Key × ℕ) → List (Key × ℕ)
with_learnt key version floors = if nat_lt (floor_at floors key) version then insert_entry same_key floors key version else floors

-- the key's floor is now the greater of what it was and the version, and each other key's stays
pub record Learns (key : Key) (version : ℕ) (old new : List (Key × ℕ)) : Type 0 where
  pub here : floor_at new key ≡ max (floor_at old key) version
  pub others : (other : Key) → other ≢ key → floor_at new other ≡ floor_at old other

-- no floor fell
pub record FloorsRise (old new : List (Key × ℕ)) : Type 0 where
  pub rise : (key : Key) → floor_at old key ≤ floor_at new key

-- ---- entries

-- the touches that are learnt of an entry: all of them, as an entry has at most four
abbrev pub learnt_touches : Entry → List Touch
learnt_touches entry = take 8 entry.touches

-- the greatest version that the touches tell of the key; 0 where they tell none
abbrev pub version_learnt : Key → List Touch → ℕ
version_learnt key [] = 0
version_learnt key (t ∷ ts) = max (if same_key key t.key then t.version else 0) (version_learnt key ts)

-- each key of the shard now has the greater of its floor and the version that the touches tell of it, and each other floor stays
pub record LearnsTouches (shard : ℕ) (touches : List Touch) (old new : List (Key × ℕ)) : Type 0 where
  pub here : (key : Key) → key_shard key ≡ shard → floor_at new key ≡ max (floor_at old key) (version_learnt key touches)
  pub others : (key : Key) → key_shard key ≢ shard → floor_at new key ≡ floor_at old key
