-- What a log says of each key.
use Rattle.std.specs.Prelude.{◌≡◌, false, List, flat_map, unwrap_or}
use Rattle.std.specs.BTreeMap.{BTreeMap, get}
use Rattle.tao_base.specs.Keys.{key_cmp, same_key}
use Rattle.tao_base.specs.declared.entry.Entry.{Entry}
use Rattle.tao_base.specs.declared.entry.Touch.{Touch}
use Rattle.tao_base.specs.declared.id.Key.{Key}
use Rattle.graph_model.specs.Log.{changes_at}
use Rattle.log_index.specs.KeyState.{IsAfter, IsLeftBy, KeyState, no_state}

-- the state at a key: a key that nothing touches has none
abbrev pub state_at : BTreeMap Key KeyState → Key → KeyState
state_at keys key = unwrap_or (get key_cmp keys key) no_state

-- at each key the state is what the touches leave there
abbrev pub KeysTell : List Touch → BTreeMap Key KeyState → Type 0
KeysTell touches keys = (key : Key) → IsLeftBy (changes_at key touches) (state_at keys key)

-- one more touch: at its key its change is done, and no other key changes
pub record Touched (touch : Touch) (old new : BTreeMap Key KeyState) : Type 0 where
  pub here : IsAfter touch.change (state_at old touch.key) (state_at new touch.key)
  pub others : (key : Key) → same_key key touch.key ≡ false → state_at new key ≡ state_at old key

-- what the entries touch, in order
abbrev pub all_touches : List Entry → List Touch
all_touches log = flat_map (λ e. e.touches) log
