-- The lists that a message dropped.
use Rattle.std.specs.Prelude.{◌≡◌, ◌⊎◌, ⊤, if◌then◌else◌, List, [], ◌∷◌, ◌++◌, length, Option, Some, None}
use Rattle.maint_msg.specs.declared.key_versions.KeyVersion.{KeyVersion}
use Rattle.sealed_item.specs.declared.content.Content.{Content}
use Rattle.sealed_item.specs.declared.content.Content.TheVariants.{Object as ObjectIs, List as ListIs}
use Rattle.cache_items.specs.declared.item.Item.{Item}
use Rattle.cache_items.specs.declared.delivered.DroppedList.{DroppedList}
use Rattle.cache_items.specs.Node.{Items, item_at, is_stale, without_stale}

-- of a list its key, the version that it lacks and how many edges were held
abbrev pub content_row : KeyVersion → Content → List DroppedList
content_row k (ObjectIs found) = []
content_row k (ListIs prefix) = record { key = k.key; version = k.version; length = length prefix.edges } ∷ []

-- what is noted of the item at a key when it is dropped: a row where it is a list, else nothing
abbrev pub row_of : KeyVersion → Option Item → List DroppedList
row_of k None = []
row_of k (Some item) = content_row k item.content

-- the row of the key's list, where that is below the version
abbrev pub stale_row : Items → KeyVersion → List DroppedList
stale_row items k = if is_stale items k then row_of k (item_at items k.key) else []

-- the rows of the lists that are below their versions
abbrev pub dropped_lists : Items → List KeyVersion → List DroppedList
dropped_lists items [] = []
dropped_lists items (k ∷ ks) = stale_row items k ++ dropped_lists (without_stale k items) ks

-- rows in their order, of which some may be left out
abbrev pub AreSome : List DroppedList → List DroppedList → Type 0
AreSome [] all = ⊤
AreSome (row ∷ rows) [] = ⊥
AreSome (row ∷ rows) (first ∷ all) = ((row ≡ first) × AreSome rows all) ⊎ AreSome (row ∷ rows) all

-- the row was added, or left out
abbrev pub AddsRow : List DroppedList → List DroppedList → List DroppedList → Type 0
AddsRow row old new = (new ≡ old) ⊎ (new ≡ old ++ row)
