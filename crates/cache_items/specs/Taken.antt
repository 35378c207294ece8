-- What a changeset does to the items.
use Rattle.std.specs.Prelude.{◌≡◌, ℕ, ◌<◌, ◌≤◌, ◌⊎◌, Option, Some, None}
use Rattle.std.specs.Map.{set_value}
use Rattle.tao_base.specs.declared.entry.Change.{Change}
use Rattle.tao_base.specs.EdgeTypes.{EdgeTypes}
use Rattle.tao_base.specs.Keys.{key_shard, same_key}
use Rattle.changeset.specs.graph_model.Log.{object_after}
use Rattle.ask_table.specs.Asks.{with_floor}
use Rattle.sealed_item.specs.list_prefix.Changes.{prefix_after}
use Rattle.sealed_item.specs.tao_schema.Schema.{key_bound}
use Rattle.sealed_item.specs.declared.content.Content.{Content}
use Rattle.sealed_item.specs.declared.content.Content.TheVariants.{Object as ObjectIs, List as ListIs}
use Rattle.changeset.specs.Changes.{SeenChange}
use Rattle.cache_items.specs.declared.item.Item.{Item}
use Rattle.cache_items.specs.Node.{Items, Node, item_at, met, without}

-- the content after one change of its key, a list's within the bound
abbrev pub changed_content : Content → Change → ℕ → Content
changed_content (ObjectIs found) change bound = ObjectIs (object_after change found)
changed_content (ListIs prefix) change bound = ListIs (prefix_after change prefix bound)

-- the item after one change of its key: at the version after the change, with its content within the bound
abbrev pub changed_item : Item → Change → ℕ → ℕ → Item
changed_item item change after bound = record { version = after; content = changed_content item.content change bound }

-- an item of the changeset's version or more stays, one of the version below takes the change, or goes where there is no memory, and an older one goes
abbrev pub TakesChange : ℕ → Option Item → SeenChange → Items → Items → Type 0
TakesChange bound None c old new = new ≡ old
TakesChange bound (Some item) c old new =
    ((c.after ≤ item.version) × (new ≡ old))
    ⊎ ((item.version ≡ c.before) × (new ≡ set_value (same_key c.key) old (changed_item item c.change c.after bound)))
    ⊎ ((item.version < c.after) × (new ≡ without c.key old))

-- what the changeset does to the items, the bound of a list being that of its type
abbrev pub ChangesItems : EdgeTypes → SeenChange → Items → Items → Type 0
ChangesItems types c old new = TakesChange (key_bound types c.key) (item_at old c.key) c old new

-- the node after a changeset that left these items: the asks on its key are raised to its version, and the changeset's note is met
abbrev pub with_change : SeenChange → Items → Node → Node
with_change c items n = met (key_shard c.key) c.note (record n { items = items; asks = with_floor c.key c.after n.asks })

-- the item has the changeset's version or more, or took the change from the version before
abbrev pub StaysBy : ℕ → Item → Item → ℕ → ℕ → Change → Type 0
StaysBy bound old new before after change =
    ((after ≤ old.version) × (new ≡ old))
    ⊎ ((old.version ≡ before) × (new ≡ changed_item old change after bound))
