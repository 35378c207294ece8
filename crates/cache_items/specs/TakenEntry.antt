-- What a node does with an entry that its own side wrote.
use Rattle.std.specs.Prelude.{◌≡◌, ℕ, List, [], ◌∷◌}
use Rattle.tao_base.specs.EdgeTypes.{EdgeTypes}
use Rattle.tao_base.specs.declared.entry.Entry.{Entry}
use Rattle.tao_base.specs.declared.entry.Touch.{Touch}
use Rattle.served_shards.specs.shard_log.View.{View}
use Rattle.changeset.specs.Changes.{change_by}
use Rattle.maint_msg.specs.KeyVersions.{keys_of}
use Rattle.served_shards.specs.Served.{changed_at, marking}
use Rattle.cache_items.specs.Node.{Items, Node, met, raised_all}
use Rattle.cache_items.specs.Taken.{ChangesItems}

-- what the changesets of the touches do to the items, one after another
abbrev pub TakesTouches : EdgeTypes → View → List Touch → Items → Items → Type 0
TakesTouches types note [] old new = new ≡ old
TakesTouches types note (t ∷ ts) old new = (between : Items) × ChangesItems types (change_by t note) old between × TakesTouches types note ts between new

-- the node after the changesets of an entry left these items: the note is met, and the asks on the touched keys are raised
abbrev pub with_applied : ℕ → Entry → View → Items → Node → Node
with_applied shard e note items n = met shard note (record n { items = items; asks = raised_all (keys_of e) n.asks })

-- the node after the changesets of an entry left these items, as in `with_applied`, and with the entry's position marked
abbrev pub with_entry : ℕ → Entry → View → Items → Node → Node
with_entry shard e note items n =
    let applied : Node = with_applied shard e note items n in
    record applied { served = changed_at shard (marking e.position) applied.served }

-- the node took all changesets of the entry, and processed no position
pub record AppliesEntry (types : EdgeTypes) (shard : ℕ) (e : Entry) (note : View) (old new : Node) : Type 0 where
  pub items : TakesTouches types note e.touches old.items new.items
  pub node_is : new ≡ with_applied shard e note new.items old

-- the node took all changesets of the entry, and processed its position
pub record TakesEntry (types : EdgeTypes) (shard : ℕ) (e : Entry) (note : View) (old new : Node) : Type 0 where
  pub items : TakesTouches types note e.touches old.items new.items
  pub node_is : new ≡ with_entry shard e note new.items old
