-- How contracts see a fill, and what it says of its note's view.
use Rattle.std.specs.Prelude.{ℕ, ◌≤◌, List, length, take}
use Rattle.tao_base.specs.declared.entry.Entry.{Entry}
use Rattle.tao_base.specs.declared.id.Key.{Key}
use Rattle.tao_base.specs.declared.id.Key.TheVariants.{Obj, List as Assocs}
use Rattle.graph_model.specs.Log.{version}
use Rattle.graph_model.specs.Prefixes.{IsExactObject}
use Rattle.graph_model.specs.Told.{WhereTold}
use Rattle.list_prefix.specs.ListPrefix.{IsExactPrefix}
use Rattle.shard_log.specs.View.{View}
use Rattle.sealed_item.specs.declared.content.Content.{Content}
use Rattle.sealed_item.specs.declared.content.Content.TheVariants.{Object as ObjectIs, List as ListIs}

-- the content of a key at a version, as of a number of entries, with what was seen of the log
pub record SealedItem : Type 0 where
  pub key : Key
  pub version : ℕ
  pub as_of : ℕ
  pub content : Content
  pub note : View

-- the fill of a key with a content at a version, as of a number of entries, with what was seen of the log
abbrev pub sealed_item : Key → ℕ → ℕ → Content → View → SealedItem
sealed_item key at as_of content note = record { key = key; version = at; as_of = as_of; content = content; note = note }

-- the fill with another note, of one who has seen more of the log
abbrev pub fill_with_note : SealedItem → View → SealedItem
fill_with_note item note = record item { note = note }

-- the content is of the key's kind, and exact at the version. Of a list any number of first edges is exact: the bound of its type is no matter of the log
abbrev pub IsExactContent : List Entry → Key → ℕ → Content → Type 0
IsExactContent log (Obj id) at (ObjectIs found) = IsExactObject log id at found
IsExactContent log (Obj id) at (ListIs prefix) = ⊥
IsExactContent log (Assocs id1 atype) at (ListIs prefix) = IsExactPrefix log id1 atype at prefix
IsExactContent log (Assocs id1 atype) at (ObjectIs found) = ⊥

-- the version is at least that of the key in so many first entries, which the log has
pub record IsSince (log : List Entry) (key : Key) (at as_of : ℕ) : Type 0 where
  pub within : as_of ≤ length log
  pub since : version (take as_of log) key ≤ at

-- the content is exact at the version, which is not before the first `as_of` entries
pub record IsFill (log : List Entry) (key : Key) (at as_of : ℕ) (content : Content) : Type 0 where
  pub exact : IsExactContent log key at content
  pub since : IsSince log key at as_of

-- where the log is told, the item is a fill of what was seen
abbrev pub IsSealed : SealedItem → Type 0
IsSealed item = WhereTold item.note.log.told (IsFill item.note.entries item.key item.version item.as_of item.content)
