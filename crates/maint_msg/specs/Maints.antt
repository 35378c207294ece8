-- How contracts see a message, and what it says of its note's view.
use Rattle.std.specs.Prelude.{◌≡◌, ℕ, List, All, Some}
use Rattle.std.specs.Option.{option_map}
use Rattle.tao_base.specs.declared.entry.Entry.{Entry}
use Rattle.tao_base.specs.Keys.{key_shard}
use Rattle.shard_log.specs.graph_model.Log.{entry_at}
use Rattle.shard_log.specs.graph_model.Told.{WhereTold}
use Rattle.shard_log.specs.View.{View}
use Rattle.maint_msg.specs.KeyVersions.{keys_of}
use Rattle.maint_msg.specs.declared.key_versions.KeyVersion.{KeyVersion}

-- the keys that were touched at a position of a shard's log, with what was seen of the log
pub record SeenMaint : Type 0 where
  pub shard : ℕ
  pub position : ℕ
  pub keys : List KeyVersion
  pub note : View

-- the message of these keys' touches at a position of a shard's log, with what was seen of the log
abbrev pub seen_maint : ℕ → ℕ → List KeyVersion → View → SeenMaint
seen_maint shard position keys note = record { shard = shard; position = position; keys = keys; note = note }

-- the message with another note, of one who has seen more of the log
abbrev pub maint_with_note : SeenMaint → View → SeenMaint
maint_with_note m note = record m { note = note }

-- each key lies on the shard
abbrev pub AreOn : ℕ → List KeyVersion → Type 0
AreOn shard keys = All (λ k. key_shard k.key ≡ shard) keys

-- the log has an entry at the position, which touches these keys, and they lie on the shard
pub record NamesEntry (log : List Entry) (shard position : ℕ) (keys : List KeyVersion) : Type 0 where
  pub names : option_map keys_of (entry_at log position) ≡ Some keys
  pub here : AreOn shard keys

-- where the log is told, the message names an entry of what was seen
abbrev pub IsMaint : SeenMaint → Type 0
IsMaint m = WhereTold m.note.log.told (NamesEntry m.note.entries m.shard m.position m.keys)
