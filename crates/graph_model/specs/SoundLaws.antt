-- Laws of sound logs.
use Rattle.std.specs.Prelude.{ℕ, true, List, [], ◌∷◌, ◌++◌, take, All, Contains, IfSome, Some, slice_get, ◌≡◌, ◌+◌, ◌<◌}
use Rattle.tao_base.specs.EdgeTypes.{EdgeTypes}
use Rattle.tao_base.specs.Stamps.{stamp_of, is_earlier}
use Rattle.tao_base.specs.declared.edge.EdgeState.{EdgeState}
use Rattle.tao_base.specs.declared.id.Id.{Id}
use Rattle.tao_base.specs.declared.id.AType.{AType}
use Rattle.tao_base.specs.declared.entry.Entry.{Entry}
use Rattle.graph_model.specs.Edges.{edge_record, live_time}
use Rattle.graph_model.specs.Log.{version}
use Rattle.graph_model.specs.Records.{HasStamp}
use Rattle.graph_model.specs.Soundness.{CanFollow, EdgeUpdate, IsSound, IsSoundOf, KeepsEnds, update_at, updates_of, was_of}

-- a sound log grows by an entry that can follow it, and each beginning of a sound log is sound
pub record SoundGrows (log : List Entry) (e : Entry) : Type 0 where
  pub grows : IsSound log → CanFollow log e → IsSound (log ++ e ∷ [])
  pub begins : IsSound log → (n : ℕ) → IsSound (take n log)

-- a sound log of a shard grows by an entry that can follow it and keeps both ends, and each beginning of such a log is one
pub record SoundOfGrows (shard : ℕ) (log : List Entry) (e : Entry) : Type 0 where
  pub grows : (types : EdgeTypes) → IsSoundOf types shard log → CanFollow log e → KeepsEnds types shard e → IsSoundOf types shard (log ++ e ∷ [])
  pub begins : (types : EdgeTypes) → IsSoundOf types shard log → (n : ℕ) → IsSoundOf types shard (take n log)

-- of the entry at a place of a sound log, each touch's version is the key's once the entry stands, and `was` the time of its edge just before
pub record TouchesTell (log : List Entry) (place : ℕ) (e : Entry) : Type 0 where
  pub versions : All (λ t. t.version ≡ version (take (place + 1) log) t.key) e.touches
  pub times : All (λ t. IfSome (update_at t.key t.change) (λ u. was_of t.change ≡ live_time (edge_record (take place log) u.0 u.1 u.2))) e.touches

-- in a sound log each touch's version is its key's once its entry stands, and `was` the time of its edge just before
abbrev pub SoundTouchesTell : List Entry → Type 0
SoundTouchesTell log = IsSound log → (place : ℕ) (e : Entry) → slice_get log place ≡ Some e → TouchesTell log place e

-- of two touches of one edge in a sound log the later has the later stamp
pub record StampsRise (log : List Entry) : Type 0 where
  pub rise : IsSound log → (m n : ℕ) (earlier later : Entry) → m < n → slice_get log m ≡ Some earlier → slice_get log n ≡ Some later
      → (id1 : Id) (atype : AType) (id2 : Id) (old new : EdgeState)
      → Contains (updates_of earlier) (id1, atype, id2, old) → Contains (updates_of later) (id1, atype, id2, new)
      → is_earlier (stamp_of old) (stamp_of new) ≡ true

-- a stamp that a log has reached is never lost, and what an entry writes is reached once it stands
pub record StampsStay (log : List Entry) : Type 0 where
  pub stays : (more : List Entry) (u : EdgeUpdate) → IsSound (log ++ more) → HasStamp log u → HasStamp (log ++ more) u
  pub reached : (e : Entry) (u : EdgeUpdate) → IsSound (log ++ e ∷ []) → Contains (updates_of e) u → HasStamp (log ++ e ∷ []) u
