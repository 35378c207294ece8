-- Entries of a sound log stand at their own positions and lie on its shard, and so do the touches of records of its keys.
use Rattle.std.proofs.Common.{◌≡◌, ℕ, List, map, sym, subst}
use Rattle.std.proofs.lemmas.List.Elements.{All-filter, All-map}
use Rattle.std.proofs.lemmas.Option.{get_or_from_slice_get, slice_get_within}
use Rattle.std.specs.Prelude.{All, Some, filter}
use Rattle.tao_base.specs.EdgeTypes.{EdgeTypes}
use Rattle.tao_base.specs.Ids.{shard_of}
use Rattle.tao_base.specs.Keys.{key_shard}
use Rattle.tao_base.specs.declared.entry.Entry.{Entry}
use Rattle.graph_model.specs.Log.{entry_at}
use Rattle.graph_model.specs.Records.{is_news}
use Rattle.graph_model.specs.Soundness.{EdgeUpdate, IsSoundOf, KeepsEnds}
use Rattle.write_model.proofs.Covered.{at_place}
use Rattle.write_model.specs.Writes.{edge_touch}

-- an entry of a sound log stands at its own position, and lies on the log's shard
pub own_place : (types : EdgeTypes) (shard : ℕ) (log : List Entry) (position : ℕ) (e : Entry) → IsSoundOf types shard log → entry_at log position ≡ Some e
    → (entry_at log e.position ≡ Some e) × All (λ t. key_shard t.key ≡ shard) e.touches
own_place types shard log position e sound h =
    let at = at_place types shard log position e sound h in
    let ends : KeepsEnds types shard e =
    subst (KeepsEnds types shard) (get_or_from_slice_get log at.0 e e at.1) (sound.ends at.0 e (slice_get_within log at.0 e at.1)) in
    (subst (λ p. entry_at log p ≡ Some e) (sym at.2) h, ends.here)

-- the touches of records of keys of the shard
pub news_lie : (shard : ℕ) (log : List Entry) (us : List EdgeUpdate) → All (λ u. shard_of u.0 ≡ shard) us
    → All (λ t. key_shard t.key ≡ shard) (map (edge_touch log) (filter (is_news log) us))
news_lie shard log us here =
    All-map (λ t. key_shard t.key ≡ shard) (edge_touch log) (filter (is_news log) us) (All-filter (is_news log) (λ u. shard_of u.0 ≡ shard) us here)
