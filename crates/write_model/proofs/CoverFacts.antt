-- That stores are covered has at most one proof, so a type may keep it as its invariant.
use Rattle.std.proofs.Common.{ℕ, List}
use Rattle.std.proofs.Props.{props}
use Rattle.std.specs.Prelude.{Option}
use Rattle.tao_base.specs.EdgeTypes.{EdgeTypes}
use Rattle.tao_base.specs.declared.entry.Entry.{Entry}
use Rattle.graph_model.specs.Soundness.{EdgeUpdate}
use Rattle.write_model.specs.Merges.{IsCovered, Stores}
use Rattle.write_model.specs.Steps.{AreSoundAndCovered}

-- of one shard's store
pub covered_is_a_fact : (types : EdgeTypes) (log : ℕ → List Entry) (epoch : ℕ → ℕ) (job : ℕ → Option (List EdgeUpdate)) (shard : ℕ)
    → IsProp (IsCovered types log epoch job shard)
covered_is_a_fact types log epoch job shard = hlevel props

-- of all stores, and that their logs are sound
pub sound_and_covered_is_a_fact : (types : EdgeTypes) (stores : Stores) → IsProp (AreSoundAndCovered types stores)
sound_and_covered_is_a_fact types stores = hlevel props
