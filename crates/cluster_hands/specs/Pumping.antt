-- What a hand has taken.
use Rattle.std.specs.Prelude.{◌⊎◌}
use Rattle.log_names.specs.Names.{LogNames}
use Rattle.shard_tables.specs.declared.refusal.StoreRefusal.{StoreRefusal}
use Rattle.shared_stores.specs.Making.{Making}
use Rattle.shared_tiers.specs.cluster_pumps.Hands.{SeenHand}
use Rattle.shared_tiers.specs.cluster_pumps.Pumps.{PumpsAs}
use Rattle.shared_tiers.specs.cluster_pumps.declared.pumping.Pumped.TheVariants.{Empty, Failed}

-- the hand's last pump took nothing: as none waited, or the store refused
abbrev pub TakesNoMore : Type 0 → Making → LogNames → SeenHand → SeenHand → Type 0
TakesNoMore fails m log old new = PumpsAs fails m log old new Empty ⊎ ((refusal : StoreRefusal) × PumpsAs fails m log old new (Failed refusal))
