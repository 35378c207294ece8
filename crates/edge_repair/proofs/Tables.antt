-- Tables that gain an entry, or stay.
use Rattle.std.proofs.Common.{◌∙◌, refl}
use Rattle.std.specs.Prelude.{Option, Some, None, Result, Ok, Err, IsErr}
use Rattle.edge_repair.specs.JobBetween.{JobBetween}
use Rattle.edge_repair.specs.Merging.{MergesBy, RepairsAs}
use Rattle.edge_repair.specs.declared.refusal.RepairRefusal.{RepairRefusal}
use Rattle.edge_repair.specs.declared.repairs.RepairOutcome.{RepairOutcome}
use Rattle.shard_tables.specs.Written.{TableGains}
use Rattle.tao_base.specs.declared.entry.Entry.{Entry}
use Rattle.tao_base.specs.declared.id.StoreName.{StoreName}
use Rattle.tao_keeper.specs.Table.{Stays, Tables}
use Rattle.tao_link.specs.declared.link.Carry.{Carry}

-- a table that gains an entry, or none, and after which nothing changes
pub gains_and_stays : (old mid new : Tables) (at : StoreName) (added : Option Entry) → TableGains old mid at added None → Stays mid new
    → TableGains old new at added None
gains_and_stays old mid new at None gains stays = λ s. stays s ∙ gains s
gains_and_stays old mid new at (Some e) gains stays = record { here = stays at ∙ gains.here; others = λ s apart. stays s ∙ gains.others s apart }

-- a repair that is refused before the end of the job
pub refused_repairs : (j : JobBetween) (failed : Option Carry) (old new : Tables) (result : Result RepairOutcome RepairRefusal) → IsErr result
    → MergesBy j failed old new result → RepairsAs j failed old new result
refused_repairs j failed old new (Ok repaired) err merges = absurd (cc)
refused_repairs j failed old new (Err refusal) err merges = record { between = new; merges = merges; ends = λ s. refl }
