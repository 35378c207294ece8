use Rattle.core_model.proofs.laws.stores_go_on.Goals as goal
use Rattle.core_model.proofs.FoundStores.{stores_go_on}

-- src/laws.rt:84:1
pub returns : goal.returns
returns c = stores_go_on
