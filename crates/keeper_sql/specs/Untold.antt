-- What is said of tables that aren't told.
use Rattle.std.specs.Prelude.{false}
use Rattle.std.proofs.lemmas.Bool.{false≢true}
use Rattle.graph_model.specs.Told.{WhereTold}

-- whatever is said of tables that aren't told holds
pub of_nothing_told : {P : Type 0} → WhereTold false P
of_nothing_told told = absurd (false≢true told)
