-- Laws of the join of two records of one edge.
use Rattle.std.specs.Prelude.{◌≡◌}
use Rattle.tao_base.specs.declared.edge.EdgeState.{EdgeState}
use Rattle.graph_model.specs.Records.{Agree, later_of}

-- joining records of one edge in any order and any number of times gives one record
pub record JoinLaws : Type 0 where
  pub commutes : (x y : EdgeState) → Agree x y → later_of x y ≡ later_of y x
  pub associates : (x y z : EdgeState) → later_of (later_of x y) z ≡ later_of x (later_of y z)
  pub repeats : (x : EdgeState) → later_of x x ≡ x
