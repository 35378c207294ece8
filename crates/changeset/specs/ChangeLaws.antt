-- What keeps a changeset true.
use Rattle.tao_base.specs.declared.entry.Touch.{Touch}
use Rattle.graph_model.specs.Log.{IsTouchOf}
use Rattle.graph_model.specs.Told.{WhereTold}
use Rattle.shard_log.specs.View.{View, Grows}

-- a touch of a view is one of each view that it grew into
pub record TouchesStay : Type 0 where
  pub stays : (v w : View) (t : Touch) → Grows v w → WhereTold v.log.told (IsTouchOf v.entries t) → WhereTold w.log.told (IsTouchOf w.entries t)
