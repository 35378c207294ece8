-- What an opening leaves of tables that an earlier run left.
use Rattle.std.specs.Prelude.{◌≡◌}
use Rattle.tao_base.specs.declared.id.StoreName.{StoreName}
use Rattle.tao_keeper.specs.Table.{Tables}

-- no log and no open job changed
pub record AreAsBefore (old new : Tables) : Type 0 where
  pub logs : (at : StoreName) → (new at).log ≡ (old at).log
  pub jobs : (at : StoreName) → (new at).jobs ≡ (old at).jobs
