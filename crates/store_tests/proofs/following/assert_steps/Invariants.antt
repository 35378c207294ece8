use Rattle.keeper_map.specs.MapKeeper.{told_by}
use Rattle.tao_schema.specs.Schema.{types_of}
use Rattle.store_tests.specs.Stores.{AreSound, Follows}
use Rattle.store_tests.proofs.following.assert_steps.Given as goal

-- the slave still follows its master
abbrev pub invariant-loop-step : goal.invariant-loop-step
invariant-loop-step g l = record {
  follows : Follows (told_by l.near) (told_by l.far) l.master l.slave;
  sound : AreSound (types_of l.schema) (told_by l.near);
}
