use Rattle.keeper_map.specs.MapKeeper.{told_by}
use Rattle.shard_tables.specs.declared.store.StoreRole.TheVariants.{Master}
use Rattle.tao_schema.specs.Schema.{types_of}
use Rattle.store_tests.specs.Stores.{AreSound, IsStoreAs}
use Rattle.store_tests.proofs.trims.assert_steps.Given as goal

-- the store may still be written to
abbrev pub invariant-loop-step : goal.invariant-loop-step
invariant-loop-step g l = record {
  master : IsStoreAs Master (told_by l.keeper) l.master;
  sound : AreSound (types_of l.schema) (told_by l.keeper);
}
