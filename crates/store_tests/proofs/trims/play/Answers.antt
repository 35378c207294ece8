use Rattle.shard_tables.specs.declared.store.StoreRole.TheVariants.{Master}
use Rattle.tao_schema.specs.Schema.{types_of}
use Rattle.store_tests.proofs.SoundLemmas.{stays_sound, stays_store}
use Rattle.store_tests.proofs.trims.play.Goals as goal

pub returns-in-Read-clause-master : goal.returns-in-Read-clause-master
returns-in-Read-clause-master c = stays_store Master _ _ c.args.master.now c.read.ensures c.requires.master

pub returns-in-Read-clause-sound : goal.returns-in-Read-clause-sound
returns-in-Read-clause-sound c = stays_sound (types_of c.args.schema.now) _ _ c.read.ensures c.requires.sound
