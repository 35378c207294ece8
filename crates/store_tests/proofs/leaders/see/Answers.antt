use Rattle.tao_schema.specs.Schema.{types_of}
use Rattle.store_tests.proofs.SoundLemmas.{stays_sound}
use Rattle.store_tests.proofs.leaders.see.Goals as goal

pub add-requires-clause-sound : goal.add-requires-clause-sound
add-requires-clause-sound c =
    stays_sound (types_of c.args.schema.now) _ _ c.read_through.ensures.stays
    (stays_sound (types_of c.args.schema.now) _ _ c.open_master.ensures.stays c.requires.sound)
