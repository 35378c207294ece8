use Rattle.std.proofs.Common.{refl}
use Rattle.tao_schema.specs.Schema.{types_of}
use Rattle.store_tests.proofs.SoundLemmas.{gains_sound}
use Rattle.store_tests.proofs.trims.write.Goals as goal

pub write-requires-clause-sound : goal.write-requires-clause-sound
write-requires-clause-sound c = λ told. c.requires.sound.of_each c.args.master.now.name

pub returns-clause-sound : goal.returns-clause-sound
returns-clause-sound c =
    gains_sound (types_of c.args.schema.now) _ _ c.args.master.now.name _ _ (c.write.ensures.done.tables refl) c.requires.sound
    (c.write.ensures.done.sound refl)
