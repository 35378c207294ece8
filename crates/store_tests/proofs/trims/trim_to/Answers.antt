use Rattle.std.proofs.Common.{refl}
use Rattle.tao_schema.specs.Schema.{types_of}
use Rattle.store_tests.proofs.SoundLemmas.{cut_sound}
use Rattle.store_tests.proofs.trims.trim_to.Goals as goal

pub returns-in_err-trim-clause-sound : goal.returns-in_err-trim-clause-sound
returns-in_err-trim-clause-sound c =
    cut_sound (types_of c.args.schema.now) c.trim.result _ _ c.args.master.now.name _ (c.trim.ensures.tables refl) c.requires.sound

pub returns-clause-sound : goal.returns-clause-sound
returns-clause-sound c =
    cut_sound (types_of c.args.schema.now) c.trim.result _ _ c.args.master.now.name _ (c.trim.ensures.tables refl) c.requires.sound
