use Rattle.tao_schema.specs.Schema.{types_of}
use Rattle.store_tests.proofs.SoundLemmas.{stays_sound}
use Rattle.store_tests.proofs.following.play.Goals as goal

pub returns-in-Follow-clause-sound : goal.returns-in-Follow-clause-sound
returns-in-Follow-clause-sound c = stays_sound (types_of c.args.schema.now) _ _ c.move_next.ensures.stays c.requires.sound

pub returns-in-Apply-clause-sound : goal.returns-in-Apply-clause-sound
returns-in-Apply-clause-sound c = stays_sound (types_of c.args.schema.now) _ _ c.apply_at.ensures.stays c.requires.sound
