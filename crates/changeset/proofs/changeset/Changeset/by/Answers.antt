use Rattle.std.proofs.Common.{rules}
use Rattle.changeset.proofs.ChangeLemmas.{is_one_touch, touch_is}
use Rattle.changeset.proofs.changeset.Changeset.by.Goals as goal

pub invariant_of-result : goal.invariant_of-result
invariant_of-result c = is_one_touch c.args.note c.args.touch.now _ _ (search rules) (search rules) c.notes_are_sound.ensures.sound c.requires

pub returns-clause-touch : goal.returns-clause-touch
returns-clause-touch c = touch_is c.args.note c.args.touch.now _ _ (search rules) (search rules) c.notes_are_sound.ensures.sound c.requires

pub returns-clause-one_touch : goal.returns-clause-one_touch
returns-clause-one_touch c = is_one_touch c.args.note c.args.touch.now _ _ (search rules) (search rules) c.notes_are_sound.ensures.sound c.requires
