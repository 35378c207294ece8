use Rattle.changeset.proofs.ChangeLemmas.{touches_stay}
use Rattle.changeset.specs.Changes.{seen_change, own_touch}
use Rattle.changeset.proofs.changeset.Changeset.look.Goals as goal

pub invariant_of-self : goal.invariant_of-self
invariant_of-self c =
    let was = c.self.inside in
    record {
      next = c.self.invariant.next;
      touched = touches_stay.stays was.note c.look.new.self
          (own_touch (seen_change was.key was.before was.after was.change was.note)) c.look.ensures.grows c.self.invariant.touched;
    }
