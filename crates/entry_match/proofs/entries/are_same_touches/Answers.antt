use Rattle.std.proofs.Common.{refl}
use Rattle.std.proofs.lemmas.Slice.Zip.{zip_end}
use Rattle.entry_match.proofs.SameLists.{same_at_all}
use Rattle.entry_match.proofs.entries.are_same_touches.Goals as goal

pub returns : goal.returns
returns c = (
  λ is. same_at_all c.args.touches.now c.args.others.now _ c.if-touches-others.false
      (zip_end c.args.touches.now c.args.others.now c.loop-touch.yielded _ _ c.next.new.self _ (cc) (cc) c.loop-touch.yielded_by c.in-None.is
      c.next.ensures.steps)
      c.loop-touch.invariant,
  λ same. refl,
)
