use Rattle.std.proofs.Common.{refl}
use Rattle.std.proofs.lemmas.Slice.Zip.{zip_end}
use Rattle.entry_match.proofs.SameLists.{same_at_all}
use Rattle.entry_match.proofs.data.are_same_pairs.Goals as goal

pub returns : goal.returns
returns c = (
  λ is. same_at_all c.args.pairs.now c.args.others.now _ c.if-pairs-others.false
      (zip_end c.args.pairs.now c.args.others.now c.loop-pair.yielded _ _ c.next.new.self _ (cc) (cc) c.loop-pair.yielded_by c.in-None.is
      c.next.ensures.steps)
      c.loop-pair.invariant,
  λ same. refl,
)
