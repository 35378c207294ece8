use Rattle.std.proofs.Common.{arith, ap, subst, ◌∙◌, sym}
use Rattle.entry_codec.specs.Gives.{Answers}
use Rattle.entry_codec.specs.Reading.{decoded}
use Rattle.entry_codec.proofs.EntryFields.{found, spelled_is_decoded}
use Rattle.entry_codec.proofs.spelled.EntrySpelled.decode.Goals as goal

pub returns-clause-found : goal.returns-clause-found
returns-clause-found c = found c.args.bytes.now c.read_all.result (λ i. omega (arith, c.type_inv.bytes i)) c.read_all.ensures

pub returns-clause-only : goal.returns-clause-only
returns-clause-only c = λ entry fits spelled same. subst (λ r. Answers c.read_all.result r)
    (ap decoded (sym same) ∙ spelled_is_decoded entry fits spelled) c.read_all.ensures
