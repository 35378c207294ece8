use Rattle.std.proofs.Common.{arith}
use Rattle.std.proofs.lemmas.Grind.{common_steps}
use Rattle.tao_link.proofs.Mended.{all_but_one}
use Rattle.tao_link.proofs.switch.mend.Goals as goal

pub returns : goal.returns
returns c = let left = all_but_one _ c.args.at _ (λ x b q called. grind (arith, common_steps)) _ _ c.retain.ensures.filtered in
    record { here = (λ gone. absurd (left.0 gone), λ e. cc); others = left.1 }
