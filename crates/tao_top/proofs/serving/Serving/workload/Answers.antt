use Rattle.std.proofs.Common.{◌≡◌, ap, sym, ◌∙◌}
use Rattle.std.proofs.lemmas.Result.{IfOk-weaker}
use Rattle.load_gen.specs.Requests.{requests_of}
use Rattle.tao_core.specs.Core.{CoreState}
use Rattle.tao_top.specs.Making.{under_way}
use Rattle.topology.specs.Config.{Settings}
use Rattle.tao_top.proofs.serving.Serving.workload.Goals as goal

pub returns-clause-made : goal.returns-clause-made
returns-clause-made c =
    let same : c.self.inside.config.now ≡ c.args.self.now.settings = sym c.self.invariant ∙ ap (λ (core : CoreState). core.settings) c.self.view_is in
    IfOk-weaker c.of.result _ _
    (λ making is. is ∙ ap (λ (s : Settings). under_way (requests_of s c.args.seed c.args.calls) c.args.calls 0) same) c.of.ensures.made
