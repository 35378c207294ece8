use Rattle.tao_core.specs.Core.{core_state}
use Rattle.tao_core.proofs.HealthLemmas.{trust_usable, trusts}
use Rattle.tao_core.proofs.serving.Core.set_trust.Goals as goal

pub returns : goal.returns
returns c =
    let core = core_state c.self.inside in
    let set = c.set_trust-changed in
    record {
      does = λ keepers link. trusts c.args.word c.args.trusted c.args.place core c.args.self.now c.self.view_is set.new.self set.result
          set.ensures.changed set.ensures.set set.ensures.same keepers link c.health_said.result c.health_said.ensures c.requires.states c.requires.leader;
      usable = trust_usable c.args.word c.args.trusted c.args.place core c.args.self.now c.self.view_is set.new.self set.result
          set.ensures.changed set.ensures.set set.ensures.same;
    }
