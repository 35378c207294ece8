use Rattle.tao_schema.specs.Schema.{types_of}
use Rattle.core_steps.proofs.ReachLemmas.{apply_reaches}
use Rattle.core_steps.proofs.nodes.Nodes.apply_written.Goals as goal

pub returns-in-Some-clause-reached : goal.returns-in-Some-clause-reached
returns-in-Some-clause-reached c = λ tables.
    apply_reaches tables c.args.route.follower c.args.self.now.fleet c.apply.new.self c.apply.ensures.rest (types_of c.args.config.now.schema) c.args.shard
    c.in-Some.entry c.args.note c.apply.ensures.applies
