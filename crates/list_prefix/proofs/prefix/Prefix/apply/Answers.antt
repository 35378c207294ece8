use Rattle.list_prefix.proofs.Exact.{exact_on_ok}
use Rattle.list_prefix.proofs.prefix.Prefix.apply.Goals as goal

pub returns-clause-exact : goal.returns-clause-exact
returns-clause-exact c = exact_on_ok c.args.change.now c.args.self.now c.take_change.new.self c.args.bound c.take_change.result c.take_change.ensures.after
