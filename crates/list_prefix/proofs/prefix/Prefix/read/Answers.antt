use Rattle.list_prefix.proofs.Verdicts.{each_if_ok, log_if_ok}
use Rattle.list_prefix.proofs.prefix.Prefix.read.Goals as goal

pub returns-clause-of_each_list : goal.returns-clause-of_each_list
returns-clause-of_each_list c = each_if_ok c.args.self.now c.args.query.now c.args.bound c.judge.result c.judge.ensures.exact

pub returns-clause-of_log : goal.returns-clause-of_log
returns-clause-of_log c = log_if_ok c.args.self.now c.args.query.now c.args.bound c.judge.result c.judge.ensures.exact
