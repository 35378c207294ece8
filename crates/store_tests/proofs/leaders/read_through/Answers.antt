use Rattle.std.proofs.Common.{◌∙◌, ap, refl}
use Rattle.served_shards.specs.Served.{log_at}
use Rattle.store_tests.proofs.ServesLemmas.{answer_same}
use Rattle.store_tests.proofs.leaders.read_through.Goals as goal

pub answer-requires-clause-log : goal.answer-requires-clause-log
answer-requires-clause-log c = ap (λ k. log_at k c.args.leader.now.served) c.requires.there ∙ c.requires.log

pub returns-in_err-given-clause-log : goal.returns-in_err-given-clause-log
returns-in_err-given-clause-log c =
    answer_same 1 c.args.leader.now c.answer.new.self _ c.args.store.now _ _ c.answer.result refl c.answer.ensures.given c.answer.ensures.err ∙ c.requires.log

pub returns-clause-log : goal.returns-clause-log
returns-clause-log c =
    answer_same 1 c.args.leader.now c.answer.new.self _ c.args.store.now _ _ c.answer.result refl c.answer.ensures.given c.answer.ensures.err ∙ c.requires.log
