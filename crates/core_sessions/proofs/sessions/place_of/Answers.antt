use Rattle.std.proofs.Common.{rules, nat_lt}
use Rattle.std.proofs.lemmas.List.Sorted.{IsPartitionPoint-from_clause}
use Rattle.core_sessions.proofs.InOrder.{lower_first}
use Rattle.core_sessions.proofs.sessions.place_of.Goals as goal

pub returns-clause-place : goal.returns-clause-place
returns-clause-place c =
    IsPartitionPoint-from_clause (λ p. nat_lt p.session c.args.session) _ _ c.partition_point.ensures.partitioned
    (lower_first c.args.session c.args.passes.now c.requires) (λ a r f k. search rules)
