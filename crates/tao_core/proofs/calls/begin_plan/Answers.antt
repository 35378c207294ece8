use Rattle.std.proofs.Common.{subst, sym}
use Rattle.core_sessions.specs.Sessions.{sessions_of}
use Rattle.tao_core.specs.HeldCalls.{IsNotBegun}
use Rattle.tao_core.proofs.HeldBegun.{begins_at, none_for}
use Rattle.tao_core.proofs.calls.begin_plan.Goals as goal

pub returns-in-Some-clause-begins : goal.returns-in-Some-clause-begins
returns-in-Some-clause-begins c =
    begins_at c.args.topology.now (sessions_of c.args.sessions.now) c.args.call.now c.call_start-start.result c.call_shard-shard.result
    c.call_start-start.ensures c.call_shard-shard.ensures c.in-Some.follower c.in-Some.ensures.chosen

pub returns-in-None-clause-refused : goal.returns-in-None-clause-refused
returns-in-None-clause-refused c =
    subst (IsNotBegun c.args.topology.now (sessions_of c.args.sessions.now) c.args.call.now) (sym c.no_server.ensures)
    (none_for c.args.topology.now (sessions_of c.args.sessions.now) c.args.call.now c.call_start-start.result c.call_shard-shard.result
    c.call_start-start.ensures c.call_shard-shard.ensures c.in-None.ensures.chosen)
