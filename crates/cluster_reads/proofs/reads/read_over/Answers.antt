use Rattle.std.proofs.Common.{ℕ, subst}
use Rattle.core_model.specs.Reads.{IsRightAnswer, given_of, wanted}
use Rattle.log_names.specs.Names.{IsOfLog}
use Rattle.session_pass.specs.Passes.{ReachesIn}
use Rattle.tao_base.specs.Queries.{query_key}
use Rattle.tao_base.specs.declared.query.Query.{Query}
use Rattle.tao_schema.specs.Schema.{types_of}
use Rattle.cluster_reads.proofs.reads.read_over.Goals as goal

pub returns-clause-given : goal.returns-clause-given
returns-clause-given g c =
    subst (λ (q : Query). (floor : ℕ) → ReachesIn c.args.seen.now (query_key q) floor
    → IsRightAnswer (types_of g.J.Sharing.making.settings.schema) (IsOfLog g.J.Logs.log) (wanted q floor) (given_of c.in_ok-read.read.out))
    c.query-query.ensures c.in_ok-read.ensures.given
