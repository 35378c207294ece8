use Rattle.std.proofs.Common.{◌≡◌, ◌∙◌, ap, subst, sym}
use Rattle.core_plans.specs.HeldWrites.{IsWriteUnderWay, write_is_down}
use Rattle.core_plans.proofs.HeldWriteStages.{ended_still}
use Rattle.core_plans.proofs.StageLemmas.{refusal_stage}
use Rattle.core_plans.proofs.writes.end_down.Goals as goal
use Rattle.write_plan.specs.Plans.{after_stage, next_of}
use Rattle.write_plan.specs.Stages.{result_stage, write_refused}

pub returns : goal.returns
returns c =
    let p = c.args.plan.now in
    let reply = write_is_down c.args.node p in
    let came : c.refused-came.result ≡ write_refused (next_of p) reply = c.refused-came.ensures
    ∙ ap (λ at. write_refused at c.write_is_down-reply.result) c.next.ensures ∙ ap (write_refused (next_of p)) c.write_is_down-reply.ensures in
    let then = c.take.ensures.next (ap result_stage came ∙ refusal_stage (next_of p) reply c.requires.goes_on) ∙ ap (λ r. after_stage p r 0) came in
    record {
      then = then;
      write = λ tells s tables f is. subst (IsWriteUnderWay tells s tables f) (sym then) (ended_still tells s tables f p is (next_of p) reply 0);
    }
