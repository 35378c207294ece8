use Rattle.std.proofs.Common.{Ok, None, ap, sym, ◌∙◌, false}
use Rattle.read_plan.specs.Readings.{Reading, taken}
use Rattle.read_plan.specs.declared.stages.ReadResult.TheVariants as came
use Rattle.cluster_reads.proofs.TakenSteps.{past_ends, past_log, past_steps}
use Rattle.cluster_reads.specs.Reads.{asked_by}
use Rattle.cluster_reads.proofs.taking.take_past.Goals as goal

pub meet-requires : goal.meet-requires
meet-requires g c =
    c.requires.1.0.log_is ∙ sym (past_log g.J.Sharing.making g.J.Logs.log g.begun (asked_by c.args.read.now.plan) c.args.read.now.seen
    c.args.read.now.plan.at c.in-Some.note c.requires.1.0.stands c.requires.1.1 (sym c.in-Some.ensures.note))

pub returns : goal.returns
returns g c =
    let took = c.take.ensures ∙ ap (λ (q : Reading). taken (came.Keep (Ok None)) 0 false q) c.in-Some.ensures.handed in
    record {
      steps = past_steps g.J.Sharing.making g.J.Logs.log g.begun c.args.read.now.seen c.meet.new.self c.args.read.now.plan c.take.new.self c.in-Some.note
          c.requires.1.0 c.requires.1.1 (sym c.in-Some.ensures.note) c.meet.ensures.grows c.meet.ensures.grows_from_other took;
      refused = past_ends c.args.read.now.plan c.take.new.self c.requires.1.1 took;
    }
