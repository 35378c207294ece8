use Rattle.std.proofs.Common.{◌≡◌, ◌∙◌, Err, ap, subst, sym}
use Rattle.core_plans.specs.HeldWrites.{IsWriteUnderWay, entry_position, way_given_up}
use Rattle.core_plans.proofs.HeldWriteStages.{applied_still}
use Rattle.core_plans.proofs.writes.give_up_way.Goals as goal
use Rattle.replies.specs.declared.refusals.Refusal.TheVariants.{Memory}
use Rattle.replies.specs.declared.reply.Reply.TheVariants.{Refused}
use Rattle.write_plan.specs.Plans.{after_stage, answered_entry}
use Rattle.write_plan.specs.declared.results.WriteResult.TheVariants as came

pub returns : goal.returns
returns c =
    let p = c.args.plan.now in
    let then : c.take.new.self ≡ way_given_up p = c.take.ensures.next (sym c.requires)
    ∙ ap (λ reply. after_stage p (came.Apply (Err reply)) 0) c.out_of_memory_back-reply.ensures in
    record {
      then = then;
      write = λ tells s tables f is. subst (IsWriteUnderWay tells s tables f) (sym then)
          (applied_still tells s tables f p is (Err (Refused (Memory (entry_position (answered_entry p))))) 0);
    }
