use Rattle.std.proofs.Common.{ap, ◌∙◌}
use Rattle.shared_inbox.specs.Messages.{SeenInboxPass}
use Rattle.cluster_pumps.proofs.PumpAnswers.{one_inbox}
use Rattle.cluster_pumps.proofs.delivering.pump_inbox.Goals as goal

pub take-requires : goal.take-requires
take-requires g c =
    ap (λ (p : SeenInboxPass). p.inbox) c.loop.invariant.same
    ∙ one_inbox c.args.nodes.now c.args.node c.args.pass.now.inbox c.in-Some.inbox.now c.requires.inbox c.in-Some.ensures.some
