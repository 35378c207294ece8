use Rattle.tao_core.specs.Core.{core_state}
use Rattle.tao_core.specs.Deliveries.{IsMarkSaid}
use Rattle.tao_core.proofs.Delivering.{processed}
use Rattle.tao_core.proofs.serving.Core.process.Goals as goal

pub returns : goal.returns
returns c =
    let said = c.said-message_said.result in
    let left = c.deliver-delivery.new.self in
    let delivery = c.deliver-delivery.result in
    let ends = c.deliver-delivery.ensures in
    let at : IsMarkSaid (record (core_state c.self.inside) { fleet = left }) c.args.node c.args.message.shard c.mark_said-mark.result =
    record { low = delivery.mark; low_is = ends.mark; mark_is = c.mark_said-mark.ensures } in
    let done =
    processed c.args.word c.args.node c.args.message said delivery.dropped c.mark_said-mark.result (core_state c.self.inside) c.args.self.now c.self.view_is
    left c.said-message_said.ensures ends.delivers at ends.fleet ends.goes in
    record { does = done.does; fleet = done.fleet; on = done.on; rest = done.rest }
