use Rattle.std.proofs.Common.{subst, sym}
use Rattle.core_model.specs.Fleet.{HasNode}
use Rattle.tao_core.specs.Core.{CoreState}
use Rattle.tao_core.proofs.Delivering.{inbox_has}
use Rattle.tao_core.proofs.serving.Core.show_inbox.Goals as goal

pub messages-requires : goal.messages-requires
messages-requires c =
    subst (λ (x : CoreState). HasNode c.args.node x.mail) (sym c.self.view_is)
    (inbox_has c.args.self.now c.args.node c.requires.inboxes c.requires.node)
