use Rattle.std.proofs.Common.{subst, sym}
use Rattle.request_check.specs.Health.{IsPlacedHealth}
use Rattle.tao_core.specs.Core.{moment}
use Rattle.tao_core.specs.Health.{AnswersHealth}
use Rattle.tao_core.proofs.serving.Core.perform_health.Goals as goal

pub go_down-requires-clause-node : goal.go_down-requires-clause-node
go_down-requires-clause-node g c = subst (IsPlacedHealth c.args.self.now.settings) c.in-Down.is c.requires.can

pub come_up-requires-clause-node : goal.come_up-requires-clause-node
come_up-requires-clause-node g c = subst (IsPlacedHealth c.args.self.now.settings) c.in-Up.is c.requires.can

pub set_trust-requires-clause-leader : goal.set_trust-requires-clause-leader
set_trust-requires-clause-leader g c = subst (IsPlacedHealth c.args.self.now.settings) c.in-Suspect.is c.requires.can

pub set_trust-requires-in-Trust-clause-leader : goal.set_trust-requires-in-Trust-clause-leader
set_trust-requires-in-Trust-clause-leader g c = subst (IsPlacedHealth c.args.self.now.settings) c.in-Trust.is c.requires.can

pub returns-in-Down : goal.returns-in-Down
returns-in-Down g c =
    let keepers = g.K.Keeper.state c.args.keepers.now in
    let did = c.go_down in
    record {
      does = λ link. subst (λ a. AnswersHealth g.K.Keeper.TELLS a (moment c.args.self.now keepers link) did.result (moment did.new.self keepers link))
          (sym c.in-Down.is) (did.ensures.does keepers link);
      usable = did.ensures.usable g.K.Keeper.TELLS keepers c.requires.keepers;
    }

pub returns-in-Up : goal.returns-in-Up
returns-in-Up g c =
    let before = g.K.Keeper.state c.args.keepers.now in
    let did = c.come_up in
    let now = g.K.Keeper.state did.new.keepers in
    record {
      does = λ link. subst (λ a. AnswersHealth g.K.Keeper.TELLS a (moment c.args.self.now before link) did.result (moment did.new.self now link))
          (sym c.in-Up.is) (did.ensures.does link);
      usable = did.ensures.usable;
    }

pub returns-in-Suspect : goal.returns-in-Suspect
returns-in-Suspect g c =
    let keepers = g.K.Keeper.state c.args.keepers.now in
    let did = c.set_trust in
    record {
      does = λ link. subst (λ a. AnswersHealth g.K.Keeper.TELLS a (moment c.args.self.now keepers link) did.result (moment did.new.self keepers link))
          (sym c.in-Suspect.is) (did.ensures.does keepers link);
      usable = did.ensures.usable g.K.Keeper.TELLS keepers c.requires.keepers;
    }

pub returns-in-Trust : goal.returns-in-Trust
returns-in-Trust g c =
    let keepers = g.K.Keeper.state c.args.keepers.now in
    let did = c.set_trust-in-Trust in
    record {
      does = λ link. subst (λ a. AnswersHealth g.K.Keeper.TELLS a (moment c.args.self.now keepers link) did.result (moment did.new.self keepers link))
          (sym c.in-Trust.is) (did.ensures.does keepers link);
      usable = did.ensures.usable g.K.Keeper.TELLS keepers c.requires.keepers;
    }
