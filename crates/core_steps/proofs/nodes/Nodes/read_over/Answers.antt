use Rattle.std.proofs.Common.{ap}
use Rattle.core_steps.specs.World.{World, world}
use Rattle.core_steps.specs.declared.nodes.Nodes.{Nodes}
use Rattle.core_steps.proofs.LinkLemmas.{link_trans, went_on}
use Rattle.core_steps.proofs.ReadLemmas.{on_same}
use Rattle.core_steps.proofs.nodes.Nodes.read_over.Goals as goal

pub returns-in_err-carried-2-clause-on : goal.returns-in_err-carried-2-clause-on
returns-in_err-carried-2-clause-on g c =
    let shown = g.L.Link.shown in
    let before = shown c.args.link.now in
    let there = shown c.carried.new.link in
    let after = shown c.carried-2.new.link in
    let old : World = world c.args.self.now (g.K.Keeper.state c.args.keepers.now) before in
    let new : World = world c.mastered.new.self (g.K.Keeper.state c.mastered.new.keepers) after in
    let read = c.mastered.ensures in
    on_same g.K.Keeper.TELLS c.args.config.now old new (ap (λ (n : Nodes). n.fleet) read.same) (ap (λ (n : Nodes). n.mail) read.same)
    (ap (λ (n : Nodes). n.topology) read.same) read.consistent read.tables read.later
    (link_trans before there after (went_on _ _ before there c.carried.result c.carried.ensures.ok c.carried.ensures.fails)
    (went_on _ _ there after c.carried-2.result c.carried-2.ensures.ok c.carried-2.ensures.fails))

pub returns-clause-on : goal.returns-clause-on
returns-clause-on g c =
    let shown = g.L.Link.shown in
    let before = shown c.args.link.now in
    let there = shown c.carried.new.link in
    let after = shown c.carried-2.new.link in
    let old : World = world c.args.self.now (g.K.Keeper.state c.args.keepers.now) before in
    let new : World = world c.mastered.new.self (g.K.Keeper.state c.mastered.new.keepers) after in
    let read = c.mastered.ensures in
    on_same g.K.Keeper.TELLS c.args.config.now old new (ap (λ (n : Nodes). n.fleet) read.same) (ap (λ (n : Nodes). n.mail) read.same)
    (ap (λ (n : Nodes). n.topology) read.same) read.consistent read.tables read.later
    (link_trans before there after (went_on _ _ before there c.carried.result c.carried.ensures.ok c.carried.ensures.fails)
    (went_on _ _ there after c.carried-2.result c.carried-2.ensures.ok c.carried-2.ensures.fails))
