use Rattle.std.proofs.Common.{refl, subst}
use Rattle.std.specs.Prelude.{IsSome}
use Rattle.core_steps.proofs.PostsLemmas.{posts_none}
use Rattle.core_steps.specs.World.{World, world}
use Rattle.core_plans.specs.Held.{IsUnderWay, learner}
use Rattle.core_plans.specs.LedBy.{rules_of}
use Rattle.core_plans.proofs.GivenUp.{learns_last}
use Rattle.core_plans.proofs.ReadsHeld.{reads_post}
use Rattle.core_plans.proofs.plans.give_up_stage.Goals as goal
use Rattle.write_plan.specs.Plans.{next_of}

pub give_up_way-requires : goal.give_up_way-requires
give_up_way-requires g c =
    let p = c.in-Write.plan in
    learns_last (next_of p) p.origin (subst (λ plan. IsSome (learner plan)) c.in-Write.is c.requires.last)

pub returns-in-Read-clause-on : goal.returns-in-Read-clause-on
returns-in-Read-clause-on g c =
    let keepers = g.K.Keeper.state c.args.keepers.now in
    let link = g.L.Link.shown c.args.link.now in
    reads_post (rules_of g.K.Keeper.TELLS c.args.config.now) (world c.args.nodes.now keepers link) (world c.give_up_read.new.nodes keepers link)
    c.requires.ready c.give_up_read.ensures.on

pub returns-in-Write : goal.returns-in-Write
returns-in-Write g c =
    let now : World = world c.args.nodes.now (g.K.Keeper.state c.args.keepers.now) (g.L.Link.shown c.args.link.now) in
    let tells = g.K.Keeper.TELLS in
    let s = c.args.config.now in
    rw c.in-Write.is record {
      gives_up = (c.give_up_way.ensures.then, refl);
      under_way = c.give_up_way.ensures.write tells s now.keepers.told now.fleet
          (subst (IsUnderWay tells s now.keepers.told now.fleet) c.in-Write.is c.requires.there.under_way);
      on = posts_none tells s now c.requires.ready;
    }
