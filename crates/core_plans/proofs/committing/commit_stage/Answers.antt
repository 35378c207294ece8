use Rattle.std.proofs.Common.{◌∙◌, Option, refl, subst, sym}
use Rattle.core_plans.specs.HeldWrites.{CommitsBy}
use Rattle.core_plans.specs.LedBy.{rules_of}
use Rattle.core_plans.specs.declared.leaders.Leaders.{Leaders}
use Rattle.core_plans.proofs.ChosenLeaders.{may_lead_write}
use Rattle.core_plans.proofs.HeldWriteStages.{unled_still}
use Rattle.core_plans.proofs.committing.commit_stage.Goals as goal
use Rattle.core_steps.proofs.PostsLemmas.{posts_none}
use Rattle.core_steps.specs.World.{World, world}

pub commit_by-requires-clause-lead : goal.commit_by-requires-clause-lead
commit_by-requires-clause-lead g c =
    may_lead_write c.args.config.now c.args.nodes.now.topology c.requires.ready.states c.args.plan.now c.in-Some.leaders
    (sym c.leaders_of_write.ensures ∙ c.in-Some.is)

pub returns-in-Some : goal.returns-in-Some
returns-in-Some g c =
    let state = g.K.Keeper.state in
    let shown = g.L.Link.shown in
    let old : World = world c.args.nodes.now (state c.args.keepers.now) (shown c.args.link.now) in
    let end = c.commit_by.new in
    let new : World = world end.nodes (state end.keepers) (shown end.link) in
    let chosen = sym c.in-Some.is ∙ c.leaders_of_write.ensures in
    record {
      does = subst (λ (o : Option Leaders). CommitsBy (rules_of g.K.Keeper.TELLS c.args.config.now) o c.args.plan.now old end.plan new) chosen
          c.commit_by.ensures.does;
      write = c.commit_by.ensures.write;
      on = c.commit_by.ensures.on;
    }

pub returns-in-None : goal.returns-in-None
returns-in-None g c =
    let state = g.K.Keeper.state in
    let shown = g.L.Link.shown in
    let p = c.args.plan.now in
    let q = c.refuse_commit.new.plan in
    let old : World = world c.args.nodes.now (state c.args.keepers.now) (shown c.args.link.now) in
    let chosen = sym c.in-None.is ∙ c.leaders_of_write.ensures in
    let finds = c.refuse_commit.ensures old refl in
    record {
      does = subst (λ (o : Option Leaders). CommitsBy (rules_of g.K.Keeper.TELLS c.args.config.now) o p old q old) chosen finds;
      write = unled_still g.K.Keeper.TELLS c.args.config.now old.keepers.told old.fleet p q old old c.requires.write finds;
      on = posts_none g.K.Keeper.TELLS c.args.config.now old c.requires.ready;
    }
