use Rattle.std.proofs.Common.{◌∙◌, inl, inr, refl, sym}
use Rattle.core_plans.proofs.writes.write_stage.Goals as goal
use Rattle.core_steps.proofs.PostsLemmas.{posts_none}
use Rattle.core_steps.specs.World.{World, world}

pub returns-in-Some : goal.returns-in-Some
returns-in-Some g c =
    let tells = g.K.Keeper.TELLS in
    let s = c.args.config.now in
    let now : World = world c.args.nodes.now (g.K.Keeper.state c.args.keepers.now) (g.L.Link.shown c.args.link.now) in
    record {
      comes = inr (record {
        node = c.in-Some.node;
        down = sym c.write_down.ensures ∙ c.in-Some.is;
        same = refl;
        then = c.end_down.ensures.then;
      });
      write = c.end_down.ensures.write tells s now.keepers.told now.fleet c.requires.write;
      on = posts_none tells s now c.requires.ready;
    }

pub returns-in-None : goal.returns-in-None
returns-in-None g c = record {
  comes = inl (record { up = sym c.write_down.ensures ∙ c.in-None.is; does = c.next_stage.ensures.does });
  write = c.next_stage.ensures.write;
  on = c.next_stage.ensures.on;
}
