use Rattle.std.proofs.Common.{◌≡◌, length, arith}
use Rattle.core_model.specs.Emptied.{region_tables}
use Rattle.core_model.specs.Pens.{pens_of}
use Rattle.core_steps.specs.World.{world}
use Rattle.core_trims.proofs.Resetting.{all_reset, nodes_in_turn, one_less, one_more, parts_still, resets_on, rest_prepared}
use Rattle.core_trims.specs.Trims.{IsPrepared}
use Rattle.core_trims.proofs.trims.reset_all.Goals as goal

pub reset_node-requires : goal.reset_node-requires
reset_node-requires g c =
    let over = region_tables g.K.Keeper.TELLS (g.K.Keeper.state c.args.keepers.now).told c.args.region in
    record {
      order = c.loop-reset.invariant.on.order;
      prepared = (one_less (IsPrepared c.args.config.now (pens_of c.loop-reset.nodes.fleet.stores) over) c.loop-reset.left.items c.pop.new.self.items
          c.in-Some.reset c.in-Some.ensures.items c.loop-reset.invariant.prepared).1;
    }

pub loop-reset-preserved : goal.loop-reset-preserved
loop-reset-preserved g c =
    let keepers = g.K.Keeper.state c.args.keepers.now in
    let over = region_tables g.K.Keeper.TELLS keepers.told c.args.region in
    let s = c.args.config.now in
    let all = c.args.resets.items in
    let left = c.loop-reset.left.items in
    let rest = c.pop.new.self.items in
    record {
      parts = parts_still all left rest c.in-Some.reset c.in-Some.ensures.items c.loop-reset.invariant.parts;
      prepared = rest_prepared s over c.loop-reset.nodes.fleet.stores c.reset_node.new.nodes.fleet.stores left rest c.in-Some.reset c.in-Some.ensures.items
          c.reset_node.ensures.on.stores c.loop-reset.invariant.prepared;
      resets = λ link. one_more over all left rest c.in-Some.reset c.in-Some.ensures.items c.loop-reset.invariant.parts (world c.args.nodes.now keepers link)
          (world c.loop-reset.nodes keepers link) (world c.reset_node.new.nodes keepers link) (c.loop-reset.invariant.resets link)
          (c.reset_node.ensures.resets link);
      on = resets_on g.K.Keeper.TELLS s keepers.told c.args.nodes.now c.loop-reset.nodes c.reset_node.new.nodes c.loop-reset.invariant.on
          c.reset_node.ensures.on;
      rest = nodes_in_turn c.args.nodes.now c.loop-reset.nodes c.reset_node.new.nodes c.loop-reset.invariant.rest c.reset_node.ensures.rest;
    }

pub returns : goal.returns
returns g c =
    let keepers = g.K.Keeper.state c.args.keepers.now in
    let none : length c.loop-reset.left.items ≡ 0 = omega (arith, c.in_default.ensures.cases.0) in
    record {
      resets = λ link. all_reset (region_tables g.K.Keeper.TELLS keepers.told c.args.region) c.args.resets.items c.loop-reset.left.items
          (world c.args.nodes.now keepers link) (world c.loop-reset.nodes keepers link) none (c.loop-reset.invariant.resets link);
      on = c.loop-reset.invariant.on;
      rest = c.loop-reset.invariant.rest;
    }
