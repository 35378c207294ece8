use Rattle.std.proofs.Common.{◌<◌, List, length, ◌∙◌, arith}
use Rattle.shard_tables.specs.StoreView.{Store}
use Rattle.core_nodes.specs.Beginning.{IsBegun}
use Rattle.core_nodes.proofs.NameLemmas.{each_next, names_next}
use Rattle.core_nodes.proofs.beginning.make_nodes.Goals as goal

pub loop-name-preserved : goal.loop-name-preserved
loop-name-preserved g c =
    let pushed = c.in_ok-push.ensures.items in
    let within : c.loop-name.name-index < length c.args.names.now = omega arith in
    record {
      names = names_next c.args.names.now c.loop-name.nodes.items c.push.new.self.items c.loop-name.name-index _ _ c.loop-name.invariant.names
          within pushed;
      begun =
          each_next (λ (xs : List Store). IsBegun g.C.Cache.node g.C.Cache.refills c.args.config.now xs c.args.lengths.now) c.loop-name.stores c.args.stores.now
          c.loop-name.nodes.items c.push.new.self.items _
          c.loop-name.invariant.same c.loop-name.invariant.begun pushed c.in_ok-node.ensures.begun;
      same = c.in_ok-node.ensures.same ∙ c.loop-name.invariant.same;
    }
