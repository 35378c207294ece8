use Rattle.std.proofs.Common.{length, ap, arith}
use Rattle.std.proofs.lemmas.List.{length-map}
use Rattle.topology.specs.Config.{Settings}
use Rattle.topology.specs.Nodes.{node_text}
use Rattle.load_gen.specs.Nodes.{nodes_from}
use Rattle.load_gen.proofs.Few.{few_regions, some_nodes, within}
use Rattle.load_gen.proofs.names.Names.of.Goals as goal

pub invariant_of-result : goal.invariant_of-result
invariant_of-result c =
    let regions = c.config.inside.regions in
    let shards = within 1 64 c.config.inside.shards c.config.invariant.shards in
    let few = few_regions regions c.as_slice-regions.ensures.rules in
    let nodes = some_nodes regions c.as_slice-regions.ensures.rules in
    let names = c.as_slice-regions.ensures.value in
    record {
      shard = shards.0;
      shards = shards.1;
      regions = omega (arith, few.0, ap length c.in_ok-region_names.ensures, ap length names, length-map c.as_slice-regions.result.now (λ region. region.name));
      tier = omega (arith, few.0, c.in_ok-tier_names.ensures.some, ap length names);
      tiers = omega (arith, few.1, c.in_ok-tier_names.ensures.few, ap length names);
      nodes = omega (
        arith,
        few.0,
        nodes,
        ap length c.in_ok-node_texts.ensures,
        length-map (nodes_from 0 c.args.config.now.regions) (node_text c.args.config.now),
        ap (λ (s : Settings). length (nodes_from 0 s.regions)) c.config.view_is,
      );
      objects = omega (arith, c.as_slice.ensures.some, c.in_ok-to_vec.ensures.len);
      assocs = omega (arith, c.as_slice-2.ensures.some, ap length c.in_ok-assoc_names.ensures, length-map c.as_slice-2.result.now (λ line. line.name));
    }
