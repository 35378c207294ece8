use Rattle.std.proofs.Common.{◌≡◌, ◌+◌, ◌<◌, length, take, map, ap, ◌∙◌, arith}
use Rattle.std.specs.List.{range_with_len}
use Rattle.std.proofs.lemmas.List.{length-map}
use Rattle.node_name.specs.declared.NodeName.TheVariants.{Leader}
use Rattle.topology.specs.Counts.{counts_of}
use Rattle.core_model.specs.Fleet.{leaders_from, regions_of}
use Rattle.core_model.proofs.NamesInTurn.{leaders_more, more_names}
use Rattle.core_model.proofs.names.leader_names.Goals as goal

pub loop-region-preserved : goal.loop-region-preserved
loop-region-preserved c =
    let regions = regions_of c.args.config.now in
    let place = c.loop-region.region in
    let within : place < length regions = omega (
      arith,
      c.loop-region-test.true,
      c.region_count-region-end.ensures,
      length-map
          c.args.config.now.regions counts_of,
    ) in
    let here : 0 + place ≡ place = omega arith in
    more_names _ _ _ _ _ (λ k. leaders_from 0 (take k (regions_of c.args.config.now))) place c.in_ok-extend_from_slice.ensures.items
    (c.deref.ensures.value ∙ (c.in_ok-leaders.ensures ∙ ap (λ n. map (Leader place) (range_with_len 0 n)) c.leader_count.ensures)) c.loop-region.invariant
    (leaders_more regions 0 place place within here)
