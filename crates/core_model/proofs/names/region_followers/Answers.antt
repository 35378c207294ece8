use Rattle.std.proofs.Common.{◌≡◌, ◌+◌, ◌<◌, length, take, map, ap, ◌∙◌, arith}
use Rattle.std.specs.List.{range_with_len}
use Rattle.node_name.specs.declared.NodeName.TheVariants.{Follower}
use Rattle.core_model.specs.Fleet.{tiers_from, tiers_of}
use Rattle.core_model.proofs.NamesInTurn.{more_names, tier_is, tiers_are, tiers_more}
use Rattle.core_model.proofs.names.region_followers.Goals as goal

pub loop-tier-preserved : goal.loop-tier-preserved
loop-tier-preserved c =
    let region = c.args.region in
    let counts = tiers_of c.args.config.now region in
    let place = c.loop-tier.tier in
    let within : place < length counts = omega (arith, c.loop-tier-test.true, c.tier_count-tier-end.ensures, tiers_are c.args.config.now region) in
    let here : 0 + place ≡ place = omega arith in
    more_names _ _ _ _ _ (λ k. tiers_from c.args.region 0 (take k (tiers_of c.args.config.now c.args.region))) place c.in_ok-extend_from_slice.ensures.items
    (c.deref.ensures.value ∙ (c.in_ok-followers.ensures ∙ ap (λ n. map (Follower region place) (range_with_len 0 n))
    (c.follower_count.ensures ∙ tier_is c.args.config.now region place))) c.loop-tier.invariant
    (tiers_more region counts 0 place place within here)
