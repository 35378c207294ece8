use Rattle.std.proofs.Common.{ap, ◌∙◌, rules}
use Rattle.topology.specs.Config.{Settings}
use Rattle.core_nodes.proofs.OpenLemmas.{region_of_place}
use Rattle.core_nodes.proofs.opening.store_at.Goals as goal

pub overflow_cast-place : goal.overflow_cast-place
overflow_cast-place c =
    let shards = ap (λ (n : Settings). n.shards) c.config.view_is in
    let within = region_of_place c.args.config.now c.args.place c.from-shards.result c.requires (c.from-shards.ensures ∙ shards) in
    search rules
