use Rattle.std.proofs.Common.{◌<◌, ◌∙◌, ap, arith, map}
use Rattle.std.proofs.lemmas.List.{take_all}
use Rattle.std.proofs.lemmas.List.Elements.{recursion_from_All}
use Rattle.core_nodes.specs.Beginning.{length_in, note_in}
use Rattle.core_nodes.proofs.BeginLemmas.{turn_is}
use Rattle.core_nodes.proofs.beginning.turn_at.Goals as goal

pub returns-clause-turn : goal.returns-clause-turn
returns-clause-turn c =
    let s = c.args.config.now in
    let all = take_all c.loop-shard.shard-index c.args.shards.now (omega arith) in
    turn_is s c.args.stores.now c.args.lengths.now c.args.region c.requires.measured c.requires.region c.args.shards.now
    (record { lows = c.loop-shard.lows; notes = c.loop-shard.notes })
    (recursion_from_All (λ shard. shard < s.shards) c.args.shards.now c.requires.within)
    (c.loop-shard.invariant.lows ∙ ap (map (length_in s c.args.lengths.now c.args.region)) all)
    (c.loop-shard.invariant.notes ∙ ap (map (note_in s c.args.stores.now c.args.region)) all)
