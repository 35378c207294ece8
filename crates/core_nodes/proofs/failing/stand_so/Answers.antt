use Rattle.std.proofs.Common.{◌∙◌}
use Rattle.std.proofs.lemmas.List.Elements.{All-from_recursion}
use Rattle.std.specs.Prelude.{IsSome}
use Rattle.served_shards.specs.Served.{served_at}
use Rattle.core_nodes.proofs.FailLemmas.{are_served, reached_if, stands_if}
use Rattle.core_nodes.proofs.failing.stand_so.Goals as goal

pub stand_of-requires : goal.stand_of-requires
stand_of-requires g c =
    let node = g.C.Cache.node c.args.cache.now in
    record {
      served = All-from_recursion (λ shard. IsSome (served_at shard node.served)) c.deref.result.now
          (are_served c.args.config.now c.args.name node c.deref.result.now c.requires.truth (c.deref.ensures.value ∙ c.in_ok-shards.ensures));
    }

pub returns-clause-stands : goal.returns-clause-stands
returns-clause-stands g c =
    stands_if c.args.config.now c.args.name (g.C.Cache.node c.args.cache.now) c.deref.result.now c.stand_of.result c.requires.truth
    (c.deref.ensures.value ∙ c.in_ok-shards.ensures) c.stand_of.ensures.stands

pub returns-clause-reached : goal.returns-clause-reached
returns-clause-reached g c =
    reached_if c.args.config.now c.args.name (g.C.Cache.node c.args.cache.now) c.deref.result.now c.stand_of.result c.requires.truth
    (c.deref.ensures.value ∙ c.in_ok-shards.ensures) c.stand_of.ensures.stands
