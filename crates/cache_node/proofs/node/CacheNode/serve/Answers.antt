use Rattle.tao_base.specs.Queries.{query_key}
use Rattle.tao_schema.specs.Schema.{types_of}
use Rattle.cache_node.proofs.Handing.{handed, handed_is_sealed}
use Rattle.cache_node.proofs.node.CacheNode.serve.Goals as goal

pub seal-requires : goal.seal-requires
seal-requires c =
    handed_is_sealed (types_of c.args.schema.now) c.self.inside.holdings c.args.query.now c.args.floor c.in-Some.parts c.self.invariant
    (rw c.in-Some.is at c.in_ok-parts.ensures.fill)

pub invariant_of-self-2 : goal.invariant_of-self-2
invariant_of-self-2 c =
    handed c.self.inside.holdings c.serve.new.self
    (query_key c.args.query.now) c.serve.result c.keys_differ.ensures.apart c.self.invariant c.serve.ensures.node c.serve.ensures.err
