use Rattle.std.proofs.Common.{◌≡◌, Some, sym, subst}
use Rattle.cache_items.specs.Node.{Node}
use Rattle.served_shards.specs.Served.{log_at}
use Rattle.tao_base.specs.Keys.{key_shard}
use Rattle.cache_node.proofs.Handing.{copied}
use Rattle.cache_node.proofs.node.CacheNode.keep_copy.Goals as goal

pub invariant_of-self : goal.invariant_of-self
invariant_of-self c =
    copied c.self.inside.holdings c.keep_copy.new.self c.args.fill.now c.keep_copy.result c.keys_differ.ensures.apart c.self.invariant
    (subst (λ (n : Node). log_at (key_shard c.args.fill.now.key) n.served ≡ Some c.args.fill.now.note.log) (sym c.self.view_is) c.requires)
    c.fills_are_sealed.ensures c.keep_copy.ensures.meets c.keep_copy.ensures.kept c.keep_copy.ensures.node
