use Rattle.std.proofs.Common.{sym, subst}
use Rattle.cache_node.proofs.Beginning.{made_is_true}
use Rattle.served_shards.specs.Meetings.{AreSeenSound}
use Rattle.cache_items.specs.Node.{Node}
use Rattle.cache_node.specs.True.{IsTrueNode}
use Rattle.cache_node.proofs.node.CacheNode.make.Goals as goal

pub invariant_of-result : goal.invariant_of-result
invariant_of-result c =
    let made = c.in_ok-holdings.ensures.node in
    subst IsTrueNode (sym made)
    (made_is_true c.args.items c.args.served.now c.args.lows.now c.args.notes.items c.requires.reached c.requires.alike
    (subst (λ (n : Node). AreSeenSound n.served) made c.in_ok-holdings.ensures.sound))
