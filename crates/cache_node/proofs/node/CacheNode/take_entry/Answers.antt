use Rattle.std.proofs.Common.{◌≡◌, Some, sym, subst}
use Rattle.cache_items.specs.Node.{Node}
use Rattle.served_shards.specs.Served.{log_at}
use Rattle.tao_schema.specs.Schema.{types_of}
use Rattle.cache_node.proofs.Nodes.{same_log}
use Rattle.cache_node.proofs.TakenEntries.{entry_came}
use Rattle.cache_node.proofs.node.CacheNode.take_entry.Goals as goal

pub take_entry-requires : goal.take_entry-requires
take_entry-requires c =
    same_log (log_at c.args.shard c.self.inside.holdings.served) c.args.note.log
    (subst (λ (n : Node). log_at c.args.shard n.served ≡ Some c.args.note.log) (sym c.self.view_is) c.requires.log)

pub invariant_of-self : goal.invariant_of-self
invariant_of-self c =
    entry_came (types_of c.args.schema.now) c.self.inside.holdings c.take_entry.new.self c.args.shard c.args.entry.now c.args.note c.keys_differ.ensures.apart
    c.self.invariant
    (subst (λ (n : Node). log_at c.args.shard n.served ≡ Some c.args.note.log) (sym c.self.view_is) c.requires.log)
    c.notes_are_sound.ensures.few c.notes_are_sound.ensures.sound c.requires.stands c.requires.here c.take_entry.ensures.meets c.take_entry.ensures.entry.items
    c.take_entry.ensures.entry.node_is
