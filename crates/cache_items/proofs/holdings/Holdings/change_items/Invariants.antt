use Rattle.std.proofs.Common.{◌≡◌, drop}
use Rattle.std.specs.Prelude.{map}
use Rattle.maint_msg.specs.KeyVersions.{key_version}
use Rattle.served_shards.specs.shard_log.View.{View}
use Rattle.sealed_item.specs.tao_schema.Schema.{types_of}
use Rattle.cache_items.specs.Node.{Items, raised_all}
use Rattle.cache_items.specs.TakenEntry.{TakesTouches}
use Rattle.cache_items.proofs.holdings.Holdings.change_items.Given as goal

-- what takes the rest has taken all
abbrev pub invariant-loop-touch : goal.invariant-loop-touch
invariant-loop-touch l = record {
  items : (note : View) (new : Items) → TakesTouches (types_of l.schema) note (drop l.touch-index l.touches) l.self.items new
      → TakesTouches (types_of l.schema) note l.touches l.initial.self.items new;
  asks : raised_all (map key_version (drop l.touch-index l.touches)) l.self.asks ≡ raised_all (map key_version l.touches) l.initial.self.asks;
  others : l.self ≡ record l.initial.self { items = l.self.items; asks = l.self.asks };
}
