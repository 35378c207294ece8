use Rattle.std.proofs.Common.{◌≡◌, Bool, Some, ap, subst, sym}
use Rattle.std.specs.Bool.{OnTrue}
use Rattle.std.specs.Prelude.{slice_index_or}
use Rattle.cache_items.specs.Node.{Node}
use Rattle.served_shards.specs.Served.{log_at}
use Rattle.tao_schema.specs.Schema.{types_of}
use Rattle.tao_schema.specs.declared.schema.Schema.{Schema}
use Rattle.topology.specs.Config.{Settings}
use Rattle.core_model.proofs.NamedNodes.{changes_at}
use Rattle.core_model.specs.Fleet.{serves}
use Rattle.core_nodes.proofs.RelayLemmas.{log_there}
use Rattle.core_nodes.specs.Stages.{NodeIs, taken_by}
use Rattle.node_stages.specs.Relays.{RelaysTo}
use Rattle.node_stages.specs.Stages.{LeaderDoes}
use Rattle.core_nodes.proofs.relays.relay_at.Goals as goal

pub relay_of-requires-clause-log : goal.relay_of-requires-clause-log
relay_of-requires-clause-log c =
    log_there c.serves_in_turn-serves.result c.args.shard c.args.note c.args.leaders.now c.args.name c.named_place-place.result
    c.index-leaders-place.result c.named_place-place.ensures
    (subst (λ b. OnTrue b (NodeIs c.args.name (λ (node : Node). log_at c.args.shard node.served ≡ Some c.args.note.log) c.args.leaders.now))
    (sym c.serves_in_turn-serves.ensures) c.requires.log)

pub returns : goal.returns
returns c =
    let s : Settings = c.args.config.now in
    let from : Node = (slice_index_or c.args.leaders.now c.named_place-place.result c.index-leaders-place.result).node in
    let to : Node = c.relay_of.new.leader in
    let Does = λ (k : Schema) (b : Bool). LeaderDoes (RelaysTo (types_of k) c.args.shard (taken_by b (Some c.args.entry.now)) c.args.note) in
    let own = subst (λ (k : Schema). Does k c.serves_in_turn-serves.result from to) (ap (λ (n : Settings). n.schema) c.config.view_is) c.relay_of.ensures in
    let does = subst (λ b. Does s.schema b from to) c.serves_in_turn-serves.ensures own in
    changes_at (Does s.schema (serves s c.args.name c.args.shard)) c.args.leaders.now c.args.name c.named_place-place.result
    c.index-leaders-place.result to c.named_place-place.ensures does
