use Rattle.std.proofs.Common.{◌≡◌, Contains, Some, ap, sym, subst, ◌∙◌, arith}
use Rattle.std.specs.Bool.{OnTrue}
use Rattle.cache_items.specs.Node.{Node}
use Rattle.served_shards.specs.Served.{log_at}
use Rattle.core_model.specs.Fleet.{Fleet, HasNode, serves}
use Rattle.core_nodes.proofs.RelayLemmas.{relay_lent, relay_log}
use Rattle.core_nodes.proofs.ViewLemmas.{LendsLeaders}
use Rattle.core_nodes.specs.Stages.{NodeIs, taken_by}
use Rattle.core_nodes.proofs.fleet.Fleet.relay.Goals as goal

pub relay_at-requires-clause-there : goal.relay_at-requires-clause-there
relay_at-requires-clause-there c =
    let own = c.deref_mut.ensures.value ∙ ap (λ (f : Fleet). f.leaders) c.self.view_is in
    subst (HasNode c.args.leader) (sym own) (subst (λ names. Contains names c.args.leader) (sym c.requires.fleet.leader_names) c.requires.leader)

pub relay_at-requires-clause-log : goal.relay_at-requires-clause-log
relay_at-requires-clause-log c =
    let own = c.deref_mut.ensures.value ∙ ap (λ (f : Fleet). f.leaders) c.self.view_is in
    subst (λ ls. OnTrue (serves c.args.config.now c.args.leader c.args.shard)
    (NodeIs c.args.leader (λ (node : Node). log_at c.args.shard node.served ≡ Some c.args.note.log) ls)) (sym own)
    (relay_log c.args.config.now c.args.self.now c.args.shard c.args.leader c.args.note c.requires.fleet c.requires.shard c.requires.seen.seen)

pub returns : goal.returns
returns c =
    let own = c.deref_mut.ensures.value ∙ ap (λ (f : Fleet). f.leaders) c.self.view_is in
    let lends : LendsLeaders c.self.inside c.args.self.now c.deref_mut.result.now c.relay_at.new.leaders =
    record { view = c.self.view_is; own = own; long = omega arith } in
    let done =
    relay_lent c.args.config.now c.args.leader c.args.shard (taken_by (serves c.args.config.now c.args.leader c.args.shard) (Some c.args.entry.now))
    c.args.note c.self.inside c.args.self.now c.deref_mut.result.now c.relay_at.new.leaders lends c.requires.fleet c.requires.seen.seen
    c.relay_at.ensures in
    record { relays = done.relays; rest = done.rest; fleet = done.step.fleet; reached = done.reached; goes = done.step.goes }
