use Rattle.std.proofs.Common.{IfSome, subst, sym}
use Rattle.tao_schema.specs.Schema.{types_of}
use Rattle.core_model.specs.Messages.{IsMessageFor}
use Rattle.core_model.specs.Pens.{pens_of}
use Rattle.core_steps.proofs.NotifyLemmas.{leads_in}
use Rattle.core_steps.proofs.StreamLemmas.{cached, leader_processed, region_there}
use Rattle.core_steps.specs.Streams.{ProcessesMessage, region_leader}
use Rattle.core_steps.proofs.nodes.Nodes.leader_processes.Goals as goal

pub deliver-requires-clause-node : goal.deliver-requires-clause-node
deliver-requires-clause-node c =
    let s = c.args.config.now in
    let states = c.args.self.now.topology in
    let region = c.args.at.region in
    cached s region c.preferred-leader.result
    (leads_in s states region c.args.at.shard c.preferred-leader.result c.requires.own c.preferred-leader.ensures.preferred
    (c.preferred-leader.ensures.configured (region_there s states region c.requires.own c.requires.here)))

pub deliver-requires-clause-message : goal.deliver-requires-clause-message
deliver-requires-clause-message c =
    let pens = pens_of c.args.self.now.fleet.stores in
    subst (λ n. IsMessageFor c.args.config.now pens n c.in-Some.message) (sym c.preferred-leader.ensures.preferred)
    (subst (λ o. IfSome o (IsMessageFor c.args.config.now pens (region_leader c.args.self.now.topology c.args.at))) c.in-Some.is c.requires.message)

pub returns-in-Some-clause-processes : goal.returns-in-Some-clause-processes
returns-in-Some-clause-processes c =
    let was = c.args.self.now in
    subst (λ o. ProcessesMessage (region_leader was.topology c.args.at) o was.fleet c.deliver.new.self) (sym c.in-Some.is)
    (leader_processed c.args.at was.topology (types_of c.args.config.now.schema) c.preferred-leader.result c.in-Some.message c.deliver.result.dropped was.fleet
    c.deliver.new.self c.preferred-leader.ensures.preferred c.deliver.ensures.delivers)
