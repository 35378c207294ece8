use Rattle.std.proofs.Common.{ap, subst, sym}
use Rattle.node_name.specs.declared.NodeName.TheVariants.{Store as StoreName_}
use Rattle.shard_tables.specs.Written.{LiesOn, StandsIn}
use Rattle.tao_base.specs.declared.entry.Entry.{Entry}
use Rattle.tao_keeper.specs.Given.{HaveSmallStamps}
use Rattle.core_mail.specs.Inboxes.{AreInboxesOf, HaveArrived}
use Rattle.core_model.specs.Consistent.{IsConsistent}
use Rattle.core_model.specs.Pens.{pens_of}
use Rattle.core_model.specs.States.{AreStatesOf}
use Rattle.core_steps.proofs.StreamSteps.{carried_there, own_load, uncarried}
use Rattle.core_steps.specs.Streams.{IsLoad}
use Rattle.core_steps.specs.declared.nodes.Nodes.{Nodes}
use Rattle.graph_model.specs.Told.{WhereTold}
use Rattle.core_steps.proofs.nodes.Nodes.stream_entry.Goals as goal

pub land-requires : goal.land-requires
land-requires g c =
    let tells = g.K.Keeper.TELLS in
    let s = c.args.config.now in
    let tables = (g.K.Keeper.state c.args.keepers.now).told in
    let at = c.args.at in
    let load = c.in_ok-load.load in
    let same = sym c.loaded.ensures.same in
    let is = c.in_ok-load.ensures.load in
    let Whole = λ (n : Nodes). pens_of n.fleet.stores at.shard in
    record {
      consistent = subst (λ (n : Nodes). IsConsistent tells s tables n.fleet) same c.requires.ready.consistent;
      inboxes = subst (λ (n : Nodes). AreInboxesOf s (pens_of n.fleet.stores) n.mail) same c.requires.ready.inboxes;
      arrived = subst (λ (n : Nodes). WhereTold tells (HaveArrived tables n.mail)) same c.requires.ready.arrived;
      states = subst (λ (n : Nodes). AreStatesOf s n.topology) same c.requires.ready.states;
      slave = c.requires.slave;
      stands = subst (λ (n : Nodes). StandsIn (Whole n) load.entry) same
          (subst (StandsIn (Whole c.args.self.now)) (sym is.entry_is) c.requires.stands);
      lies = subst (λ (n : Nodes). LiesOn (Whole n) at.shard load.entry) same
          (subst (LiesOn (Whole c.args.self.now) at.shard) (sym is.entry_is) c.requires.lies);
      stamps = subst (λ (e : Entry). HaveSmallStamps e.touches) (sym is.entry_is) c.requires.stamps;
      load = subst (λ (n : Nodes). IsLoad (pens_of n.fleet.stores) n.topology at load.entry load) same
          (own_load (pens_of c.args.self.now.fleet.stores) c.args.self.now.topology at c.args.entry load is);
    }

pub returns : goal.returns
returns g c =
    let state = g.K.Keeper.state in
    let shown = g.L.Link.shown in
    let land = c.land in
    let done = carried_there g.K.Keeper.TELLS c.args.config.now c.args.at c.args.entry c.args.self.now (state c.args.keepers.now) (shown c.args.link.now)
    c.requires.ready c.loaded.new.self land.new.self (state land.new.keepers) (shown c.carried.new.link) c.in_ok-load.load.entry land.result
    c.loaded.ensures.same c.in_ok-load.ensures.load.entry_is c.in_ok-carried.ensures.ok (land.ensures.takes (shown c.carried.new.link)) land.ensures.same
    land.ensures.stays land.ensures.err (land.ensures.on (shown c.carried.new.link)) in
    record { takes = done.takes; err = done.err; on = done.on }

pub returns-in_err-carried-clause-on : goal.returns-in_err-carried-clause-on
returns-in_err-carried-clause-on g c =
    let state = g.K.Keeper.state in
    let shown = g.L.Link.shown in
    (uncarried g.K.Keeper.TELLS c.args.config.now c.args.at c.args.entry c.args.self.now (state c.args.keepers.now) (shown c.args.link.now) c.requires.ready
    c.loaded.new.self (shown c.carried.new.link) (StoreName_ c.master_store.result) c.in_err-carried.field-0.0 c.loaded.ensures.same
    (ap StoreName_ c.master_store.ensures) c.in_err-carried.ensures.fails c.in_err-carried.ensures.refusal).on
