use Rattle.shared_stores.proofs.Kept.{kept_read}
use Rattle.shared_stores.proofs.Streaming.{followed}
use Rattle.shared_stores.proofs.streams.follow.Goals as goal

pub invariant_of-master : goal.invariant_of-master
invariant_of-master g c = record {
  kept = kept_read g.K.Keeper.TELLS g.J.Sharing.making g.J.Logs.log c.args.master.now.store c.step.new.master
      (g.K.Keeper.state c.args.master.now.keeper).told (g.K.Keeper.state c.step.new.master_keeper).told c.args.master.now.notes.items
      c.args.master.now.kept c.step.ensures.master c.step.ensures.stays;
}

pub invariant_of-slave : goal.invariant_of-slave
invariant_of-slave g c = record {
  kept = (followed g.K.Keeper.TELLS g.J.Sharing.making g.J.Logs.log c.args.master.now.store c.args.slave.now.store c.step.new.slave
      (g.K.Keeper.state c.args.master.now.keeper).told (g.K.Keeper.state c.args.slave.now.keeper).told (g.K.Keeper.state c.step.new.slave_keeper).told
      c.args.master.now.notes.items c.args.slave.now.notes.items c.args.master.now.kept c.args.slave.now.kept c.requires.shard c.requires.master
      c.requires.slave c.step.ensures.to c.step.result c.step.ensures.next c.step.ensures.slave c.step.ensures.tables).kept;
}

pub returns-clause-stands : goal.returns-clause-stands
returns-clause-stands g c =
    (followed g.K.Keeper.TELLS g.J.Sharing.making g.J.Logs.log c.args.master.now.store c.args.slave.now.store c.step.new.slave
    (g.K.Keeper.state c.args.master.now.keeper).told (g.K.Keeper.state c.args.slave.now.keeper).told (g.K.Keeper.state c.step.new.slave_keeper).told
    c.args.master.now.notes.items c.args.slave.now.notes.items c.args.master.now.kept c.args.slave.now.kept c.requires.shard c.requires.master
    c.requires.slave c.step.ensures.to c.step.result c.step.ensures.next c.step.ensures.slave c.step.ensures.tables).stands
