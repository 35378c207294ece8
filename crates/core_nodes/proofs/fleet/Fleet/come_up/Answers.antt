use Rattle.std.proofs.Common.{subst, sym}
use Rattle.core_model.specs.Consistent.{GoesOn}
use Rattle.core_nodes.proofs.FleetLemmas.{goes_self}
use Rattle.core_nodes.proofs.UpLemmas.{comes_up, up_logs, up_reached}
use Rattle.core_nodes.proofs.fleet.Fleet.come_up.Goals as goal

pub returns-in_err-lows-clause-goes : goal.returns-in_err-lows-clause-goes
returns-in_err-lows-clause-goes g c = subst (GoesOn c.args.self.now) (sym c.restart.ensures.same) (goes_self c.args.self.now)

pub empty-requires-clause-logs : goal.empty-requires-clause-logs
empty-requires-clause-logs g c =
    let state = g.K.Keeper.state in
    up_logs g.K.Keeper.TELLS c.args.config.now (state c.args.keepers.now).told (state c.restart.new.keepers).told c.args.node c.args.self.now
    c.restart.new.self c.restart.ensures.same c.requires.consistent c.requires.node c.in_ok-lows.field-0.lows.items c.in_ok-lows.field-0.notes.items
    c.in_ok-lows.ensures.restart

pub empty-requires-clause-reached : goal.empty-requires-clause-reached
empty-requires-clause-reached g c =
    let state = g.K.Keeper.state in
    up_reached g.K.Keeper.TELLS c.args.config.now (state c.args.keepers.now).told (state c.restart.new.keepers).told c.args.node c.args.self.now
    c.restart.new.self c.restart.ensures.same c.requires.consistent c.requires.node c.in_ok-lows.field-0.lows.items c.in_ok-lows.field-0.notes.items
    c.in_ok-lows.ensures.restart c.deref.result.now c.deref.ensures.value

pub returns : goal.returns
returns g c =
    let state = g.K.Keeper.state in
    let given = c.restart.ensures in
    let up = comes_up g.K.Keeper.TELLS c.args.config.now (state c.args.keepers.now).told (state c.restart.new.keepers).told c.args.node c.args.self.now
    c.restart.new.self given.same c.requires.consistent c.requires.node c.in_ok-lows.field-0.lows.items c.in_ok-lows.field-0.notes.items
    c.in_ok-lows.ensures.restart c.deref.result.now c.empty.new.self c.deref.ensures.value given.tables c.empty.ensures in
    record {
      begins = up.begins;
      same = tt;
      consistent = up.consistent;
      goes = up.goes;
      refused = tt;
      tables = given.tables;
      calls = record { calls = given.calls.calls; faults = given.calls.faults; failed = λ h. absurd (cc) };
    }
