use Rattle.std.proofs.Common.{◌∙◌, ap, arith}
use Rattle.core_model.specs.Fleet.{Fleet}
use Rattle.tao_keeper.specs.KeeperState.{IsLater}
use Rattle.tao_keeper.proofs.Later.{keeps_trans}
use Rattle.core_trims.proofs.AfterTrim.{may_reset, named_of_region, none_trimmed, trim_done}
use Rattle.core_trims.proofs.trims.trim_over.Goals as goal

pub returns-in_err-least-clause-on : goal.returns-in_err-least-clause-on
returns-in_err-least-clause-on g c =
    none_trimmed g.K.Keeper.TELLS c.args.config.now c.args.nodes.now (g.K.Keeper.state c.args.keepers.now)
    (record { consistent = c.requires.consistent; inboxes = c.requires.inboxes; arrived = c.requires.arrived }) c.requires.past
    (record c.args.nodes.now { fleet = c.least_mark.new.self }) (g.K.Keeper.state c.least_mark.new.keepers)
    (ap (λ (f : Fleet). record c.args.nodes.now { fleet = f }) c.least_mark.ensures.same) c.least_mark.ensures.tables
    (record { calls = omega arith; faults = omega arith })

pub returns-in_err-names-clause-on : goal.returns-in_err-names-clause-on
returns-in_err-names-clause-on g c =
    none_trimmed g.K.Keeper.TELLS c.args.config.now c.args.nodes.now (g.K.Keeper.state c.args.keepers.now)
    (record { consistent = c.requires.consistent; inboxes = c.requires.inboxes; arrived = c.requires.arrived }) c.requires.past
    (record c.args.nodes.now { fleet = c.least_mark.new.self }) (g.K.Keeper.state c.least_mark.new.keepers)
    (ap (λ (f : Fleet). record c.args.nodes.now { fleet = f }) c.least_mark.ensures.same) c.least_mark.ensures.tables
    (record { calls = omega arith; faults = omega arith })

pub resets_for-requires-clause-names : goal.resets_for-requires-clause-names
resets_for-requires-clause-names g c =
    named_of_region g.K.Keeper.TELLS c.args.config.now (g.K.Keeper.state c.least_mark.new.keepers).told c.least_mark.new.self c.args.at
    c.in_ok-least.least c.deref.result.now c.in_ok-names.names.items c.least_mark.ensures.consistent c.deref.ensures.value c.in_ok-names.ensures

pub returns-in_err-resets-clause-on : goal.returns-in_err-resets-clause-on
returns-in_err-resets-clause-on g c =
    let state = g.K.Keeper.state in
    none_trimmed g.K.Keeper.TELLS c.args.config.now c.args.nodes.now (state c.args.keepers.now)
    (record { consistent = c.requires.consistent; inboxes = c.requires.inboxes; arrived = c.requires.arrived }) c.requires.past
    c.resets_for.new.nodes (state c.resets_for.new.keepers)
    (c.resets_for.ensures.same ∙ ap (λ (f : Fleet). record c.args.nodes.now { fleet = f }) c.least_mark.ensures.same)
    (keeps_trans g.K.Keeper.TELLS (state c.args.keepers.now) (state c.least_mark.new.keepers) (state c.resets_for.new.keepers) c.least_mark.ensures.tables
    c.resets_for.ensures.tables)
    (record { calls = omega arith; faults = omega arith })

pub returns-in_err-cut-clause-on : goal.returns-in_err-cut-clause-on
returns-in_err-cut-clause-on g c =
    let state = g.K.Keeper.state in
    let tells = g.K.Keeper.TELLS in
    let asked = keeps_trans tells (state c.args.keepers.now) (state c.least_mark.new.keepers) (state c.resets_for.new.keepers) c.least_mark.ensures.tables
    c.resets_for.ensures.tables in
    let same = c.resets_for.ensures.same ∙ ap (λ (f : Fleet). record c.args.nodes.now { fleet = f }) c.least_mark.ensures.same in
    none_trimmed tells c.args.config.now c.args.nodes.now (state c.args.keepers.now)
    (record { consistent = c.requires.consistent; inboxes = c.requires.inboxes; arrived = c.requires.arrived }) c.requires.past
    (record c.resets_for.new.nodes { fleet = c.cut_log.new.self }) (state c.cut_log.new.keepers)
    (ap (λ (f : Fleet). record c.resets_for.new.nodes { fleet = f }) c.cut_log.ensures.same ∙ same)
    (keeps_trans tells (state c.args.keepers.now) (state c.resets_for.new.keepers) (state c.cut_log.new.keepers) asked c.in_err-cut.ensures.changes)
    (record { calls = omega arith; faults = omega arith })

pub reset_all-requires : goal.reset_all-requires
reset_all-requires g c =
    let state = g.K.Keeper.state in
    let tells = g.K.Keeper.TELLS in
    let asked = keeps_trans tells (state c.args.keepers.now) (state c.least_mark.new.keepers) (state c.resets_for.new.keepers) c.least_mark.ensures.tables
    c.resets_for.ensures.tables in
    let first_same = ap (λ (f : Fleet). record c.args.nodes.now { fleet = f }) c.least_mark.ensures.same in
    let same = ap (λ (f : Fleet). record c.resets_for.new.nodes { fleet = f }) c.cut_log.ensures.same ∙ (c.resets_for.ensures.same ∙ first_same) in
    let may = may_reset tells c.args.config.now c.args.nodes.now (state c.args.keepers.now)
    (record { consistent = c.requires.consistent; inboxes = c.requires.inboxes; arrived = c.requires.arrived }) c.requires.past c.args.at c.requires.here
    c.in_ok-least.least c.in_ok-cut.cut (state c.least_mark.new.keepers) (state c.resets_for.new.keepers) (state c.cut_log.new.keepers)
    c.least_mark.ensures.tables asked (record c.args.nodes.now { fleet = c.least_mark.new.self })
    (record c.resets_for.new.nodes { fleet = c.cut_log.new.self }) first_same same
    (record {
      cut = c.in_ok-cut.ensures.cut;
      changes = c.in_ok-cut.ensures.changes;
      consistent = c.cut_log.ensures.consistent;
      on = c.cut_log.ensures.on;
    })
    c.in_ok-resets.resets.items c.in_ok-resets.ensures.prepared in
    record { order = may.order; prepared = may.prepared }

pub returns : goal.returns
returns g c =
    let state = g.K.Keeper.state in
    let tells = g.K.Keeper.TELLS in
    let asked = keeps_trans tells (state c.args.keepers.now) (state c.least_mark.new.keepers) (state c.resets_for.new.keepers) c.least_mark.ensures.tables
    c.resets_for.ensures.tables in
    let first_same = ap (λ (f : Fleet). record c.args.nodes.now { fleet = f }) c.least_mark.ensures.same in
    let same = ap (λ (f : Fleet). record c.resets_for.new.nodes { fleet = f }) c.cut_log.ensures.same ∙ (c.resets_for.ensures.same ∙ first_same) in
    let later : IsLater (state c.args.keepers.now) (state c.cut_log.new.keepers) = record { calls = omega arith; faults = omega arith } in
    let done = trim_done tells c.args.config.now c.args.nodes.now (state c.args.keepers.now)
    (record { consistent = c.requires.consistent; inboxes = c.requires.inboxes; arrived = c.requires.arrived }) c.requires.past c.args.at c.requires.here
    c.in_ok-least.least c.in_ok-cut.cut (state c.least_mark.new.keepers) (state c.resets_for.new.keepers) (state c.cut_log.new.keepers)
    c.least_mark.ensures.tables asked (record c.args.nodes.now { fleet = c.least_mark.new.self })
    (record c.resets_for.new.nodes { fleet = c.cut_log.new.self }) first_same same
    (record {
      cut = c.in_ok-cut.ensures.cut;
      changes = c.in_ok-cut.ensures.changes;
      consistent = c.cut_log.ensures.consistent;
      on = c.cut_log.ensures.on;
    })
    c.in_ok-resets.resets.items c.args.position c.count_up-reset.result c.deref.result.now c.deref-2.result.now c.in_ok-names.names.items
    c.reset_all.new.nodes c.in_ok-least.ensures.least c.deref.ensures.value c.deref-2.ensures.value c.in_ok-names.ensures c.in_ok-resets.ensures.names
    c.count_up-reset.ensures c.reset_all.ensures.resets c.reset_all.ensures.on c.reset_all.ensures.rest later in
    record {
      trims = λ link. (done link).over;
      same = tt;
      stays = tt;
      refused = tt;
      on = λ link. (done link).on;
      calls = record { calls = later.calls; faults = later.faults; failed = λ is. absurd (cc) };
    }
