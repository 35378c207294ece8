use Rattle.std.proofs.Common.{◌∙◌, subst, sym}
use Rattle.graph_model.specs.Told.{WhereTold}
use Rattle.keepers.specs.Shown.{told_in}
use Rattle.load_audit.specs.Audits.{IsAuditOf, RefusesAudit, logs_in}
use Rattle.shared_tiers.specs.locked_nodes.Cluster.{on_cluster}
use Rattle.tao_busy.proofs.Audited.{err_here, leaves_so, ok_here, same_tables, tables_stay}
use Rattle.tao_busy.proofs.Ways.{clear_way}
use Rattle.tao_busy.proofs.ending.summed.Goals as goal
use Rattle.tao_busy.specs.Refusing.{HaveClearWay}
use Rattle.tao_keeper.specs.Table.{Tables}

pub returns-in-Ok : goal.returns-in-Ok
returns-in-Ok g c =
    let s = c.args.config.now in
    let requests = c.args.requests.now in
    let state = g.M.Keeper.state in
    let done = c.audit-found in
    let before : Tables = told_in state s.shards c.args.keepers.items in
    let after : Tables = told_in state s.shards done.result.keepers.items in
    let stays = tables_stay g.M.Keeper.TELLS state s.shards c.args.keepers.items done.result.keepers.items done.ensures.stay in
    let on = on_cluster g.M.Keeper.TELLS state g.J.Sharing.making g.J.Logs.log in
    let audit : WhereTold g.M.Keeper.TELLS (IsAuditOf s after requests c.in-Ok.field-0) =
    λ told. ok_here (IsAuditOf s after requests) done.result.found c.in-Ok.field-0 c.in-Ok.is (done.ensures.audit told) in
    record {
      ends = (
        record {
          many = done.ensures.stay.many ∙ c.requires.many;
          leaves = λ told. leaves_so s requests before after c.in-Ok.field-0 c.args.refused (stays told) (c.requires.settled told)
              (c.requires.few told) (audit told);
        },
        λ told clear. c.requires.none told (subst (λ (tables : Tables). HaveClearWay on (logs_in s tables) requests)
            (sym (same_tables before after (stays told)))
            (clear_way on s after requests c.requires.config c.has_choices.ensures c.requires.listed (audit told).listed clear)),
      );
    }

pub returns-in-Err : goal.returns-in-Err
returns-in-Err g c =
    let s = c.args.config.now in
    let requests = c.args.requests.now in
    let done = c.audit-found in
    record {
      ends = c.unaudited.ensures s requests (done.ensures.stay.many ∙ c.requires.many)
          (λ told. err_here (RefusesAudit s (told_in g.M.Keeper.state s.shards done.result.keepers.items) requests) done.result.found c.in-Err.why c.in-Err.is
          (done.ensures.refused told));
    }
