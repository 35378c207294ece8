use Rattle.std.proofs.Common.{List, subst}
use Rattle.std.specs.Prelude.{IsErrOf}
use Rattle.graph_model.specs.Told.{WhereTold}
use Rattle.keepers.specs.Shown.{told_in}
use Rattle.request_check.specs.declared.checked.CheckedWrite.{CheckedWrite}
use Rattle.tao_keeper.specs.declared.keeper.KeepFail.TheVariants.{Failed as KeeperFailed}
use Rattle.load_audit.specs.Auditing.{AuditsLogs}
use Rattle.load_audit.specs.Kept.{AreAudited, HasFault, keepers_in}
use Rattle.load_audit.specs.declared.audits.AuditRefusal.TheVariants.{Failed as AuditFailed}
use Rattle.load_audit.proofs.KeptLemmas.{fault_back, stay_back, sum_back}
use Rattle.load_audit.proofs.audits.audit_in.Goals as goal

pub returns-clause-audits : goal.returns-clause-audits
returns-clause-audits g c =
    let tells = g.M.Keeper.TELLS in
    let state = g.M.Keeper.state in
    let s = c.args.config.now in
    let found = c.sum_up-found.result in
    sum_back state tells c.args.writes.now c.with_logs.result.items c.audit_each-all.result.items c.audit_each-all.ensures.many c.audit_each-all.ensures.each
    c.args.keepers.items c.without_logs.result.items c.with_logs.ensures c.without_logs.ensures s found
    (subst (λ all. (ws : List CheckedWrite) → AreAudited tells state ws all → WhereTold tells (AuditsLogs s (told_in state s.shards (keepers_in all)) ws found))
    c.as_slice.ensures.value c.sum_up-found.ensures.audits)

pub returns-clause-stay : goal.returns-clause-stay
returns-clause-stay g c =
    stay_back g.M.Keeper.state g.M.Keeper.TELLS c.args.writes.now c.with_logs.result.items c.audit_each-all.result.items c.audit_each-all.ensures.many
    c.audit_each-all.ensures.each c.args.keepers.items c.without_logs.result.items c.with_logs.ensures c.without_logs.ensures

pub returns-clause-fault : goal.returns-clause-fault
returns-clause-fault g c =
    let found = c.sum_up-found.result in
    fault_back g.M.Keeper.state g.M.Keeper.TELLS c.args.writes.now c.with_logs.result.items c.audit_each-all.result.items c.audit_each-all.ensures.many
    c.audit_each-all.ensures.each c.args.keepers.items c.without_logs.result.items c.with_logs.ensures c.without_logs.ensures found
    (subst (λ all. IsErrOf found (AuditFailed KeeperFailed) → HasFault all) c.as_slice.ensures.value c.sum_up-found.ensures.fault)
