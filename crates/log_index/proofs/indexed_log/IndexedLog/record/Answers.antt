use Rattle.std.proofs.Common.{IfOk, ◌≡◌, rules, subst}
use Rattle.tao_base.specs.declared.id.Key.TheVariants.{List as Assocs}
use Rattle.log_index.specs.IndexOf.{IsIndexOf}
use Rattle.log_index.proofs.indexed_log.IndexedLog.record.Goals as goal

pub returns-in-Some : goal.returns-in-Some
returns-in-Some c =
    let is : IsIndexOf c.args.self.now c.in-Some.index = search rules in
    subst (λ found. IfOk c.record.result (λ state. state ≡ found)) ((is.keys (Assocs c.args.id1 c.args.atype)).records_are c.args.id2) c.record.ensures
