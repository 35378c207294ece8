use Rattle.std.proofs.Common.{◌∙◌, rules, sym}
use Rattle.log_index.specs.IndexOf.{IsIndexOf}
use Rattle.log_index.proofs.Versions.{version_counts}
use Rattle.log_index.proofs.indexed_log.IndexedLog.version.Goals as goal

pub returns-in-Some : goal.returns-in-Some
returns-in-Some c =
    let is : IsIndexOf c.args.self.now c.in-Some.index = search rules in
    c.version.ensures ∙ (is.keys c.args.key).version_is ∙ sym (version_counts c.args.self.now c.args.key c.requires)
