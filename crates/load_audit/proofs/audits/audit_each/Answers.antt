use Rattle.std.proofs.Common.{◌≡◌, Some, ap, arith, drop, length, subst, sym}
use Rattle.std.specs.Prelude.{slice_get}
use Rattle.load_audit.proofs.KeptLemmas.{whole_written}
use Rattle.load_audit.proofs.audits.audit_each.Goals as goal

pub returns-clause-each : goal.returns-clause-each
returns-clause-each g c = λ place before after was is.
    let written = c.audit_all.new.all in
    let many : length written ≡ c.args.all.len = omega (arith, c.audit_all.ensures.many, ap length c.as_mut_slice.ensures.value, c.args.all.ok.0) in
    c.audit_all.ensures.each place before after
    (subst (λ xs. slice_get xs place ≡ Some before) (sym c.as_mut_slice.ensures.value) was)
    (subst (λ xs. slice_get xs place ≡ Some after) (whole_written written (drop (length written) c.args.all.items) c.args.all.len many) is)
