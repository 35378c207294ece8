use Rattle.std.proofs.Common.{◌≡◌, ◌<◌, length, ap, ◌∙◌, subst, sym}
use Rattle.std.proofs.lemmas.Bool.Decides.{nat_tests}
use Rattle.std.proofs.Common.{arith}
use Rattle.std.specs.Prelude.{filter_map}
use Rattle.tao_schema.specs.Schema.{types_of}
use Rattle.write_touches.proofs.JobLemmas.{empty_job, small_job, some_job}
use Rattle.write_touches.specs.FarJobs.{owed_record}
use Rattle.write_touches.proofs.far_jobs.far_job.Goals as goal

pub returns-then-is_empty-clause-job : goal.returns-then-is_empty-clause-job
returns-then-is_empty-clause-job c =
    let none : length c.in_ok-owed.owed.items ≡ 0 = grind (arith, nat_tests) in
    empty_job (types_of c.args.schema.now) c.args.entry.now c.in_ok-owed.owed.items
    (c.in_ok-owed.ensures ∙ ap (filter_map (owed_record (types_of c.args.schema.now))) c.as_slice.ensures) none

pub returns-clause-job : goal.returns-clause-job
returns-clause-job c =
    let some : 0 < length c.in_ok-owed.owed.items = grind (arith, nat_tests) in
    some_job (types_of c.args.schema.now) c.args.entry.now c.of.result
    (c.of.ensures ∙ c.in_ok-owed.ensures ∙ ap (filter_map (owed_record (types_of c.args.schema.now))) c.as_slice.ensures)
    (subst (λ us. 0 < length us) (sym c.of.ensures) some)

pub returns-clause-given : goal.returns-clause-given
returns-clause-given c =
    let some : 0 < length c.in_ok-owed.owed.items = grind (arith, nat_tests) in
    record {
      position = c.requires.position;
      some = subst (λ us. 0 < length us) (sym c.of.ensures) some;
      stamps = small_job (types_of c.args.schema.now) c.args.entry.now.touches c.of.result
          (c.of.ensures ∙ c.in_ok-owed.ensures ∙ ap (filter_map (owed_record (types_of c.args.schema.now))) c.as_slice.ensures) c.requires.stamps;
    }
