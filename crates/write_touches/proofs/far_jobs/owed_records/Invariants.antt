use Rattle.std.proofs.Common.{◌≡◌, take}
use Rattle.std.specs.Prelude.{filter_map}
use Rattle.tao_schema.specs.Schema.{types_of}
use Rattle.write_touches.specs.FarJobs.{owed_record}
use Rattle.write_touches.proofs.far_jobs.owed_records.Given as goal

abbrev pub invariant-loop-touch : goal.invariant-loop-touch
invariant-loop-touch l = l.owed.items ≡ filter_map (owed_record (types_of l.schema)) (take l.touch-index l.touches)
