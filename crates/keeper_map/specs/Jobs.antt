-- Jobs by their positions.
use Rattle.std.specs.Prelude.{◌≡◌, ℕ, Some}
use Rattle.std.specs.BTreeMap.{BTreeMap, get}
use Rattle.std.specs.Option.{option_map}
use Rattle.std.specs.Ordering.{nat_cmp}
use Rattle.tao_keeper.specs.Given.{IsGivenJob}
use Rattle.tao_keeper.specs.Table.{Jobs}
use Rattle.tao_keeper.specs.declared.jobs.Job.{Job}

-- the records of these jobs, by position
abbrev pub listed : BTreeMap ℕ Job → Jobs
listed jobs position = option_map (λ job. job.edges) (get nat_cmp jobs position)

-- the job of an entry at that position, which may be given
pub record IsGivenJobAt (position : ℕ) (job : Job) : Type 0 where
  pub position_is : job.position ≡ position
  pub given : IsGivenJob job

-- each job stands at its position
abbrev pub StandAtPositions : BTreeMap ℕ Job → Type 0
StandAtPositions jobs = (position : ℕ) (job : Job) → get nat_cmp jobs position ≡ Some job → IsGivenJobAt position job
