-- A job between two stores, and the carries that take it to the other one and back.
use Rattle.node_name.specs.declared.NodeName.TheVariants.{Store as StoreNode}
use Rattle.shard_tables.specs.StoreView.{Store}
use Rattle.tao_base.specs.declared.id.StoreName.{StoreName}
use Rattle.tao_keeper.specs.declared.jobs.Job.{Job}
use Rattle.tao_link.specs.Cuts.{between}
use Rattle.tao_link.specs.declared.link.Carry.{Carry}

-- the store that has the job, the other one, where it is merged, and the job
pub record JobBetween : Type 0 where
  pub from : StoreName
  pub to : Store
  pub job : Job

-- a job that one store has, to be merged at the other
abbrev pub job_between : StoreName → Store → Job → JobBetween
job_between from to job = record { from = from; to = to; job = job }

-- the carry to the other store
abbrev pub way_there : JobBetween → Carry
way_there j = between (StoreNode j.from) (StoreNode j.to.name)

-- the carry back
abbrev pub way_back : JobBetween → Carry
way_back j = between (StoreNode j.to.name) (StoreNode j.from)
