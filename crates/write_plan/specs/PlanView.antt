-- What contracts see of the plan of a write.
use Rattle.write_plan.specs.Plans.{Writing}
use Rattle.write_plan.specs.declared.plan.WritePlan.TheInside.{Inside}

-- the plan of a write, as contracts see it
abbrev pub plan_seen : Inside → Writing
plan_seen p = record {
  write = p.write;
  origin = p.origin;
  region = p.region;
  tier = p.tier;
  follower = p.follower;
  committed = p.committed;
  relay = p.relay;
  spare = p.spare;
  job = p.job;
  other = p.other;
  back = p.back;
  refused = p.refused;
  hops = p.hops;
}
