-- What contracts see of a plan.
use Rattle.read_plan.specs.Readings.{Reading}
use Rattle.read_plan.specs.declared.plan.ReadPlan.TheInside.{Inside}

-- the plan of a read, as contracts see it
abbrev pub reading_seen : Inside → Reading
reading_seen p = record {
  query = p.query;
  region = p.region;
  tier = p.tier;
  floor = p.floor;
  critical = p.critical;
  follower = p.follower;
  reader = p.reader;
  ask = p.ask;
  bound = p.bound;
  by = p.by;
  at = p.at;
  hops = p.hops;
  store = p.store;
}
