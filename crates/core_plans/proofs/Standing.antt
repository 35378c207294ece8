-- A read that is held can go on, whatever was done in between.
use Rattle.std.proofs.Common.{◌≡◌, ℕ, ◌≤◌, true, Bool, Some, None, arith}
use Rattle.core_model.specs.Consistent.{GoesOn}
use Rattle.core_model.specs.Fleet.{Fleet}
use Rattle.core_model.specs.Growing.{TablesGoOn}
use Rattle.core_model.specs.Pens.{Pens, Rise, pens_of}
use Rattle.core_model.specs.Reads.{IsGivenFill, Wanted}
use Rattle.core_model.specs.Stores.{master_log}
use Rattle.graph_model.specs.Log.{version}
use Rattle.read_plan.specs.Readings.{Reading}
use Rattle.read_plan.specs.declared.standing.Given.TheVariants.{Fill, HandedOut, Past}
use Rattle.read_plan.specs.declared.standing.Standing.{Standing}
use Rattle.read_plan.specs.declared.standing.Standing.TheVariants.{Looking, Asking, Mastering, Keeping, Ended}
use Rattle.sealed_item.specs.Fills.{SealedItem}
use Rattle.shard_log.proofs.GrowthLemmas.{grows-trans}
use Rattle.tao_base.specs.EdgeTypes.{EdgeTypes}
use Rattle.tao_base.specs.Queries.{query_key, query_shard}
use Rattle.tao_base.specs.declared.id.Key.{Key}
use Rattle.tao_keeper.specs.Table.{Tables}
use Rattle.tao_schema.specs.Schema.{types_of}
use Rattle.topology.specs.Config.{Settings}
use Rattle.core_plans.specs.HeldReads.{IsReadUnderWay, StandsSo, wanted_by}
use Rattle.core_plans.proofs.HeldReadLemmas.{asks_on}
use Rattle.core_plans.proofs.Missing.{version_later}

-- a fill stays one, since what its note has seen is a beginning of what the log is later
fill_rises : (types : EdgeTypes) (pens later : Pens) (read : Wanted) (fill : SealedItem) → Rise pens later → IsGivenFill types pens read fill
    → IsGivenFill types later read fill
fill_rises types pens later read fill rise is = record {
  key_is = is.key_is;
  decides = is.decides;
  within = is.within;
  reaches = is.reaches;
  seen = grows-trans fill.note (pens (query_shard read.query)) (later (query_shard read.query)) is.seen (rise (query_shard read.query));
}

pub stands_still : (types : EdgeTypes) (pens later : Pens) (read : Wanted) (at : Standing) → Rise pens later → StandsSo types pens read at
    → StandsSo types later read at
stands_still types pens later read (Keeping (Fill fill)) rise is = fill_rises types pens later read fill rise is
stands_still types pens later read (Keeping (HandedOut v)) rise is = absurd is
stands_still types pens later read (Keeping (Past answer v total None)) rise is = absurd is
stands_still types pens later read (Keeping (Past answer v total (Some note))) rise is =
    (is.0, grows-trans note (pens (query_shard read.query)) (later (query_shard read.query)) is.1 (rise (query_shard read.query)))
stands_still types pens later read Looking rise is = tt
stands_still types pens later read Asking rise is = tt
stands_still types pens later read Mastering rise is = tt
stands_still types pens later read (Ended end) rise is = tt

-- a log that grew is no less far
reached_later : (tells : Bool) (s : Settings) (tables later : Tables) (key : Key) (shard floor : ℕ) → TablesGoOn tells s tables later → tells ≡ true
    → floor ≤ version (master_log s tables shard) key → floor ≤ version (master_log s later shard) key
reached_later tells s tables later key shard floor grows told le =
    let rises = version_later tells s tables later key shard grows.logs told in
    omega arith

pub under_way_later : (tells : Bool) (s : Settings) (tables later : Tables) (f g : Fleet) (p : Reading) → IsReadUnderWay tells s tables f p → GoesOn f g
    → TablesGoOn tells s tables later → IsReadUnderWay tells s later g p
under_way_later tells s tables later f g p is goes grows = record {
  follower = is.follower;
  region = is.region;
  never_asks = is.never_asks;
  bound = is.bound;
  reached = λ told. reached_later tells s tables later (query_key p.query) (query_shard p.query) p.floor grows told (is.reached told);
  ask = asks_on p.follower p.ask (query_key p.query) f g goes is.ask;
  stands = stands_still (types_of s.schema) (pens_of f.stores) (pens_of g.stores) (wanted_by p) p.at goes.rise is.stands;
}
