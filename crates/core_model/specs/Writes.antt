-- What each stage of a write does to the node that acts.
use Rattle.std.specs.Prelude.{ℕ, ◌≡◌}
use Rattle.cache_items.specs.TakenEntry.{AppliesEntry}
use Rattle.follower_cache.specs.Seen.{FollowerState}
use Rattle.shard_log.specs.View.{View}
use Rattle.leader_tier.specs.shard_tables.Written.{StandsIn}
use Rattle.tao_base.specs.EdgeTypes.{EdgeTypes}
use Rattle.tao_base.specs.declared.entry.Entry.{Entry}
use Rattle.core_model.specs.Pens.{IsSeen, Pens}

-- ---- apply

-- the follower takes the changes of the entry, and marks nothing
pub record AppliesTo (types : EdgeTypes) (shard : ℕ) (entry : Entry) (note : View) (old new : FollowerState) : Type 0 where
  pub node : AppliesEntry types shard entry note old.node new.node
  pub refills : new.refills ≡ old.refills

-- ---- what was written

-- an entry was seen of a shard's log, and stands there at its position
pub record IsSeenEntry (pens : Pens) (shard : ℕ) (note : View) (entry : Entry) : Type 0 where
  pub seen : IsSeen pens shard note
  pub stands : StandsIn note entry
