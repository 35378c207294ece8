-- Room for what lies behind locks.
use Rattle.std.specs.Prelude.{ℕ, ◌≡◌, ◌≤◌, Vec, length}
use Rattle.std.specs.Vec.{vec_capacity, vec_len}
use Rattle.core_model.specs.Fleet.{follower_names, leader_names}
use Rattle.core_model.specs.Stores.{store_count}
use Rattle.topology.specs.Config.{Settings}
use Rattle.locked_nodes.specs.declared.room.RoomParts.{RoomParts}

-- nothing is in the list, which has room for so many
pub record IsRoomFor {T A : Type 0} (many : ℕ) (room : Vec T A) : Type 0 where
  pub empty : vec_len room ≡ 0
  pub enough : many ≤ vec_capacity room

-- nothing is in it, and there is room for the leaders and followers of a configuration, and for its stores with their keepers and notes
pub record HasRoomFor {K : Type 0} (s : Settings) (room : RoomParts K) : Type 0 where
  pub leaders_fit : IsRoomFor (length (leader_names s)) room.leaders
  pub followers_fit : IsRoomFor (length (follower_names s)) room.followers
  pub stores_fit : IsRoomFor (store_count s) room.stores
  pub keepers_fit : IsRoomFor (store_count s) room.keepers
  pub noted_fit : IsRoomFor (store_count s) room.noted

-- there are so many leaders, followers and stores
pub record AreMany (s : Settings) (leaders followers stores : ℕ) : Type 0 where
  pub leaders_are : leaders ≡ length (leader_names s)
  pub followers_are : followers ≡ length (follower_names s)
  pub stores_are : stores ≡ store_count s
