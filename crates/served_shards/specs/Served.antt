-- What a contract sees of a shard that a node serves: what was processed of its log, and what was seen of it.
use Rattle.std.specs.Prelude.{ℕ, ◌==◌, if◌then◌else◌, List, [], ◌∷◌, Option, Some, None}
use Rattle.std.specs.Option.{option_map, option_map_or}
use Rattle.low_water.specs.Marks.{IsGreatest, IsWindow, Marks, marks, top_of, with_mark}
use Rattle.shard_log.specs.View.{LogName, View, longer_view}

-- a shard that the node serves: what it has processed of the shard's log, and what it has seen of it
pub record ServedShard : Type 0 where
  pub shard : ℕ
  pub marks : Marks
  pub view : View

-- what the node has of a shard, where it serves it
abbrev pub served_at : ℕ → List ServedShard → Option ServedShard
served_at shard [] = None
served_at shard (s ∷ ss) = if s.shard == shard then Some s else served_at shard ss

-- what the node has of a shard is changed so, where it serves it, and all else stays
abbrev pub changed_at : ℕ → (ServedShard → ServedShard) → List ServedShard → List ServedShard
changed_at shard f [] = []
changed_at shard f (s ∷ ss) = if s.shard == shard then f s ∷ ss else s ∷ changed_at shard f ss

-- the low-water mark of a shard, 0 where it isn't served
abbrev pub low_at : ℕ → List ServedShard → ℕ
low_at shard served = option_map_or (λ s. s.marks.low) (served_at shard served) 0

-- the greatest marked position of a shard, 0 where it isn't served
abbrev pub top_at : ℕ → List ServedShard → ℕ
top_at shard served = option_map_or (λ s. top_of s.marks) (served_at shard served) 0

-- the log of a shard, where it is served
abbrev pub log_at : ℕ → List ServedShard → Option LogName
log_at shard served = option_map (λ s. s.view.log) (served_at shard served)

-- what was seen of the log of a shard, where it is served
abbrev pub view_at : ℕ → List ServedShard → Option View
view_at shard served = option_map (λ s. s.view) (served_at shard served)

-- the low-water mark is the greatest number up to which all are marked, and those ahead are in the window
pub record IsLowWater (m : Marks) : Type 0 where
  pub greatest : IsGreatest m
  pub window : IsWindow m

-- one more position marked
abbrev pub marking : ℕ → ServedShard → ServedShard
marking position s = record s { marks = with_mark position s.marks }

-- what was marked ahead forgotten
abbrev pub forgetting : ServedShard → ServedShard
forgetting s = record s { marks = marks s.marks.low [] }

-- the longer of what was seen and what a note has seen
abbrev pub seeing : View → ServedShard → ServedShard
seeing note s = record s { view = longer_view s.view note }

-- marks and view begun anew
abbrev pub restarting : ℕ → View → ServedShard → ServedShard
restarting low note s = record s { marks = marks low []; view = longer_view s.view note }
