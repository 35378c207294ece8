-- Worked examples: the definitions computed on small logs.
use Rattle.std.specs.Prelude.{ℕ, suc, true, false, map, length, take, drop, flat_map, List, [], ◌∷◌, ◌++◌, Some, None, option_to_list, ◌≡◌, refl}
use Rattle.std.specs.Prelude.{if◌then◌else◌, ◌==◌, ◌-◌}
use Rattle.tao_base.specs.EdgeTypes.{EdgeTypes}
use Rattle.tao_base.specs.Spelling.{spelling}
use Rattle.tao_base.specs.declared.id.AType.{AType}
use Rattle.tao_base.specs.declared.id.OType.{OType}
use Rattle.tao_base.specs.declared.id.Key.TheVariants.{Obj, List as Assocs}
use Rattle.tao_base.specs.declared.data.Pair.{Pair}
use Rattle.tao_base.specs.declared.edge.Edge.{Edge}
use Rattle.tao_base.specs.declared.edge.EdgeState.TheVariants.{Live}
use Rattle.tao_base.specs.declared.entry.Entry.{Entry}
use Rattle.tao_base.specs.declared.entry.Change.TheVariants.{SetEdge}
use Rattle.tao_base.specs.declared.entry.Kind.TheVariants.{AssocAdd as AssocAdded, Merge as Merged}
use Rattle.tao_base.specs.declared.entry.Origin.TheVariants.{Client, Merge}
use Rattle.tao_base.specs.declared.write.Write.{Write}
use Rattle.tao_base.specs.declared.write.Write.TheVariants.{ObjAdd, ObjUpdate, ObjDelete, AssocAdd, AssocDelete, AssocChangeType}
use Rattle.tao_base.specs.declared.query.Answer.TheVariants.{Object as ObjectIs, Edges as EdgesAre, Count}
use Rattle.tao_base.specs.declared.query.Query.TheVariants.{ObjGet, AssocGet, AssocCount, AssocRange, AssocTimeRange}
use Rattle.graph_model.specs.Answers.{answer}
use Rattle.graph_model.specs.Edges.{edge_list}
use Rattle.graph_model.specs.Log.{version}
use Rattle.write_model.specs.Merges.{JobSource, job_of, merge_entry}
use Rattle.graph_model.specs.Soundness.{updates_of}
use Rattle.graph_model.specs.Prefixes.{IsPrefixOf, decides, edges_after, total_after}
use Rattle.write_model.specs.Writes.{forward_entry}

-- the log after writes of a session, which numbers them from seq on
abbrev pub log_after : EdgeTypes → ℕ → ℕ → List Entry → List Write → List Entry
log_after types session seq log [] = log
log_after types session seq log (w ∷ ws) =
    log_after types session (suc seq) (log ++ option_to_list (forward_entry types 0 log (Client session seq) w)) ws

-- edges that were written at shard 0, without data
abbrev pub edge : ℕ → ℕ → ℕ → Edge
edge id2 time number = record { id2 = id2; time = time; payload = []; stamp = record { number = number; shard = 0 } }

-- One type, without an inverse, and adds to the list of id 1.
abbrev pub likes : AType
likes = record { 0 = 0 }

-- a schema of that one type, whose lists have the bound 6,000
abbrev pub one_type : EdgeTypes
one_type = record { inverse = λ a. None; bound = λ a. 6000 }

-- the write that adds an edge from id 1 to id2 with a time, without data
abbrev pub add : ℕ → ℕ → Write
add id2 time = AssocAdd 1 likes id2 time []

-- the log of shard 0 after writes of session 1, by the schema of one type
abbrev pub added : List Write → List Entry
added writes = log_after one_type 1 1 [] writes

-- the first edge: its entry, the answer, and the entry's 66 bytes
abbrev pub first_add : List Entry
first_add = added (add 2 5 ∷ [])

first_edge_entry : first_add ≡ record {
  position = 1;
  kind = AssocAdded;
  origin = Client 1 1;
  touches = record { key = Assocs 1 likes; change = SetEdge (edge 2 5 1) None; version = 1 } ∷ [];
} ∷ []
first_edge_entry = refl

first_edge_answer : answer one_type first_add (AssocRange 1 likes 0 10) ≡ EdgesAre (edge 2 5 1 ∷ [])
first_edge_answer = refl

-- the bytes that the entry of the first edge is spelled in
abbrev pub first_edge_bytes : List ℕ
first_edge_bytes =
    0 ∷ 0 ∷ 0 ∷ 0 ∷ 0 ∷ 0 ∷ 0 ∷ 1 ∷ 4 ∷ 0 ∷ 0 ∷ 0 ∷ 1 ∷ 0 ∷ 0 ∷ 0 ∷ 0 ∷ 0 ∷ 0 ∷ 0 ∷ 1 ∷ 1 ∷
    2 ∷ 0 ∷ 0 ∷ 0 ∷ 0 ∷ 0 ∷ 0 ∷ 0 ∷ 1 ∷ 0 ∷ 0 ∷ 0 ∷ 0 ∷ 0 ∷ 0 ∷ 0 ∷ 0 ∷ 0 ∷ 1 ∷ 3 ∷ 0 ∷ 0 ∷ 0 ∷ 0 ∷ 0 ∷ 0 ∷ 0 ∷ 2 ∷
    0 ∷ 0 ∷ 0 ∷ 5 ∷ 0 ∷ 0 ∷ 0 ∷ 0 ∷ 0 ∷ 0 ∷ 0 ∷ 1 ∷ 0 ∷ 0 ∷ 0 ∷ 0 ∷ []

first_edge_spelled : map spelling first_add ≡ first_edge_bytes ∷ []
first_edge_spelled = refl

first_edge_spelled_length : length first_edge_bytes ≡ 66
first_edge_spelled_length = refl

-- an empty list has version 0 and no edges
empty_list_version : version [] (Assocs 1 likes) ≡ 0
empty_list_version = refl

empty_list_answer : answer one_type [] (AssocRange 1 likes 0 10) ≡ EdgesAre []
empty_list_answer = refl

-- of equal times the greater id comes first
equal_times_by_greater_id : answer one_type (added (add 3 7 ∷ add 9 7 ∷ add 5 7 ∷ [])) (AssocRange 1 likes 0 10)
    ≡ EdgesAre (edge 9 7 1 ∷ edge 5 7 1 ∷ edge 3 7 1 ∷ [])
equal_times_by_greater_id = refl

-- an edge that is set again, with an earlier time, moves back; a cached prefix stays one, and no longer decides
abbrev pub four_adds : List Entry
four_adds = added (add 2 9 ∷ add 3 8 ∷ add 4 7 ∷ add 5 6 ∷ [])

-- the log of the four adds after the edge to id 2 is set again, with time 5
abbrev pub set_again : List Entry
set_again = log_after one_type 1 5 four_adds (add 2 5 ∷ [])

newest_two : answer one_type four_adds (AssocRange 1 likes 0 2) ≡ EdgesAre (edge 2 9 1 ∷ edge 3 8 1 ∷ [])
newest_two = refl

newest_two_once_set_again : answer one_type set_again (AssocRange 1 likes 0 2) ≡ EdgesAre (edge 3 8 1 ∷ edge 4 7 1 ∷ [])
newest_two_once_set_again = refl

set_again_version : version set_again (Assocs 1 likes) ≡ 5
set_again_version = refl

prefix_once_set_again : take 6000 (edges_after (SetEdge (edge 2 5 2) (Some 9)) (edge 2 9 1 ∷ edge 3 8 1 ∷ []) 4) ≡ edge 3 8 1 ∷ []
prefix_once_set_again = refl

total_once_set_again : total_after (SetEdge (edge 2 5 2) (Some 9)) 4 ≡ 4
total_once_set_again = refl

prefix_stays_a_prefix : IsPrefixOf (edge 3 8 1 ∷ []) 4 (edge_list set_again 1 likes)
prefix_stays_a_prefix = record { begins = refl; length_is = refl }

prefix_leaves_range_undecided : decides 6000 (edge 3 8 1 ∷ []) 4 (AssocRange 1 likes 0 2) ≡ false
prefix_leaves_range_undecided = refl

-- an id that is not among the first edges: decided once the last of them is older than the least time, and not before
older_than_least_time_is_decided : decides 6000 (edge 2 9 1 ∷ edge 3 8 1 ∷ []) 3 (AssocGet 1 likes (50 ∷ []) None (Some 9)) ≡ true
older_than_least_time_is_decided = refl

of_least_time_is_undecided : decides 6000 (edge 2 9 1 ∷ edge 3 8 1 ∷ []) 3 (AssocGet 1 likes (50 ∷ []) None (Some 8)) ≡ false
of_least_time_is_undecided = refl

-- a time range has its ends, and one that ends before it begins has nothing
latest_time_is_in_range : answer one_type (added (add 2 4294967295 ∷ [])) (AssocTimeRange 1 likes 4294967295 4294967295 10)
    ≡ EdgesAre (edge 2 4294967295 1 ∷ [])
latest_time_is_in_range = refl

range_of_no_time : answer one_type (added (add 2 4294967295 ∷ [])) (AssocTimeRange 1 likes 5 6 10) ≡ EdgesAre []
range_of_no_time = refl

-- an object is put, put again, and dropped; each is a version
abbrev pub user : OType
user = record { 0 = 0 }

-- an object's data: the key `n` with the value `A`
abbrev pub name : List Pair
name = record { key = 110 ∷ []; value = 65 ∷ [] } ∷ []

-- the log after an object is added, updated to have no data, and deleted
abbrev pub object_writes : List Entry
object_writes = log_after one_type 1 1 [] (ObjAdd 0 user name ∷ ObjUpdate 1 [] ∷ ObjDelete 1 ∷ [])

object_put : answer one_type (take 1 object_writes) (ObjGet 1) ≡ ObjectIs (Some (record { otype = user; payload = name }))
object_put = refl

object_put_again : answer one_type (take 2 object_writes) (ObjGet 1) ≡ ObjectIs (Some (record { otype = user; payload = [] }))
object_put_again = refl

object_dropped : answer one_type object_writes (ObjGet 1) ≡ ObjectIs None
object_dropped = refl

object_versions : map (λ n. version (take n object_writes) (Obj 1)) (0 ∷ 1 ∷ 2 ∷ 3 ∷ []) ≡ 0 ∷ 1 ∷ 2 ∷ 3 ∷ []
object_versions = refl

-- Besides, a type that is its own inverse, and two that are each other's.
abbrev pub friend : AType
friend = record { 0 = 1 }

-- a type whose inverse is `followed_by`
abbrev pub follows : AType
follows = record { 0 = 2 }

-- a type whose inverse is `follows`
abbrev pub followed_by : AType
followed_by = record { 0 = 3 }

-- a schema of four types: `likes` has no inverse, `friend` is its own, and `follows` and `followed_by` are each other's
abbrev pub four_types : EdgeTypes
four_types = record {
  inverse = λ a. if a.0 == 1 then Some friend else (if a.0 == 2 then Some followed_by else (if a.0 == 3 then Some follows else None));
  bound = λ a. 6000;
}

-- the log of shard 0 after writes of session 1, by the schema of four types
abbrev pub written : List Write → List Entry
written writes = log_after four_types 1 1 [] writes

-- both ends on one shard are written by one entry
near_ends_in_one_entry : map updates_of (written (AssocAdd 1 follows 2 7 [] ∷ []))
    ≡ ((1, follows, 2, Live 7 [] (record { number = 1; shard = 0 })) ∷ (2, followed_by, 1, Live 7 [] (record { number = 1; shard = 0 })) ∷ []) ∷ []
near_ends_in_one_entry = refl

-- an edge moved to another type overwrites the edge of that type, at both ends, and keeps its time
abbrev pub moved : List Entry
moved = written (AssocAdd 1 follows 2 3 [] ∷ AssocAdd 1 friend 2 9 [] ∷ AssocChangeType 1 follows 2 friend ∷ [])

moved_here : answer four_types moved (AssocRange 1 friend 0 10) ≡ EdgesAre (edge 2 3 2 ∷ [])
moved_here = refl

moved_there : answer four_types moved (AssocRange 2 friend 0 10) ≡ EdgesAre (edge 1 3 2 ∷ [])
moved_there = refl

moved_away : answer four_types moved (AssocCount 2 followed_by) ≡ Count 0
moved_away = refl

moved_versions : map (λ id. version moved (Assocs id friend)) (1 ∷ 2 ∷ []) ≡ 2 ∷ 2 ∷ []
moved_versions = refl

-- the cuts come before the sets, at id1 and then at id2
moved_in_order : map (λ e. map (λ t. t.key) e.touches) (drop 2 moved) ≡ (Assocs 1 follows ∷ Assocs 1 friend ∷ Assocs 2 followed_by ∷ Assocs 2 friend ∷ []) ∷ []
moved_in_order = refl

moved_again_is_nothing : forward_entry four_types 0 moved (Client 1 4) (AssocChangeType 1 follows 2 friend) ≡ None
moved_again_is_nothing = refl

-- an edge from an id to itself, of a type that is its own inverse, is one record
abbrev pub loop : List Entry
loop = written (AssocAdd 1 friend 1 4 [] ∷ [])

loop_is_one_touch : map (λ e. length e.touches) loop ≡ 1 ∷ []
loop_is_one_touch = refl

loop_is_counted_once : answer four_types loop (AssocCount 1 friend) ≡ Count 1
loop_is_counted_once = refl

-- an edge to an id of shard 1: the entry leaves a job, which is merged there once
abbrev pub far : ℕ
far = 281474976710657

-- the log of shard 0 after id 1 came to follow the far id
abbrev pub far_follow : List Entry
far_follow = written (AssocAdd 1 follows far 7 [] ∷ [])

far_job : flat_map (job_of four_types) far_follow ≡ (far, followed_by, 1, Live 7 [] (record { number = 1; shard = 0 })) ∷ []
far_job = refl

-- an entry of that shard that owes records to the other one, in the first epoch
abbrev pub owes : ℕ → Entry → JobSource
owes shard e = record { shard = shard; epoch = 0; entry = e; other = 1 - shard }

-- the log with the merges of entries of another shard
abbrev pub after_merges : ℕ → List Entry → List Entry → List Entry
after_merges shard log [] = log
after_merges shard log (e ∷ es) = after_merges shard (log ++ option_to_list (merge_entry four_types log (owes shard e))) es

far_merge : after_merges 0 [] far_follow ≡ record {
  position = 1;
  kind = Merged;
  origin = Merge 0 1;
  touches = record { key = Assocs far followed_by; change = SetEdge (edge 1 7 1) None; version = 1 } ∷ [];
} ∷ []
far_merge = refl

far_merge_again_is_nothing : after_merges 0 (after_merges 0 [] far_follow) far_follow ≡ after_merges 0 [] far_follow
far_merge_again_is_nothing = refl

-- an edge that was merged is added again at one end and deleted at the other, before either hears of it: the delete, of the greater shard, stays at both
abbrev pub here : List Entry
here = written (AssocAdd 1 friend far 5 [] ∷ AssocAdd 1 friend far 9 [] ∷ [])

-- the log of shard 1, where the first add is merged and the edge is then deleted
abbrev pub there : List Entry
there = log_after four_types 1 3 (after_merges 0 [] (take 1 here)) (AssocDelete far friend 1 ∷ [])

-- the log of shard 0 once the delete of shard 1 is merged
abbrev pub here_in_the_end : List Entry
here_in_the_end = after_merges 1 here (drop 1 there)

-- the log of shard 1 once the entries of shard 0 are merged
abbrev pub there_in_the_end : List Entry
there_in_the_end = after_merges 0 there here

deleted_here : answer four_types here_in_the_end (AssocCount 1 friend) ≡ Count 0
deleted_here = refl

deleted_there : answer four_types there_in_the_end (AssocCount far friend) ≡ Count 0
deleted_there = refl

delete_is_merged_here : version here_in_the_end (Assocs 1 friend) ≡ 3
delete_is_merged_here = refl

add_is_no_news_there : version there_in_the_end (Assocs far friend) ≡ 2
add_is_no_news_there = refl

-- in the first epoch after a promotion the stamps of new writes and the numbers of merges are those after 2^32
abbrev pub far_follow_later : List Entry
far_follow_later = option_to_list (forward_entry four_types 1 [] (Client 1 1) (AssocAdd 1 follows far 7 []))

later_stamp : map updates_of far_follow_later ≡ ((1, follows, far, Live 7 [] (record { number = 4294967297; shard = 0 })) ∷ []) ∷ []
later_stamp = refl

later_merge : map (λ e. map (λ m. m.origin) (option_to_list (merge_entry four_types [] (record (owes 0 e) { epoch = 1 })))) far_follow_later
    ≡ (Merge 0 4294967297 ∷ []) ∷ []
later_merge = refl

-- and a stamp of before stands below each new one
later_stamp_over : map updates_of (option_to_list (forward_entry four_types 1 far_follow (Client 1 2) (AssocAdd 1 follows far 9 [])))
    ≡ ((1, follows, far, Live 9 [] (record { number = 4294967297; shard = 0 })) ∷ []) ∷ []
later_stamp_over = refl
