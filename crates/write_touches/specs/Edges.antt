-- The records that a write gives at id1, over the records that stand there.
use Rattle.std.specs.Prelude.{ℕ, ◌≡◌, ◌+◌, ◌<◌, ◌≤◌, Bool, List, [], ◌∷◌, All, Option, Some, None, if◌then◌else◌, max, ◌==◌, ⊤}
use Rattle.std.specs.List.{AllByRecursion}
use Rattle.tao_base.specs.Ids.{shard_of}
use Rattle.tao_base.specs.Stamps.{stamp_of}
use Rattle.tao_base.specs.declared.edge.EdgeState.{EdgeState}
use Rattle.tao_base.specs.declared.edge.EdgeState.TheVariants.{Live, Cut}
use Rattle.tao_base.specs.declared.edge.Stamp.{Stamp}
use Rattle.tao_base.specs.declared.id.AType.{AType}
use Rattle.tao_base.specs.declared.entry.Entry.{Entry}
use Rattle.tao_base.specs.declared.entry.Touch.{Touch}
use Rattle.tao_base.specs.declared.id.Id.{Id}
use Rattle.tao_base.specs.declared.id.Key.TheVariants.{List as Assocs}
use Rattle.tao_base.specs.declared.write.Write.{Write}
use Rattle.tao_base.specs.declared.write.Write.TheVariants.{ObjAdd, ObjUpdate, ObjDelete, AssocAdd, AssocDelete, AssocChangeType}
use Rattle.graph_model.specs.Edges.{live_time, number_of}
use Rattle.graph_model.specs.Records.{is_news}
use Rattle.graph_model.specs.Soundness.{EdgeUpdate}
use Rattle.write_model.specs.Writes.{change_to, edge_touch, epoch_base, touch_of}

-- the stamp after that of the record, in the epoch
abbrev pub stamp_after : ℕ → Id → Option EdgeState → Stamp
stamp_after epoch id1 old = record { number = max (number_of old) (epoch_base epoch) + 1; shard = shard_of id1 }

-- the edge is cut where its record is live
abbrev pub cut_over : ℕ → Id → AType → Id → Option EdgeState → List EdgeUpdate
cut_over epoch id1 atype id2 (Some (Live time payload stamp)) = (id1, atype, id2, Cut (stamp_after epoch id1 (Some (Live time payload stamp)))) ∷ []
cut_over epoch id1 atype id2 (Some (Cut stamp)) = []
cut_over epoch id1 atype id2 None = []

-- the edge is moved to a new type, over its record there, where its record of the old type is live
abbrev pub move_over : ℕ → Id → AType → Id → AType → Option EdgeState → Option EdgeState → List EdgeUpdate
move_over epoch id1 atype id2 newtype (Some (Live time payload stamp)) there =
    (id1, atype, id2, Cut (stamp_after epoch id1 (Some (Live time payload stamp)))) ∷ (id1, newtype, id2, Live time payload (stamp_after epoch id1 there)) ∷ []
move_over epoch id1 atype id2 newtype (Some (Cut stamp)) there = []
move_over epoch id1 atype id2 newtype None there = []

-- whether a record has the stamp number that no record may have
abbrev pub is_past_stamps : EdgeUpdate → Bool
is_past_stamps u = (stamp_of u.3).number == 4611686018427387904

-- the numbers of the records' stamps are at most 2^62, which no record may have
pub record AreNext (us : List EdgeUpdate) : Type 0 where
  pub each : AllByRecursion (λ u. (stamp_of u.3).number ≤ 4611686018427387904) us

-- the numbers of the records' stamps are below 2^62, as those of all records that stand
pub record AreStamped (us : List EdgeUpdate) : Type 0 where
  pub each : All (λ u. (stamp_of u.3).number < 4611686018427387904) us

-- the records are those of the write over some records, of which nothing is said
abbrev pub AreOverSome : ℕ → Write → List EdgeUpdate → Type 0
AreOverSome epoch (AssocAdd id1 atype id2 time payload) us =
    (old : Option EdgeState) × (us ≡ (id1, atype, id2, Live time payload (stamp_after epoch id1 old)) ∷ [])
AreOverSome epoch (AssocDelete id1 atype id2) us = (old : Option EdgeState) × (us ≡ cut_over epoch id1 atype id2 old)
AreOverSome epoch (AssocChangeType id1 atype id2 newtype) us =
    (old : Option EdgeState) × (there : Option EdgeState) × (us ≡ move_over epoch id1 atype id2 newtype old there)
AreOverSome epoch (ObjAdd shard otype payload) us = us ≡ []
AreOverSome epoch (ObjUpdate id payload) us = us ≡ []
AreOverSome epoch (ObjDelete id) us = us ≡ []

-- the touch writes the record
pub record WritesRecord (u : EdgeUpdate) (t : Touch) : Type 0 where
  pub was : Option ℕ
  pub key_is : t.key ≡ Assocs u.0 u.1
  pub change_is : t.change ≡ change_to u.2 u.3 was

-- each touch writes the record in its place
abbrev pub WriteRecords : List EdgeUpdate → List Touch → Type 0
WriteRecords [] [] = ⊤
WriteRecords [] (t ∷ ts) = ⊥
WriteRecords (u ∷ us) [] = ⊥
WriteRecords (u ∷ us) (t ∷ ts) = WritesRecord u t × WriteRecords us ts

-- the touch that writes the record over this one
abbrev pub touch_over : List Entry → EdgeUpdate → Option EdgeState → Touch
touch_over log u old = touch_of log (Assocs u.0 u.1) (change_to u.2 u.3 (live_time old))

-- the touch that writes the record, where it is later than the log's
abbrev pub news_touch : List Entry → EdgeUpdate → Option Touch
news_touch log u = if is_news log u then Some (edge_touch log u) else None
