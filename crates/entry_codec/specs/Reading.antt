-- The fields of an entry, with what each allows.
use Rattle.std.specs.Prelude.{ℕ, zero, suc, ◌+◌, ◌-◌, ◌^◌, Bool, true, List, [], ◌∷◌, ◌++◌, Option, Some, None, Result, nat_le, nat_lt, not, ◌==◌}
use Rattle.std.specs.Prelude.{◌&&◌, ◌||◌, if◌then◌else◌}
use Rattle.std.specs.Cmp.Lexicographic.{slice_cmp}
use Rattle.std.specs.Int.{Width, w8, w16, w32, w64}
use Rattle.std.specs.List.{list_any, last_or}
use Rattle.std.specs.Ordering.{is_lt, nat_cmp}
use Rattle.std.specs.Str.{is_utf8}
use Rattle.tao_base.specs.Ids.{serial_of}
use Rattle.tao_base.specs.Keys.{same_key}
use Rattle.tao_base.specs.declared.data.Pair.{Pair}
use Rattle.tao_base.specs.declared.edge.Stamp.{Stamp}
use Rattle.tao_base.specs.declared.entry.Change.{Change}
use Rattle.tao_base.specs.declared.entry.Change.TheVariants.{PutObject, DropObject, SetEdge, CutEdge}
use Rattle.tao_base.specs.declared.entry.Entry.{Entry}
use Rattle.tao_base.specs.declared.entry.Kind.{Kind}
use Rattle.tao_base.specs.declared.entry.Kind.TheVariants.{ObjAdd, ObjUpdate, ObjDelete, AssocAdd, AssocDelete, AssocChangeType, Merge as Merged}
use Rattle.tao_base.specs.declared.entry.Origin.{Origin}
use Rattle.tao_base.specs.declared.entry.Origin.TheVariants.{Client, Merge}
use Rattle.tao_base.specs.declared.entry.Touch.{Touch}
use Rattle.tao_base.specs.declared.id.Key.{Key}
use Rattle.tao_base.specs.declared.id.Key.TheVariants.{Obj, List as Assocs}
use Rattle.entry_codec.specs.Fields.{Field, ◌>>=◌, spelled_bytes, ended, give, place_here, spelled_number, only, up_to}

-- a number within limits
abbrev pub lies_between : ℕ → ℕ → ℕ → Bool
lies_between low high n = nat_le low n && nat_le n high

-- a number from 1
abbrev pub spelled_positive : Width → Field ℕ
spelled_positive w = only (nat_le 1) (spelled_number w)

-- one of two numbers in a byte
abbrev pub spelled_tag : ℕ → ℕ → Field ℕ
spelled_tag a b = only (λ n. n == a || n == b) (spelled_number w8)

-- an id in 8 bytes, whose serial isn't 0
abbrev pub spelled_id : Field ℕ
spelled_id = only (λ id. nat_le 1 (serial_of id)) (spelled_number w64)

-- the kind of an entry by its number: 1 to 6 are the writes of clients, and 7 is a merge, as is any other number
abbrev pub kind_of : ℕ → Kind
kind_of n = if n == 1 then ObjAdd else if n == 2 then ObjUpdate else if n == 3 then ObjDelete else if n == 4 then AssocAdd
    else if n == 5 then AssocDelete else if n == 6 then AssocChangeType else Merged

-- the kind of an entry in one byte, from 1 to 7
abbrev pub spelled_kind : Field Kind
spelled_kind = do
  n ← only (lies_between 1 7) (spelled_number w8)
  give (kind_of n)

-- the origin of a client's write: its session in 4 bytes and its number within that in 8, both from 1
abbrev pub spelled_client : Field Origin
spelled_client = do
  session ← spelled_positive w32
  seq ← spelled_positive w64
  give (Client session seq)

-- the origin of a merge: the shard whose log left the job, in 4 bytes though below 2^16, and the position there in 8 bytes, from 1
abbrev pub spelled_merge : Field Origin
spelled_merge = do
  shard ← only (λ n. nat_lt n (2 ^ 16)) (spelled_number w32)
  position ← spelled_positive w64
  give (Merge shard position)

-- a merge of a job, or a call of a client
abbrev pub spelled_origin : Kind → Field Origin
spelled_origin Merged = spelled_merge
spelled_origin kind = spelled_client

-- a key, whether or not an earlier touch has it: tag 1 and an object's id, or tag 2, a list's id1 and its type in 2 bytes
abbrev pub spelled_any_key : Field Key
spelled_any_key = do
  tag ← spelled_tag 1 2
  id ← spelled_id
  if tag == 1 then give (Obj id) else list_of id
  where
    list_of : ℕ → Field Key
    list_of id1 = do
      atype ← spelled_number w16
      give (Assocs id1 (record { 0 = atype }))

-- a key that no earlier touch has; one that an earlier touch has is refused at its tag
abbrev pub spelled_key : List Touch → Field Key
spelled_key earlier = only (λ key. not (list_any (λ touch. same_key touch.key key) earlier)) spelled_any_key

-- whether the key is above that of the pair, in order of bytes; each key is above None
abbrev pub is_above : Option Pair → List ℕ → Bool
is_above None key = true
is_above (Some pair) key = is_lt (slice_cmp nat_cmp pair.key key)

-- whether the key is above that of the last of the earlier pairs
abbrev pub is_next_key : List Pair → List ℕ → Bool
is_next_key earlier key = is_above (last_or None earlier) key

-- the length of a text, and the text, which ends at the place or before
abbrev pub spelled_text : ℕ → Field (List ℕ)
spelled_text end = do
  len ← up_to end (spelled_number w16)
  only is_utf8 (up_to end (spelled_bytes len))

-- a text that goes on from the pairs before it
abbrev pub spelled_next_key : ℕ → List Pair → Field (List ℕ)
spelled_next_key end earlier = do
  len ← up_to end (spelled_number w16)
  only (is_next_key earlier) (only is_utf8 (up_to end (spelled_bytes len)))

-- a pair of data, which ends at the place or before: its key, which is above those of the earlier pairs, and its value
abbrev pub spelled_pair : ℕ → List Pair → Field Pair
spelled_pair end earlier = do
  key ← spelled_next_key end earlier
  value ← spelled_text end
  give (record { key = key; value = value })

-- the earlier pairs, with the given number of pairs read after them, which end at the place or before
abbrev pub spelled_pairs : ℕ → ℕ → List Pair → Field (List Pair)
spelled_pairs end zero earlier = give earlier
spelled_pairs end (suc n) earlier = do
  pair ← spelled_pair end earlier
  spelled_pairs end n (earlier ++ pair ∷ [])

-- data of at most 32 pairs and 4,096 bytes
abbrev pub spelled_data : Field (List Pair)
spelled_data = do
  start ← place_here
  count ← only (lies_between 0 32) (spelled_number w8)
  spelled_pairs (start + 4096) count []

-- the stamp of an edge: its number in 8 bytes, from 1 to 2^63 - 1, and the shard that gave it in 2
abbrev pub spelled_stamp : Field Stamp
spelled_stamp = do
  number ← only (lies_between 1 (2 ^ 63 - 1)) (spelled_number w64)
  shard ← spelled_number w16
  give (record { number = number; shard = shard })

-- the time at which an edge was live before a change, in 4 bytes behind tag 1, or None, which is tag 0: it wasn't live
abbrev pub spelled_was : Field (Option ℕ)
spelled_was = do
  tag ← spelled_tag 0 1
  if tag == 0 then give None else time
  where
    time : Field (Option ℕ)
    time = do
      time ← spelled_number w32
      give (Some time)

-- an object that is put: its type in 2 bytes, and its data
abbrev pub spelled_put : Field Change
spelled_put = do
  otype ← spelled_number w16
  payload ← spelled_data
  give (PutObject (record { otype = record { 0 = otype }; payload = payload }))

-- an edge that is set: id2, its time in 4 bytes, its stamp, the time at which it was live before, and its data
abbrev pub spelled_set : Field Change
spelled_set = do
  id2 ← spelled_id
  time ← spelled_number w32
  stamp ← spelled_stamp
  was ← spelled_was
  payload ← spelled_data
  give (SetEdge (record { id2 = id2; time = time; payload = payload; stamp = stamp }) was)

-- an edge that is cut: id2, the stamp of the cut, and the time at which the edge was live before
abbrev pub spelled_cut : Field Change
spelled_cut = do
  id2 ← spelled_id
  stamp ← spelled_stamp
  was ← spelled_was
  give (CutEdge id2 stamp was)

-- what is done at the key: an object is put or dropped, an edge of a list is set or cut
abbrev pub spelled_change : Key → Field Change
spelled_change (Obj id) = do
  tag ← spelled_tag 1 2
  if tag == 1 then spelled_put else give DropObject
spelled_change (Assocs id1 atype) = do
  tag ← spelled_tag 3 4
  if tag == 3 then spelled_set else spelled_cut

-- a touch whose key no earlier touch has: its key, the key's version in 8 bytes, from 1, and the change
abbrev pub spelled_touch : List Touch → Field Touch
spelled_touch earlier = do
  key ← spelled_key earlier
  version ← spelled_positive w64
  change ← spelled_change key
  give (record { key = key; change = change; version = version })

-- the earlier touches, with the given number of touches read after them
abbrev pub spelled_touches : ℕ → List Touch → Field (List Touch)
spelled_touches zero earlier = give earlier
spelled_touches (suc n) earlier = do
  touch ← spelled_touch earlier
  spelled_touches n (earlier ++ touch ∷ [])

-- the number of touches
abbrev pub spelled_count : Field ℕ
spelled_count = only (lies_between 1 4) (spelled_number w8)

-- an entry of a log: its position in 8 bytes, from 1, its kind, its origin, the number of its touches, and the touches
abbrev pub spelled_entry : Field Entry
spelled_entry = do
  position ← spelled_positive w64
  kind ← spelled_kind
  origin ← spelled_origin kind
  count ← spelled_count
  touches ← spelled_touches count []
  give (record { position = position; kind = kind; origin = origin; touches = touches })

-- the entry that the bytes spell, or the place of the first field that is refused
abbrev pub decoded : List ℕ → Result Entry ℕ
decoded bytes = ended (spelled_entry (record { at = 0; bytes = bytes }))

-- the data that the bytes spell, or the place of the first field that is refused
abbrev pub data_in : List ℕ → Result (List Pair) ℕ
data_in bytes = ended (spelled_data (record { at = 0; bytes = bytes }))
