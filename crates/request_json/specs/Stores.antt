-- The requests about stores: the fields of each, in their order.
use Rattle.std.specs.Prelude.{ℕ, ◌^◌, ◌-◌, [], ◌∷◌, codes, Result, Ok}
use Rattle.serde_json.specs.Data.{Data}
use Rattle.request_json.specs.declared.refusal.LineRefusal.{LineRefusal}
use Rattle.requests.specs.declared.stores.StoreRequest.{StoreRequest}
use Rattle.requests.specs.declared.stores.StoreRequest.TheVariants as request
use Rattle.request_json.specs.Fields.{number_field, maybe_number_field, text_field, only_fields}
use Rattle.request_json.specs.Inner.{asked_within, inner_field, read_by}
use Rattle.request_json.specs.Word.{word_of}
use Rattle.outcomes.specs.Results.{◌>>=◌}

-- the number of a shard, from 0 to 2^16 - 1
abbrev pub shard_field : Data → Result ℕ LineRefusal
shard_field d = number_field (codes "shard") 0 (2 ^ 16 - 1) d

-- the fields of `stream`: a region's name, a shard, and an entry's position; None is the entry that the store takes next
abbrev pub stream_of : Data → Result StoreRequest LineRefusal
stream_of d = do
  region ← text_field (codes "region") d
  shard ← shard_field d
  position ← maybe_number_field (codes "position") 1 (2 ^ 64 - 1) d
  known ← only_fields (codes "do" ∷ codes "region" ∷ codes "shard" ∷ codes "position" ∷ []) d
  Ok (request.Stream region shard position)

-- the fields of `trim`: a region's name, a shard, and the position of the last entry that is to be old
abbrev pub trim_of : Data → Result StoreRequest LineRefusal
trim_of d = do
  region ← text_field (codes "region") d
  shard ← shard_field d
  position ← number_field (codes "position") 1 (2 ^ 64 - 1) d
  known ← only_fields (codes "do" ∷ codes "region" ∷ codes "shard" ∷ codes "position" ∷ []) d
  Ok (request.Trim region shard position)

-- the fields of `repair`: the shard whose first job is run
abbrev pub repair_of : Data → Result StoreRequest LineRefusal
repair_of d = do
  shard ← shard_field d
  known ← only_fields (codes "do" ∷ codes "shard" ∷ []) d
  Ok (request.Repair shard)

-- a `settle` has no field but its word
abbrev pub settle_of : Data → Result StoreRequest LineRefusal
settle_of d = do
  known ← only_fields (codes "do" ∷ []) d
  Ok request.Settle

-- the fields of `audit`: the read that is answered from the log alone
abbrev pub audit_of : Data → Result StoreRequest LineRefusal
audit_of d = do
  inner ← inner_field d
  read ← asked_within (codes "do" ∷ codes "request" ∷ []) d (read_by (word_of inner) inner)
  Ok (request.Audit read)
