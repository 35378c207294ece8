-- The requests about cache nodes: the fields of each, in their order.
use Rattle.std.specs.Prelude.{ℕ, ◌^◌, ◌-◌, List, [], ◌∷◌, Option, None, Some, codes, Result, Ok, Err}
use Rattle.serde_json.specs.Data.{Data}
use Rattle.request_json.specs.declared.refusal.LineRefusal.{LineRefusal}
use Rattle.request_json.specs.declared.refusal.LineRefusal.TheVariants.{BadLine}
use Rattle.requests.specs.declared.caches.CacheRequest.{CacheRequest}
use Rattle.requests.specs.declared.caches.CacheRequest.TheVariants as request
use Rattle.requests.specs.declared.caches.KeyName.{KeyName}
use Rattle.requests.specs.declared.caches.KeyName.TheVariants as key
use Rattle.requests.specs.declared.caches.MessageName.{MessageName}
use Rattle.words.specs.declared.DeliveryWord.{DeliveryWord}
use Rattle.words.specs.declared.DeliveryWord.TheVariants.{Deliver, Again}
use Rattle.request_json.specs.Fields.{number_field, maybe_id_field, maybe_text_field, text_field, only_fields, node_of, read_as}
use Rattle.outcomes.specs.Results.{◌>>=◌, needed}

-- ---- messages

-- a node's name, and the place of a message in its inbox, from 0
abbrev pub message_of : Data → Result MessageName LineRefusal
message_of d = do
  node ← text_field (codes "node") d
  message ← number_field (codes "message") 0 (2 ^ 32 - 1) d
  known ← only_fields (codes "do" ∷ codes "node" ∷ codes "message" ∷ []) d
  Ok (record { node = node; message = message })

-- a message that its node processes: taken out of the inbox, or left there
abbrev pub delivery_of : DeliveryWord → Data → Result CacheRequest LineRefusal
delivery_of Deliver d = read_as request.Deliver (message_of d)
delivery_of Again d = read_as request.Again (message_of d)

-- the fields of `drop`: those of a message, which is lost
abbrev pub drop_of : Data → Result CacheRequest LineRefusal
drop_of d = read_as request.Drop (message_of d)

-- the fields of `inbox`: the node whose messages are shown
abbrev pub inbox_of : Data → Result CacheRequest LineRefusal
inbox_of d = read_as request.Inbox (node_of d)

-- ---- items

-- the fields of `refill`: the node whose oldest refill is read
abbrev pub refilling_of : Data → Result CacheRequest LineRefusal
refilling_of d = read_as request.Refill (node_of d)

-- a key is given by an id alone or by an id1 and a type together, or isn't given
abbrev pub key_given : Option ℕ → Option ℕ → Option (List ℕ) → Result (Option KeyName) LineRefusal
key_given None None None = Ok None
key_given (Some id) None None = Ok (Some (key.Object id))
key_given None (Some id1) (Some atype) = Ok (Some (key.List (record { id1 = id1; atype = atype })))
key_given id id1 atype = Err (BadLine (codes "id"))

-- the key that the fields `id`, or `id1` and `atype`, name; None where all three are missing
abbrev pub key_fields : Data → Result (Option KeyName) LineRefusal
key_fields d = do
  id ← maybe_id_field (codes "id") d
  id1 ← maybe_id_field (codes "id1") d
  atype ← maybe_text_field (codes "atype") d
  key_given id id1 atype

-- the fields of `evict`: a node's name and a key, which may be missing
abbrev pub evict_of : Data → Result CacheRequest LineRefusal
evict_of d = do
  node ← text_field (codes "node") d
  key ← key_fields d
  known ← only_fields (codes "do" ∷ codes "node" ∷ codes "id" ∷ codes "id1" ∷ codes "atype" ∷ []) d
  Ok (request.Evict node key)

-- the fields of `show`: a node's name and a key, without which the field `id` is refused
abbrev pub show_of : Data → Result CacheRequest LineRefusal
show_of d = do
  node ← text_field (codes "node") d
  given ← key_fields d
  key ← needed (BadLine (codes "id")) given
  known ← only_fields (codes "do" ∷ codes "node" ∷ codes "id" ∷ codes "id1" ∷ codes "atype" ∷ []) d
  Ok (request.Show node key)
