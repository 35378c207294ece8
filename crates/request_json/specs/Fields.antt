-- The fields of a request, each by its name and its kind. One that isn't there as it has to be is what the line is refused for.
use Rattle.std.specs.Prelude.{ℕ, Bool, false, List, [], ◌∷◌, Option, None, Some, option_map, option_and_then, unwrap_or, codes, Result, Ok, Err, ⊤}
use Rattle.serde_json.specs.Data.{Data}
use Rattle.serde_json.specs.Find.{as_object}
use Rattle.json_fields.specs.View.{view}
use Rattle.json_fields.specs.Fields.{number_at, maybe_number_at, id_of, id_at, maybe_id_at, text_at, maybe_text_at, flag_at, object_at, strange_at}
use Rattle.tao_base.specs.declared.data.Pair.{Pair}
use Rattle.tao_base.specs.Data.{in_order}
use Rattle.json_fields.specs.Items.{each_at}
use Rattle.request_json.specs.declared.fields.Fields.{Fields}
use Rattle.request_json.specs.declared.refusal.LineRefusal.{LineRefusal}
use Rattle.request_json.specs.declared.refusal.LineRefusal.TheVariants.{BadLine}
use Rattle.requests.specs.declared.calls.ListName.{ListName}
use Rattle.requests.specs.declared.calls.EdgeName.{EdgeName}
use Rattle.request_json.specs.IdSets.{id_set}
use Rattle.request_json.specs.Data.{pairs_of, fitting}
use Rattle.outcomes.specs.Results.{◌>>=◌, needed}

-- the value whose fields are read
abbrev pub said : Fields → Data
said fields = view fields.value.now

-- a whole number from the least to the most
abbrev pub number_field : List ℕ → ℕ → ℕ → Data → Result ℕ LineRefusal
number_field name least most d = needed (BadLine name) (number_at name least most d)

-- a whole number from the least to the most; None where the field is missing
abbrev pub maybe_number_field : List ℕ → ℕ → ℕ → Data → Result (Option ℕ) LineRefusal
maybe_number_field name least most d = needed (BadLine name) (maybe_number_at name least most d)

-- an id, whose serial isn't 0
abbrev pub id_field : List ℕ → Data → Result ℕ LineRefusal
id_field name d = needed (BadLine name) (id_at name d)

-- an id, whose serial isn't 0; None where the field is missing
abbrev pub maybe_id_field : List ℕ → Data → Result (Option ℕ) LineRefusal
maybe_id_field name d = needed (BadLine name) (maybe_id_at name d)

-- ids, of which a repeated one counts once
abbrev pub ids_field : List ℕ → Data → Result (List ℕ) LineRefusal
ids_field name d = needed (BadLine name) (option_map id_set (each_at id_of name d))

-- a text
abbrev pub text_field : List ℕ → Data → Result (List ℕ) LineRefusal
text_field name d = needed (BadLine name) (text_at name d)

-- a text; None where the field is missing
abbrev pub maybe_text_field : List ℕ → Data → Result (Option (List ℕ)) LineRefusal
maybe_text_field name d = needed (BadLine name) (maybe_text_at name d)

-- true or false, where missing is false
abbrev pub flag_field : List ℕ → Data → Result Bool LineRefusal
flag_field name d = needed (BadLine name) (option_map (λ flag. unwrap_or flag false) (flag_at name d))

-- the name of a strange field, where there is one, is what the line is refused for
abbrev pub none_strange : Option (List ℕ) → Result ⊤ LineRefusal
none_strange None = Ok tt
none_strange (Some name) = Err (BadLine name)

-- no field of the object has another name than these; of those that have, the least in order of bytes is refused
abbrev pub only_fields : List (List ℕ) → Data → Result ⊤ LineRefusal
only_fields names d = none_strange (strange_at names d)

-- data is the last field of its row: strange fields are looked for before its size
abbrev pub data_last : List (List ℕ) → Data → Result (List Pair) LineRefusal
data_last names d = do
  pairs ← needed (BadLine (codes "data")) (option_and_then pairs_of (option_and_then as_object (object_at (codes "data") d)))
  known ← only_fields names d
  fitting (in_order pairs)

-- a list is named by its id and its type
abbrev pub list_fields : Data → Result ListName LineRefusal
list_fields d = do
  id1 ← id_field (codes "id1") d
  atype ← text_field (codes "atype") d
  Ok (record { id1 = id1; atype = atype })

-- an edge is named by its list and its other end
abbrev pub edge_fields : Data → Result EdgeName LineRefusal
edge_fields d = do
  list ← list_fields d
  id2 ← id_field (codes "id2") d
  Ok (record { list = list; id2 = id2 })

-- what was read, as the request that it makes
abbrev pub read_as : {A B : Type 0} → (A → B) → Result A LineRefusal → Result B LineRefusal
read_as f read = do
  said ← read
  Ok (f said)

-- the node's name, of a request that has no other field
abbrev pub node_of : Data → Result (List ℕ) LineRefusal
node_of d = do
  node ← text_field (codes "node") d
  known ← only_fields (codes "do" ∷ codes "node" ∷ []) d
  Ok node
