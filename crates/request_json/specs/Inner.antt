-- Requests within others.
use Rattle.std.specs.Prelude.{List, ℕ, Option, None, Some, codes, Result, Ok, Err}
use Rattle.serde_json.specs.Data.{Data}
use Rattle.json_fields.specs.Fields.{object_at}
use Rattle.request_json.specs.declared.refusal.LineRefusal.{LineRefusal}
use Rattle.request_json.specs.declared.refusal.LineRefusal.TheVariants.{BadLine}
use Rattle.requests.specs.declared.calls.Call.{Call}
use Rattle.requests.specs.declared.calls.Call.TheVariants as call
use Rattle.requests.specs.declared.calls.ReadCall.{ReadCall}
use Rattle.words.specs.declared.Word.{Word}
use Rattle.words.specs.declared.Word.TheVariants as word
use Rattle.request_json.specs.Calls.{write_of, read_of}
use Rattle.request_json.specs.Fields.{only_fields}
use Rattle.outcomes.specs.Results.{◌>>=◌, needed}

-- the fields of a request within another count as the field `request` of that one; its data comes after all fields of both
abbrev pub asked_within : {A : Type 0} → List (List ℕ) → Data → Result A LineRefusal → Result A LineRefusal
asked_within names d (Err (BadLine field)) = Err (BadLine (codes "request"))
asked_within names d inner = do
  known ← only_fields names d
  inner

-- a call within another request is one of the writes and reads
abbrev pub call_by : Option Word → Data → Result Call LineRefusal
call_by (Some (word.Write word)) d = do
  write ← write_of word d
  Ok (call.Write write)
call_by (Some (word.Read word)) d = do
  read ← read_of word d
  Ok (call.Read read)
call_by other d = Err (BadLine (codes "do"))

-- a read within another request is one of the reads
abbrev pub read_by : Option Word → Data → Result ReadCall LineRefusal
read_by (Some (word.Read word)) d = read_of word d
read_by other d = Err (BadLine (codes "do"))

-- the request within a request: the object in the field `request`
abbrev pub inner_field : Data → Result Data LineRefusal
inner_field d = needed (BadLine (codes "request")) (object_at (codes "request") d)
