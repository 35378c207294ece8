-- What a line of a connection asks.
use Rattle.std.specs.Prelude.{ℕ, Bool, List, [], ◌∷◌, Option, None, Some, option_and_then, false, bytes_eq, if◌then◌else◌, codes, Result, Ok, Err, ⊤}
use Rattle.serde_json.specs.Data.{Data}
use Rattle.json_fields.specs.Fields.{text_at}
use Rattle.json_fields.specs.Json.{json_of}
use Rattle.outcomes.specs.Results.{◌>>=◌, needed}
use Rattle.request_json.specs.Calls.{session_field}
use Rattle.request_json.specs.Fields.{only_fields, read_as}
use Rattle.request_json.specs.Requests.{request_in}
use Rattle.request_json.specs.declared.refusal.LineRefusal.{LineRefusal}
use Rattle.request_json.specs.declared.refusal.LineRefusal.TheVariants.{BadLine}
use Rattle.talk_lines.specs.Batches.{AreBatch, batch_reads}
use Rattle.talk_lines.specs.declared.line.TalkLine.{TalkLine}
use Rattle.talk_lines.specs.declared.line.TalkLine.TheVariants.{Batch, One}

-- the text is the word of a batch
abbrev pub is_batch_word : Option (List ℕ) → Bool
is_batch_word None = false
is_batch_word (Some text) = bytes_eq text (codes "batch")

-- the value asks for a batch
abbrev pub asks_batch : Data → Bool
asks_batch d = is_batch_word (text_at (codes "do") d)

-- the line asks for a batch
abbrev pub is_batch_line : List ℕ → Bool
is_batch_line line = is_batch_word (option_and_then (text_at (codes "do")) (json_of line))

-- the fields of `batch`: a session's number, and 1 to 256 reads of that session, which are one field
abbrev pub batch_of : Data → Result TalkLine LineRefusal
batch_of d = do
  session ← session_field d
  requests ← needed (BadLine (codes "requests")) (batch_reads session d)
  known ← only_fields (codes "do" ∷ codes "session" ∷ codes "requests" ∷ []) d
  Ok (Batch session requests)

-- the batch that a value asks for; one of another word is refused for that
abbrev pub batch_by : Data → Result TalkLine LineRefusal
batch_by d = if asks_batch d then batch_of d else Err (BadLine (codes "do"))

-- the batch that a line asks for, or the first rule of it that the line breaks
abbrev pub batch_in : List ℕ → Result TalkLine LineRefusal
batch_in line = do
  d ← needed (BadLine (codes "do")) (json_of line)
  batch_by d

-- what a line of a connection asks, or the first rule that it breaks: a batch where that is its word, else what a line asks of a store anywhere
abbrev pub talk_in : List ℕ → Result TalkLine LineRefusal
talk_in line = if is_batch_line line then batch_in line else read_as One (request_in line)

-- a batch is of 1 to 256 reads of its session
abbrev pub IsTalk : TalkLine → Type 0
IsTalk (One request) = ⊤
IsTalk (Batch session requests) = AreBatch session requests

-- the line is refused for its word
abbrev pub names_word : LineRefusal → Bool
names_word (BadLine field) = bytes_eq field (codes "do")
names_word other = false
