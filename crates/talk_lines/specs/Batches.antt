-- The fields of a batch: reads of one session.
use Rattle.std.specs.Prelude.{ℕ, ◌≡◌, ◌≤◌, ◌&&◌, ◌==◌, Bool, false, nat_le, List, length, Option, None, Some, All, codes, Result, Ok, Err}
use Rattle.std.specs.Bool.{then_some}
use Rattle.std.specs.List.{list_all}
use Rattle.serde_json.specs.Data.{Data}
use Rattle.json_fields.specs.Items.{each_at}
use Rattle.json_fields.specs.View.{view}
use Rattle.outcomes.specs.Options.{◌>>=◌}
use Rattle.request_json.specs.Inner.{read_by}
use Rattle.request_json.specs.Word.{word_of}
use Rattle.request_json.specs.declared.refusal.LineRefusal.{LineRefusal}
use Rattle.requests.specs.declared.calls.Call.TheVariants as call
use Rattle.requests.specs.declared.calls.ReadCall.{ReadCall}
use Rattle.requests.specs.declared.request.Request.{Request}
use Rattle.requests.specs.declared.request.Request.TheVariants as request
use Rattle.talk_lines.specs.declared.fields.Fields.{Fields}

-- the value whose fields are read
abbrev pub said : Fields → Data
said fields = view fields.value.now

-- ---- what is read

-- the request of a read; nothing where it was refused
abbrev pub taken_read : Result ReadCall LineRefusal → Option Request
taken_read (Ok read) = Some (request.Call (call.Read read))
taken_read (Err refused) = None

-- the read that a value says; nothing where it says none, or has strange fields
abbrev pub read_said : Data → Option Request
read_said d = taken_read (read_by (word_of d) d)

-- the request is a read of the session
abbrev pub is_read_of : ℕ → Request → Bool
is_read_of session (request.Call (call.Read read)) = read.session == session
is_read_of session other = false

-- they are 1 to 256 reads of the session
abbrev pub are_batch : ℕ → List Request → Bool
are_batch session requests = nat_le 1 (length requests) && nat_le (length requests) 256 && list_all (is_read_of session) requests

-- the reads in the field `requests`, where they are 1 to 256 of the session
abbrev pub batch_reads : ℕ → Data → Option (List Request)
batch_reads session d = do
  requests ← each_at read_said (codes "requests") d
  then_some (are_batch session requests) requests

-- ---- what comes of it

-- the request is a read of the session
abbrev pub IsReadOf : ℕ → Request → Type 0
IsReadOf session (request.Call (call.Read read)) = read.session ≡ session
IsReadOf session other = ⊥

-- the requests are 1 to 256 reads of the session
pub record AreBatch (session : ℕ) (requests : List Request) : Type 0 where
  pub some : 1 ≤ length requests
  pub most : length requests ≤ 256
  pub reads : All (IsReadOf session) requests
