-- What a whole line asks.
use Rattle.std.specs.Prelude.{ℕ, List, is_some, if◌then◌else◌, codes, Result, Ok, Err}
use Rattle.serde_json.specs.Data.{Data}
use Rattle.serde_json.specs.Find.{as_object}
use Rattle.json_fields.specs.Json.{json_of}
use Rattle.request_json.specs.declared.refusal.LineRefusal.{LineRefusal}
use Rattle.request_json.specs.declared.refusal.LineRefusal.TheVariants.{BadLine}
use Rattle.requests.specs.declared.calls.Call.TheVariants as call
use Rattle.requests.specs.declared.request.Request.{Request}
use Rattle.requests.specs.declared.request.Request.TheVariants as request
use Rattle.words.specs.declared.Word.{Word}
use Rattle.words.specs.declared.Word.TheVariants as word
use Rattle.request_json.specs.Caches.{delivery_of, drop_of, evict_of, inbox_of, refilling_of, show_of}
use Rattle.request_json.specs.Calls.{write_of, read_of}
use Rattle.request_json.specs.Fields.{read_as}
use Rattle.request_json.specs.Health.{health_of}
use Rattle.request_json.specs.Links.{link_of}
use Rattle.request_json.specs.Plans.{planning_of}
use Rattle.request_json.specs.Sessions.{open_of}
use Rattle.request_json.specs.Stores.{audit_of, repair_of, settle_of, stream_of, trim_of}
use Rattle.request_json.specs.Word.{word_of}
use Rattle.outcomes.specs.Results.{◌>>=◌, needed}

-- each word is of a family, whose file has its row
abbrev pub request_of : Word → Data → Result Request LineRefusal
request_of word.Open d = read_as request.Open (open_of d)
request_of (word.Write which) d = read_as (λ write. request.Call (call.Write write)) (write_of which d)
request_of (word.Read which) d = read_as (λ read. request.Call (call.Read read)) (read_of which d)
request_of (word.Plan which) d = read_as request.Plan (planning_of which d)
request_of (word.Delivery which) d = read_as request.Cache (delivery_of which d)
request_of word.Drop d = read_as request.Cache (drop_of d)
request_of word.Inbox d = read_as request.Cache (inbox_of d)
request_of word.Refill d = read_as request.Cache (refilling_of d)
request_of word.Evict d = read_as request.Cache (evict_of d)
request_of word.Show d = read_as request.Cache (show_of d)
request_of word.Stream d = read_as request.Store (stream_of d)
request_of word.Trim d = read_as request.Store (trim_of d)
request_of word.Repair d = read_as request.Store (repair_of d)
request_of word.Settle d = read_as request.Store (settle_of d)
request_of word.Audit d = read_as request.Store (audit_of d)
request_of (word.Health which) d = read_as request.Health (health_of which d)
request_of (word.Link which) d = read_as request.Link (link_of which d)

-- what a value asks: it is an object, with a word
abbrev pub request_by : Data → Result Request LineRefusal
request_by d =
    if is_some (as_object d) then (do
      word ← needed (BadLine (codes "do")) (word_of d)
      request_of word d)
    else Err (BadLine (codes ""))

-- what a line asks, or the first rule that it breaks
abbrev pub request_in : List ℕ → Result Request LineRefusal
request_in line = do
  d ← needed (BadLine (codes "")) (json_of line)
  request_by d
