-- The fields of `open`.
use Rattle.std.specs.Prelude.{List, [], ◌∷◌, codes, Result, Ok}
use Rattle.serde_json.specs.Data.{Data}
use Rattle.request_json.specs.declared.refusal.LineRefusal.{LineRefusal}
use Rattle.requests.specs.declared.request.OpenCall.{OpenCall}
use Rattle.request_json.specs.Calls.{session_field}
use Rattle.request_json.specs.Fields.{text_field, only_fields}
use Rattle.outcomes.specs.Results.{◌>>=◌}

-- the fields of `open`: a session's number, and the names of the region and tier that it opens in
abbrev pub open_of : Data → Result OpenCall LineRefusal
open_of d = do
  session ← session_field d
  region ← text_field (codes "region") d
  tier ← text_field (codes "tier") d
  known ← only_fields (codes "do" ∷ codes "session" ∷ codes "region" ∷ codes "tier" ∷ []) d
  Ok (record { session = session; region = region; tier = tier })
