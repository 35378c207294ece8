-- Which herd a request's reader belongs to.
use Rattle.std.specs.Prelude.{◌≡◌, false, ⊤, IsOkAnd}
use Rattle.herd_state.specs.declared.name.HerdName.{HerdName}
use Rattle.request_check.specs.Requests.{checked_of}
use Rattle.request_check.specs.declared.checked.Checked.{Checked}
use Rattle.request_check.specs.declared.checked.Checked.TheVariants as checked
use Rattle.request_check.specs.declared.checked.CheckedCall.TheVariants.{Read}
use Rattle.request_check.specs.declared.checked.CheckedRead.{CheckedRead}
use Rattle.requests.specs.declared.calls.Call.TheVariants as call
use Rattle.requests.specs.declared.request.Request.{Request}
use Rattle.requests.specs.declared.request.Request.TheVariants as request
use Rattle.session_pass.specs.Passes.{SeenPass}
use Rattle.tao_base.specs.Queries.{query_key}
use Rattle.topology.specs.Config.{Settings}

-- the request is a read
abbrev pub AsksRead : Request → Type 0
AsksRead (request.Call (call.Read read)) = ⊤
AsksRead other = ⊥

-- the read isn't critical, and the name is that of its key in the tier of the pass
abbrev pub ReadsKey : SeenPass → CheckedRead → HerdName → Type 0
ReadsKey pass read name = (read.critical ≡ false) × (name ≡ record { region = pass.region; tier = pass.tier; key = query_key read.query })

-- a request whose names are places is such a read
abbrev pub ReadsAs : SeenPass → Checked → HerdName → Type 0
ReadsAs pass (checked.Call (Read read)) name = ReadsKey pass read name
ReadsAs pass other name = ⊥

-- each name of the request is there, and it is such a read
abbrev pub IsHerdOf : Settings → SeenPass → Request → HerdName → Type 0
IsHerdOf settings pass request name = IsOkAnd (checked_of settings request) (λ checked. ReadsAs pass checked name)
