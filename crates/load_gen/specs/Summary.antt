-- What is counted of the replies to a workload's requests, and the text that tells it.
use Rattle.std.specs.Prelude.{ℕ, ◌+◌, ◌&&◌, Bool, true, false, not, List, [], ◌∷◌, ◌++◌, codes, decimal, if◌then◌else◌}
use Rattle.replies.specs.declared.reply.Reply.{Reply}
use Rattle.replies.specs.declared.reply.Reply.TheVariants.{Refused}
use Rattle.requests.specs.declared.request.Request.{Request}
use Rattle.requests.specs.declared.request.Request.TheVariants.{Open, Store}
use Rattle.requests.specs.declared.stores.StoreRequest.TheVariants.{Settle}

-- the request is the settling, which is a workload's last one
abbrev pub is_settle : Request → Bool
is_settle (Store Settle) = true
is_settle request = false

-- the request is a call: neither a session's opening nor the settling
abbrev pub is_call : Request → Bool
is_call (Open opening) = false
is_call request = not (is_settle request)

-- the reply is a refusal
abbrev pub is_refusal : Reply → Bool
is_refusal (Refused refusal) = true
is_refusal reply = false

-- how many calls were refused by the reply to a request: one where the request is a call and the reply a refusal
abbrev pub refusals_in : Request → Reply → ℕ
refusals_in request reply = if is_call request && is_refusal reply then 1 else 0

-- how many of the requests are calls
abbrev pub calls_in : List Request → ℕ
calls_in [] = 0
calls_in (request ∷ requests) = (if is_call request then 1 else 0) + calls_in requests

-- the text that tells how many calls a workload has, and how many of them were refused: an object as replies are
abbrev pub summary_text : ℕ → ℕ → List ℕ
summary_text calls refused =
    codes "{\"calls\":" ++ decimal calls ++ codes ",\"ok\":\"gen\",\"refused\":" ++ decimal refused ++ codes "}"
