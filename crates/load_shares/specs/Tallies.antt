-- What is counted of the replies to calls.
use Rattle.std.specs.Prelude.{ℕ, ◌==◌, ◌&&◌, Bool, true, false, Option, Some, None}
use Rattle.replies.specs.declared.calls.CallReply.TheVariants.{Read as OfRead}
use Rattle.replies.specs.declared.nodes.KeptOrNot.{KeptOrNot}
use Rattle.replies.specs.declared.nodes.KeptOrNot.TheVariants.{Kept, Not}
use Rattle.replies.specs.declared.refusals.Refusal.TheVariants.{Memory}
use Rattle.replies.specs.declared.reply.Reply.{Reply}
use Rattle.replies.specs.declared.reply.Reply.TheVariants.{Called, Refused}
use Rattle.requests.specs.declared.calls.Call.TheVariants.{Read}
use Rattle.requests.specs.declared.request.Request.{Request}
use Rattle.requests.specs.declared.request.Request.TheVariants.{Call}

-- whether the reply says that there was no memory
abbrev pub says_memory : Reply → Bool
says_memory (Refused (Memory position)) = true
says_memory other = false

-- whether what a follower answered from is kept
abbrev pub is_kept : KeptOrNot → Bool
is_kept Kept = true
is_kept (Not not_kept) = false

-- whether the reply is a follower's to a read, from what it kept
abbrev pub answers_hit : Reply → Bool
answers_hit (Called (OfRead told)) = told.hops == 0 && is_kept told.kept
answers_hit other = false

-- the number of the request, where that is a read
abbrev pub reading_of : Request → ℕ → Option ℕ
reading_of (Call (Read call)) number = Some number
reading_of other number = None
