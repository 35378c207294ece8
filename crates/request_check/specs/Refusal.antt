-- Why a request is refused, and how that is replied.
use Rattle.std.specs.Prelude.{Option, None, Some, Result}
use Rattle.outcomes.specs.Results.{with_refusal}
use Rattle.replies.specs.declared.refusals.NameRefused.{NameRefused}
use Rattle.replies.specs.declared.refusals.Refusal.{Refusal}
use Rattle.replies.specs.declared.refusals.Refusal.TheVariants.{Name, Memory}
use Rattle.replies.specs.declared.reply.Reply.{Reply}
use Rattle.replies.specs.declared.reply.Reply.TheVariants as reply
use Rattle.request_check.specs.declared.refusal.CheckRefusal.{CheckRefusal}
use Rattle.request_check.specs.declared.refusal.CheckRefusal.TheVariants as refusal
use Rattle.request_check.specs.declared.refusal.NameError.{NameError}
use Rattle.request_check.specs.declared.refusal.NameError.TheVariants.{Refused, OutOfMemory}

-- the refused name, unless there was no memory
abbrev pub name_unless_memory : NameError → Option NameRefused
name_unless_memory (Refused refused) = Some refused
name_unless_memory OutOfMemory = None

-- what is replied, unless there was no memory
abbrev pub reply_unless_memory : CheckRefusal → Option Reply
reply_unless_memory (refusal.Refused reply) = Some reply
reply_unless_memory refusal.OutOfMemory = None

-- how it is replied that nothing is asked
abbrev pub reply_as : CheckRefusal → Reply
reply_as (refusal.Refused reply) = reply
reply_as refusal.OutOfMemory = reply.Refused (Memory 0)

-- a refused name is a refusal
abbrev pub for_name : {A : Type 0} → Result A NameRefused → Result A Refusal
for_name found = with_refusal Name found

-- a refusal is replied
abbrev pub replied : {A : Type 0} → Result A Refusal → Result A Reply
replied found = with_refusal reply.Refused found

-- why a name has no place is why the request is refused
abbrev pub check_refusal : NameError → CheckRefusal
check_refusal (Refused refused) = refusal.Refused (reply.Refused (Name refused))
check_refusal OutOfMemory = refusal.OutOfMemory
