-- Why a read gets no answer.
use Rattle.std.specs.Prelude.{◌≡◌}
use Rattle.replies.specs.declared.refusals.Refusal.{Refusal}
use Rattle.replies.specs.declared.refusals.Refusal.TheVariants.{Memory, Store}
use Rattle.replies.specs.declared.refusals.StoreRefused.TheVariants.{KeeperFault, LinkFault}
use Rattle.replies.specs.declared.refusals.When.TheVariants.{Before}
use Rattle.replies.specs.declared.reply.Reply.{Reply}
use Rattle.replies.specs.declared.reply.Reply.TheVariants.{Refused}

-- why a read gets no answer, where the link has failed, as the one says, and keepers may fail, as the other one does: for that, or for want of memory. For
-- no other cause
abbrev pub RefusesFor : Type 0 → Type 0 → Refusal → Type 0
RefusesFor failed fails (Store (LinkFault count Before)) = failed
RefusesFor failed fails (Store (KeeperFault count)) = fails
RefusesFor failed fails (Memory position) = position ≡ 0
RefusesFor failed fails other = ⊥

-- the reply is a refusal, for such a cause
abbrev pub RepliesRefused : Type 0 → Type 0 → Reply → Type 0
RepliesRefused failed fails (Refused refusal) = RefusesFor failed fails refusal
RepliesRefused failed fails other = ⊥
