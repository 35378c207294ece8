-- What the reply to a trim says.
use Rattle.std.specs.Prelude.{ℕ, ◌≡◌, ◌⊎◌, Bool}
use Rattle.core_steps.specs.ReadSteps.{AskFails}
use Rattle.core_trims.specs.Trims.{TrimsOver}
use Rattle.replies.specs.declared.nodes.NodeReply.TheVariants as node
use Rattle.replies.specs.declared.nodes.Trimmed.{Trimmed}
use Rattle.replies.specs.declared.refusals.Refusal.{Refusal}
use Rattle.replies.specs.declared.reply.Reply.{Reply}
use Rattle.replies.specs.declared.reply.Reply.TheVariants.{Node, Refused}
use Rattle.tao_base.specs.declared.id.StoreName.{StoreName}
use Rattle.tao_keeper.specs.KeeperState.{KeepsTables}
use Rattle.tao_core.specs.Calls.{world_of}
use Rattle.tao_core.specs.Core.{Moment}

-- the store's log is cut, and the nodes that lie behind begin anew. Nothing of the core but its nodes and their messages changes, and no link carries
pub record TrimsStore (tells : Bool) (at : StoreName) (position : ℕ) (old : Moment) (reply : Reply) (new : Moment) : Type 0 where
  pub trimmed : Trimmed
  pub reply_is : reply ≡ Node (node.Trimmed trimmed)
  pub trims : TrimsOver tells old.core.settings at position trimmed (world_of old) (world_of new)
  pub rest : new ≡ record old { core = record old.core { fleet = new.core.fleet; mail = new.core.mail }; keepers = new.keepers }

-- a keeper failed, or there was no memory, before the cut. Nothing changed but what the keepers show
pub record FailsToTrim (tells : Bool) (old : Moment) (reply : Reply) (new : Moment) : Type 0 where
  pub refusal : Refusal
  pub reply_is : reply ≡ Refused refusal
  pub fails : AskFails refusal old.keepers new.keepers
  pub tables : KeepsTables tells old.keepers new.keepers
  pub rest : new ≡ record old { keepers = new.keepers }

-- what the reply to a trim says
abbrev pub AnswersTrim : Bool → StoreName → ℕ → Moment → Reply → Moment → Type 0
AnswersTrim tells at position old reply new = TrimsStore tells at position old reply new ⊎ FailsToTrim tells old reply new
