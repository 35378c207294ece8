-- What the reply to a step of a stream says.
use Rattle.std.specs.Prelude.{ℕ, ◌≡◌, ◌⊎◌, Bool, Option, Result, Ok, Err}
use Rattle.core_model.specs.Stores.{master_of, region_store}
use Rattle.core_nodes.specs.Opening.{IsSlaveStore}
use Rattle.core_nodes.specs.Settling.{IsLaterLink}
use Rattle.core_steps.specs.Streams.{StreamsOver}
use Rattle.core_steps.specs.declared.streaming.AskedStream.{AskedStream}
use Rattle.replies.specs.declared.nodes.NodeReply.TheVariants as node
use Rattle.replies.specs.declared.nodes.Streamed.{Streamed}
use Rattle.replies.specs.declared.refusals.NodeRefused.TheVariants.{IsMaster}
use Rattle.replies.specs.declared.refusals.Refusal.{Refusal}
use Rattle.replies.specs.declared.refusals.Refusal.TheVariants.{Node as OfNode}
use Rattle.replies.specs.declared.reply.Reply.{Reply}
use Rattle.replies.specs.declared.reply.Reply.TheVariants.{Node, Refused}
use Rattle.tao_core.specs.Calls.{world_of}
use Rattle.tao_core.specs.Core.{Moment}

-- a step of the stream into the store of a region and a shard, of the entry at a position, or else of the one that the store takes next
abbrev pub asked_stream : ℕ → ℕ → Option ℕ → AskedStream
asked_stream region shard position = record { at = region_store region shard; position = position }

-- how it is replied what came of a step
abbrev pub streamed_as : Result Streamed Refusal → Reply
streamed_as (Ok streamed) = Node (node.Streamed streamed)
streamed_as (Err refusal) = Refused refusal

-- the store is its shard's master's, into which no stream goes; nothing changed
pub record RefusesMaster (asked : AskedStream) (old : Moment) (reply : Reply) (new : Moment) : Type 0 where
  pub master : asked.at.region ≡ master_of old.core.settings asked.at.shard
  pub reply_is : reply ≡ Refused (OfNode (IsMaster asked.at))
  pub same : new ≡ old

-- the store is a slave's, and the reply says what came of the step. Nothing of the core but its nodes and their messages changes
pub record StreamsInto (tells : Bool) (asked : AskedStream) (old : Moment) (reply : Reply) (new : Moment) : Type 0 where
  pub slave : IsSlaveStore old.core.settings asked.at
  pub outcome : Result Streamed Refusal
  pub reply_is : reply ≡ streamed_as outcome
  pub streams : StreamsOver tells old.core.settings asked outcome (world_of old) (world_of new)
  pub link : IsLaterLink old.link new.link
  pub rest : new.core ≡ record old.core { fleet = new.core.fleet; mail = new.core.mail }

-- what the reply to a step of a stream says
abbrev pub AnswersStream : Bool → AskedStream → Moment → Reply → Moment → Type 0
AnswersStream tells asked old reply new = RefusesMaster asked old reply new ⊎ StreamsInto tells asked old reply new
