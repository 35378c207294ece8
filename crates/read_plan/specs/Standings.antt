-- Where a read stands after each stage.
use Rattle.std.specs.Prelude.{ℕ, ◌≡◌, ⊤, Bool, true, false, is_some, Option, Some, None, Ok, Err}
use Rattle.tao_base.specs.declared.query.Answer.{Answer}
use Rattle.cache_items.specs.declared.look.Kept.{Kept as KeptWhy}
use Rattle.cache_items.specs.declared.look.Look.{Look}
use Rattle.cache_items.specs.declared.look.Look.TheVariants.{Hit, Miss}
use Rattle.replies.specs.declared.nodes.KeptOrNot.TheVariants.{Kept}
use Rattle.replies.specs.declared.plans.Stage.{Stage}
use Rattle.replies.specs.declared.reply.Reply.{Reply}
use Rattle.replies.specs.declared.plans.Stage.TheVariants as named
use Rattle.sealed_item.specs.Fills.{SealedItem}
use Rattle.shard_log.specs.View.{View}
use Rattle.shard_tables.specs.declared.leader_answer.LeaderAnswer.{LeaderAnswer}
use Rattle.shard_tables.specs.declared.leader_answer.LeaderAnswer.TheVariants as leader
use Rattle.shard_tables.specs.declared.read_out.ReadOut.{ReadOut}
use Rattle.shard_tables.specs.declared.read_out.ReadOut.TheVariants as store
use Rattle.read_plan.specs.Keeping.{kept_or_not, past_bound}
use Rattle.read_plan.specs.declared.end.ReadEnd.TheVariants.{Answered, Refused}
use Rattle.read_plan.specs.declared.stages.ReadResult.{ReadResult}
use Rattle.read_plan.specs.declared.stages.ReadResult.TheVariants as came
use Rattle.read_plan.specs.declared.stages.ReadStage.{ReadStage}
use Rattle.read_plan.specs.declared.stages.ReadStage.TheVariants as stage
use Rattle.read_plan.specs.declared.standing.Given.{Given}
use Rattle.read_plan.specs.declared.standing.Given.TheVariants.{Fill, HandedOut, Past}
use Rattle.read_plan.specs.declared.standing.Standing.{Standing}
use Rattle.read_plan.specs.declared.standing.Standing.TheVariants.{Looking, Asking, Mastering, Keeping, Ended}

-- the stage that follows
abbrev pub stage_of : Standing → ReadStage
stage_of Looking = stage.Look
stage_of Asking = stage.Ask
stage_of Mastering = stage.Master
stage_of (Keeping given) = stage.Keep
stage_of (Ended end) = stage.Done

-- the stage that came to this
abbrev pub came_of : ReadResult → ReadStage
came_of (came.Look look) = stage.Look
came_of (came.Ask answer) = stage.Ask
came_of (came.Master out) = stage.Master
came_of (came.Keep found) = stage.Keep

-- the name that a stage has in replies; None for a read that is over
abbrev pub stage_named : ReadStage → Option Stage
stage_named stage.Look = Some named.Look
stage_named stage.Ask = Some named.Ask
stage_named stage.Master = Some named.Master
stage_named stage.Keep = Some named.Keep
stage_named stage.Done = None

-- the stage is refused with the reply; a read that is over takes it as one of its last stage
abbrev pub read_refused : ReadStage → Reply → ReadResult
read_refused stage.Look reply = came.Look (Err reply)
read_refused stage.Ask reply = came.Ask (Err reply)
read_refused stage.Master reply = came.Master (Err reply)
read_refused stage.Keep reply = came.Keep (Err reply)
read_refused stage.Done reply = came.Keep (Err reply)

-- a fill was given, handed out or not
abbrev pub is_fill : Given → Bool
is_fill (Fill fill) = true
is_fill (HandedOut version) = true
is_fill (Past answer version total seen) = false

-- a hit of a read that isn't critical ends it. Else the region's leader is asked, and for a critical read the master's store at once
abbrev pub after_look : Bool → Look → Standing
after_look true look = Mastering
after_look false (Hit answer version) = Ended (Answered answer version Kept)
after_look false Miss = Asking

-- what the leader gave goes to the follower. Where its store is behind, the master's answers
abbrev pub after_ask : LeaderAnswer → Standing
after_ask (leader.Filled fill) = Keeping (Fill fill)
after_ask (leader.Past answer version total note) = Keeping (Past answer version total (Some note))
after_ask (leader.Behind version) = Mastering

-- what the master's store gave goes to the follower: a fill, or an answer past the bound with its note
abbrev pub after_master : ReadOut → Standing
after_master (store.Filled fill) = Keeping (Fill fill)
after_master (store.Past answer version total note) = Keeping (Past answer version total (Some note))

-- the follower's answer ends the read at the version of the fill. Without a fill that is the answer that was given
abbrev pub after_given : ℕ → Given → Option (Answer × KeptWhy) → Standing
after_given bound (Fill fill) (Some found) = Ended (Answered found.0 fill.version (kept_or_not found.1))
after_given bound (HandedOut version) (Some found) = Ended (Answered found.0 version (kept_or_not found.1))
after_given bound (Past answer version total seen) None = Ended (Answered answer version (past_bound bound total))
after_given bound (Past answer version total seen) (Some found) = Keeping (Past answer version total seen)
after_given bound (Fill fill) None = Keeping (Fill fill)
after_given bound (HandedOut version) None = Keeping (HandedOut version)

-- where a read stands after the stage `keep`, by what the follower answered from the fill: None where none was given
abbrev pub after_keep : ℕ → Standing → Option (Answer × KeptWhy) → Standing
after_keep bound (Keeping given) found = after_given bound given found
after_keep bound at found = at

-- where a read stands after a stage that came to this. A refusal ends it
abbrev pub standing_after : Bool → ℕ → Standing → ReadResult → Standing
standing_after critical bound at (came.Look (Ok look)) = after_look critical look
standing_after critical bound at (came.Ask (Ok answer)) = after_ask answer
standing_after critical bound at (came.Master (Ok out)) = after_master out
standing_after critical bound at (came.Keep (Ok found)) = after_keep bound at found
standing_after critical bound at (came.Look (Err reply)) = Ended (Refused reply)
standing_after critical bound at (came.Ask (Err reply)) = Ended (Refused reply)
standing_after critical bound at (came.Master (Err reply)) = Ended (Refused reply)
standing_after critical bound at (came.Keep (Err reply)) = Ended (Refused reply)

-- the follower is to answer from a fill
abbrev pub has_fill : Standing → Bool
has_fill (Keeping given) = is_fill given
has_fill Looking = false
has_fill Asking = false
has_fill Mastering = false
has_fill (Ended end) = false

-- the follower answered exactly where a fill was given
abbrev pub IsAnsweredFrom : Standing → ReadResult → Type 0
IsAnsweredFrom at (came.Keep (Ok found)) = has_fill at ≡ is_some found
IsAnsweredFrom at (came.Keep (Err reply)) = ⊤
IsAnsweredFrom at (came.Look look) = ⊤
IsAnsweredFrom at (came.Ask answer) = ⊤
IsAnsweredFrom at (came.Master out) = ⊤

-- the fill that is there to be handed out
abbrev pub fill_of : Standing → Option SealedItem
fill_of (Keeping (Fill fill)) = Some fill
fill_of (Keeping (HandedOut version)) = None
fill_of (Keeping (Past answer version total seen)) = None
fill_of Looking = None
fill_of Asking = None
fill_of Mastering = None
fill_of (Ended end) = None

-- where a read stands once its fill was handed out: of the fill its version is left
abbrev pub without_fill : Standing → Standing
without_fill (Keeping (Fill fill)) = Keeping (HandedOut fill.version)
without_fill (Keeping (HandedOut version)) = Keeping (HandedOut version)
without_fill (Keeping (Past answer version total seen)) = Keeping (Past answer version total seen)
without_fill Looking = Looking
without_fill Asking = Asking
without_fill Mastering = Mastering
without_fill (Ended end) = Ended end

-- the note that is there to be handed out, of an answer past the bound
abbrev pub standing_note : Standing → Option View
standing_note (Keeping (Past answer version total seen)) = seen
standing_note (Keeping (Fill fill)) = None
standing_note (Keeping (HandedOut version)) = None
standing_note Looking = None
standing_note Asking = None
standing_note Mastering = None
standing_note (Ended end) = None

-- where a read stands once its note was handed out; one that has no note stands as before
abbrev pub without_note : Standing → Standing
without_note (Keeping (Past answer version total seen)) = Keeping (Past answer version total None)
without_note (Keeping (Fill fill)) = Keeping (Fill fill)
without_note (Keeping (HandedOut version)) = Keeping (HandedOut version)
without_note Looking = Looking
without_note Asking = Asking
without_note Mastering = Mastering
without_note (Ended end) = Ended end
