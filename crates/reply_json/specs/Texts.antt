-- The words of replies that are no request's.
use Rattle.std.specs.Prelude.{ℕ, List, codes}
use Rattle.replies.specs.declared.calls.InverseEnd.{InverseEnd}
use Rattle.replies.specs.declared.calls.InverseEnd.TheVariants as inverse
use Rattle.replies.specs.declared.calls.ScheduledWhy.{ScheduledWhy}
use Rattle.replies.specs.declared.calls.ScheduledWhy.TheVariants as scheduled
use Rattle.replies.specs.declared.nodes.NotKeptWhy.{NotKeptWhy}
use Rattle.replies.specs.declared.nodes.NotKeptWhy.TheVariants as not_kept
use Rattle.replies.specs.declared.nodes.StreamVerdict.{StreamVerdict}
use Rattle.replies.specs.declared.nodes.StreamVerdict.TheVariants as verdict
use Rattle.replies.specs.declared.plans.Stage.{Stage}
use Rattle.replies.specs.declared.plans.Stage.TheVariants as stage
use Rattle.replies.specs.declared.refusals.UnsettledWhy.{UnsettledWhy}
use Rattle.replies.specs.declared.refusals.UnsettledWhy.TheVariants as unsettled
use Rattle.replies.specs.declared.refusals.When.{When}
use Rattle.replies.specs.declared.refusals.When.TheVariants as when

-- what became of an inverse
abbrev pub inverse_text : InverseEnd → List ℕ
inverse_text inverse.None = codes "none"
inverse_text inverse.Written = codes "written"
inverse_text (inverse.Scheduled why) = codes "scheduled"

-- why an inverse is not yet written
abbrev pub scheduled_text : ScheduledWhy → List ℕ
scheduled_text scheduled.LinkFault = codes "link_fault"
scheduled_text scheduled.KeeperFault = codes "keeper_fault"
scheduled_text scheduled.LogFull = codes "log_full"
scheduled_text scheduled.NoServer = codes "no_server"
scheduled_text scheduled.Memory = codes "memory"

-- why a fill was not kept
abbrev pub not_kept_text : NotKeptWhy → List ℕ
not_kept_text not_kept.Bound = codes "bound"
not_kept_text not_kept.Asks = codes "asks"
not_kept_text not_kept.Lost = codes "lost"
not_kept_text not_kept.Mark = codes "mark"
not_kept_text not_kept.Floor = codes "floor"
not_kept_text not_kept.Memory = codes "memory"

-- what a store did with a streamed entry
abbrev pub verdict_text : StreamVerdict → List ℕ
verdict_text verdict.Applied = codes "applied"
verdict_text verdict.Old = codes "old"
verdict_text verdict.Gap = codes "gap"
verdict_text verdict.None = codes "none"

-- a stage of a plan
abbrev pub stage_text : Stage → List ℕ
stage_text stage.Look = codes "look"
stage_text stage.Ask = codes "ask"
stage_text stage.Master = codes "master"
stage_text stage.Keep = codes "keep"
stage_text stage.Commit = codes "commit"
stage_text stage.Inverse = codes "inverse"
stage_text stage.End = codes "end"
stage_text stage.Relay = codes "relay"
stage_text stage.Apply = codes "apply"

-- whether it was before the commit
abbrev pub when_text : When → List ℕ
when_text when.Before = codes "before"
when_text (when.After position) = codes "after"

-- why `settle` came to no end
abbrev pub unsettled_text : UnsettledWhy → List ℕ
unsettled_text unsettled.LinkFault = codes "link_fault"
unsettled_text unsettled.KeeperFault = codes "keeper_fault"
unsettled_text unsettled.LogFull = codes "log_full"
