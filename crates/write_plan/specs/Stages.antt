-- Which stage a result comes of, and how a reply names a stage.
use Rattle.std.specs.Prelude.{Option, Some, None, Err}
use Rattle.replies.specs.declared.plans.Stage.{Stage}
use Rattle.replies.specs.declared.plans.Stage.TheVariants as said
use Rattle.replies.specs.declared.reply.Reply.{Reply}
use Rattle.write_plan.specs.declared.results.LeftOpen.TheVariants.{Refused}
use Rattle.write_plan.specs.declared.results.WriteResult.{WriteResult}
use Rattle.write_plan.specs.declared.results.WriteResult.TheVariants as came
use Rattle.write_plan.specs.declared.stage.WriteStage.{WriteStage}
use Rattle.write_plan.specs.declared.stage.WriteStage.TheVariants.{Commit, Inverse, End, Relay, Apply, Done}

-- how a reply names a stage; none where nothing is left
abbrev pub stage_said : WriteStage → Option Stage
stage_said Commit = Some said.Commit
stage_said Inverse = Some said.Inverse
stage_said End = Some said.End
stage_said Relay = Some said.Relay
stage_said Apply = Some said.Apply
stage_said Done = None

-- the stage that a result came of
abbrev pub result_stage : WriteResult → WriteStage
result_stage (came.Commit answer) = Commit
result_stage (came.Inverse answer) = Inverse
result_stage (came.End answer) = End
result_stage (came.Relay answer) = Relay
result_stage (came.Apply answer) = Apply

-- the stage is refused with the reply; a write that is done takes it as one of its last stage
abbrev pub write_refused : WriteStage → Reply → WriteResult
write_refused Commit reply = came.Commit (Err reply)
write_refused Inverse reply = came.Inverse (Err (Refused reply))
write_refused End reply = came.End (Err (Refused reply))
write_refused Relay reply = came.Relay (Err reply)
write_refused Apply reply = came.Apply (Err reply)
write_refused Done reply = came.Apply (Err reply)
