-- A run that may go on may go on after each that it is given.
use Rattle.std.proofs.Common.{ℕ, Bool, List, [], ◌∷◌, Result, Ok, Err, sym, subst}
use Rattle.core_nodes.specs.Outside.{Outside}
use Rattle.replies.specs.declared.reply.Reply.{Reply}
use Rattle.request_json.specs.declared.refusal.LineRefusal.{LineRefusal}
use Rattle.requests.specs.declared.request.Request.{Request}
use Rattle.tao_core.specs.Core.{CoreState, IsCoreOf, Moment, moment_of}
use Rattle.tao_top.proofs.Answering.{takes_of}
use Rattle.tao_top.specs.Laws.{MayGoOn, MayServeAt, RunsGoOn}
use Rattle.tao_top.specs.Step.{AnswersLine, ConfiguresBy, Given, ReplyLine, Runs, RunStage, State, Step, StepIn, asked_in, disagreeing, ended}
use Rattle.tao_top.specs.Step.{line_read, request_made, serving, waiting}

-- each later line
answered_on : (tells : Bool) (old new : Moment) (asked : Result Request LineRefusal) (reply : Reply) → AnswersLine tells old asked reply new
    → IsCoreOf tells old.keepers.told old.core → IsCoreOf tells new.keepers.told new.core
answered_on tells old new (Err refused) reply step may = subst (λ (m : Moment). IsCoreOf tells m.keepers.told m.core) (sym step.1) may
answered_on tells old new (Ok request) reply step may = step.1.of_core

-- what is given at first is a line
given_on : (tells : Bool) (old new : Outside) (given : Given) (reply : Reply) (core : CoreState) → ConfiguresBy tells old given reply (serving core) new
    → IsCoreOf tells new.keepers.told core
given_on tells old new (line_read line) reply core step = (takes_of tells old new line reply core step).of_core
given_on tells old new (request_made request) reply core step = absurd step

by_stages : (tells : Bool) (a b : RunStage) (old new : Outside) (given : Given) (reply : Reply)
    → StepIn tells (record { stage = a; outside = old }) given reply (record { stage = b; outside = new })
    → MayServeAt tells a old → MayServeAt tells b new
by_stages tells a waiting old new given reply step may = tt
by_stages tells a ended old new given reply step may = tt
by_stages tells a (disagreeing s) old new given reply step may = tt
by_stages tells waiting (serving next) old new given reply step may = given_on tells old new given reply next step
by_stages tells (serving core) (serving next) old new given reply step may =
    answered_on tells (moment_of core old) (moment_of next new) (asked_in given) reply step may
by_stages tells ended (serving next) old new given reply step may = absurd step
by_stages tells (disagreeing s) (serving next) old new given reply step may = absurd step

goes_on : (tells : Bool) (old new : State) (given : List Given) (replies : List ReplyLine) → MayGoOn tells old → Runs tells old given replies new
    → MayGoOn tells new
goes_on tells old new [] [] may run = subst (MayGoOn tells) (sym run) may
goes_on tells old new (g ∷ given) (r ∷ replies) may run =
    let mid = run.0 in
    let reply = run.1.0 in
    let step : Step tells old g reply mid = run.1.1 in
    goes_on tells mid new given replies (by_stages tells old.stage mid.stage old.outside mid.outside g reply step.does may) run.2
goes_on tells old new [] (r ∷ replies) may run = absurd run
goes_on tells old new (g ∷ given) [] may run = absurd run

pub runs_go_on : (tells : Bool) → RunsGoOn tells
runs_go_on tells = record { on = goes_on tells }
