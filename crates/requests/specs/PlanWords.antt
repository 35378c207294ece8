-- The words of plans.
use Rattle.words.specs.declared.PlanWord.TheVariants.{Hold, Advance}
use Rattle.words.specs.declared.Word.{Word}
use Rattle.words.specs.declared.Word.TheVariants as word
use Rattle.requests.specs.declared.plans.PlanRequest.{PlanRequest}
use Rattle.requests.specs.declared.plans.PlanRequest.TheVariants as request

-- the word of a request that is asked of a plan
abbrev pub plan_word : PlanRequest → Word
plan_word (request.Hold number call) = word.Plan Hold
plan_word (request.Advance number) = word.Plan Advance
