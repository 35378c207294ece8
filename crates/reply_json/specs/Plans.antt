-- The replies about plans.
use Rattle.std.specs.Prelude.{[], ◌∷◌, Some, codes}
use Rattle.serde_json.specs.Data.{Data}
use Rattle.words.specs.Words.{word_text}
use Rattle.words.specs.declared.Word.TheVariants as word
use Rattle.replies.specs.declared.plans.PlanReply.{PlanReply}
use Rattle.replies.specs.declared.plans.PlanReply.TheVariants.{Next, Ended}
use Rattle.reply_json.specs.Calls.{call_data}
use Rattle.reply_json.specs.Json.{fields, text, whole}
use Rattle.reply_json.specs.Texts.{stage_text}
use Rattle.topology.specs.Config.{Settings}

-- a plan is told by its next stage, or by the reply to its call
abbrev pub plan_data : Settings → PlanReply → Data
plan_data s (Next which plan next) =
    fields ((codes "next", text (stage_text next)) ∷ (codes "ok", text (word_text (word.Plan which))) ∷ (codes "plan", whole plan) ∷ [])
plan_data s (Ended plan reply) = call_data s (Some plan) reply
