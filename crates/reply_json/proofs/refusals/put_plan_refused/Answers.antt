use Rattle.reply_json.proofs.refusals.put_plan_refused.Goals as goal

pub returns-in-PlanThere : goal.returns-in-PlanThere
returns-in-PlanThere c = rw (c.in-PlanThere.is) c.put_about_number-in-PlanThere.ensures
