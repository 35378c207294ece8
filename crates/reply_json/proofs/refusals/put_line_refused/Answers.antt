use Rattle.reply_json.proofs.refusals.put_line_refused.Goals as goal

pub returns-in-TooLarge : goal.returns-in-TooLarge
returns-in-TooLarge c = rw (c.in-TooLarge.is) c.put_members-in-TooLarge.ensures
