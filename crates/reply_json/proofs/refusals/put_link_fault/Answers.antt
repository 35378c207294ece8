use Rattle.reply_json.proofs.refusals.put_link_fault.Goals as goal

pub returns : goal.returns
returns c = rw (← c.when_position.ensures, ← c.when_text.ensures) c.put_members.ensures
