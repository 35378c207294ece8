use Rattle.reply_json.proofs.reply.put_bad_stores.Goals as goal

pub returns : goal.returns
returns c = rw (← c.in_ok-text.ensures, ← c.as_str.ensures) c.put_members.ensures
