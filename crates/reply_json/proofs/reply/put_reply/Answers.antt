use Rattle.reply_json.proofs.reply.put_reply.Goals as goal

pub returns-in-Configured : goal.returns-in-Configured
returns-in-Configured c = rw (c.in-Configured.is) c.put_members.ensures
