use Rattle.reply_json.proofs.nodes.put_streamed.Goals as goal

pub returns : goal.returns
returns c = rw (c.text.ensures.value, c.verdict_text.ensures) at c.put_members.ensures
