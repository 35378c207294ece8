use Rattle.reply_json.proofs.nodes.put_item.Goals as goal

pub returns-in-Object : goal.returns-in-Object
returns-in-Object c = rw (c.in-Object.is) (rw (c.text.ensures.value, c.said_object.ensures) at c.put_members.ensures)
