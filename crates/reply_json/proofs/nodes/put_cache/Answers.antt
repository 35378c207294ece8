use Rattle.reply_json.proofs.nodes.put_cache.Goals as goal

pub returns-in-Lost : goal.returns-in-Lost
returns-in-Lost c = rw (c.in-Lost.is) (rw (c.text.ensures.value) at c.put_members.ensures)
