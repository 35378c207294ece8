use Rattle.reply_json.proofs.reads.put_front.Goals as goal

pub returns-in-Count : goal.returns-in-Count
returns-in-Count c = rw c.in-Count.is (c.put_count.ensures c.args.config.now)

pub returns-in-Edges : goal.returns-in-Edges
returns-in-Edges c = rw (c.in-Edges.is, ← c.as_slice.ensures) (c.put_edges.ensures c.args.config.now)
