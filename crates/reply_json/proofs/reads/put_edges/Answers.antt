use Rattle.reply_json.proofs.Parts.{added4}
use Rattle.reply_json.proofs.reads.put_edges.Goals as goal

pub returns : goal.returns
returns c = λ s. added4 _ _ _ _ _ _ _ _ _ c.in_ok-extend_from_slice.ensures.items c.in_ok-add_edges.ensures c.in_ok-add_numbered.ensures
    c.in_ok-extend_from_slice-2.ensures.items
