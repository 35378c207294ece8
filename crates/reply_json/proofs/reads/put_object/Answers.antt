use Rattle.reply_json.proofs.Parts.{added3}
use Rattle.reply_json.proofs.reads.put_object.Goals as goal

pub returns : goal.returns
returns c = added3 _ _ _ _ _ _ _ c.in_ok-add_numbered.ensures c.in_ok-extend_from_slice.ensures.items c.in_ok-add_maybe_object.ensures
