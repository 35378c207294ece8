use Rattle.entry_codec.proofs.Texts.{above_last}
use Rattle.entry_codec.proofs.data_fields.is_above_last.Goals as goal

pub returns-in-len1-up : goal.returns-in-len1-up
returns-in-len1-up c = above_last c.args.earlier.now c.last-item.result c.args.key.now c.lt.result c.in-len1-up.len_at_least c.last-item.is
    (rw (← c.as_str.ensures) c.lt.ensures)
