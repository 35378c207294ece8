use Rattle.entry_codec.proofs.Texts.{text_kept, text_refused}
use Rattle.entry_codec.proofs.data_fields.read_utf8.Goals as goal

pub returns-in-Ok : goal.returns-in-Ok
returns-in-Ok c = text_kept c.args.reader.now.at _ c.in_ok-bytes.bytes.now c.in-Ok.text.now c.take_up_to.new.self c.in_ok-bytes.ensures c.in-Ok.ensures.cases.0
    c.in-Ok.ensures.cases.1

pub returns-in-Err : goal.returns-in-Err
returns-in-Err c = text_refused c.args.reader.now.at c.place-at.result _ c.in_ok-bytes.bytes.now c.take_up_to.new.self c.in_ok-bytes.ensures
    c.in-Err.ensures.cases.0 c.place-at.ensures.value
