use Rattle.entry_codec.proofs.EntryFields.{bytes_follow, read_to_end}
use Rattle.entry_codec.proofs.spelled.read_all.Goals as goal

pub returns-then-not-is_at_end : goal.returns-then-not-is_at_end
returns-then-not-is_at_end c = bytes_follow c.args.bytes.now c.of-reader.result c.read_entry.new.reader c.in_ok-entry.entry c.is_at_end.result c.place.result
    c.of-reader.ensures c.in_ok-entry.ensures c.is_at_end.ensures c.if-not-is_at_end.true c.place.ensures.value

pub returns : goal.returns
returns c = read_to_end c.args.bytes.now c.of-reader.result c.read_entry.new.reader c.in_ok-entry.entry c.is_at_end.result c.of-reader.ensures
    c.in_ok-entry.ensures c.is_at_end.ensures c.if-not-is_at_end.false
