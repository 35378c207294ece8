use Rattle.std.proofs.Common.{arith}
use Rattle.entry_codec.proofs.DataFields.{pairs_are_data}
use Rattle.entry_codec.proofs.data_fields.read_data.Goals as goal

pub of-requires : goal.of-requires
of-requires c = pairs_are_data c.args.reader.now c.take_u8.new.self c.read_pairs.new.reader c.place-start.result c.in_ok-count.count
    c.in_ok-read_pairs.field-0.items
    c.place-start.ensures.bytes c.place-start.ensures.value c.in_ok-count.ensures (omega (arith, c.if-from-gt-MOST_PAIRS.false)) c.in_ok-read_pairs.ensures
