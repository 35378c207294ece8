use Rattle.std.proofs.Common.{◌≡◌, [], Ok, subst}
use Rattle.std.proofs.lemmas.Result.{err_from_is_err_and}
use Rattle.entry_codec.specs.Reading.{spelled_pair, spelled_pairs}
use Rattle.entry_codec.specs.Gives.{IsRefused}
use Rattle.entry_codec.proofs.Loops.{pair_more, pair_refused}
use Rattle.entry_codec.proofs.data_fields.read_pairs.Goals as goal

pub returns-in_err-pair : goal.returns-in_err-pair
returns-in_err-pair c =
    let p = err_from_is_err_and c.from_residual.result c.from_residual.ensures.1 in
    rw (p.1, p.2) (pair_refused c.in_err-pair.field-0.0 c.args.end c.args.count c.loop.counter c.loop.pairs.items c.loop.reader
    (spelled_pairs c.args.end c.args.count [] c.args.reader.now) c.loop-test.true
    (subst (λ earlier. IsRefused c.in_err-pair.field-0.0 (spelled_pair c.args.end earlier c.loop.reader)) c.deref.ensures.value c.in_err-pair.ensures)
    c.loop.invariant)

pub loop-preserved : goal.loop-preserved
loop-preserved c = pair_more c.args.end c.args.count c.loop.counter c.loop.pairs.items c.push.new.self.items c.in_ok-pair.pair c.loop.reader
    c.read_pair.new.reader
    (spelled_pairs c.args.end c.args.count [] c.args.reader.now) c.loop-test.true
    (subst (λ earlier. spelled_pair c.args.end earlier c.loop.reader ≡ Ok (c.in_ok-pair.pair, c.read_pair.new.reader)) c.deref.ensures.value
    c.in_ok-pair.ensures) c.loop.invariant c.in_ok-push.ensures.items
