use Rattle.std.proofs.Common.{◌≡◌, [], ◌∷◌, length, sym, subst, rules}
use Rattle.atomic_table.specs.Table.{opening}
use Rattle.shard_log.proofs.SeatLemmas.{pen_of_new}
use Rattle.shard_log.proofs.Steps.{opens}
use Rattle.shard_log.specs.Rule.{IsKept, first_seen}
use Rattle.shard_log.specs.declared.rule.Opening.{Opening}
use Rattle.shard_log.proofs.pen.ShardLog.make.Goals as goal

pub of_words-requires : goal.of_words-requires
of_words-requires c =
    let begun : Opening = record { first = c.args.first; told = c.args.told } in
    let len : c.len-len.result ≡ length c.args.first.items = search rules in
    subst (λ n. IsKept (opening (n ∷ []) [] (first_seen begun))) (sym len) (opens begun c.requires.few c.requires.sound)

pub invariant_of-result : goal.invariant_of-result
invariant_of-result c =
    let begun : Opening = record { first = c.args.first; told = c.args.told } in
    let len : c.len-len.result ≡ length c.args.first.items = search rules in
    pen_of_new _ _ begun _ _ (search rules) (search rules) (search rules) len c.requires.few c.requires.sound
