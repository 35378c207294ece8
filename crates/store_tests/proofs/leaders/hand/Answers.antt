use Rattle.std.proofs.Common.{◌∙◌, ap, sym}
use Rattle.tao_base.specs.Keys.{key_shard}
use Rattle.store_tests.proofs.ServesLemmas.{change_log, made_note}
use Rattle.store_tests.proofs.leaders.hand.Goals as goal

pub take_changeset-requires : goal.take_changeset-requires
take_changeset-requires c =
    change_log 1 c.args.leader.now c.in_ok-change.change c.args.note c.requires.log
    (ap key_shard (sym c.key.ensures) ∙ (sym c.shard.ensures ∙ c.if-shard-eq1.true))
    (made_note c.args.entry.now 0 c.args.note c.in_ok-change.change c.in_ok-change.ensures.made)
