use Rattle.std.proofs.Common.{rules, arith}
use Rattle.std.specs.Prelude.{not}
use Rattle.std.proofs.lemmas.Fn.{filter_same}
use Rattle.ask_table.specs.Open.{is_on_shard}
use Rattle.ask_table.proofs.Tables.{table_filter}
use Rattle.ask_table.proofs.AskTable.end_shard.Goals as goal

pub invariant_of-self : goal.invariant_of-self
invariant_of-self c =
    let kept = filter_same _ (λ a. not (is_on_shard c.args.shard a)) _ (λ x b q k. search rules) _ _ c.retain.ensures.filtered in
    (rw kept (table_filter _ _ _ c.self.invariant.0), omega (arith, c.retain.ensures.capacity, c.self.invariant.1))

pub returns : goal.returns
returns c =
    let kept = filter_same _ (λ a. not (is_on_shard c.args.shard a)) _ (λ x b q k. search rules) _ _ c.retain.ensures.filtered in
    rw (← c.self.view_is, kept)
