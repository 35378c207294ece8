use Rattle.std.proofs.Common.{◌≡◌, ◌∙◌, length, arith}
use Rattle.ask_table.specs.Open.{raised_ask}
use Rattle.ask_table.proofs.Tables.{loop_done, loop_more, rest_of, table_raised}
use Rattle.ask_table.proofs.AskTable.raise.Goals as goal

pub invariant_of-self : goal.invariant_of-self
invariant_of-self c =
    let all = c.loop-ask.invariant ∙ loop_done (raised_ask c.args.key c.args.version) c.deref_mut-ask-items.result.now c.loop-ask.ask-index
    c.loop-ask-test.false in
    let same : length c.loop-ask.ask-items ≡ c.self.inside.asks.len = omega (arith, c.loop-ask.auto.ask-items, c.deref_mut-ask-items.ensures.len) in (
      rw (rest_of c.self.inside.asks.len c.loop-ask.ask-items c.self.inside.asks.items same, all, c.deref_mut-ask-items.ensures.value)
          (table_raised c.args.key c.args.version c.self.inside.asks.items c.self.inside.given c.self.invariant.0),
      c.self.invariant.1,
    )

pub loop-ask-preserved : goal.loop-ask-preserved
loop-ask-preserved c = loop_more (raised_ask c.args.key c.args.version) c.deref_mut-ask-items.result.now c.loop-ask.ask-items c.loop-ask.ask-index
    c.raise.new.self c.ask-item.result c.loop-ask.invariant c.loop-ask-test.true c.raise.ensures
