use Rattle.std.proofs.Common.{rules, arith, ap, sym, ◌≡◌, ◌∙◌}
use Rattle.std.specs.Prelude.{find, not, None}
use Rattle.std.proofs.lemmas.Fn.{filter_same}
use Rattle.ask_table.specs.Asks.{Asks, asks_of}
use Rattle.ask_table.specs.Open.{is_numbered}
use Rattle.ask_table.proofs.Tables.{table_filter, filter_none}
use Rattle.ask_table.proofs.AskTable.end.Goals as goal

pub invariant_of-self : goal.invariant_of-self
invariant_of-self c =
    let kept = filter_same _ (λ a. not (is_numbered c.args.ask a)) _ (λ x b q k. search rules) _ _ c.retain.ensures.filtered in
    (rw kept (table_filter _ _ _ c.self.invariant.0), omega (arith, c.retain.ensures.capacity, c.self.invariant.1))

pub returns-clause-ended : goal.returns-clause-ended
returns-clause-ended c =
    let kept = filter_same _ (λ a. not (is_numbered c.args.ask a)) _ (λ x b q k. search rules) _ _ c.retain.ensures.filtered in
    rw (← c.self.view_is, kept)

pub returns-in_err-found-clause-ended : goal.returns-in_err-found-clause-ended
returns-in_err-found-clause-ended c =
    let none : find (is_numbered c.args.ask) c.self.inside.asks.items ≡ None = ap (λ (t : Asks). find (is_numbered c.args.ask) t.asks) c.self.view_is
    ∙ sym c.in_err-found.ensures in
    rw (← c.self.view_is) (ap (λ l. asks_of l c.self.inside.given) (filter_none (is_numbered c.args.ask) c.self.inside.asks.items none))
