use Rattle.std.proofs.Common.{◌≡◌, ◌∙◌, true, false, not, sym, ap, arith}
use Rattle.std.specs.Result.{is_ok}
use Rattle.ask_table.specs.Asks.{asks_of, is_full}
use Rattle.ask_table.proofs.Tables.{not_full, table_push}
use Rattle.ask_table.proofs.AskTable.begin.Goals as goal

pub invariant_of-self : goal.invariant_of-self
invariant_of-self c =
    let ok : is_ok c.push.result ≡ true = c.is_err.ensures.negation ∙ ap not c.if-is_err.false in
    let items = rw (ok, c.of-number.ensures) at c.push.ensures.items in
    let room : is_full (asks_of c.self.inside.asks.items c.self.inside.given) ≡ false = ap is_full c.self.view_is
    ∙ (sym c.is_full.ensures.value ∙ c.if-is_full.false) in (
      rw items (table_push (asks_of c.self.inside.asks.items c.self.inside.given) c.args.key c.args.low (not_full _ room) c.self.invariant.0),
      omega (arith, c.push.ensures.capacity, c.self.invariant.1),
    )
