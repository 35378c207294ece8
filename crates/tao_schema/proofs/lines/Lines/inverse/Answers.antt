use Rattle.std.proofs.Common.{None, unwrap_or, ap, ◌∙◌, arith}
use Rattle.tao_schema.proofs.Inverses.{inverse_is, option_flatten_is}
use Rattle.tao_schema.proofs.lines.Lines.inverse.Goals as goal

pub returns : goal.returns
returns c =
    c.flatten.ensures ∙ option_flatten_is c.copied.result ∙ ap (λ o. unwrap_or o None) c.copied.ensures ∙ c.get.ensures.lookup.4 (omega arith) None
    ∙ rw (c.deref.ensures.value, c.from.ensures, c.self.invariant.0, ← c.self.view_is) (inverse_is c.self.inside.lines.items c.args.atype.0)
