use Rattle.std.proofs.Common.{◌∙◌, Some, ap, cond, subst, sym}
use Rattle.log_index.specs.KeyIndex.{KeysTell, all_touches}
use Rattle.log_index.specs.Positions.{kept_position, same_origin}
use Rattle.log_index.proofs.KeyLemmas.{touches_more}
use Rattle.log_index.proofs.PositionLemmas.{positions_more}
use Rattle.log_index.proofs.index.Index.with_entry.Goals as goal

pub returns : goal.returns
returns c = λ log stands is. record {
  keys = subst (λ touches. KeysTell touches c.add.new.self.keys) (sym (touches_more log c.args.entry.now)) (c.in_ok-add.ensures (all_touches log) is.keys);
  origins = positions_more log c.args.entry.now c.args.self.positions c.put.new.self is.origins
      (λ other. c.in_ok-put.ensures other ∙ ap (λ k. cond (same_origin c.args.entry.now.origin other) (Some k) (kept_position c.args.self.positions other))
      stands);
}
