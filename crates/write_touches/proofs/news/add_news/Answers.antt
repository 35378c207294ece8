use Rattle.std.proofs.Common.{◌<◌}
use Rattle.std.proofs.lemmas.List.Elements.{All-push}
use Rattle.graph_model.specs.Edges.{number_of, state_left}
use Rattle.tao_keeper.specs.declared.keeper.TheConstants.{STAMP_LIMIT}
use Rattle.write_touches.proofs.news.add_news.Goals.{then-is_later+in_ok-touch+in_ok-push, else-is_later}
use Rattle.write_touches.proofs.news.add_news.Goals as goal

pub returns-clause-small : goal.returns-clause-small
returns-clause-small g c = λ small. elim c.if-is_later.branch [
  | then-is_later+in_ok-touch+in_ok-push w ↦ rw (w.touches-is, w.in_ok-push.ensures.items)
      (All-push (λ t. number_of (state_left t.change) < STAMP_LIMIT) _ _ small w.in_ok-touch.ensures.small)
  | else-is_later w ↦ rw (w.touches-is) small
]
