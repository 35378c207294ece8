use Rattle.std.proofs.Common.{◌∙◌, ◌++◌, ap, codes}
use Rattle.reply_json.proofs.Parts.{added5, edge_spelled}
use Rattle.reply_json.specs.Reads.{numbered}
use Rattle.reply_json.proofs.added.add_edge.Goals as goal

pub returns : goal.returns
returns c =
    added5 _ _ _ _ _ _ _ _ _ _ _ c.in_ok-extend_from_slice.ensures.items c.in_ok-add_pairs.ensures
    (c.in_ok-add_numbered.ensures ∙ ap (λ n. c.add_pairs.new.out.items ++ numbered (codes ",\"id2\":") n) c.number.ensures.value)
    c.in_ok-add_numbered-2.ensures c.in_ok-push.ensures.items
    ∙ ap (λ l. c.args.out.now.items ++ l) (edge_spelled c.args.edge.now)
