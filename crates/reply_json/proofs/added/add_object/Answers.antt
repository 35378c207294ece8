use Rattle.std.proofs.Common.{◌∙◌, ◌++◌, ap}
use Rattle.json.specs.Print.{quoted}
use Rattle.reply_json.proofs.Parts.{added5, object_spelled}
use Rattle.reply_json.specs.Values.{otype_name}
use Rattle.reply_json.proofs.added.add_object.Goals as goal

pub returns : goal.returns
returns c =
    let o = c.args.object.now in
    added5 _ _ _ _ _ _ _ _ _ _ _ c.in_ok-extend_from_slice.ensures.items c.in_ok-add_pairs.ensures c.in_ok-extend_from_slice-2.ensures.items
    (c.in_ok-add_text.ensures ∙ ap (λ t. c.extend_from_slice-2.new.self.items ++ quoted t) c.otype_name.ensures) c.in_ok-push.ensures.items
    ∙ ap (λ l. c.args.out.now.items ++ l) (object_spelled o.payload (otype_name c.args.config.now o.otype))
