use Rattle.std.proofs.Common.{◌≡◌, ◌∷◌, ◌++◌, [], ℕ, List, OnErr, subst, ap, ◌∙◌}
use Rattle.cluster_server.proofs.beginning.write_serving.Goals as goal
use Rattle.cluster_server.specs.Lines.{serving_line}
use Rattle.first_line.specs.Interrupts.{AppendsPart}

pub returns-clause-err : goal.returns-clause-err
returns-clause-err g c =
    let line : c.of.result ++ 10 ∷ [] ≡ serving_line
    = ap (λ (text : List ℕ). text ++ 10 ∷ []) (c.of.ensures ∙ c.in_ok-extend_from_slice.ensures.items ∙ ap (λ (text : List ℕ). text ++ _) c.new-text.ensures.items) in
    subst (λ (said : List ℕ). OnErr c.write_line.result (AppendsPart (g.S.Sink.taken c.args.output.now) (g.S.Sink.taken c.write_line.new.output) said)) line
    c.write_line.ensures.err
