use Rattle.std.proofs.Common.{ap, drop, take, ◌∙◌}
use Rattle.log_index.proofs.KeyLemmas.{no_stretch, not_found}
use Rattle.log_index.proofs.key_index.KeyIndex.stretch.Goals as goal

pub returns-in-None : goal.returns-in-None
returns-in-None c =
    c.of.ensures ∙ c.new.ensures.items ∙ no_stretch c.args.pos c.args.most
    ∙ ap (λ s. take c.args.most (drop c.args.pos s.list.edges)) (not_found c.args.self.now.keys c.args.key c.in-None.ensures)
