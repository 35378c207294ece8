-- The list that changes leave takes in one more.
use Rattle.std.proofs.Common.{◌≡◌, ℕ, ◌+◌, ◌<◌, ◌++◌, List, [], ◌∷◌, length, get_or, map, take, sym, ap, ◌∙◌, Bor}
use Rattle.std.proofs.lemmas.List.{map_more}
use Rattle.tao_base.specs.declared.edge.Edge.{Edge}
use Rattle.tao_base.specs.declared.entry.Change.{Change}
use Rattle.graph_model.proofs.Lists.{list-snoc}
use Rattle.graph_model.specs.Edges.{list_after, live_edges, newest_first}

pub list_more : (changes : List (Bor Change)) (i : ℕ) (c : Bor Change) (old new : List Edge) → i < length changes → c ≡ get_or changes i c
    → old ≡ newest_first (live_edges (map (λ x. x.now) (take i changes))) → new ≡ list_after c.now old
    → new ≡ newest_first (live_edges (map (λ x. x.now) (take (i + 1) changes)))
list_more changes i c old new lt is h step =
    let before : List Change = map (λ x. x.now) (take i changes) in
    step ∙ ap (list_after c.now) h ∙ sym (list-snoc before c.now)
    ∙ ap (λ cs. newest_first (live_edges cs)) (ap (λ x. before ++ x.now ∷ []) is ∙ sym (map_more (λ (x : Bor Change). x.now) changes i c lt))
