use Rattle.std.proofs.Common.{◌≡◌, ◌∙◌, ap, subst, sym, take}
use Rattle.std.proofs.lemmas.List.{map-id}
use Rattle.list_prefix.specs.ListPrefix.{CanBegin}
use Rattle.list_prefix.proofs.Longer.{begins_take}
use Rattle.list_prefix.proofs.prefix.Prefix.front.Goals as goal

pub invariant_of-result : goal.invariant_of-result
invariant_of-result c =
    let is : c.into_vec.result.items ≡ take c.in-Some.count c.self.inside.edges.items =
    c.into_vec.ensures ∙ c.in_ok-front.ensures ∙ map-id _ ∙ ap (take c.in-Some.count) c.as_slice-edges.ensures.value in
    subst (λ xs. CanBegin xs c.self.inside.total) (sym is) (begins_take c.in-Some.count c.self.inside.total c.self.inside.edges.items c.self.invariant)
