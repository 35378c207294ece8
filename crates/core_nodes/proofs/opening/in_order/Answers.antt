use Rattle.std.proofs.Common.{rules}
use Rattle.std.proofs.lemmas.List.Sorted.{IsNonDecreasingBy-from_sort_by_key}
use Rattle.core_model.specs.Stores.{store_place}
use Rattle.core_nodes.proofs.opening.in_order.Goals as goal

pub returns-clause-sorted : goal.returns-clause-sorted
returns-clause-sorted c = IsNonDecreasingBy-from_sort_by_key (λ store. store_place c.args.config.now store.name) _ c.sort_unstable_by_key.ensures.sorted
    (λ a r q k. search rules)
