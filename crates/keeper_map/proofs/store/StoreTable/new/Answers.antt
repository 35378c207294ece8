use Rattle.keeper_map.proofs.store.StoreTable.new.Goals as goal

pub invariant_of-result-clause-of_entries : goal.invariant_of-result-clause-of_entries
invariant_of-result-clause-of_entries c = λ position past. c.new-2.ensures position
