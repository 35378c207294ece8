-- Touches that write records, one after another.
use Rattle.std.proofs.Common.{◌≡◌, ℕ, ◌+◌, ◌<◌, List, [], ◌∷◌, ◌++◌, length, take, get_or, sym, ap, ◌∙◌, subst}
use Rattle.std.proofs.lemmas.List.{take_more}
use Rattle.tao_base.specs.declared.entry.Touch.{Touch}
use Rattle.graph_model.specs.Soundness.{EdgeUpdate}
use Rattle.write_touches.specs.Edges.{WritesRecord, WriteRecords}

-- one record and its touch more
records_more : (us : List EdgeUpdate) (ts : List Touch) (u : EdgeUpdate) (t : Touch) → WriteRecords us ts → WritesRecord u t
    → WriteRecords (us ++ u ∷ []) (ts ++ t ∷ [])
records_more [] [] u t h one = (one, tt)
records_more [] (s ∷ ts) u t h one = absurd h
records_more (v ∷ us) [] u t h one = absurd h
records_more (v ∷ us) (s ∷ ts) u t h one = (h.0, records_more us ts u t h.1 one)

pub records_done : (us : List EdgeUpdate) (i : ℕ) (u : EdgeUpdate) (ts zs : List Touch) (t : Touch) → i < length us → u ≡ get_or us i u
    → WriteRecords (take i us) ts → WritesRecord u t → zs ≡ ts ++ t ∷ [] → WriteRecords (take (i + 1) us) zs
records_done us i u ts zs t lt is so_far one put =
    subst (WriteRecords (take (i + 1) us)) (sym put)
    (subst (λ v. WriteRecords v (ts ++ t ∷ [])) (sym (take_more us i u lt ∙ ap (λ y. take i us ++ y ∷ []) (sym is)))
    (records_more (take i us) ts u t so_far one))
