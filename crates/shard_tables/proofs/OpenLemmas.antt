-- The entries of a log, read one after another.
use Rattle.std.proofs.Common.{◌≡◌, ℕ, suc, ◌+◌, List, [], ◌∷◌, ◌++◌, take, sym, ap, ◌∙◌, arith}
use Rattle.std.specs.Prelude.{Option, Some, slice_get}
use Rattle.tao_base.specs.declared.entry.Entry.{Entry}
use Rattle.graph_model.proofs.Rising.{take_with}
use Rattle.graph_model.specs.Log.{entry_at}
use Rattle.tao_keeper.specs.Table.{Table}

-- one entry more
pub entries_more : (old one : Table) (n : ℕ) (e : Entry) (es zs : List Entry) (found : Option Entry) → one ≡ old → es ≡ take n old.log
    → found ≡ entry_at one.log (n + 1) → found ≡ Some e → zs ≡ es ++ e ∷ [] → zs ≡ take (n + 1) old.log
entries_more old one n e es zs found stays so_far asked is put =
    let next : suc n ≡ n + 1 = omega arith in
    let stands : slice_get old.log n ≡ Some e = ap (entry_at old.log) next ∙ sym (ap (λ t. entry_at t.log (n + 1)) stays) ∙ sym asked ∙ is in
    put ∙ ap (λ v. v ++ e ∷ []) so_far ∙ sym (take_with old.log n e stands)
