-- Numbers of epochs, and positions in logs.
use Rattle.std.proofs.Common.{◌≡◌, ℕ, zero, suc, ◌+◌, ◌<◌, ◌≤◌, ◌*◌, List, [], ◌∷◌, length, take, inl, inr, sym, subst, arith}
use Rattle.std.proofs.Math.Logic.{∥∥₁_elim}
use Rattle.std.proofs.Props.{props}
use Rattle.std.proofs.lemmas.Bool.{cases_lt}
use Rattle.std.proofs.lemmas.List.{get_or_past}
use Rattle.std.proofs.lemmas.List.Sums.{get_or-le-sum_by}
use Rattle.std.specs.Prelude.{Some, slice_get, sum_by}
use Rattle.tao_base.specs.EdgeTypes.{EdgeTypes}
use Rattle.tao_base.specs.declared.entry.Entry.{Entry}
use Rattle.tao_base.specs.declared.entry.Origin.TheVariants.{Merge}
use Rattle.graph_model.proofs.Sound.{slice_get-take}
use Rattle.graph_model.specs.Log.{entry_at}
use Rattle.write_model.proofs.Growing.{entry_at-within}
use Rattle.write_model.specs.Merges.{AreCovered, Stores, entries_ever, log_of, number_in}
use Rattle.write_model.specs.Writes.{epoch_base}

pub entry_at-take : (log : List Entry) (m p : ℕ) (e : Entry) → entry_at (take m log) p ≡ Some e → (entry_at log p ≡ Some e) × (p ≤ m)
entry_at-take log m zero e h = absurd (cc)
entry_at-take log m (suc n) e h = let k = slice_get-take log m n e h in (k.0, omega (arith, k.1))

slice_get_in_take : {X : Type 0} (xs : List X) (m n : ℕ) (x : X) → slice_get xs n ≡ Some x → n < m → slice_get (take m xs) n ≡ Some x
slice_get_in_take [] m n x h lt = absurd (cc)
slice_get_in_take (y ∷ ys) zero n x h lt = absurd (omega (arith, lt))
slice_get_in_take (y ∷ ys) (suc m) zero x h lt = h
slice_get_in_take (y ∷ ys) (suc m) (suc n) x h lt = slice_get_in_take ys m n x h (omega (arith, lt))

pub entry_at_in_take : (log : List Entry) (m p : ℕ) (e : Entry) → entry_at log p ≡ Some e → p ≤ m → entry_at (take m log) p ≡ Some e
entry_at_in_take log m zero e h le = absurd (cc)
entry_at_in_take log m (suc n) e h le = slice_get_in_take log m n e h (omega (arith, le))

one_log_of_all : (logs : List (List Entry)) (shard : ℕ) → length (log_of logs shard) ≤ sum_by length logs
one_log_of_all logs shard = elim (cases_lt shard (length logs)) [
  | inl lt ↦ get_or-le-sum_by length logs shard [] lt
  | inr past ↦ subst (λ l. length l ≤ sum_by length logs) (sym (get_or_past logs shard [] past)) (omega arith)
]

-- the number of a merge's origin is one of an epoch so far
pub origin_number : (types : EdgeTypes) (r : Stores) → AreCovered types r → (shard position : ℕ) (e : Entry) (from number : ℕ)
    → entry_at (log_of r.logs shard) position ≡ Some e → e.origin ≡ Merge from number → number ≤ number_in r.epochs.last (entries_ever r)
origin_number types r c shard position e from number at origin =
    let epoch = c.epochs from in
    elim (cases_lt (epoch_base (r.epochs.of from)) number) [
      | inl above ↦ ∥∥₁_elim ((c.each shard).merges position e from number at origin above) (hlevel props) (λ m.
          let within = entry_at-within (log_of r.logs from) m.position m.entry m.stands in
          let few = one_log_of_all r.logs from in
          of_position (r.epochs.of from) r.epochs.last m.position (length (log_of r.logs from)) (sum_by length r.logs) r.epochs.lost number epoch m.number_is
          within few)
      | inr below ↦ at_base (r.epochs.of from) r.epochs.last (entries_ever r) number epoch below
    ]
  where
    of_position : (own last position size all lost number : ℕ) → own ≤ last → number ≡ number_in own position → position < size + 1 → size ≤ all
        → number ≤ number_in last (all + lost)
    of_position own last position size all lost number epoch is within few =
        let below : own * 4294967296 ≤ last * 4294967296 = omega (arith, epoch) in
        omega (arith, within, few, is, below)

    at_base : (own last ever number : ℕ) → own ≤ last → number ≤ epoch_base own → number ≤ number_in last ever
    at_base own last ever number epoch below = omega (arith, epoch, below)
