-- Where entries stand, with one more of them.
use Rattle.std.proofs.Common.{◌≡◌, ◌≢◌, ◌∙◌, ℕ, zero, suc, ◌+◌, cond, List, [], ◌∷◌, ◌++◌, length, refl, sym, ap, subst, inl, inr, Option, Some, None, arith}
use Rattle.std.proofs.lemmas.Bool.{cases_Bool, true≢false}
use Rattle.std.proofs.lemmas.Bool.Decides.{nat_tests}
use Rattle.std.proofs.lemmas.List.Elements.{All-nil, All-push}
use Rattle.std.specs.Prelude.{◌==◌, ◌&&◌, true, false, IsSomeAnd, slice_get}
use Rattle.tao_base.specs.declared.entry.Entry.{Entry}
use Rattle.tao_keeper.specs.Table.{StandsAt}
use Rattle.graph_model.specs.Log.{entry_at}
use Rattle.log_index.specs.IndexOf.{ArePositionsOf}
use Rattle.graph_model.proofs.Lists.{eqb-self}
use Rattle.graph_model.proofs.Sound.{slice_get-last}
use Rattle.std.specs.BTreeMap.{BTreeMap, get}
use Rattle.std.specs.Ordering.{is_eq}
use Rattle.tao_base.specs.declared.entry.Origin.{Origin}
use Rattle.tao_base.specs.declared.entry.Origin.TheVariants.{Client, Merge}
use Rattle.log_index.proofs.Ids.{both_same}
use Rattle.log_index.specs.Positions.{pair_cmp, kept_position, same_origin}
use Rattle.log_index.specs.declared.positions.Positions.{Positions}

pub client_put : (old new : BTreeMap (ℕ × ℕ) ℕ) (merges : BTreeMap (ℕ × ℕ) ℕ) (session seq stands : ℕ)
    → ((k : ℕ × ℕ) → get pair_cmp new k ≡ cond (is_eq (pair_cmp (session, seq) k)) (Some stands) (get pair_cmp old k))
    → (o : Origin) → kept_position (record { clients = new; merges = merges }) o ≡ cond (same_origin (Client session seq) o) (Some stands)
    (kept_position (record { clients = old; merges = merges }) o)
client_put old new merges session seq stands h (Client session2 seq2) =
    h (session2, seq2) ∙ ap (λ b. cond b (Some stands) (get pair_cmp old (session2, seq2))) (both_same session session2 seq seq2)
client_put old new merges session seq stands h (Merge shard position) = refl

pub merge_put : (old new : BTreeMap (ℕ × ℕ) ℕ) (clients : BTreeMap (ℕ × ℕ) ℕ) (shard position stands : ℕ)
    → ((k : ℕ × ℕ) → get pair_cmp new k ≡ cond (is_eq (pair_cmp (shard, position) k)) (Some stands) (get pair_cmp old k))
    → (o : Origin) → kept_position (record { clients = clients; merges = new }) o ≡ cond (same_origin (Merge shard position) o) (Some stands)
    (kept_position (record { clients = clients; merges = old }) o)
merge_put old new clients shard position stands h (Client session seq) = refl
merge_put old new clients shard position stands h (Merge shard2 position2) =
    h (shard2, position2) ∙ ap (λ b. cond b (Some stands) (get pair_cmp old (shard2, position2))) (both_same shard shard2 position position2)

same_both : (a b c d : ℕ) → (a == b && c == d) ≡ true → (a ≡ b) × (c ≡ d)
same_both a b c d h = (grind (arith, nat_tests), grind (arith, nat_tests))

same_origin-same : (x y : Origin) → same_origin x y ≡ true → x ≡ y
same_origin-same (Client a b) (Client c d) h = let both = same_both a c b d h in λ i. Client (both.0 i) (both.1 i)
same_origin-same (Client a b) (Merge c d) h = absurd (cc)
same_origin-same (Merge a b) (Client c d) h = absurd (cc)
same_origin-same (Merge a b) (Merge c d) h = let both = same_both a c b d h in λ i. Merge (both.0 i) (both.1 i)

same_origin-self : (x : Origin) → same_origin x x ≡ true
same_origin-self (Client a b) = rw (eqb-self a, eqb-self b) refl
same_origin-self (Merge a b) = rw (eqb-self a, eqb-self b) refl

kept : (log : List Entry) (e : Entry) (n : ℕ) (P : Entry → Type 0) → IsSomeAnd (slice_get log n) P → IsSomeAnd (slice_get (log ++ e ∷ []) n) P
kept [] e zero P h = absurd h
kept [] e (suc n) P h = absurd h
kept (x ∷ log) e zero P h = h
kept (x ∷ log) e (suc n) P h = kept log e n P h

-- an origin that is not the last entry's stands where it stood
stood : (log : List Entry) (e : Entry) (o : Origin) (found : Option ℕ) → same_origin e.origin o ≡ false → StandsAt log o found
    → StandsAt (log ++ e ∷ []) o found
stood log e o (Some zero) h s = s
stood log e o (Some (suc n)) h s = kept log e n (λ x. x.origin ≡ o) s
stood log e o None h s = All-push (λ (old : Entry). old.origin ≢ o) log e s
    (λ same. true≢false (sym (ap (same_origin e.origin) (sym same) ∙ same_origin-self e.origin) ∙ h))

last_stands : (log : List Entry) (e : Entry) (o : Origin) → e.origin ≡ o → StandsAt (log ++ e ∷ []) o (Some (length log + 1))
last_stands log e o is =
    let next : suc (length log) ≡ length log + 1 = omega arith in
    let here : IsSomeAnd (entry_at (log ++ e ∷ []) (suc (length log))) (λ x. x.origin ≡ o) = subst (λ found. IsSomeAnd found (λ x. x.origin ≡ o))
    (sym (slice_get-last log e)) is in
    subst (λ n. IsSomeAnd (entry_at (log ++ e ∷ []) n) (λ x. x.origin ≡ o)) next here

pub stands_more : (log : List Entry) (e : Entry) (o : Origin) (found now : Option ℕ) → StandsAt log o found
    → now ≡ cond (same_origin e.origin o) (Some (length log + 1)) found → StandsAt (log ++ e ∷ []) o now
stands_more log e o found now s is = elim (cases_Bool (same_origin e.origin o)) [
  | inl h ↦ subst (StandsAt (log ++ e ∷ []) o) (sym (is ∙ ap (λ b. cond b (Some (length log + 1)) found) h))
      (last_stands log e o (same_origin-same e.origin o h))
  | inr h ↦ subst (StandsAt (log ++ e ∷ []) o) (sym (is ∙ ap (λ b. cond b (Some (length log + 1)) found) h)) (stood log e o found h s)
]

-- of a log without entries
pub stands_nowhere : (o : Origin) (found : Option ℕ) → found ≡ None → StandsAt [] o found
stands_nowhere o found is = subst (StandsAt [] o) (sym is) (All-nil (λ (old : Entry). old.origin ≢ o))

-- with one more entry
pub positions_more : (log : List Entry) (e : Entry) (old new : Positions) → ArePositionsOf log old
    → ((other : Origin) → kept_position new other ≡ cond (same_origin e.origin other) (Some (length log + 1)) (kept_position old other))
    → ArePositionsOf (log ++ e ∷ []) new
positions_more log e old new was step = λ origin. stands_more log e origin (kept_position old origin) (kept_position new origin) (was origin) (step origin)
