-- The rule stays when the view of one seat changes, or a seat comes in.
use Rattle.std.proofs.Common.{◌≡◌, ◌≢◌, ℕ, zero, suc, ⊎_elim, List, [], ◌∷◌, ◌++◌, length, set, slice_index, refl, ap, sym, subst, ◌∙◌}
use Rattle.std.proofs.lemmas.List.{set-get_or}
use mathlib.Core.Option.{some, some-injective, some-ne-none}
use lib.ListN.{get_elem?}
use Rattle.atomic_table.specs.Table.{State}
use Rattle.atomic_table.proofs.Lists.{at_set, set_else, at_longer, at_snoc}
use Rattle.shard_log.specs.declared.rule.Role.{Role}
use Rattle.shard_log.specs.declared.rule.Role.TheVariants.{Writes, Reads, Spent}
use Rattle.shard_log.specs.declared.rule.Seen.{Seen}
use Rattle.shard_log.specs.Rule.{IsKept, IsLog, Fits}

-- the roles differ
pub reader_isn't_writer : (r : Role) → r ≡ Reads → r ≢ Writes
reader_isn't_writer r e = λ h. cc (e, h)

pub reader_isn't_spent : (r : Role) → r ≡ Reads → r ≢ Spent
reader_isn't_spent r e = λ h. cc (e, h)

pub writer_isn't_spent : (r : Role) → r ≡ Writes → r ≢ Spent
writer_isn't_spent r e = λ h. cc (e, h)

-- what is put into a place that a list has stands there
pub set_there : {A : Type 0} (l : List A) (i : ℕ) (a b : A) → get_elem? l i ≡ some a → get_elem? (set l i b) i ≡ some b
set_there [] i a b e = absurd (some-ne-none a (sym e))
set_there (x ∷ xs) zero a b e = refl
set_there (x ∷ xs) (suc i) a b e = set_there xs i a b e

module _ {S : Type 0} (s : State S Seen) (k : IsKept s) where
  -- only the first seat writes, and what it has seen is the log
  pub pen_is : (id : ℕ) (v : Seen) → get_elem? s.views id ≡ some v → v.role ≡ Writes → (id ≡ 0) × (k.pen ≡ v)
  pen_is id v at writes =
      let first : id ≡ 0 = k.alone id v at writes in
      (first, some-injective k.pen v (sym k.first ∙ ap (get_elem? s.views) (sym first) ∙ at))

  -- a seat that doesn't write isn't the first
  not_first : (id : ℕ) (v : Seen) → get_elem? s.views id ≡ some v → v.role ≢ Writes → id ≢ 0
  not_first id v at reads first = reads (subst (λ p. p.role ≡ Writes) (some-injective k.pen v (sym k.first ∙ ap (get_elem? s.views) (sym first) ∙ at)) k.writes)

  -- a seat that doesn't write has a new view
  pub note_kept : (words : List ℕ) (id : ℕ) (v w : Seen) → words ≡ s.words → get_elem? s.views id ≡ some v → v.role ≢ Writes → w.role ≢ Writes
      → (w.role ≢ Spent → Fits k.pen w)
      → IsKept record { words = words; homes = s.homes; views = set s.views id w }
  note_kept words id v w same at reads reads_on fits = record {
    pen = k.pen;
    log = k.log;
    words_are = same ∙ k.words_are;
    first = set_else s.views id 0 w (λ e. not_first id v at reads (sym e)) ∙ k.first;
    writes = k.writes;
    alone = λ i u here on. ⊎_elim
        (λ (t : (i ≡ id) × (w ≡ u)). absurd (reads_on (ap (λ p. p.role) t.1 ∙ on)))
        (λ (t : (i ≢ id) × (get_elem? s.views i ≡ some u)). k.alone i u t.1 on) (at_set s.views id i w u here);
    fits = λ i u here on. ⊎_elim
        (λ (t : (i ≡ id) × (w ≡ u)). subst (λ p. p.role ≢ Spent → Fits k.pen p) t.1 fits on)
        (λ (t : (i ≢ id) × (get_elem? s.views i ≡ some u)). k.fits i u t.1 on) (at_set s.views id i w u here);
  }

  -- a seat that doesn't write comes in
  pub more_kept : (w : Seen) → w.role ≢ Writes → Fits k.pen w → IsKept record { words = s.words; homes = s.homes; views = s.views ++ w ∷ [] }
  more_kept w reads fits = record {
    pen = k.pen;
    log = k.log;
    words_are = k.words_are;
    first = at_longer s.views (w ∷ []) 0 k.pen k.first;
    writes = k.writes;
    alone = λ i u here on. ⊎_elim
        (λ (a : get_elem? s.views i ≡ some u). k.alone i u a on)
        (λ (e : w ≡ u). absurd (reads (ap (λ p. p.role) e ∙ on))) (at_snoc s.views w u i here);
    fits = λ i u here on. ⊎_elim
        (λ (a : get_elem? s.views i ≡ some u). k.fits i u a on)
        (λ (e : w ≡ u). subst (Fits k.pen) e fits) (at_snoc s.views w u i here);
  }

  -- the pen has a new view, which is the log then
  pub pen_kept : (words : List ℕ) (id : ℕ) (v w : Seen) → get_elem? s.views id ≡ some v → v.role ≡ Writes → w.role ≡ Writes
      → words ≡ length w.entries ∷ w.stored
      → IsLog w → Fits w w → ((u : Seen) → Fits v u → Fits w u)
      → IsKept record { words = words; homes = s.homes; views = set s.views id w }
  pen_kept words id v w at writes writes_on words_are log own wider =
      let is = pen_is id v at writes in record {
        pen = w;
        log = log;
        words_are = words_are;
        first = subst (λ i. get_elem? (set s.views id w) i ≡ some w) is.0 (set_there s.views id v w at);
        writes = writes_on;
        alone = λ i u here on. ⊎_elim
            (λ (t : (i ≡ id) × (w ≡ u)). t.0 ∙ is.0)
            (λ (t : (i ≢ id) × (get_elem? s.views i ≡ some u)). k.alone i u t.1 on) (at_set s.views id i w u here);
        fits = λ i u here on. ⊎_elim
            (λ (t : (i ≡ id) × (w ≡ u)). subst (Fits w) t.1 own)
            (λ (t : (i ≢ id) × (get_elem? s.views i ≡ some u)). wider u (subst (λ p. Fits p u) is.1 (k.fits i u t.1 on))) (at_set s.views id i w u here);
      }

  -- a load leaves the words
  pub same_words : (i : ℕ) → set s.words i (slice_index s.words i) ≡ s.words
  same_words i = set-get_or s.words i 0

  -- word 0 is the log's length
  pub length_found : slice_index s.words 0 ≡ length k.pen.entries
  length_found = ap (λ words. slice_index words 0) k.words_are
