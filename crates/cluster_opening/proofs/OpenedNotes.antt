-- The notes of the stores of a cluster, and the stores with their keepers and notes, one after another.
use Rattle.std.proofs.Common.{◌≡◌, ℕ, ◌+◌, IfOk, List, [], ◌∷◌, ◌++◌, length, Result, Ok, Err, Some, refl, ap, sym, subst, ◌∙◌, inl, inr}
use Rattle.std.proofs.Common.{arith, length-append}
use Rattle.std.proofs.lemmas.Option.{slice_get_within}
use Rattle.std.specs.Prelude.{slice_get}
use Rattle.core_model.specs.Pens.{Pens}
use Rattle.graph_model.proofs.Sound.{slice_get-push}
use Rattle.shard_log.specs.View.{Grows, View}
use Rattle.shard_tables.specs.StoreView.{Store}
use Rattle.shard_tables.specs.declared.store.StoreRole.{StoreRole}
use Rattle.locked_nodes.proofs.PassNotes.{one_more_long}
use Rattle.cluster_opening.specs.declared.opening.Noted.{Noted}
use Rattle.cluster_opening.proofs.Pushed.{get_pushed}
use Rattle.cluster_opening.specs.Opening.{AreEach, AreNotesFor, AreWholeNotes, HaveNotes, IsWholeNote}

-- one more note, of the next shard
pub one_more_note : (pens : Pens) (shard : ℕ) (note : View) (notes more : List View) → AreWholeNotes pens shard notes → IsWholeNote pens shard note
    → more ≡ notes ++ note ∷ [] → AreWholeNotes pens (shard + 1) more
one_more_note pens shard note notes more are is pushed = record {
  long = one_more_long shard note notes more are.long pushed;
  each = λ n v h. elim (slice_get-push notes note n v (ap (λ l. slice_get l n) (sym pushed) ∙ h)) [
    | inl e ↦ are.each n v e
    | inr e ↦ subst (IsWholeNote pens n) e.1 (subst (λ k. IsWholeNote pens k note) (sym (e.0 ∙ are.long)) is)
  ];
}

-- the notes of one more store
pub one_more_noted : (pens : Pens) (shards : ℕ) (stores : List Store) (place : ℕ) (role : StoreRole) (last : Noted) (noted more : List Noted)
    → HaveNotes pens shards stores place noted → ((store : Store) → slice_get stores place ≡ Some store → store.role ≡ role)
    → AreNotesFor pens shards role last.notes.items → more ≡ noted ++ last ∷ [] → HaveNotes pens shards stores (place + 1) more
one_more_noted pens shards stores place role last noted more are of_store is pushed = record {
  long = (let long = are.long in omega (arith, ap length pushed, length-append noted (last ∷ []), long));
  each = λ n store notes there h. elim (slice_get-push noted last n notes (ap (λ l. slice_get l n) (sym pushed) ∙ h)) [
    | inl e ↦ are.each n store notes there e
    | inr e ↦ (
        let same : store.role ≡ role = of_store store (subst (λ k. slice_get stores k ≡ Some store) (e.0 ∙ are.long) there) in
        subst (λ (x : Noted). AreNotesFor pens shards store.role x.notes.items) e.1
        (subst (λ r. AreNotesFor pens shards r last.notes.items) (sym same) is))
  ];
}

-- ---- from the last one on

module _ {M : Type 0} (Is : Store → M → List View → Type 0) (stores : List Store) (keepers : List M) (noted : List Noted) (store : Store) (keeper : M)
    (notes : Noted) (are : AreEach Is (stores ++ store ∷ []) (keepers ++ keeper ∷ []) (noted ++ notes ∷ [])) where
  keepers_too : length keepers ≡ length stores
  keepers_too =
      let long = are.keepers_long in
      omega (arith, long, length-append keepers (keeper ∷ []), length-append stores (store ∷ []))

  notes_too : length noted ≡ length stores
  notes_too =
      let long = are.notes_long in
      omega (arith, long, length-append noted (notes ∷ []), length-append stores (store ∷ []))

  pub is_last : Is store keeper notes.notes.items
  is_last = are.each (length stores) store keeper notes ((get_pushed stores store).last (length stores) refl)
      ((get_pushed keepers keeper).last (length stores) (sym keepers_too)) ((get_pushed noted notes).last (length stores) (sym notes_too))

  pub are_front : AreEach Is stores keepers noted
  are_front = record {
    keepers_long = keepers_too;
    notes_long = notes_too;
    each = λ place x k n at keeps has.
        are.each place x k n ((get_pushed stores store).front place (slice_get_within stores place x at) ∙ at)
        ((get_pushed keepers keeper).front place (slice_get_within keepers place k keeps) ∙ keeps)
        ((get_pushed noted notes).front place (slice_get_within noted place n has) ∙ has);
  }

module _ {M : Type 0} (Is : Store → M → List View → Type 0) (xs rest : List Store) (ks keepers : List M) (ns noted : List Noted) (store : Store) (keeper : M)
    (notes : Noted) (are : AreEach Is xs ks ns) (stores_are : xs ≡ rest ++ store ∷ []) (keepers_are : ks ≡ keepers ++ keeper ∷ [])
    (notes_are : ns ≡ noted ++ notes ∷ []) where
  taken_apart : AreEach Is (rest ++ store ∷ []) (keepers ++ keeper ∷ []) (noted ++ notes ∷ [])
  taken_apart =
      subst (λ l. AreEach Is l (keepers ++ keeper ∷ []) (noted ++ notes ∷ [])) stores_are
      (subst (λ l. AreEach Is xs l (noted ++ notes ∷ [])) keepers_are (subst (AreEach Is xs ks) notes_are are))

  -- the last one is such
  pub last_is : Is store keeper notes.notes.items
  last_is = is_last Is rest keepers noted store keeper notes taken_apart

  -- and those that are left
  pub rest_are : AreEach Is rest keepers noted
  rest_are = are_front Is rest keepers noted store keeper notes taken_apart

-- ---- one note

-- it has seen all that its master's store has
pub whole_is : {E : Type 0} (pens : Pens) (shard : ℕ) (view note : View) (r : Result View E) → pens shard ≡ view → note.log ≡ view.log
    → IfOk r (λ counted. counted.entries ≡ view.entries) → IfOk r (Grows note) → IfOk r (IsWholeNote pens shard)
whole_is pens shard view note (Ok counted) pen log whole grows = record {
  log_is = grows.log_is ∙ log ∙ ap (λ (v : View). v.log) (sym pen);
  whole = whole ∙ ap (λ (v : View). v.entries) (sym pen);
}
whole_is pens shard view note (Err e) pen log whole grows = tt
