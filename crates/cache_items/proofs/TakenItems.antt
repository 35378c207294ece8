-- A value set at a key that is held.
use Rattle.std.proofs.Common.{◌≡◌, ℕ, ◌<◌, Bool, [], ◌∷◌, Some, refl, ap, ◌∙◌, inl, inr}
use Rattle.std.proofs.lemmas.Bool.{cases_Bool}
use Rattle.std.proofs.lemmas.Map.Steps.{set_value_same}
use Rattle.std.specs.Map.{remove_entry, set_value}
use Rattle.tao_base.specs.declared.entry.Change.{Change}
use Rattle.tao_base.specs.declared.id.Key.{Key}
use Rattle.tao_base.specs.Keys.{same_key}
use Rattle.served_shards.specs.shard_log.View.{View}
use Rattle.changeset.specs.Changes.{seen_change}
use Rattle.cache_items.specs.declared.item.Item.{Item}
use Rattle.cache_items.specs.Node.{Items, item_at}
use Rattle.cache_items.specs.Taken.{StaysBy, TakesChange}

remove_set : (test : Key → Bool) (items : Items) (item : Item) → remove_entry test (set_value test items item) ≡ remove_entry test items
remove_set test [] item = refl
remove_set test (e ∷ items) item = elim (cases_Bool (test e.0)) [
  | inl t ↦ rw t (rw t refl)
  | inr f ↦ rw f (rw f (ap (λ l. e ∷ l) (remove_set test items item)))
]

module _ (items : Items) (key : Key) (before after : ℕ) (change : Change) (bound : ℕ) (item new : Item) (note : View) (is : item_at items key ≡ Some item) where
  -- an item that stayed, or took the change
  pub taken : StaysBy bound item new before after change
      → TakesChange bound (Some item) (seen_change key before after change note) items (set_value (same_key key) items new)
  taken (inl old) = inl (old.0, ap (set_value (same_key key) items) old.1 ∙ set_value_same (same_key key) items item is)
  taken (inr next) = inr (inl (next.0, ap (set_value (same_key key) items) next.1))

  -- an item that was dropped
  pub gone : item.version < after → TakesChange bound (Some item) (seen_change key before after change note) items
      (remove_entry (same_key key) (set_value (same_key key) items new))
  gone older = inr (inr (older, remove_set (same_key key) items new))
