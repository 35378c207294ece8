-- The rows of dropped lists.
use Rattle.std.proofs.Common.{◌≡◌, ℕ, ◌+◌, ◌<◌, List, [], ◌∷◌, ◌++◌, length, drop, get_or, add-one, append-nil, append_assoc, drop-cons, refl, sym, ap, ◌∙◌}
use Rattle.std.proofs.Common.{subst, inl, inr, arith}
use Rattle.std.specs.Prelude.{if◌then◌else◌}
use Rattle.maint_msg.specs.declared.key_versions.KeyVersion.{KeyVersion}
use Rattle.cache_items.specs.Node.{Items, drop_count, dropped, item_at, is_stale, without}
use Rattle.cache_items.specs.declared.delivered.DroppedList.{DroppedList}
use Rattle.cache_items.specs.Delivered.{AddsRow, AreSome, dropped_lists, row_of}

some_left : (row more all : List DroppedList) → AreSome more all → AreSome more (row ++ all)
some_left [] more all h = h
some_left (r ∷ row) [] all h = tt
some_left (r ∷ row) (m ∷ more) all h = inr (some_left row (m ∷ more) all h)

some_both : (row more all : List DroppedList) → AreSome more all → AreSome (row ++ more) (row ++ all)
some_both [] more all h = h
some_both (r ∷ row) more all h = inl (refl, some_both row more all h)

-- one more row, or none
pub rows_more : (row rows new whole rest : List DroppedList) → ((more : List DroppedList) → AreSome more (row ++ rest) → AreSome (rows ++ more) whole)
    → AddsRow row rows new
    → (more : List DroppedList) → AreSome more rest → AreSome (new ++ more) whole
rows_more row rows new whole rest h (inl same) more some = subst (λ xs. AreSome (xs ++ more) whole) (sym same) (h more (some_left row more rest some))
rows_more row rows new whole rest h (inr added) more some =
    subst (λ xs. AreSome (xs ++ more) whole) (sym added)
    (subst (λ xs. AreSome xs whole) (sym (append_assoc rows row more)) (h (row ++ more) (some_both row more rest some)))

pub rows_all : (rows whole : List DroppedList) → AreSome (rows ++ []) whole → AreSome rows whole
rows_all rows whole h = subst (λ xs. AreSome xs whole) (append-nil rows) h

-- the keys from a place on
pub first_is : (keys : List KeyVersion) (i : ℕ) (k : KeyVersion) → i < length keys → k ≡ get_or keys i k → drop i keys ≡ k ∷ drop (i + 1) keys
first_is keys i k lt at =
    let first : drop i keys ≡ get_or keys i k ∷ drop (i + 1) keys = rw (add-one, drop-cons keys i k) refl in
    first ∙ ap (λ x. x ∷ drop (i + 1) keys) (sym at)

module _ (items left : Items) (keys : List KeyVersion) (i : ℕ) (k : KeyVersion) (lt : i < length keys) (at : k ≡ get_or keys i k)
    (is : left ≡ (if is_stale items k then without k.key items else items)) where
  -- the count with one more key
  pub counted_step : (count one whole : ℕ) → one ≡ (if is_stale items k then 1 else 0) → count + drop_count items (drop i keys) ≡ whole
      → count + one + drop_count left (drop (i + 1) keys) ≡ whole
  counted_step count one whole one_is h =
      let split = ap (drop_count items) (first_is keys i k lt at) in
      let same = ap (λ xs. drop_count xs (drop (i + 1) keys)) is in
      omega arith

  -- the items that are left with one more key
  pub rest_step : (whole : Items) → dropped items (drop i keys) ≡ whole → dropped left (drop (i + 1) keys) ≡ whole
  rest_step whole h = ap (λ xs. dropped xs (drop (i + 1) keys)) is ∙ sym (ap (dropped items) (first_is keys i k lt at)) ∙ h

  -- the rows of one more key
  pub rows_step : (rows new whole : List DroppedList) → AddsRow (if is_stale items k then row_of k (item_at items k.key) else []) rows new
      → ((more : List DroppedList) → AreSome more (dropped_lists items (drop i keys)) → AreSome (rows ++ more) whole)
      → (more : List DroppedList) → AreSome more (dropped_lists left (drop (i + 1) keys)) → AreSome (new ++ more) whole
  rows_step rows new whole adds h more some =
      rows_more (if is_stale items k then row_of k (item_at items k.key) else []) rows new whole (dropped_lists left (drop (i + 1) keys))
      (λ more some. h more (subst (λ ks. AreSome more (dropped_lists items ks)) (sym (first_is keys i k lt at))
      (subst (λ xs. AreSome more ((if is_stale items k then row_of k (item_at items k.key) else []) ++ dropped_lists xs (drop (i + 1) keys))) is some)))
      adds more some
