-- Refills of dropped lists, of which some have no row.
use Rattle.std.proofs.Common.{◌≡◌, ℕ, ◌+◌, ◌<◌, List, [], ◌∷◌, length, drop, get_or, add-one, drop-cons, Option, Some, None, ◌++◌, refl, sym, ◌∙◌}
use Rattle.std.proofs.Common.{ap, subst, inl, inr, arith}
use Rattle.std.specs.Prelude.{IsNone, option_to_list}
use Rattle.tao_base.specs.EdgeTypes.{EdgeTypes}
use Rattle.cache_node.specs.cache_items.Delivered.{AreSome}
use Rattle.cache_node.specs.cache_items.declared.delivered.DroppedList.{DroppedList}
use Rattle.follower_cache.specs.Refills.{Queues, QueuesRow, refill_of}
use Rattle.follower_cache.specs.declared.queue.Refill.{Refill}

shorter : (refills : List Refill) → refills ≡ drop 1 refills → refills ≡ []
shorter [] h = refl
shorter (r ∷ refills) h = absurd (let same = ap length h in omega arith)

-- none is taken out exactly where none waits
pub none_waits : (r : Option Refill) (old new : List Refill) → old ≡ option_to_list r ++ new → new ≡ drop 1 old → (IsNone r → old ≡ []) × (old ≡ [] → IsNone r)
none_waits None old new oldest rest = ((λ none. shorter old (oldest ∙ rest)), (λ empty. refl))
none_waits (Some r) old new oldest rest = ((λ none. absurd (cc)), (λ empty. absurd (let e : r ∷ new ≡ [] = sym oldest ∙ empty in cc)))

left_out : (o : Option Refill) (refills : List Refill) → QueuesRow o refills refills
left_out None refills = refl
left_out (Some refill) refills = inl refl

-- what queues some of the rows queues all of them, the others being left out
pub some_queued : (types : EdgeTypes) (rows all : List DroppedList) (old new : List Refill) → AreSome rows all → Queues types rows old new
    → Queues types all old new
some_queued types [] [] old new some queued = queued
some_queued types [] (a ∷ all) old new some queued = (old, left_out (refill_of types a) old, some_queued types [] all old new tt queued)
some_queued types (r ∷ rows) [] old new some queued = absurd some
some_queued types (r ∷ rows) (a ∷ all) old new (inl same) queued =
    (queued.0, subst (λ r. QueuesRow (refill_of types r) old queued.0) same.0 queued.1, some_queued types rows all queued.0 new same.1 queued.2)
some_queued types (r ∷ rows) (a ∷ all) old new (inr some) queued = (old, left_out (refill_of types a) old, some_queued types (r ∷ rows) all old new some queued)

first_is : (rows : List DroppedList) (i : ℕ) (row : DroppedList) → i < length rows → row ≡ get_or rows i row → drop i rows ≡ row ∷ drop (i + 1) rows
first_is rows i row lt at =
    let first : drop i rows ≡ get_or rows i row ∷ drop (i + 1) rows = rw (add-one, drop-cons rows i row) refl in
    first ∙ ap (λ x. x ∷ drop (i + 1) rows) (sym at)

-- one more row
pub row_queued : (types : EdgeTypes) (rows : List DroppedList) (i : ℕ) (row : DroppedList) (first old between new : List Refill) → i < length rows
    → row ≡ get_or rows i row
    → ((new : List Refill) → Queues types (drop i rows) old new → Queues types rows first new) → QueuesRow (refill_of types row) old between
    → Queues types (drop (i + 1) rows) between new
    → Queues types rows first new
row_queued types rows i row first old between new lt at rest queues more =
    rest new (subst (λ l. Queues types l old new) (sym (first_is rows i row lt at)) (between, queues, more))
