-- Refills that are queued, and taken out.
use Rattle.std.proofs.Common.{◌≡◌, List, [], ◌∷◌, ◌++◌, Option, Some, None, refl, ap, sym, ◌∙◌, inl}
use Rattle.std.specs.Prelude.{IsNone, option_to_list}
use Rattle.cache_items.specs.declared.delivered.DroppedList.{DroppedList}
use Rattle.core_model.specs.follower_cache.Refills.{Queues, QueuesRow, refill_of}
use Rattle.core_model.specs.follower_cache.Seen.{FollowerState}
use Rattle.core_model.specs.follower_cache.declared.queue.Refill.{Refill}
use Rattle.tao_base.specs.EdgeTypes.{EdgeTypes}
use Rattle.core_model.specs.Messages.{TakesRefill}

none_row : (row : Option Refill) → QueuesRow row [] []
none_row None = refl
none_row (Some refill) = inl refl

-- a leader queues none: each is left out
pub queues_none : (types : EdgeTypes) (rows : List DroppedList) → Queues types rows [] []
queues_none types [] = refl
queues_none types (row ∷ rows) = ([], none_row (refill_of types row), queues_none types rows)

-- the oldest is taken out
pub takes_oldest : (refill : Option Refill) (old new : FollowerState) → old.refills ≡ option_to_list refill ++ new.refills
    → new ≡ record old { refills = new.refills } → (IsNone refill → old.refills ≡ []) → TakesRefill refill old new
takes_oldest None old new oldest rest none = (none refl, rest ∙ ap (λ rs. record old { refills = rs }) (sym oldest))
takes_oldest (Some refill) old new oldest rest none = (oldest, rest)
