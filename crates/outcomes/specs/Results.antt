-- Steps that may be refused, and what a function gives that may also lack memory.
use Rattle.std.specs.Prelude.{◌≡◌, Bool, true, false, Option, None, Some, IfSome, Result, Ok, Err, ⊤}

-- one step after another, where the first refusal ends them
infixl 10 ◌>>=◌
abbrev pub ◌>>=◌ : {A B E : Type 0} → Result A E → (A → Result B E) → Result B E
Ok a >>= next = next a
Err refused >>= next = Err refused

-- what is found, or this refusal
abbrev pub needed : {A E : Type 0} → E → Option A → Result A E
needed refused None = Err refused
needed refused (Some a) = Ok a

-- the outcome of a test: nothing but Ok where it passes, else the refusal
abbrev pub refused_unless : {E : Type 0} → E → Bool → Result ⊤ E
refused_unless refused true = Ok tt
refused_unless refused false = Err refused

-- the outcome, with its refusal put in other words
abbrev pub with_refusal : {A E F : Type 0} → (E → F) → Result A E → Result A F
with_refusal words (Ok a) = Ok a
with_refusal words (Err refused) = Err (words refused)

-- the outcome is the expected one, or there was no memory, as there may be none at any place. What of an error isn't out of memory
-- is the expected refusal
abbrev pub Gives : {A E F : Type 0} → (E → Option F) → Result A E → Result A F → Type 0
Gives unless_memory (Ok a) expected = expected ≡ Ok a
Gives unless_memory (Err error) expected = IfSome (unless_memory error) (λ refused. expected ≡ Err refused)
