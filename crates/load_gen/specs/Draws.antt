-- Draws by a linear congruential generator.
use Rattle.std.specs.Prelude.{◌≡◌, ℕ, ◌+◌, ◌*◌, ◌/◌, ◌%◌, ◌^◌}

-- the state of the generator after a state: a linear congruential step modulo 2^64
unfoldable pub next_state : ℕ → ℕ
next_state state = (state * 6364136223846793005 + 1442695040888963407) % 2 ^ 64

-- a draw takes the state of the generator, and gives a value and the state after it
abbrev pub Draw : Type 0 → Type 0
Draw A = ℕ → A × ℕ

-- a draw of a number below n: the next state without its low 33 bits, modulo n
abbrev pub below : ℕ → Draw ℕ
below n state = ((next_state state / 2 ^ 33) % n, next_state state)

-- one draw after another, which knows what the first one gave
infixl 10 ◌>>=◌
abbrev pub ◌>>=◌ : {A B : Type 0} → Draw A → (A → Draw B) → Draw B
(drawn >>= next) state = next (drawn state).0 (drawn state).1

-- a value that is known, without a draw
abbrev pub give : {A : Type 0} → A → Draw A
give value state = (value, state)

-- the draw gives this value, and takes the generator from the old state to the new one
abbrev pub IsDrawn : {A : Type 0} → Draw A → A → ℕ → ℕ → Type 0
IsDrawn drawn value old new = (value ≡ (drawn old).0) × (new ≡ (drawn old).1)
