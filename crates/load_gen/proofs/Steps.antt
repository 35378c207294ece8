-- A step of the generator, and what is left of a list.
use Rattle.std.proofs.Common.{◌≡◌, ℕ, ◌+◌, ◌*◌, ◌%◌}
use Rattle.std.proofs.Math.Nat.{mod-add-mod}

-- a product and a sum that both wrap are the sum that wraps once
pub wrapped : (state multiplier increment size : ℕ) → (state * multiplier % size + increment) % size ≡ (state * multiplier + increment) % size
wrapped state multiplier increment size = mod-add-mod (state * multiplier) size increment
