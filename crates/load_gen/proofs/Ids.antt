-- Ids with a serial.
use Rattle.std.proofs.Common.{◌≡◌, ℕ, ◌+◌, ◌*◌, ◌^◌, ◌<◌}
use Rattle.std.proofs.lemmas.Nat.{mod-mul-add}
use Rattle.tao_base.specs.Ids.{serial_of}

-- the serial of an id that is made of a shard and a serial
pub serial_is : (shard serial : ℕ) → serial < 2 ^ 48 → serial_of (shard * 2 ^ 48 + serial) ≡ serial
serial_is shard serial small = mod-mul-add shard (2 ^ 48) serial small
