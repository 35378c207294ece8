-- Counts of hops that are added.
use Rattle.std.proofs.Common.{◌≡◌, ℕ, ◌+◌, arith, min}
use Rattle.hop_count.specs.Hops.{hops_after, most_hops}

-- hops that are taken one after another are their sum, whether or not the count stands still in between
pub hops_add : (before more rest : ℕ) → min (hops_after before more + rest) most_hops ≡ min (before + (more + rest)) most_hops
hops_add before more rest = omega arith
