use Rattle.std.proofs.Common.{◌≡◌, ◌∙◌, None, Some, sym}
use Rattle.new_stores.proofs.EmptyStores.{empty_may_open, no_jobs}
use Rattle.new_stores.proofs.opening.open_new.Goals as goal

pub open-requires-clause-kept : goal.open-requires-clause-kept
open-requires-clause-kept c =
    λ told. empty_may_open c.args.config.now c.in_ok-keepers.keepers.items c.in_ok-keepers.ensures.empty c.args.line.now

pub open-requires-clause-jobs : goal.open-requires-clause-jobs
open-requires-clause-jobs c =
    λ told at here position us is. absurd (let e : None ≡ Some us = sym (no_jobs c.args.config.now.shards c.in_ok-keepers.keepers.items
    c.in_ok-keepers.ensures.empty at position) ∙ is in cc)
