use Rattle.std.proofs.Common.{◌≡◌, ◌∙◌, None, Some, sym}
use Rattle.new_stores.proofs.EmptyStores.{empty_may_open, no_jobs}
use Rattle.cluster_tests.proofs.loading.loaded.Goals as goal

pub load-requires-clause-kept : goal.load-requires-clause-kept
load-requires-clause-kept g c κs within = λ told. empty_may_open _ _ c.in-Ok-keepers_for.ensures.empty c.as_bytes-2.result.now

pub load-requires-clause-jobs : goal.load-requires-clause-jobs
load-requires-clause-jobs g c κs within =
    λ told at here position us is. absurd (let e : None ≡ Some us = sym (no_jobs _ _ c.in-Ok-keepers_for.ensures.empty at position) ∙ is in cc)
