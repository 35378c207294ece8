use Rattle.std.proofs.Common.{◌≡◌, ◌∙◌, None, Some, inr, refl, sym}
use Rattle.std.specs.Io.KnownBytes.{Appends}
use Rattle.new_stores.proofs.EmptyStores.{empty_may_open, no_jobs}
use Rattle.load_top.proofs.EndingLemmas.{ends_so, part_none_on, part_of}
use Rattle.load_top.proofs.StuckLoads.{none_refused}
use Rattle.load_top.specs.Ending.{requests_by}
use Rattle.load_top.specs.Lines.{summary_line}
use Rattle.load_top.specs.declared.ended.Came.TheVariants.{Settled}
use Rattle.load_top.proofs.loading.load_first.Goals as goal

pub returns-in_err-keepers-clause-part : goal.returns-in_err-keepers-clause-part
returns-in_err-keepers-clause-part g c = part_none_on _ (g.S.Sink.taken c.args.output.now)

pub load-requires-clause-kept : goal.load-requires-clause-kept
load-requires-clause-kept g c κs within =
    λ told. empty_may_open c.args.first.now.config c.in_ok-keepers.keepers.items c.in_ok-keepers.ensures.empty c.deref.result.now

pub load-requires-clause-jobs : goal.load-requires-clause-jobs
load-requires-clause-jobs g c κs within =
    λ told at here position us is. absurd (let e : None ≡ Some us = sym (no_jobs c.args.first.now.config.shards c.in_ok-keepers.keepers.items
    c.in_ok-keepers.ensures.empty at position) ∙ is in cc)

pub returns-in-Ok-clause-ok : goal.returns-in-Ok-clause-ok
returns-in-Ok-clause-ok g c =
    let s = c.args.first.now.config in
    ends_so c.end_summed.result s (requests_by c.args.words s) Settled c.in-Ok.keepers.items
    (Appends (g.S.Sink.taken c.args.output.now) (g.S.Sink.taken c.end_summed.new.output)) (summary_line c.in-Ok.summary) c.in-Ok.ensures.many
    (λ written. (
      c.in-Ok.summary,
      c.in-Ok.ensures.leaves refl,
      none_refused s c.in_ok-keepers.keepers.items c.in-Ok.keepers.items c.in-Ok.summary c.in_ok-keepers.ensures.empty (c.in-Ok.ensures.none refl),
      written,
    ))
    c.end_summed.ensures.came c.end_summed.ensures.back c.end_summed.ensures.ok

pub returns-in-Ok-clause-part : goal.returns-in-Ok-clause-part
returns-in-Ok-clause-part g c =
    part_of c.end_summed.result (g.S.Sink.taken c.args.output.now) (g.S.Sink.taken c.end_summed.new.output) (summary_line c.in-Ok.summary)
    (inr (c.in-Ok.summary, refl)) c.end_summed.ensures.err
