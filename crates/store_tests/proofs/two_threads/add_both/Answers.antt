use Rattle.std.proofs.Common.{◌∙◌, ap, sym}
use Rattle.graph_model.specs.Log.{entry_at}
use Rattle.shard_log.proofs.GrowthLemmas.{entry_stays}
use Rattle.store_tests.proofs.two_threads.add_both.Goals as goal

pub returns-clause-first : goal.returns-clause-first
returns-clause-first g c =
    let one = rw c.in_ok-one.was at c.join-a.ensures.first in
    let whole = c.in-Ok-Ok.ensures.whole ∙ ap (λ v. v.entries) (sym (c.meet-2.ensures.same ∙ c.meet.ensures.same)) in
    ap (λ log. entry_at log c.in_ok-one.first) (sym whole)
    ∙ entry_stays c.in_ok-one.one c.meet.new.note c.in_ok-one.first c.args.first.now c.meet.ensures.grows one.1

pub returns-clause-second : goal.returns-clause-second
returns-clause-second g c =
    let two = rw c.in_ok-two.was at c.join-a.ensures.second in
    let whole = c.in-Ok-Ok.ensures'.whole ∙ ap (λ v. v.entries) (sym c.meet-2.ensures.same) in
    ap (λ log. entry_at log c.in_ok-two.second) (sym whole)
    ∙ entry_stays c.in_ok-two.two c.meet-2.new.note c.in_ok-two.second c.args.second.now c.meet-2.ensures.grows two.1
