use Rattle.std.proofs.Common.{◌∙◌, ap, arith, length, subst, sym}
use Rattle.std.proofs.lemmas.Option.{slice_get_within}
use Rattle.std.specs.Prelude.{List, slice_index_or}
use Rattle.core_model.specs.Consistent.{AreSeen}
use Rattle.core_model.specs.Fleet.{named}
use Rattle.core_model.specs.Pens.{pens_of}
use Rattle.core_model.specs.declared.named.Named.{Named}
use Rattle.shard_tables.specs.StoreView.{Store}
use Rattle.unlocked_nodes.proofs.MeetLemmas.{one_more_of, put_back, read_same}
use Rattle.unlocked_nodes.specs.Looking.{NodeIsOfLogs}
use Rattle.unlocked_nodes.proofs.meeting.meet_caches.Goals as goal

pub meet_cache-requires-clause-logs : goal.meet_cache-requires-clause-logs
meet_cache-requires-clause-logs g c =
    let was = c.loop-place.invariant in
    let cache = slice_index_or c.loop-place.caches c.loop-place.place c.index-caches-place.result in
    let there = read_same c.args.caches.now c.loop-place.caches c.loop-place.place c.index-caches-place.result was.caches
    (let same = ap length was.caches in omega (arith, same)) in
    subst (λ (xs : List Store). NodeIsOfLogs c.args.config.now (pens_of xs) cache.name (g.C.Cache.node cache.node)) (sym was.same)
    (c.requires.logs c.loop-place.place cache.name cache.node there)

pub loop-place-preserved : goal.loop-place-preserved
loop-place-preserved g c =
    let was = c.loop-place.invariant in
    let cache = slice_index_or c.loop-place.caches c.loop-place.place c.index-caches-place.result in
    let there = read_same c.args.caches.now c.loop-place.caches c.loop-place.place c.index-caches-place.result was.caches
    (let same = ap length was.caches in omega (arith, same)) in
    record {
      seen = one_more_of (λ (x : Named _). AreSeen (pens_of c.args.stores.now) (g.C.Cache.node x.node).served) c.args.caches.now c.loop-place.place cache
          was.seen there
          (subst (λ (xs : List Store). AreSeen (pens_of xs) (g.C.Cache.node cache.node).served) was.same c.in_ok-meet_cache.ensures.seen);
      same = c.in_ok-meet_cache.ensures.same ∙ was.same;
      caches = put_back c.args.caches.now c.loop-place.caches c.loop-place.place c.index-caches-place.result _ was.caches
          (ap (λ node. named cache.name node) c.in_ok-meet_cache.ensures.cache);
    }

pub returns-clause-seen : goal.returns-clause-seen
returns-clause-seen g c place name node at =
    c.loop-place.invariant.seen place (named name node)
    (let within = slice_get_within c.args.caches.now place _ at in let same = ap length c.loop-place.invariant.caches in omega (arith, within, same)) at
