use Rattle.std.proofs.Common.{◌∙◌, ap, subst, arith}
use Rattle.shard_tables.specs.StoreView.{Store}
use Rattle.std.specs.Prelude.{List}
use Rattle.topology.specs.Config.{Settings}
use Rattle.core_model.specs.Pens.{pens_of}
use Rattle.unlocked_nodes.proofs.MeetLemmas.{all_seen, one_more}
use Rattle.unlocked_nodes.specs.Looking.{HasMetAt}
use Rattle.unlocked_nodes.proofs.meeting.meet_cache.Goals as goal

pub loop-shard-preserved : goal.loop-shard-preserved
loop-shard-preserved g c =
    let was = c.loop-shard.invariant in
    record {
      seen = one_more (λ shard. HasMetAt (pens_of c.args.stores.now) shard (g.C.Cache.node c.args.cache.now)) c.loop-shard.shard was.seen
          (subst (λ (xs : List Store). HasMetAt (pens_of xs) c.loop-shard.shard (g.C.Cache.node c.args.cache.now)) was.same
          (subst (λ cache. HasMetAt (pens_of c.loop-shard.stores) c.loop-shard.shard (g.C.Cache.node cache)) was.cache c.in_ok-meet_shard.ensures.seen));
      same = c.in_ok-meet_shard.ensures.same ∙ was.same;
      cache = c.in_ok-meet_shard.ensures.cache ∙ was.cache;
    }

pub returns-clause-seen : goal.returns-clause-seen
returns-clause-seen g c =
    all_seen c.args.config.now (pens_of c.args.stores.now) c.args.name (g.C.Cache.node c.args.cache.now) c.requires.logs
    (λ shard lt. c.loop-shard.invariant.seen shard (omega (arith, lt, ap (λ (n : Settings). n.shards) c.config.view_is)))
