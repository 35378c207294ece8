use Rattle.std.proofs.Common.{ap, arith, ◌∙◌, subst, sym, IsSome}
use Rattle.follower_cache.specs.Seen.{FollowerState}
use Rattle.served_shards.specs.Served.{served_at}
use Rattle.tao_base.specs.Queries.{query_shard}
use Rattle.core_model.specs.Fleet.{Fleet}
use Rattle.core_nodes.specs.Stages.{NodeIs}
use Rattle.core_nodes.proofs.LentLemmas.{at_once_lent}
use Rattle.core_nodes.proofs.ReadLemmas.{follower_serves}
use Rattle.core_nodes.proofs.ViewLemmas.{LendsFollowers, followers_rest}
use Rattle.core_nodes.proofs.fleet.Fleet.ask_at_once.Goals as goal

pub open_at-requires-clause-serves : goal.open_at-requires-clause-serves
open_at-requires-clause-serves c =
    let own = c.deref_mut.ensures.value ∙ ap (λ (f : Fleet). f.followers) c.self.view_is in
    subst (NodeIs c.args.follower (λ (f : FollowerState). IsSome (served_at (query_shard c.args.query.now) f.node.served))) (sym own)
    (follower_serves c.args.config.now c.args.self.now (query_shard c.args.query.now) c.args.follower c.requires.fleet c.requires.follower)

pub returns : goal.returns
returns c =
    let own = c.deref_mut.ensures.value ∙ ap (λ (f : Fleet). f.followers) c.self.view_is in
    let lends : LendsFollowers c.self.inside c.args.self.now c.deref_mut.result.now c.open_at.new.followers =
    record { view = c.self.view_is; own = own; long = omega arith } in
    let done =
    at_once_lent c.args.config.now c.args.follower c.args.query.now c.open_at.result c.self.inside c.args.self.now c.deref_mut.result.now
    c.open_at.new.followers lends c.requires.fleet c.open_at.ensures in
    record {
      asks = done.asks;
      rest = followers_rest c.self.inside c.args.self.now c.deref_mut.result.now c.open_at.new.followers lends;
      fleet = done.step.fleet;
      goes = done.step.goes;
      ask = done.ask_is;
    }
