use Rattle.std.proofs.Common.{ap, arith, ◌∙◌, subst, sym, IsSome}
use Rattle.follower_cache.specs.Seen.{FollowerState}
use Rattle.served_shards.specs.Served.{served_at}
use Rattle.tao_base.specs.Queries.{query_shard}
use Rattle.topology.specs.Config.{Settings}
use Rattle.core_model.specs.Fleet.{Fleet}
use Rattle.core_model.specs.Reads.{wanted}
use Rattle.core_nodes.specs.Stages.{NodeIs}
use Rattle.core_nodes.proofs.LentLemmas.{look_lent}
use Rattle.core_nodes.proofs.ReadLemmas.{follower_serves}
use Rattle.core_nodes.proofs.ViewLemmas.{LendsFollowers, followers_back, followers_rest}
use Rattle.std.proofs.lemmas.Result.{on_err_weaker}
use Rattle.core_nodes.proofs.fleet.Fleet.look.Goals as goal

pub look_at-requires-clause-serves : goal.look_at-requires-clause-serves
look_at-requires-clause-serves c =
    let own = c.deref_mut.ensures.value ∙ ap (λ (f : Fleet). f.followers) c.self.view_is in
    subst (NodeIs c.args.follower (λ (f : FollowerState). IsSome (served_at (query_shard c.args.query.now) f.node.served))) (sym own)
    (follower_serves c.args.config.now c.args.self.now (query_shard c.args.query.now) c.args.follower c.requires.fleet c.requires.follower)

pub returns : goal.returns
returns c =
    let given = c.look_at.ensures in
    let own = c.deref_mut.ensures.value ∙ ap (λ (f : Fleet). f.followers) c.self.view_is in
    let lends : LendsFollowers c.self.inside c.args.self.now c.deref_mut.result.now c.look_at.new.followers =
    record { view = c.self.view_is; own = own; long = omega arith } in
    let done =
    look_lent c.args.config.now c.config.inside.schema c.args.follower (wanted c.args.query.now c.args.floor) c.self.inside c.args.self.now
    c.deref_mut.result.now c.look_at.new.followers c.look_at.result lends (ap (λ (s : Settings). s.schema) c.config.view_is) c.requires.fleet
    c.requires.follower given.looks given.err in
    record {
      looks = done.looks;
      rest = followers_rest c.self.inside c.args.self.now c.deref_mut.result.now c.look_at.new.followers lends;
      err = on_err_weaker c.look_at.result (followers_back c.self.inside c.args.self.now c.deref_mut.result.now c.look_at.new.followers lends) given.err;
      fleet = done.step.fleet;
      goes = done.step.goes;
      ask = done.ask;
      legal = done.legal;
    }
