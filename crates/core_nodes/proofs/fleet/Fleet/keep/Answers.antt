use Rattle.std.proofs.Common.{◌≡◌, ap, arith, ◌∙◌, subst, sym, IfSome, Some}
use Rattle.cache_items.specs.Kept.{ask_at}
use Rattle.follower_cache.specs.Seen.{FollowerState}
use Rattle.served_shards.specs.Served.{log_at}
use Rattle.tao_base.specs.Queries.{query_key, query_shard}
use Rattle.topology.specs.Config.{Settings}
use Rattle.core_model.specs.Fleet.{Fleet}
use Rattle.core_model.specs.Reads.{wanted}
use Rattle.core_nodes.specs.Stages.{NodeIs}
use Rattle.core_nodes.proofs.LentLemmas.{keep_lent}
use Rattle.core_nodes.proofs.ReadLemmas.{follower_log, keeps_ask}
use Rattle.core_nodes.proofs.ViewLemmas.{LendsFollowers, followers_rest}
use Rattle.core_nodes.proofs.fleet.Fleet.keep.Goals as goal

pub keep_at-requires-clause-log : goal.keep_at-requires-clause-log
keep_at-requires-clause-log c =
    let own = c.deref_mut.ensures.value ∙ ap (λ (f : Fleet). f.followers) c.self.view_is in
    subst (NodeIs c.args.follower (λ (f : FollowerState). log_at (query_shard c.args.read.now.query.now) f.node.served ≡ Some c.args.fill.note.log)) (sym own)
    (follower_log c.args.config.now c.args.self.now (query_shard c.args.read.now.query.now) c.args.follower c.args.fill.note c.requires.fleet
    c.requires.follower
    c.requires.given.seen)

pub keep_at-requires-clause-ask : goal.keep_at-requires-clause-ask
keep_at-requires-clause-ask c =
    let own = c.deref_mut.ensures.value ∙ ap (λ (f : Fleet). f.followers) c.self.view_is in
    subst (NodeIs c.args.follower (λ (f : FollowerState). IfSome c.args.ask
    (λ number. IfSome (ask_at number f.node.asks) (λ a. a.key ≡ query_key c.args.read.now.query.now)))) (sym own)
    (keeps_ask c.args.follower c.args.ask (query_key c.args.read.now.query.now) c.args.self.now.followers c.requires.ask)

pub returns : goal.returns
returns c =
    let given = c.keep_at.ensures in
    let own = c.deref_mut.ensures.value ∙ ap (λ (f : Fleet). f.followers) c.self.view_is in
    let lends : LendsFollowers c.self.inside c.args.self.now c.deref_mut.result.now c.keep_at.new.followers =
    record { view = c.self.view_is; own = own; long = omega arith } in
    let done =
    keep_lent c.args.config.now c.config.inside.schema c.args.follower (wanted c.args.read.now.query.now c.args.read.now.floor) c.args.ask c.args.fill
    c.self.inside
    c.args.self.now c.deref_mut.result.now c.keep_at.new.followers c.keep_at.result lends (ap (λ (s : Settings). s.schema) c.config.view_is)
    c.requires.fleet c.requires.given given.keeps given.err given.legal in
    record {
      keeps = done.keeps;
      err = done.err;
      rest = followers_rest c.self.inside c.args.self.now c.deref_mut.result.now c.keep_at.new.followers lends;
      fleet = done.step.fleet;
      goes = done.step.goes;
      legal = done.legal;
    }
