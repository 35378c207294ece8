use Rattle.std.proofs.Common.{◌≡◌, ◌<◌, ◌∙◌, refl, ap, subst, sym, arith}
use Rattle.std.proofs.lemmas.Result.{err_from_is_err_and}
use Rattle.region_stream.specs.Opening.{BeginsUnder}
use Rattle.std.specs.Prelude.{All}
use Rattle.tao_keeper.specs.Table.{Tables}
use Rattle.topology.specs.Config.{Settings}
use Rattle.core_model.specs.Stores.{master_log}
use Rattle.core_nodes.proofs.ComparedStores.{agree_more, agree_none, shard_refused}
use Rattle.core_nodes.proofs.MadeStores.{made_more, made_none, made_stays}
use Rattle.core_nodes.specs.Opening.{AreMade, RefusesMaking, shard_refusal, slave_names}
use Rattle.core_nodes.proofs.opening.make_shards.Goals as goal

pub loop-shard-init : goal.loop-shard-init
loop-shard-init g c =
    let see = g.K.Keeper.state in
    record {
      made = subst (AreMade g.K.Keeper.TELLS c.args.config.now (see c.args.keepers.now).told 0) (sym c.new-stores.ensures.items)
          (made_none g.K.Keeper.TELLS c.args.config.now (see c.args.keepers.now).told);
      agree = λ told. agree_none c.args.config.now (see c.args.keepers.now).told;
      stays = λ told at. refl;
      later = record { calls = omega arith; faults = omega arith };
    }

pub returns-in_err-made-clause-refused : goal.returns-in_err-made-clause-refused
returns-in_err-made-clause-refused g c =
    let see = g.K.Keeper.state in
    let shards = ap (λ (n : Settings). n.shards) c.config.view_is in
    let within : c.loop-shard.shard < c.args.config.now.shards = omega (arith, shards) in
    let refused = shard_refused _ g.K.Keeper.TELLS c.args.config.now c.loop-shard.shard (see c.args.keepers.now) (see c.loop-shard.keepers)
    (see c.make_shard.new.keepers) c.in_err-made.field-0.0 within c.loop-shard.invariant.agree c.loop-shard.invariant.stays c.loop-shard.invariant.later
    c.in_err-made.ensures.agree c.in_err-made.ensures.named c.in_err-made.ensures.calls in
    let p = err_from_is_err_and c.from_residual.result c.from_residual.ensures.1 in
    rw p.1 (subst (λ r. RefusesMaking g.K.Keeper.TELLS c.args.config.now (see c.args.keepers.now) (see c.make_shard.new.keepers) (shard_refusal r))
    (sym p.2) refused)

pub loop-shard-preserved : goal.loop-shard-preserved
loop-shard-preserved g c =
    let see = g.K.Keeper.state in
    let s = c.args.config.now in
    let shards = ap (λ (n : Settings). n.shards) c.config.view_is in
    let within : c.loop-shard.shard < s.shards = omega (arith, shards) in
    let start = (see c.args.keepers.now).told in
    let mid = (see c.loop-shard.keepers).told in
    let new = (see c.make_shard.new.keepers).told in
    let made = c.in_ok-made.made in
    record {
      made = made_more g.K.Keeper.TELLS s new c.loop-shard.shard c.masters_are_regions.ensures within made.master c.in_ok-made.ensures.master
          c.in_ok-made.ensures.kept c.loop-shard.stores.items c.add_shard.new.stores.items made.slaves.items
          (made_stays g.K.Keeper.TELLS s mid new c.loop-shard.shard c.loop-shard.stores.items c.in_ok-made.ensures.stays c.loop-shard.invariant.made)
          c.in_ok-add_shard.ensures c.in_ok-made.ensures.slaves;
      agree = λ told.
          let same : mid ≡ start = λ i at. c.loop-shard.invariant.stays told at i in
          agree_more s start c.loop-shard.shard (c.loop-shard.invariant.agree told)
          (subst (λ (t : Tables). All (BeginsUnder t (master_log s t c.loop-shard.shard)) (slave_names s c.loop-shard.shard)) same
          (c.in_ok-made.ensures.agree told));
      stays = λ told at. c.in_ok-made.ensures.stays told at ∙ c.loop-shard.invariant.stays told at;
      later = record { calls = omega (arith, c.in_ok-made.ensures.calls.calls); faults = omega (arith, c.in_ok-made.ensures.calls.faults) };
    }

pub returns-clause-made : goal.returns-clause-made
returns-clause-made g c =
    let shards = ap (λ (n : Settings). n.shards) c.config.view_is in
    let all : c.loop-shard.shard ≡ c.args.config.now.shards = omega (arith, shards) in
    subst (λ n. AreMade g.K.Keeper.TELLS c.args.config.now (g.K.Keeper.state c.loop-shard.keepers).told n c.loop-shard.stores.items) all
    c.loop-shard.invariant.made
