use Rattle.std.proofs.Common.{arith}
use Rattle.std.proofs.lemmas.Result.{IfErr-weaker, IfOk-weaker}
use Rattle.tao_keeper.proofs.Growing.{grow_in_turn, stays_grow}
use Rattle.core_model.specs.Stores.{AreStoresOf, store_count}
use Rattle.core_nodes.proofs.AskLemmas.{still_consistent}
use Rattle.core_nodes.proofs.FleetBegins.{begun_at_stores, begun_consistent, fleet_bounds, fleet_empty}
use Rattle.core_nodes.proofs.OpenLemmas.{opened_kept}
use Rattle.core_nodes.proofs.OpenedLogs.{opened_grow, opened_in_order, refused_beginning, refused_grow}
use Rattle.core_nodes.proofs.fleet.Fleet.open.Goals as goal

pub returns-in_err-stores-clause-grows : goal.returns-in_err-stores-clause-grows
returns-in_err-stores-clause-grows g c =
    refused_grow g.K.Keeper.TELLS c.args.config.now c.args.line.now (g.K.Keeper.state c.args.keepers.now)
    (g.K.Keeper.state c.open_stores.new.keepers) _ c.in_err-stores.ensures.refused

pub returns : goal.returns
returns g c =
    let state = g.K.Keeper.state in
    let tells = g.K.Keeper.TELLS in
    let s = c.args.config.now in
    let stores = c.in_ok-stores.stores.items in
    let old = (state c.args.keepers.now).told in
    let mid = (state c.open_stores.new.keepers).told in
    let new = (state c.fleet_before.new.keepers).told in
    let stays = c.fleet_before.ensures.stays in
    let are : AreStoresOf tells s mid stores = record {
      configured = c.in_ok-stores.ensures.stores;
      kept = λ told. (opened_in_order s c.args.line.now old mid (c.requires.kept told) (c.in_ok-stores.ensures.opened told)).kept;
      cuts = λ told. (opened_in_order s c.args.line.now old mid (c.requires.kept told) (c.in_ok-stores.ensures.opened told)).cuts;
      seen = c.in_ok-stores.ensures.seen;
      follow = c.in_ok-stores.ensures.follow;
    } in
    record {
      opened = λ told. IfOk-weaker c.fleet_before.result _ _
          (λ f begun. opened_kept s c.args.line.now old mid new (c.in_ok-stores.ensures.opened told) (stays told)) c.fleet_before.ensures.begun;
      consistent = IfOk-weaker c.fleet_before.result _ _
          (λ f begun. still_consistent tells s mid new f (begun_consistent tells s mid stores f begun are) stays) c.fleet_before.ensures.begun;
      empty = IfOk-weaker c.fleet_before.result _ _ (λ f begun. fleet_empty tells s mid stores f begun) c.fleet_before.ensures.begun;
      bounds = IfOk-weaker c.fleet_before.result _ _ (λ f begun. fleet_bounds tells s mid stores f begun) c.fleet_before.ensures.begun;
      ends = λ told. IfOk-weaker c.fleet_before.result _ _
          (λ f begun. begun_at_stores tells s mid new stores f begun are stays told) c.fleet_before.ensures.begun;
      refused = IfErr-weaker c.fleet_before.result _ _
          (λ r cause. refused_beginning tells s c.args.line.now (state c.args.keepers.now) (state c.open_stores.new.keepers)
          (state c.fleet_before.new.keepers) c.in_ok-stores.ensures.opened c.in_ok-stores.ensures.later stays r cause)
          c.fleet_before.ensures.unmade;
      grows = grow_in_turn tells old mid new
          (opened_grow tells s c.args.line.now (store_count s) old mid (λ told. (c.in_ok-stores.ensures.opened told).opened))
          (stays_grow tells mid new stays);
      later = record { calls = omega arith; faults = omega arith };
    }
