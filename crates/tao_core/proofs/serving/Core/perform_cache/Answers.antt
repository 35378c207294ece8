use Rattle.std.proofs.Common.{ap, refl, subst, sym}
use Rattle.request_check.specs.Caches.{IsPlacedCache}
use Rattle.tao_core.specs.CacheReplies.{AnswersCache}
use Rattle.tao_core.specs.Core.{CoreState, moment}
use Rattle.tao_core.proofs.Arriving.{delivered_come, lost_come, repeated_come}
use Rattle.tao_core.proofs.AskedLemmas.{cache_there, follower_there}
use Rattle.tao_core.proofs.HeldOn.{core_goes_on, core_kept, core_unchanged, fleet_stays}
use Rattle.tao_core.proofs.StayOpen.{same_open}
use Rattle.tao_core.proofs.Keeping.{delivered_core, evicted_core, mail_only, nodes_only, only_mail, only_nodes}
use Rattle.tao_core.proofs.serving.Core.perform_cache.Goals as goal

-- ---- the node is one of the configuration

pub deliver-requires-clause-node : goal.deliver-requires-clause-node
deliver-requires-clause-node g c =
    let s = c.args.self.now.settings in
    cache_there s c.in-Deliver.node (subst (IsPlacedCache s) c.in-Deliver.is c.requires.can)

pub deliver_again-requires-clause-node : goal.deliver_again-requires-clause-node
deliver_again-requires-clause-node g c =
    let s = c.args.self.now.settings in
    cache_there s c.in-Again.node (subst (IsPlacedCache s) c.in-Again.is c.requires.can)

pub lose-requires-clause-node : goal.lose-requires-clause-node
lose-requires-clause-node g c =
    let s = c.args.self.now.settings in
    cache_there s c.in-Drop.node (subst (IsPlacedCache s) c.in-Drop.is c.requires.can)

pub refill-requires-clause-node : goal.refill-requires-clause-node
refill-requires-clause-node g c =
    let s = c.args.self.now.settings in
    follower_there s c.in-Refill.node (subst (IsPlacedCache s) c.in-Refill.is c.requires.can)

pub evict-requires-clause-node : goal.evict-requires-clause-node
evict-requires-clause-node g c =
    let s = c.args.self.now.settings in
    cache_there s c.in-Evict.node ((subst (IsPlacedCache s) c.in-Evict.is c.requires.can).0)

pub show-requires-clause-node : goal.show-requires-clause-node
show-requires-clause-node g c =
    let s = c.args.self.now.settings in
    cache_there s c.in-Show.node ((subst (IsPlacedCache s) c.in-Show.is c.requires.can).0)

pub show_inbox-requires-clause-node : goal.show_inbox-requires-clause-node
show_inbox-requires-clause-node g c =
    let s = c.args.self.now.settings in
    cache_there s c.in-Inbox.node (subst (IsPlacedCache s) c.in-Inbox.is c.requires.can)

-- ---- the replies

pub returns-in-Deliver : goal.returns-in-Deliver
returns-in-Deliver g c =
    let keepers = g.K.Keeper.state c.args.keepers.now in
    let link = g.L.Link.shown c.args.link.now in
    let core = c.args.self.now in
    let ends = c.deliver.ensures in
    let new = c.deliver.new.self in
    record {
      does = subst (λ a. AnswersCache g.K.Keeper.TELLS a (moment core keepers link) c.deliver.result (moment new keepers link)) (sym c.in-Deliver.is)
          (ends.does, ap (λ x. moment x keepers link) ends.rest);
      usable = core_kept g.K.Keeper.TELLS keepers core new c.requires.keepers
          (delivered_core g.K.Keeper.TELLS keepers.told core new c.requires.keepers.is_consistent ends.fleet ends.stores ends.inboxes
          (delivered_come keepers.told c.in-Deliver.node c.in-Deliver.message core c.deliver.result new ends.does) ends.rest)
          ends.on ends.rest;
    }

pub returns-in-Again : goal.returns-in-Again
returns-in-Again g c =
    let keepers = g.K.Keeper.state c.args.keepers.now in
    let link = g.L.Link.shown c.args.link.now in
    let core = c.args.self.now in
    let ends = c.deliver_again.ensures in
    let new = c.deliver_again.new.self in
    let rest = only_nodes core new ends.rest in
    record {
      does = subst (λ a. AnswersCache g.K.Keeper.TELLS a (moment core keepers link) c.deliver_again.result (moment new keepers link)) (sym c.in-Again.is)
          (ends.does, ap (λ x. moment x keepers link) rest);
      usable = core_kept g.K.Keeper.TELLS keepers core new c.requires.keepers
          (nodes_only g.K.Keeper.TELLS keepers.told core new c.requires.keepers.is_consistent ends.fleet ends.stores
          (repeated_come keepers.told c.in-Again.node c.in-Again.message core c.deliver_again.result new ends.does) ends.rest) ends.on rest;
    }

pub returns-in-Drop : goal.returns-in-Drop
returns-in-Drop g c =
    let keepers = g.K.Keeper.state c.args.keepers.now in
    let link = g.L.Link.shown c.args.link.now in
    let core = c.args.self.now in
    let ends = c.lose.ensures in
    let new = c.lose.new.self in
    let rest = only_mail core new ends.rest in
    record {
      does = subst (λ a. AnswersCache g.K.Keeper.TELLS a (moment core keepers link) c.lose.result (moment new keepers link)) (sym c.in-Drop.is)
          (ends.does, ap (λ x. moment x keepers link) rest);
      usable = core_kept g.K.Keeper.TELLS keepers core new c.requires.keepers
          (mail_only g.K.Keeper.TELLS keepers.told core new c.requires.keepers.is_consistent ends.inboxes
          (lost_come keepers.told c.in-Drop.node c.in-Drop.message core c.lose.result new ends.does) ends.rest)
          (fleet_stays core.fleet new.fleet (ap (λ (x : CoreState). x.fleet) ends.rest)) rest;
    }

pub returns-in-Refill : goal.returns-in-Refill
returns-in-Refill g c =
    let old = g.K.Keeper.state c.args.keepers.now in
    let now = g.K.Keeper.state c.refill.new.keepers in
    let core = c.args.self.now in
    let ends = c.refill.ensures in
    let new = c.refill.new.self in
    record {
      does = subst (λ a. AnswersCache g.K.Keeper.TELLS a (moment core old (g.L.Link.shown c.args.link.now)) c.refill.result
          (moment new now (g.L.Link.shown c.refill.new.link))) (sym c.in-Refill.is) ends.does;
      usable = core_goes_on g.K.Keeper.TELLS old now core new c.requires.keepers ends.leaves (ap (λ (x : CoreState). x.settings) ends.same)
          (ap (λ (x : CoreState). x.plans) ends.same) (same_open core.sessions new.sessions (ap (λ (x : CoreState). x.sessions) ends.same));
    }

pub returns-in-Evict : goal.returns-in-Evict
returns-in-Evict g c =
    let keepers = g.K.Keeper.state c.args.keepers.now in
    let link = g.L.Link.shown c.args.link.now in
    let core = c.args.self.now in
    let ends = c.evict.ensures in
    let new = c.evict.new.self in
    record {
      does = subst (λ a. AnswersCache g.K.Keeper.TELLS a (moment core keepers link) c.evict.result (moment new keepers link)) (sym c.in-Evict.is)
          (ends.does keepers link, ap (λ x. moment x keepers link) ends.rest);
      usable = core_kept g.K.Keeper.TELLS keepers core new c.requires.keepers
          (evicted_core g.K.Keeper.TELLS keepers.told c.in-Evict.node c.in-Evict.key (moment core keepers link) (moment new keepers link) c.evict.result
          c.requires.keepers.is_consistent (ends.does keepers link) ends.fleet ends.rest) ends.on (only_nodes core new ends.rest);
    }

pub returns-in-Show-clause-does : goal.returns-in-Show-clause-does
returns-in-Show-clause-does g c =
    let now = moment c.args.self.now (g.K.Keeper.state c.args.keepers.now) (g.L.Link.shown c.args.link.now) in
    subst (λ a. AnswersCache g.K.Keeper.TELLS a now c.show.result now) (sym c.in-Show.is)
    (c.show.ensures g.K.Keeper.TELLS now.keepers now.link c.requires.keepers.is_consistent, refl)

pub returns-in-Show-clause-usable : goal.returns-in-Show-clause-usable
returns-in-Show-clause-usable g c = core_unchanged g.K.Keeper.TELLS (g.K.Keeper.state c.args.keepers.now) c.args.self.now c.requires.keepers

pub returns-in-Inbox-clause-does : goal.returns-in-Inbox-clause-does
returns-in-Inbox-clause-does g c =
    let now = moment c.args.self.now (g.K.Keeper.state c.args.keepers.now) (g.L.Link.shown c.args.link.now) in
    subst (λ a. AnswersCache g.K.Keeper.TELLS a now c.show_inbox.result now) (sym c.in-Inbox.is) (c.show_inbox.ensures, refl)

pub returns-in-Inbox-clause-usable : goal.returns-in-Inbox-clause-usable
returns-in-Inbox-clause-usable g c = core_unchanged g.K.Keeper.TELLS (g.K.Keeper.state c.args.keepers.now) c.args.self.now c.requires.keepers
