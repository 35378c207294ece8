use Rattle.std.proofs.Common.{◌≡◌, ◌∙◌, ap, length, subst, sym}
use Rattle.locked_nodes.specs.Room.{AreMany}
use Rattle.shared_stores.specs.Making.{Making}
use Rattle.topology.specs.Config.{Settings}
use Rattle.topology.specs.States.{all_up}
use Rattle.cluster_opening.proofs.OpenedCluster.{cuts_of_making}
use Rattle.cluster_opening.proofs.OpenedNodes.{nodes_many, nodes_shared}
use Rattle.cluster_opening.proofs.OpenedStores.{each_shared}
use Rattle.cluster_opening.proofs.opening.Opened.named.Goals as goal

pub make_parts-requires : goal.make_parts-requires
make_parts-requires g c = record {
  nodes = nodes_shared c.args.self.config.now c.args.self.fleet c.args.self.cuts.items g.J.Sharing.making g.J.Logs.log c.requires.making c.requires.log
      c.requires.opened.consistent.fleet;
  stores = c.requires.opened.consistent.stores.configured;
  many = subst (λ (s : Settings). AreMany s (length c.args.self.fleet.leaders) (length c.args.self.fleet.followers) (length c.args.self.fleet.stores))
      (sym (ap (λ (m : Making). m.settings) c.requires.making))
      (nodes_many c.args.self.config.now c.args.self.fleet c.requires.opened.consistent.fleet c.requires.opened.consistent.stores.configured.long);
}

pub lock_stores-stores-requires-clause-shared : goal.lock_stores-stores-requires-clause-shared
lock_stores-stores-requires-clause-shared g c =
    each_shared g.K.Keeper.TELLS g.K.Keeper.state c.args.self.config.now c.args.self.keepers.items c.args.self.fleet c.args.self.cuts.items
    c.masters_are_regions.ensures c.locks_begin.ensures c.requires.opened g.J.Sharing.making g.J.Logs.log c.in-Ok.parts.stores.items
    c.in-Ok.parts.noted.items c.requires.making c.requires.log c.in-Ok.ensures.stores
    (c.requires.many ∙ sym c.requires.opened.consistent.stores.configured.long) c.in-Ok.ensures.noted

pub of-requires : goal.of-requires
of-requires g c =
    let same : g.J.Sharing.making.settings ≡ c.args.self.config.now = ap (λ (m : Making). m.settings) c.requires.making in
    let many : AreMany g.J.Sharing.making.settings (length c.args.self.fleet.leaders) (length c.args.self.fleet.followers) (length c.args.self.fleet.stores) =
    subst (λ (s : Settings). AreMany s (length c.args.self.fleet.leaders) (length c.args.self.fleet.followers) (length c.args.self.fleet.stores)) (sym same)
    (nodes_many c.args.self.config.now c.args.self.fleet c.requires.opened.consistent.fleet c.requires.opened.consistent.stores.configured.long) in
    record {
      config = sym same;
      topology = c.in-Ok.ensures.topology ∙ ap (λ (s : Settings). all_up s) (sym same);
      cuts = cuts_of_making g.K.Keeper.TELLS c.args.self.config.now _ c.args.self.fleet.stores c.args.self.cuts.items g.J.Sharing.making c.requires.making
          c.requires.opened.cuts_are;
      many = record {
        leaders_are = c.in-Ok.ensures.leaders ∙ many.leaders_are;
        followers_are = c.in-Ok.ensures.followers ∙ many.followers_are;
        stores_are = c.lock_stores-stores.ensures.many ∙ (ap length c.in-Ok.ensures.stores ∙ many.stores_are);
      };
    }
