-- What each step of a write keeps is kept by one after another.
use Rattle.std.proofs.Common.{◌≡◌, ◌∙◌, Bool, ap, refl, sym, subst}
use Rattle.core_mail.specs.Inboxes.{AreInboxesOf, HaveArrived}
use Rattle.core_model.specs.Consistent.{GoesOn, HaveReached, IsConsistent, IsFleetOf}
use Rattle.core_model.specs.Fleet.{Fleet}
use Rattle.core_model.specs.Growing.{StoresGrow}
use Rattle.core_model.specs.Pens.{pens_of}
use Rattle.core_model.specs.States.{AreStatesOf}
use Rattle.core_nodes.proofs.FleetLemmas.{goes_self}
use Rattle.core_nodes.proofs.GrowingLemmas.{stores_in_turn, stays_stores}
use Rattle.graph_model.specs.Told.{WhereTold}
use Rattle.tao_keeper.proofs.Later.{later_self, later_trans}
use Rattle.tao_keeper.specs.KeeperState.{IsLater, KeeperState}
use Rattle.topology.specs.Config.{Settings}
use Rattle.core_steps.specs.Posting.{AppliesAlone, CanPost, PostsOn}
use Rattle.core_steps.specs.Relays.{RelaysAlone}
use Rattle.core_steps.specs.World.{World, world}
use Rattle.core_steps.specs.declared.nodes.Nodes.{Nodes}
use Rattle.tao_link.specs.Shown.{LinkShown}
use Rattle.core_nodes.specs.Settling.{IsLaterLink}
use Rattle.core_steps.proofs.LinkLemmas.{link_self, link_trans}
use Rattle.core_steps.proofs.ReachLemmas.{consistent_on}
use Rattle.core_steps.proofs.ReadLemmas.{goes_trans}
use Rattle.core_steps.proofs.NotifyLemmas.{arrived_grows}

module _ (tells : Bool) (s : Settings) where
  -- nothing was done
  pub posts_none : (now : World) → CanPost tells s now → PostsOn tells s now now
  posts_none now ready = record {
    consistent = ready.consistent;
    inboxes = ready.inboxes;
    arrived = ready.arrived;
    states = refl;
    goes = goes_self now.fleet;
    grows = stays_stores tells s now.keepers now.keepers (λ told at. refl);
    later = later_self now.keepers;
    link = link_self now.link;
  }

  -- what a step leaves, the next begins with
  pub can_post_on : (old new : World) → CanPost tells s old → PostsOn tells s old new → CanPost tells s new
  can_post_on old new ready on = record {
    consistent = on.consistent;
    inboxes = on.inboxes;
    arrived = on.arrived;
    states = subst (AreStatesOf s) (sym on.states) ready.states;
  }

  -- one step after another
  pub posts_trans : (old mid new : World) → PostsOn tells s old mid → PostsOn tells s mid new → PostsOn tells s old new
  posts_trans old mid new p q = record {
    consistent = q.consistent;
    inboxes = q.inboxes;
    arrived = q.arrived;
    states = q.states ∙ p.states;
    goes = goes_trans old.fleet mid.fleet new.fleet p.goes q.goes;
    grows = stores_in_turn tells s old.keepers.told mid.keepers.told new.keepers.told p.grows q.grows;
    later = later_trans old.keepers mid.keepers new.keepers p.later q.later;
    link = link_trans old.link mid.link new.link p.link q.link;
  }

  -- a step that changes no node and no inbox, nor who is up
  pub posts_same : (old new : World) → AreInboxesOf s (pens_of old.fleet.stores) old.inboxes
      → WhereTold tells (HaveArrived old.keepers.told old.inboxes) → new.fleet ≡ old.fleet
      → new.inboxes ≡ old.inboxes → new.states ≡ old.states → IsConsistent tells s new.keepers.told new.fleet
      → StoresGrow tells s old.keepers.told new.keepers.told → IsLater old.keepers new.keepers → IsLaterLink old.link new.link → PostsOn tells s old new
  posts_same old new inboxes arrived fleet mail states consistent grows later link = record {
    consistent = consistent;
    inboxes = subst (AreInboxesOf s (pens_of new.fleet.stores)) (sym mail)
        (subst (λ (f : Fleet). AreInboxesOf s (pens_of f.stores) old.inboxes) (sym fleet) inboxes);
    arrived = subst (λ i. WhereTold tells (HaveArrived new.keepers.told i)) (sym mail)
        (arrived_grows tells old.keepers.told new.keepers.told old.inboxes grows.on.logs arrived);
    states = states;
    goes = subst (GoesOn old.fleet) (sym fleet) (goes_self old.fleet);
    grows = grows;
    later = later;
    link = link;
  }

  -- a step that changes leaders and followers alone
  posts_nodes : (old new : World) → IsConsistent tells s old.keepers.told old.fleet
      → AreInboxesOf s (pens_of old.fleet.stores) old.inboxes → WhereTold tells (HaveArrived old.keepers.told old.inboxes)
      → new.fleet.stores ≡ old.fleet.stores → new.keepers ≡ old.keepers → new.inboxes ≡ old.inboxes → new.states ≡ old.states → IsFleetOf s new.fleet
      → GoesOn old.fleet new.fleet
      → (HaveReached old.keepers.told old.fleet → HaveReached old.keepers.told new.fleet) → IsLaterLink old.link new.link → PostsOn tells s old new
  posts_nodes old new consistent inboxes arrived stores same mail states fleet goes reaches link =
      let keepers = sym same in
      record {
        consistent = subst (λ (k : KeeperState). IsConsistent tells s k.told new.fleet) keepers
            (consistent_on tells s old.keepers.told old.fleet new.fleet stores fleet reaches consistent);
        inboxes = subst (AreInboxesOf s (pens_of new.fleet.stores)) (sym mail)
            (subst (λ xs. AreInboxesOf s (pens_of xs) old.inboxes) (sym stores) inboxes);
        arrived = subst (λ (k : KeeperState). WhereTold tells (HaveArrived k.told new.inboxes)) keepers
            (subst (λ i. WhereTold tells (HaveArrived old.keepers.told i)) (sym mail) arrived);
        states = states;
        goes = goes;
        grows = subst (λ (k : KeeperState). StoresGrow tells s old.keepers.told k.told) keepers
            (stays_stores tells s old.keepers old.keepers (λ told at. refl));
        later = subst (IsLater old.keepers) keepers (later_self old.keepers);
        link = link;
      }

  -- one that changes followers alone
  pub posts_applied : (old new : World) → IsConsistent tells s old.keepers.told old.fleet
      → AreInboxesOf s (pens_of old.fleet.stores) old.inboxes → WhereTold tells (HaveArrived old.keepers.told old.inboxes)
      → AppliesAlone old new → IsFleetOf s new.fleet
      → GoesOn old.fleet new.fleet
      → (HaveReached old.keepers.told old.fleet → HaveReached old.keepers.told new.fleet) → IsLaterLink old.link new.link → PostsOn tells s old new
  posts_applied old new consistent inboxes arrived alone =
      posts_nodes old new consistent inboxes arrived (ap (λ (f : Fleet). f.stores) alone.fleet) alone.keepers alone.inboxes alone.states

  -- one that changes leaders alone
  pub posts_relayed : (old new : World) → IsConsistent tells s old.keepers.told old.fleet
      → AreInboxesOf s (pens_of old.fleet.stores) old.inboxes → WhereTold tells (HaveArrived old.keepers.told old.inboxes)
      → RelaysAlone old new → IsFleetOf s new.fleet
      → GoesOn old.fleet new.fleet
      → (HaveReached old.keepers.told old.fleet → HaveReached old.keepers.told new.fleet) → IsLaterLink old.link new.link → PostsOn tells s old new
  posts_relayed old new consistent inboxes arrived alone =
      posts_nodes old new consistent inboxes arrived (ap (λ (f : Fleet). f.stores) alone.fleet) alone.keepers alone.inboxes alone.states

  -- one that changes no more than what the link shows
  pub posts_carried : (nodes : Nodes) (keepers : KeeperState) (old new : LinkShown) → CanPost tells s (world nodes keepers old) → IsLaterLink old new
      → PostsOn tells s (world nodes keepers old) (world nodes keepers new)
  posts_carried nodes keepers old new ready later =
      posts_same (world nodes keepers old) (world nodes keepers new) ready.inboxes ready.arrived refl refl refl ready.consistent
      (stays_stores tells s keepers keepers (λ told at. refl)) (later_self keepers) later
