-- What leaves a core one that may be used.
use Rattle.std.proofs.Common.{◌≡◌, ◌<◌, Bool, List, length, refl, ap, sym, ◌∙◌, subst, arith}
use Rattle.std.specs.Prelude.{All, Option}
use Rattle.cache_items.specs.Node.{Node}
use Rattle.core_mail.proofs.InboxLemmas.{inboxes_stay}
use Rattle.core_mail.specs.Inboxes.{AreInboxesOf, HaveArrived, Inboxes}
use Rattle.core_model.proofs.PastCuts.{nodes_stay_past_cuts}
use Rattle.core_model.specs.Consistent.{GoesOn, IsConsistent, IsFleetOf}
use Rattle.core_model.specs.Cuts.{ArePastCuts}
use Rattle.core_model.specs.Evictions.{ChangesCache, Evicts}
use Rattle.core_model.specs.Fleet.{Fleet}
use Rattle.core_model.specs.Growing.{StoresGrow}
use Rattle.core_model.specs.Pens.{AreFirstNotes, pens_of}
use Rattle.core_model.specs.Stores.{AreStoresOf, HaveMasterRegions}
use Rattle.core_nodes.proofs.AskLemmas.{still_consistent}
use Rattle.core_nodes.proofs.FleetLemmas.{goes_self}
use Rattle.core_sessions.specs.Sessions.{Session, new_session, with_session}
use Rattle.core_sessions.specs.declared.sessions.OpenSession.{OpenSession}
use Rattle.core_steps.proofs.NotifyLemmas.{arrived_grows}
use Rattle.core_steps.specs.Posting.{CanPost}
use Rattle.graph_model.specs.Told.{WhereTold}
use Rattle.node_name.specs.declared.NodeName.{NodeName}
use Rattle.node_name.specs.declared.NodeName.TheVariants.{Store as StoreName_, Leader, Follower}
use Rattle.replies.specs.declared.nodes.CacheReply.TheVariants.{Evicted}
use Rattle.replies.specs.declared.nodes.NodeReply.TheVariants.{Cache}
use Rattle.replies.specs.declared.reply.Reply.{Reply}
use Rattle.replies.specs.declared.reply.Reply.TheVariants.{Node as AtNode}
use Rattle.shard_log.specs.View.{View}
use Rattle.tao_base.specs.declared.id.Key.{Key}
use Rattle.tao_keeper.proofs.Growing.{growing_laws}
use Rattle.tao_keeper.specs.Growing.{LogsGrow}
use Rattle.tao_keeper.specs.KeeperState.{KeeperState}
use Rattle.tao_keeper.specs.Table.{Tables, Stays}
use Rattle.tao_link.specs.Shown.{LinkShown}
use Rattle.tao_core.specs.Core.{CoreState, IsConsistentCore, IsSessionOf, Moment}
use Rattle.tao_core.specs.CacheReplies.{AnswersEvict}
use Rattle.tao_core.proofs.Arriving.{HaveCome, evicted_reach}
use Rattle.tao_core.proofs.Told.{sessions_later}
use Rattle.tao_core.proofs.Ways.{with_session_too}
use Rattle.tao_core.specs.Calls.{world_at}
use Rattle.topology.specs.Config.{Settings}
use Rattle.topology.specs.States.{NodeStates}
use Rattle.core_model.specs.States.{AreStatesOf}

-- ---- a write or a repair begins

pub core_can_post : (tells : Bool) (core : CoreState) (keepers : KeeperState) (link : LinkShown) → IsConsistentCore tells keepers.told core
    → CanPost tells core.settings (world_at core keepers link)
core_can_post tells core keepers link of = record { consistent = of.consistent; inboxes = of.mail; arrived = of.arrived; states = of.states }

-- ---- a session is opened

-- with notes of the shards' logs it is one of the core
pub opened_core : (tells : Bool) (tables : Tables) (core : CoreState) (opened : OpenSession) (notes : List View) (next : List Session)
    → IsConsistentCore tells tables core → opened.region < length core.settings.regions
    → AreFirstNotes (pens_of core.fleet.stores) core.settings.shards notes → next ≡ with_session (new_session opened notes) core.sessions
    → IsConsistentCore tells tables (record core { sessions = next })
opened_core tells tables core opened notes next of within are is = record {
  masters = of.masters;
  consistent = of.consistent;
  states = of.states;
  mail = of.mail;
  arrived = of.arrived;
  sessions = subst (All (IsSessionOf tells core.settings tables (pens_of core.fleet.stores))) (sym is)
      (with_session_too (IsSessionOf tells core.settings tables (pens_of core.fleet.stores)) core.sessions (new_session opened notes) of.sessions
      (record { region = within; notes = are; floors = λ told key. omega arith }));
}

-- none was opened
pub unopened_core : (tells : Bool) (tables : Tables) (core : CoreState) (next : List Session) → IsConsistentCore tells tables core → next ≡ core.sessions
    → IsConsistentCore tells tables (record core { sessions = next })
unopened_core tells tables core next of is = subst (λ xs. IsConsistentCore tells tables (record core { sessions = xs })) (sym is) of

-- ---- the nodes and their messages change, and no store

module _ (tells : Bool) (tables : Tables) (core : CoreState) (of : IsConsistentCore tells tables core) where
  pub nodes_core : (fleet : Fleet) (mail : Inboxes) → IsFleetOf core.settings fleet → fleet.stores ≡ core.fleet.stores
      → AreInboxesOf core.settings (pens_of core.fleet.stores) mail → WhereTold tells (HaveCome tables (record core { fleet = fleet; mail = mail }))
      → IsConsistentCore tells tables (record core { fleet = fleet; mail = mail })
  nodes_core fleet mail is stores inboxes come = record {
    masters = of.masters;
    consistent = record {
      stores = subst (AreStoresOf tells core.settings tables) (sym stores) of.consistent.stores;
      fleet = is;
      reached = λ told. (come told).reached;
    };
    states = of.states;
    mail = subst (λ ms. AreInboxesOf core.settings (pens_of ms) mail) (sym stores) inboxes;
    arrived = λ told. (come told).arrived;
    sessions = subst (λ ms. All (IsSessionOf tells core.settings tables (pens_of ms)) core.sessions) (sym stores) of.sessions;
  }

  -- the logs go on, and what waits stays
  pub going_core : (later : Tables) (fleet : Fleet) → IsConsistent tells core.settings later fleet → GoesOn core.fleet fleet → LogsGrow tells tables later
      → IsConsistentCore tells later (record core { fleet = fleet })
  going_core later fleet consistent goes grows = record {
    masters = of.masters;
    consistent = consistent;
    states = of.states;
    mail = (inboxes_stay core.settings (pens_of core.fleet.stores) core.mail).rises (pens_of fleet.stores) goes.rise of.mail;
    arrived = arrived_grows tells tables later core.mail grows of.arrived;
    sessions = sessions_later tells core.settings tables later (pens_of core.fleet.stores) (pens_of fleet.stores) core.sessions grows goes.rise of.sessions;
  }

  -- messages were sent, and who is up stays so
  pub written_core : (later : Tables) (states : NodeStates) (fleet : Fleet) (mail : Inboxes) → states ≡ core.states
      → IsConsistent tells core.settings later fleet
      → AreInboxesOf core.settings (pens_of fleet.stores) mail → WhereTold tells (HaveArrived later mail) → GoesOn core.fleet fleet
      → LogsGrow tells tables later → IsConsistentCore tells later (record core { states = states; fleet = fleet; mail = mail })
  written_core later states fleet mail same consistent inboxes arrived goes grows = record {
    masters = of.masters;
    consistent = consistent;
    states = subst (AreStatesOf core.settings) (sym same) of.states;
    mail = inboxes;
    arrived = arrived;
    sessions = sessions_later tells core.settings tables later (pens_of core.fleet.stores) (pens_of fleet.stores) core.sessions grows goes.rise of.sessions;
  }

-- whichever nodes are up or trusted
pub with_states : (tells : Bool) (tables : Tables) (core : CoreState) (states : NodeStates) → IsConsistentCore tells tables core
    → AreStatesOf core.settings states → IsConsistentCore tells tables (record core { states = states })
with_states tells tables core states of are = record {
  masters = of.masters;
  consistent = of.consistent;
  states = are;
  mail = of.mail;
  arrived = of.arrived;
  sessions = of.sessions;
}

-- the stores had come to all that is marked, and to all that waits
have_come : (tells : Bool) (tables : Tables) (core : CoreState) → IsConsistentCore tells tables core → WhereTold tells (HaveCome tables core)
have_come tells tables core of told = record { reached = of.consistent.reached told; arrived = of.arrived told }

-- and have still
abbrev Comes : Tables → CoreState → CoreState → Type 0
Comes tables old new = HaveCome tables old → HaveCome tables new

-- a message was processed, or lost
pub delivered_core : (tells : Bool) (tables : Tables) (old new : CoreState) → IsConsistentCore tells tables old → IsFleetOf old.settings new.fleet
    → new.fleet.stores ≡ old.fleet.stores → AreInboxesOf old.settings (pens_of old.fleet.stores) new.mail → Comes tables old new
    → new ≡ record old { fleet = new.fleet; mail = new.mail } → IsConsistentCore tells tables new
delivered_core tells tables old new of fleet stores inboxes comes rest =
    subst (IsConsistentCore tells tables) (sym rest) (nodes_core tells tables old of new.fleet new.mail fleet stores inboxes
    (λ told. subst (HaveCome tables) rest (comes (have_come tells tables old of told))))

-- the messages stay
pub nodes_only : (tells : Bool) (tables : Tables) (old new : CoreState) → IsConsistentCore tells tables old → IsFleetOf old.settings new.fleet
    → new.fleet.stores ≡ old.fleet.stores → Comes tables old new → new ≡ record old { fleet = new.fleet } → IsConsistentCore tells tables new
nodes_only tells tables old new of fleet stores comes rest =
    subst (IsConsistentCore tells tables) (sym rest) (nodes_core tells tables old of new.fleet old.mail fleet stores of.mail
    (λ told. subst (HaveCome tables) rest (comes (have_come tells tables old of told))))

-- the nodes stay
pub mail_only : (tells : Bool) (tables : Tables) (old new : CoreState) → IsConsistentCore tells tables old
    → AreInboxesOf old.settings (pens_of old.fleet.stores) new.mail → Comes tables old new → new ≡ record old { mail = new.mail }
    → IsConsistentCore tells tables new
mail_only tells tables old new of inboxes comes rest =
    subst (IsConsistentCore tells tables) (sym rest) (nodes_core tells tables old of old.fleet new.mail of.consistent.fleet refl inboxes
    (λ told. subst (HaveCome tables) rest (comes (have_come tells tables old of told))))

-- of what changed only the nodes, the messages are as they were
pub only_nodes : (old new : CoreState) → new ≡ record old { fleet = new.fleet } → new ≡ record old { fleet = new.fleet; mail = new.mail }
only_nodes old new rest = rest ∙ ap (λ m. record old { fleet = new.fleet; mail = m }) (sym (ap (λ (x : CoreState). x.mail) rest))

-- and where only messages changed, the nodes
pub only_mail : (old new : CoreState) → new ≡ record old { mail = new.mail } → new ≡ record old { fleet = new.fleet; mail = new.mail }
only_mail old new rest = rest ∙ ap (λ f. record old { fleet = f; mail = new.mail }) (sym (ap (λ (x : CoreState). x.fleet) rest))

-- ---- an item is dropped

cache_stores : (node : NodeName) (By : Node → Node → Type 0) (old new : Fleet) → ChangesCache node By old new → new.stores ≡ old.stores
cache_stores (StoreName_ store) By old new h = absurd h
cache_stores (Leader region index) By old new h = ap (λ (f : Fleet). f.stores) h.1
cache_stores (Follower region tier index) By old new h = ap (λ (f : Fleet). f.stores) h.1

evicted_stores : (node : NodeName) (key : Option Key) (old new : Moment) (reply : Reply) → AnswersEvict node key old reply new
    → new.core.fleet.stores ≡ old.core.fleet.stores
evicted_stores node key old new (AtNode (Cache (Evicted held))) answers = cache_stores node (Evicts key held) old.core.fleet new.core.fleet answers
evicted_stores node key old new reply answers = absurd answers

pub evicted_core : (tells : Bool) (tables : Tables) (node : NodeName) (key : Option Key) (old new : Moment) (reply : Reply)
    → IsConsistentCore tells tables old.core → AnswersEvict node key old reply new → IsFleetOf old.core.settings new.core.fleet
    → new.core ≡ record old.core { fleet = new.core.fleet }
    → IsConsistentCore tells tables new.core
evicted_core tells tables node key old new reply of answers fleet rest =
    nodes_only tells tables old.core new.core of fleet (evicted_stores node key old new reply answers)
    (λ come. record {
      reached = evicted_reach tables node key old new reply answers come.reached;
      arrived = subst (HaveArrived tables) (sym (ap (λ (x : CoreState). x.mail) rest)) come.arrived;
    }) rest

-- ---- cuts

-- where nodes went on, and no log was cut, none lies behind a cut still
pub still_past : (tells : Bool) (s : Settings) (before later : Tables) (old new : Fleet) → HaveMasterRegions s → IsConsistent tells s before old
    → GoesOn old new → StoresGrow tells s before later → WhereTold tells (ArePastCuts before old) → WhereTold tells (ArePastCuts later new)
still_past tells s before later old new regions was goes grows past told =
    (nodes_stay_past_cuts s before later old new).stay regions (subst (λ b. IsConsistent b s before old) told was) goes
    (subst (λ b. StoresGrow b s before later) told grows) (past told)

-- ---- no table changes

pub core_stays : (tells : Bool) (old new : Tables) (core : CoreState) → IsConsistentCore tells old core → WhereTold tells (Stays old new)
    → IsConsistentCore tells new core
core_stays tells old new core of stays = record {
  masters = of.masters;
  consistent = still_consistent tells core.settings old new core.fleet of.consistent stays;
  states = of.states;
  mail = of.mail;
  arrived = arrived_grows tells old new core.mail (growing_laws.stays tells old new stays) of.arrived;
  sessions = sessions_later tells core.settings old new (pens_of core.fleet.stores) (pens_of core.fleet.stores) core.sessions
      (growing_laws.stays tells old new stays) (goes_self core.fleet).rise of.sessions;
}
