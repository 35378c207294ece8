-- What is held goes on, whatever else is done.
use Rattle.std.proofs.Common.{◌≡◌, ℕ, Bool, List, Option, Some, true, refl, ap, sym, subst}
use Rattle.std.proofs.lemmas.Option.{IfSome_then}
use Rattle.core_model.specs.Consistent.{IsConsistent}
use Rattle.core_model.specs.Evictions.{ChangesCache, Evicts}
use Rattle.core_model.specs.Fleet.{Fleet}
use Rattle.core_model.specs.Growing.{TablesGoOn}
use Rattle.core_model.specs.Messages.{DeliversAt}
use Rattle.core_model.specs.States.{ComesUp}
use Rattle.core_nodes.proofs.FleetLemmas.{goes_self}
use Rattle.core_plans.specs.Held.{ArePlansOf, OpensNone, Plans, plan_at}
use Rattle.core_plans.specs.declared.held.HeldPlan.{HeldPlan}
use Rattle.core_plans.specs.declared.held.HeldPlan.TheVariants.{Read, Write}
use Rattle.core_plans.proofs.AsksHeld.{asks_still_held, deliver_opens_none, evict_opens_none, same_opens_none, opens_none_on}
use Rattle.core_plans.proofs.WritesGoOn.{plan_later}
use Rattle.core_nodes.proofs.GrowingLemmas.{stays_stores}
use Rattle.core_steps.proofs.ReadLemmas.{goes_trans}
use Rattle.maint_msg.specs.Maints.{SeenMaint}
use Rattle.node_name.specs.declared.NodeName.{NodeName}
use Rattle.node_name.specs.declared.NodeName.TheVariants.{Store as StoreName_, Leader, Follower}
use Rattle.tao_base.specs.EdgeTypes.{EdgeTypes}
use Rattle.tao_base.specs.declared.id.Key.{Key}
use Rattle.tao_keeper.proofs.Later.{later_self}
use Rattle.tao_keeper.specs.KeeperState.{IsLater, KeeperState, KeepsTables}
use Rattle.tao_keeper.specs.Table.{Tables}
use Rattle.topology.specs.Config.{Settings}
use Rattle.topology.specs.States.{NodeStates, is_up}
use Rattle.tao_core.specs.Core.{ComeUp, CoreState, IsConsistentCore, IsCoreOf, IsOfSession, LeavesCore, StaysHeld, StaysUsable, author}
use Rattle.tao_core.proofs.Keeping.{still_past}
use Rattle.tao_core.proofs.StayOpen.{StayOpen, same_open}
use Rattle.core_sessions.specs.Sessions.{Session}

-- ---- who comes up

pub comes_not : (name : NodeName) (old new : NodeStates) → new ≡ old → ComesUp name old new → ⊥
comes_not name old new same comes =
    let up : is_up old name ≡ true = subst (λ n. is_up n name ≡ true) same comes.up in
    let down = comes.down in
    absurd (cc)

-- nobody does, where the nodes stay up or down
pub none_come : (tells : Bool) (tables : Tables) (old new : CoreState) → new.states ≡ old.states → ComeUp tells tables old new
none_come tells tables old new same told = record {
  leaders = λ place name node at comes. absurd (comes_not name old.states new.states same comes);
  followers = λ place name node at comes. absurd (comes_not name old.states new.states same comes);
}

-- ---- what is held

pub plans_later : (tells : Bool) (s : Settings) (before later : Tables) (f g : Fleet) (plans : Plans) → StaysHeld f g → TablesGoOn tells s before later
    → IsConsistent tells s later g → ArePlansOf tells s before f plans → ArePlansOf tells s later g plans
plans_later tells s before later f g plans on grows consistent are = record {
  under_way = λ number plan at. plan_later tells s before later f g plan consistent on.goes grows (are.under_way number plan at);
  goes_on = are.goes_on;
  begun = are.begun;
  asks = asks_still_held plans f.followers g.followers on.opens are.asks;
}

-- a call of an open session is still one
pub still_of : (old new : List Session) (plan : HeldPlan) → StayOpen old new → IsOfSession old plan → IsOfSession new plan
still_of old new (Read p) stay is = IfSome_then p.reader is stay.stays
still_of old new (Write p) stay is = stay.stays (author p.origin) is

-- a call that leaves sessions open and plans as they are leaves a core that may be used
pub core_goes_on : (tells : Bool) (before now : KeeperState) (old new : CoreState) → IsCoreOf tells before.told old → LeavesCore tells before now old new
    → new.settings ≡ old.settings → new.plans ≡ old.plans → StayOpen old.sessions new.sessions → StaysUsable tells before now old new
core_goes_on tells before now old new of leaves own same stay = record {
  settings = own;
  keepers = record {
    is_consistent = leaves.is_consistent;
    past = still_past tells old.settings before.told now.told old.fleet new.fleet of.is_consistent.masters of.is_consistent.consistent leaves.on.goes
        leaves.grows of.past;
    plans = subst (λ s. ArePlansOf tells s now.told new.fleet new.plans) (sym own)
        (subst (ArePlansOf tells old.settings now.told new.fleet) (sym same)
        (plans_later tells old.settings before.told now.told old.fleet new.fleet old.plans leaves.on leaves.grows.on
        (subst (λ s. IsConsistent tells s now.told new.fleet) own leaves.is_consistent.consistent) of.plans));
    authors = λ number plan at. still_of old.sessions new.sessions plan stay
        (of.authors number plan (subst (λ plans. plan_at plans number ≡ Some plan) same at));
  };
  goes = leaves.on.goes;
  comes = leaves.comes;
  grows = leaves.grows.on;
  later = leaves.later;
}

-- so does one that changes nothing of it but its nodes and their messages
pub nodes_go_on : (tells : Bool) (before now : KeeperState) (old new : CoreState) → IsCoreOf tells before.told old → LeavesCore tells before now old new
    → new ≡ record old { fleet = new.fleet; mail = new.mail } → StaysUsable tells before now old new
nodes_go_on tells before now old new of leaves rest =
    core_goes_on tells before now old new of leaves (ap (λ (x : CoreState). x.settings) rest) (ap (λ (x : CoreState). x.plans) rest)
    (same_open old.sessions new.sessions (ap (λ (x : CoreState). x.sessions) rest))

-- nothing was done
pub core_unchanged : (tells : Bool) (keepers : KeeperState) (core : CoreState) → IsCoreOf tells keepers.told core
    → StaysUsable tells keepers keepers core core
core_unchanged tells keepers core of = record {
  settings = refl;
  keepers = of;
  goes = goes_self core.fleet;
  comes = none_come tells keepers.told core core refl;
  grows = (stays_stores tells core.settings keepers keepers (λ told at. refl)).on;
  later = later_self keepers;
}

-- no table changed
pub core_held : (tells : Bool) (before now : KeeperState) (old new : CoreState) → IsCoreOf tells before.told old
    → IsConsistentCore tells now.told new → StaysHeld old.fleet new.fleet → KeepsTables tells before now → IsLater before now
    → new ≡ record old { fleet = new.fleet; mail = new.mail } → StaysUsable tells before now old new
core_held tells before now old new of is on stays later rest =
    nodes_go_on tells before now old new of
    (record {
      is_consistent = is;
      on = on;
      comes = none_come tells now.told old new (ap (λ (x : CoreState). x.states) rest);
      grows = stays_stores tells old.settings before now stays;
      later = later;
    }) rest

-- no keeper was called
pub core_kept : (tells : Bool) (keepers : KeeperState) (old new : CoreState) → IsCoreOf tells keepers.told old → IsConsistentCore tells keepers.told new
    → StaysHeld old.fleet new.fleet → new ≡ record old { fleet = new.fleet; mail = new.mail } → StaysUsable tells keepers keepers old new
core_kept tells keepers old new of is on rest = core_held tells keepers keepers old new of is on (λ told at. refl) (later_self keepers) rest

-- ---- what opens no ask that stays open

pub same_held : (f : Fleet) → StaysHeld f f
same_held f = record { goes = goes_self f; opens = same_opens_none f.followers f.followers refl }

pub fleet_stays : (old new : Fleet) → new ≡ old → StaysHeld old new
fleet_stays old new same = subst (StaysHeld old) (sym same) (same_held old)

-- a session was opened
pub core_opened : (tells : Bool) (keepers : KeeperState) (old new : CoreState) → IsCoreOf tells keepers.told old → IsConsistentCore tells keepers.told new
    → new ≡ record old { sessions = new.sessions } → StayOpen old.sessions new.sessions → StaysUsable tells keepers keepers old new
core_opened tells keepers old new of is rest stay =
    core_goes_on tells keepers keepers old new of (record {
      is_consistent = is;
      on = fleet_stays old.fleet new.fleet (ap (λ (x : CoreState). x.fleet) rest);
      comes = none_come tells keepers.told old new (ap (λ (x : CoreState). x.states) rest);
      grows = stays_stores tells old.settings keepers keepers (λ told at. refl);
      later = later_self keepers;
    }) (ap (λ (x : CoreState). x.settings) rest) (ap (λ (x : CoreState). x.plans) rest) stay

pub held_on : (f g h : Fleet) → StaysHeld f g → StaysHeld g h → StaysHeld f h
held_on f g h one two = record {
  goes = goes_trans f g h one.goes two.goes;
  opens = opens_none_on f.followers g.followers h.followers one.opens two.opens;
}

pub delivers_held : (types : EdgeTypes) (m : SeenMaint) (dropped : ℕ) (node : NodeName) (old new : Fleet) → DeliversAt types m dropped node old new
    → OpensNone old.followers new.followers
delivers_held types m dropped (StoreName_ store) old new h = absurd h
delivers_held types m dropped (Leader region index) old new h = same_opens_none old.followers new.followers (ap (λ (f : Fleet). f.followers) h.1)
delivers_held types m dropped (Follower region tier index) old new h =
    deliver_opens_none (Follower region tier index) old.followers new.followers types m dropped h.0

pub evicts_held : (node : NodeName) (key : Option Key) (held : Bool) (old new : Fleet) → ChangesCache node (Evicts key held) old new
    → OpensNone old.followers new.followers
evicts_held (StoreName_ store) key held old new h = absurd h
evicts_held (Leader region index) key held old new h = same_opens_none old.followers new.followers (ap (λ (f : Fleet). f.followers) h.1)
evicts_held (Follower region tier index) key held old new h = evict_opens_none (Follower region tier index) old.followers new.followers key held h.0
