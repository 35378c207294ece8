-- The way of a session's call through a core: its follower may be asked about the shard.
use Rattle.std.proofs.Common.{◌≡◌, ℕ, ◌<◌, Bool, List, ◌∷◌, length, Some, ap, sym, subst, ◌∙◌}
use Rattle.std.specs.Prelude.{All, nat_lt, filter}
use Rattle.std.proofs.lemmas.List.Elements.{All-append, All-filter, All-from_recursion, recursion_from_All}
use Rattle.core_model.proofs.Turns.{choices_serve}
use Rattle.core_model.specs.Fleet.{regions_of}
use Rattle.core_model.specs.Pens.{Pens}
use Rattle.core_model.specs.Serving.{IsFollowerFor}
use Rattle.core_sessions.specs.Sessions.{Session, session_at, with_session}
use Rattle.session_pass.specs.Floors.{floor_at}
use Rattle.std.specs.Option.{option_map}
use Rattle.tao_base.specs.declared.id.Key.{Key}
use Rattle.node_name.specs.declared.NodeName.{NodeName}
use Rattle.tao_keeper.specs.Table.{Tables}
use Rattle.topology.specs.Choices.{chosen_follower}
use Rattle.topology.specs.Config.{Settings}
use Rattle.tao_core.specs.Core.{CoreState, IsConsistentCore, IsSessionOf}
use Rattle.tao_core.proofs.Found.{session_is}

-- ---- sessions

pub session_placed : (tells : Bool) (s : Settings) (tables : Tables) (pens : Pens) (sessions : List Session) (number : ℕ) (session : Session)
    → All (IsSessionOf tells s tables pens) sessions → session_at sessions number ≡ Some session → session.region < length s.regions
session_placed tells s tables pens sessions number session all h =
    (session_is (IsSessionOf tells s tables pens) sessions number session all h).region

-- and of the one that is opened, if it holds of that
pub with_session_too : (P : Session → Type 0) (sessions : List Session) (new : Session) → All P sessions → P new → All P (with_session new sessions)
with_session_too P sessions new all is =
    let behind = All-filter (λ o. nat_lt new.session o.session) P sessions all in
    All-append P (filter (λ o. nat_lt o.session new.session) sessions) (new ∷ filter (λ o. nat_lt new.session o.session) sessions)
    (All-filter (λ o. nat_lt o.session new.session) P sessions all)
    (All-from_recursion P (new ∷ filter (λ o. nat_lt new.session o.session) sessions)
    (is, recursion_from_All P (filter (λ o. nat_lt new.session o.session) sessions) behind))

-- the floor of one that was found
pub floor_of : (sessions : List Session) (number : ℕ) (session : Session) (key : Key) (floor : ℕ) → session_at sessions number ≡ Some session
    → Some floor ≡ option_map (λ s. floor_at s.floors key) (session_at sessions number) → floor ≡ floor_at session.floors key
floor_of sessions number session key floor at is =
    (let e : Some floor ≡ Some (floor_at session.floors key) = is ∙ ap (option_map (λ (s : Session). floor_at s.floors key)) at in cc)

-- ---- who is asked

module _ (tells : Bool) (tables : Tables) (core : CoreState) (of : IsConsistentCore tells tables core) where
  regions_are : core.states.regions ≡ regions_of core.settings
  regions_are = of.states.regions

  pub follower_for : (region tier shard asked : ℕ) (name : NodeName) → shard ≡ asked → asked < core.settings.shards
      → Some name ≡ chosen_follower core.states region tier shard → IsFollowerFor core.settings asked name
  follower_for region tier shard asked name is here chosen =
      (choices_serve core.settings core.states).follower region tier asked name regions_are here
      (subst (λ n. chosen_follower core.states region tier n ≡ Some name) is (sym chosen))
