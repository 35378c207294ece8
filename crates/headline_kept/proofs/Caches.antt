-- The leaders and followers of a fleet, of which some change.
use Rattle.std.proofs.Common.{◌≡◌, ◌⊎◌, ℕ, List, Some, refl, sym, ap, ◌∙◌, subst, inl, inr}
use Rattle.std.specs.Prelude.{slice_get, slice_set}
use Rattle.cache_items.specs.Node.{Node}
use Rattle.core_model.proofs.Places.{get_set}
use Rattle.core_model.specs.Emptied.{Anew, BeginsAnew, EmptiesCache}
use Rattle.core_model.specs.Evictions.{ChangesCache}
use Rattle.core_model.specs.Fleet.{ChangesNode, EachNode, Fleet, named}
use Rattle.core_model.specs.Messages.{Delivers, DeliversAt}
use Rattle.core_model.specs.Pens.{Pens}
use Rattle.core_model.specs.declared.named.Named.{Named}
use Rattle.follower_cache.specs.Seen.{FollowerState}
use Rattle.maint_msg.specs.Maints.{SeenMaint}
use Rattle.node_name.specs.declared.NodeName.{NodeName}
use Rattle.node_name.specs.declared.NodeName.TheVariants.{Store as StoreName_, Leader, Follower}
use Rattle.tao_base.specs.EdgeTypes.{EdgeTypes}

-- ---- nodes under their names

-- each node is as it was, or has the name and changes so
pub each_of_one : {N : Type 0} (By : N → N → Type 0) (who : NodeName) (old new : List (Named N)) → ChangesNode who By old new
    → EachNode (λ name from to. (to ≡ from) ⊎ ((name ≡ who) × By from to)) old new
each_of_one By who old new change place name to at =
    let there : slice_get (slice_set old change.place (named who change.to)) place ≡ Some (named name to) =
    subst (λ xs. slice_get xs place ≡ Some (named name to)) change.is at in
    elim (get_set old change.place (named who change.to) place (named name to) there) [
      | inl e ↦ (to, e.1, inl refl)
      | inr e ↦ (
        change.from,
        ap (slice_get old) e.0 ∙ change.stands ∙ ap (λ n. Some (named n.name change.from)) e.1,
        inr (sym (ap (λ n. n.name) e.1), subst (λ n. By change.from n.node) e.1 change.by),
      )
    ]

-- what becomes of each, and what follows of that
pub each_so : {N : Type 0} (A B : NodeName → N → N → Type 0) (old new : List (Named N)) → ((name : NodeName) (from to : N) → A name from to → B name from to)
    → EachNode A old new → EachNode B old new
each_so A B old new so each place name to at =
    let from = each place name to at in
    (from.0, from.1, so name from.0 to from.2)

-- each stays
pub each_rests : {N : Type 0} (B : NodeName → N → N → Type 0) (old new : List (Named N)) → ((name : NodeName) (node : N) → B name node node) → new ≡ old
    → EachNode B old new
each_rests B old new rests same place name to at = (to, subst (λ xs. slice_get xs place ≡ Some (named name to)) same at, rests name to)

-- one thing after another
pub each_then : {N : Type 0} (A B C : NodeName → N → N → Type 0) (old mid new : List (Named N))
    → ((name : NodeName) (from between to : N) → A name from between → B name between to → C name from to) → EachNode A old mid → EachNode B mid new
    → EachNode C old new
each_then A B C old mid new joins first second place name to at =
    let between = second place name to at in
    let from = first place name between.0 between.1 in
    (from.0, from.1, joins name from.0 between.0 to from.2 between.2)

-- ---- leaders and followers

-- what becomes of each leader and follower, as nodes
pub record EachCache (R : NodeName → Node → Node → Type 0) (old new : Fleet) : Type 0 where
  pub leaders : EachNode (λ name from to. R name from to) old.leaders new.leaders
  pub followers : EachNode (λ name (from : FollowerState) (to : FollowerState). R name from.node to.node) old.followers new.followers

pub caches_so : (A B : NodeName → Node → Node → Type 0) (old new : Fleet) → ((name : NodeName) (from to : Node) → A name from to → B name from to)
    → EachCache A old new → EachCache B old new
caches_so A B old new so each = record {
  leaders = each_so A B old.leaders new.leaders so each.leaders;
  followers = each_so (λ name from to. A name from.node to.node) (λ name from to. B name from.node to.node) old.followers new.followers
      (λ name from to. so name from.node to.node) each.followers;
}

pub caches_then : (A B C : NodeName → Node → Node → Type 0) (old mid new : Fleet)
    → ((name : NodeName) (from between to : Node) → A name from between → B name between to → C name from to) → EachCache A old mid → EachCache B mid new
    → EachCache C old new
caches_then A B C old mid new joins first second = record {
  leaders = each_then A B C old.leaders mid.leaders new.leaders joins first.leaders second.leaders;
  followers = each_then (λ name from to. A name from.node to.node) (λ name from to. B name from.node to.node) (λ name from to. C name from.node to.node)
      old.followers mid.followers new.followers (λ name from between to. joins name from.node between.node to.node) first.followers second.followers;
}

-- ---- which of them change

module _ (R : NodeName → Node → Node → Type 0) (rests : (name : NodeName) (node : Node) → R name node node) (old new : Fleet) where
  -- none does
  pub none_changes : new.leaders ≡ old.leaders → new.followers ≡ old.followers → EachCache R old new
  none_changes leaders followers = record {
    leaders = each_rests R old.leaders new.leaders rests leaders;
    followers = each_rests (λ name from to. R name from.node to.node) old.followers new.followers (λ name f. rests name f.node) followers;
  }

  pub same_fleet : new ≡ old → EachCache R old new
  same_fleet same = none_changes (ap (λ (f : Fleet). f.leaders) same) (ap (λ (f : Fleet). f.followers) same)

  -- one leader does
  pub leader_changes : (By : Node → Node → Type 0) (who : NodeName) → ((from to : Node) → By from to → R who from to) → new.followers ≡ old.followers
      → ChangesNode who By old.leaders new.leaders → EachCache R old new
  leader_changes By who so followers change = record {
    leaders = each_so (λ name from to. (to ≡ from) ⊎ ((name ≡ who) × By from to)) R old.leaders new.leaders
        (λ name from to is. elim is [
          | inl same ↦ subst (R name from) (sym same) (rests name from)
          | inr by ↦ subst (λ n. R n from to) (sym by.0) (so from to by.1)
        ]) (each_of_one By who old.leaders new.leaders change);
    followers = each_rests (λ name from to. R name from.node to.node) old.followers new.followers (λ name f. rests name f.node) followers;
  }

  -- one follower does
  pub follower_changes : (By : FollowerState → FollowerState → Type 0) (who : NodeName)
      → ((from to : FollowerState) → By from to → R who from.node to.node) → new.leaders ≡ old.leaders
      → ChangesNode who By old.followers new.followers → EachCache R old new
  follower_changes By who so leaders change = record {
    leaders = each_rests R old.leaders new.leaders rests leaders;
    followers = each_so (λ name from to. (to ≡ from) ⊎ ((name ≡ who) × By from to)) (λ name from to. R name from.node to.node) old.followers new.followers
        (λ name from to is. elim is [
          | inl same ↦ subst (λ (f : FollowerState). R name from.node f.node) (sym same) (rests name from.node)
          | inr by ↦ subst (λ n. R n from.node to.node) (sym by.0) (so from to by.1)
        ]) (each_of_one By who old.followers new.followers change);
  }

  -- the leader or follower of a name drops an item
  pub cache_changes : (By : Node → Node → Type 0) (who : NodeName) → ((from to : Node) → By from to → R who from to)
      → ChangesCache who By old new → EachCache R old new
  cache_changes By (StoreName_ store) so changes = absurd changes
  cache_changes By (Leader region index) so changes =
      leader_changes By (Leader region index) so (ap (λ (f : Fleet). f.followers) changes.1) changes.0
  cache_changes By (Follower region tier index) so changes =
      follower_changes (λ from to. By from.node to.node × (to.refills ≡ from.refills)) (Follower region tier index)
      (λ from to by. so from.node to.node by.0) (ap (λ (f : Fleet). f.leaders) changes.1) changes.0

  -- or processes a message
  pub cache_delivers : (types : EdgeTypes) (m : SeenMaint) (dropped : ℕ) (who : NodeName)
      → ((from to : Node) → Delivers m dropped from to → R who from to) → DeliversAt types m dropped who old new → EachCache R old new
  cache_delivers types m dropped (StoreName_ store) so changes = absurd changes
  cache_delivers types m dropped (Leader region index) so changes =
      leader_changes (Delivers m dropped) (Leader region index) so (ap (λ (f : Fleet). f.followers) changes.1) changes.0
  cache_delivers types m dropped (Follower region tier index) so changes =
      follower_changes _ (Follower region tier index)
      (λ from to by. so from.node to.node by.node) (ap (λ (f : Fleet). f.leaders) changes.1) changes.0

  -- or loses all that it holds
  pub cache_empties : (pens : Pens) (at : Anew) (who : NodeName)
      → ((from to : Node) → BeginsAnew pens at from to → R who from to) → EmptiesCache who pens at old new → EachCache R old new
  cache_empties pens at (StoreName_ store) so changes = absurd changes
  cache_empties pens at (Leader region index) so changes =
      leader_changes (BeginsAnew pens at) (Leader region index) so (ap (λ (f : Fleet). f.followers) changes.1) changes.0
  cache_empties pens at (Follower region tier index) so changes =
      follower_changes _ (Follower region tier index)
      (λ from to by. so from.node to.node by.node) (ap (λ (f : Fleet). f.leaders) changes.1) changes.0
