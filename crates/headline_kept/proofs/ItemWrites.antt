-- The stages of a write leave each item that no entry names which they bring to nodes.
use Rattle.std.proofs.Common.{◌≡◌, ◌∙◌, ◌⊎◌, ◌++◌, ◌∷◌, [], ℕ, Bool, true, false, List, Option, Some, None, sym, ap, subst, inl, inr, refl}
use Rattle.std.specs.Prelude.{option_to_list}
use Rattle.cache_items.specs.Node.{Node, item_at}
use Rattle.core_model.specs.Fleet.{ChangesNode, EachNode, Fleet, serves}
use Rattle.core_model.specs.Items.{KeepsItem}
use Rattle.core_model.specs.Writes.{AppliesTo}
use Rattle.core_nodes.specs.Stages.{taken_by}
use Rattle.core_steps.specs.Posting.{LeaderTakes}
use Rattle.core_steps.specs.Relays.{LeaderRelays}
use Rattle.core_steps.specs.Writes.{FollowerTakes}
use Rattle.follower_cache.specs.Seen.{FollowerState}
use Rattle.headline_kept.proofs.Caches.{each_of_one, each_rests, each_so, each_then}
use Rattle.headline_kept.proofs.ItemOps.{kept_touches}
use Rattle.headline_kept.specs.Touches.{IsNamedByNone}
use Rattle.leader_tier.specs.TakenWrites.{TakesWritten}
use Rattle.node_name.specs.declared.NodeName.{NodeName}
use Rattle.node_stages.specs.Relays.{RelaysTo}
use Rattle.shard_log.specs.View.{View}
use Rattle.tao_base.specs.EdgeTypes.{EdgeTypes}
use Rattle.tao_base.specs.declared.entry.Entry.{Entry}
use Rattle.tao_base.specs.declared.id.Key.{Key}
use Rattle.tao_schema.specs.Schema.{types_of}
use Rattle.topology.specs.Config.{Settings}

-- ---- what one node takes

-- the node holds each item as before that none of these entries names
abbrev pub TakesEntries : List Entry → Node → Node → Type 0
TakesEntries brought old new = (key : Key) → IsNamedByNone key brought → KeepsItem key old.items new.items

takes_none : (brought : List Entry) (node : Node) → TakesEntries brought node node
takes_none brought node key none item is = is

named_left : (key : Key) (a b : List Entry) → IsNamedByNone key (a ++ b) → IsNamedByNone key a
named_left key [] b none = tt
named_left key (e ∷ a) b none = (none.0, named_left key a b none.1)

named_right : (key : Key) (a b : List Entry) → IsNamedByNone key (a ++ b) → IsNamedByNone key b
named_right key [] b none = none
named_right key (e ∷ a) b none = named_right key a b none.1

-- a node that holds the same items takes whatever it is
pub takes_same : (brought : List Entry) (old new : Node) → new.items ≡ old.items → TakesEntries brought old new
takes_same brought old new same key none item is = subst (λ l. item_at l key ≡ Some item) (sym same) is

-- some entries, and then others
takes_both : (a b : List Entry) (old mid new : Node) → TakesEntries a old mid → TakesEntries b mid new → TakesEntries (a ++ b) old new
takes_both a b old mid new first second key none item is = second key (named_right key a b none) item (first key (named_left key a b none) item is)

module _ (types : EdgeTypes) (shard : ℕ) (e : Entry) (note : View) where
  -- a leader takes what was written, where it serves the shard
  written_there : (serving : Bool) (old new : Node) → TakesWritten types shard (taken_by serving (Some e)) note old new → TakesEntries (e ∷ []) old new
  written_there true old new takes key none = kept_touches key types note e.touches old.items new.items takes.items none.0
  written_there false old new takes key none = subst (TakesEntries (e ∷ []) old) (sym takes) (takes_none (e ∷ []) old) key none

  applied_there : (old new : FollowerState) → AppliesTo types shard e note old new → TakesEntries (e ∷ []) old.node new.node
  applied_there old new takes key none = kept_touches key types note e.touches old.node.items new.node.items takes.node.items none.0

  -- as a leader does that the write passed
  relayed_there : (serving : Bool) (old new : Node) → RelaysTo types shard (taken_by serving (Some e)) note old new → TakesEntries (e ∷ []) old new
  relayed_there true old new takes key none = kept_touches key types note e.touches old.items new.items takes.items none.0
  relayed_there false old new takes key none = subst (TakesEntries (e ∷ []) old) (sym takes) (takes_none (e ∷ []) old) key none

-- ---- what leaders and followers take

-- a follower holds the same items, or is the one of that name, and takes the entries
abbrev pub TakesAt : NodeName → List Entry → NodeName → Node → Node → Type 0
TakesAt follower brought name old new = (new.items ≡ old.items) ⊎ ((name ≡ follower) × TakesEntries brought old new)

at_both : (follower : NodeName) (a b : List Entry) (name : NodeName) (old mid new : Node) → TakesAt follower a name old mid → TakesAt follower b name mid new
    → TakesAt follower (a ++ b) name old new
at_both follower a b name old mid new (inl first) (inl second) = inl (second ∙ first)
at_both follower a b name old mid new (inl first) (inr second) =
    inr (second.0, takes_both a b old mid new (takes_same a old mid first) second.1)
at_both follower a b name old mid new (inr first) (inl second) =
    inr (first.0, takes_both a b old mid new first.1 (takes_same b mid new second))
at_both follower a b name old mid new (inr first) (inr second) = inr (first.0, takes_both a b old mid new first.1 second.1)

-- leaders take the entries, and so does the follower of that name
pub record AllTake (follower : NodeName) (brought : List Entry) (old new : Fleet) : Type 0 where
  pub leaders : EachNode (λ name from to. TakesEntries brought from to) old.leaders new.leaders
  pub followers : EachNode (λ name (from : FollowerState) (to : FollowerState). TakesAt follower brought name from.node to.node) old.followers new.followers

module _ (follower : NodeName) where
  followers_rest : (brought : List Entry) (old new : Fleet) → new.followers ≡ old.followers
      → EachNode (λ name (from : FollowerState) (to : FollowerState). TakesAt follower brought name from.node to.node) old.followers new.followers
  followers_rest brought old new same = each_rests (λ name from to. TakesAt follower brought name from.node to.node) old.followers new.followers
      (λ name f. inl refl) same

  leaders_rest : (brought : List Entry) (old new : Fleet) → new.leaders ≡ old.leaders
      → EachNode (λ name from to. TakesEntries brought from to) old.leaders new.leaders
  leaders_rest brought old new same = each_rests (λ name from to. TakesEntries brought from to) old.leaders new.leaders
      (λ name node. takes_none brought node) same

  none_take : (brought : List Entry) (old new : Fleet) → new.leaders ≡ old.leaders → new.followers ≡ old.followers → AllTake follower brought old new
  none_take brought old new leaders followers = record {
    leaders = leaders_rest brought old new leaders;
    followers = followers_rest brought old new followers;
  }

  pub same_take : (brought : List Entry) (old new : Fleet) → new ≡ old → AllTake follower brought old new
  same_take brought old new same = none_take brought old new (ap (λ (f : Fleet). f.leaders) same) (ap (λ (f : Fleet). f.followers) same)

  pub both_take : (a b : List Entry) (old mid new : Fleet) → AllTake follower a old mid → AllTake follower b mid new → AllTake follower (a ++ b) old new
  both_take a b old mid new first second = record {
    leaders = each_then (λ name from to. TakesEntries a from to) (λ name from to. TakesEntries b from to) (λ name from to. TakesEntries (a ++ b) from to)
        old.leaders mid.leaders new.leaders (λ name from between to. takes_both a b from between to) first.leaders second.leaders;
    followers = each_then (λ name from to. TakesAt follower a name from.node to.node) (λ name from to. TakesAt follower b name from.node to.node)
        (λ name from to. TakesAt follower (a ++ b) name from.node to.node) old.followers mid.followers new.followers
        (λ name from between to. at_both follower a b name from.node between.node to.node) first.followers second.followers;
  }

  module _ (old new : Fleet) where
    one_leader : (brought : List Entry) (By : Node → Node → Type 0) (who : NodeName) → ((from to : Node) → By from to → TakesEntries brought from to)
        → ChangesNode who By old.leaders new.leaders → new.followers ≡ old.followers → AllTake follower brought old new
    one_leader brought By who so change followers = record {
      leaders = each_so (λ name from to. (to ≡ from) ⊎ ((name ≡ who) × By from to)) (λ name from to. TakesEntries brought from to)
          old.leaders new.leaders
          (λ name from to is. elim is [
            | inl same ↦ subst (TakesEntries brought from) (sym same) (takes_none brought from)
            | inr by ↦ so from to by.1
          ]) (each_of_one By who old.leaders new.leaders change);
      followers = followers_rest brought old new followers;
    }

    one_follower : (brought : List Entry) (By : FollowerState → FollowerState → Type 0)
        → ((from to : FollowerState) → By from to → TakesEntries brought from.node to.node)
        → ChangesNode follower By old.followers new.followers → new.leaders ≡ old.leaders → AllTake follower brought old new
    one_follower brought By so change leaders = record {
      leaders = leaders_rest brought old new leaders;
      followers = each_so (λ name from to. (to ≡ from) ⊎ ((name ≡ follower) × By from to))
          (λ name from to. TakesAt follower brought name from.node to.node) old.followers new.followers
          (λ name from to is. elim is [
            | inl same ↦ inl (ap (λ (f : FollowerState). f.node.items) same)
            | inr by ↦ inr (by.0, so from to by.1)
          ]) (each_of_one By follower old.followers new.followers change);
    }

    module _ (s : Settings) (shard : ℕ) where
      -- the leader that wrote
      pub leader_takes : (leader : NodeName) (entry : Option Entry) → LeaderTakes s leader shard entry old new → new.followers ≡ old.followers
          → AllTake follower (option_to_list entry) old new
      leader_takes leader None takes followers =
          one_leader [] (TakesWritten (types_of s.schema) shard (taken_by (serves s leader shard) None) takes.note) leader
          (none_written (serves s leader shard)) takes.takes followers
        where
          none_written : (serving : Bool) (from to : Node) → TakesWritten (types_of s.schema) shard (taken_by serving None) takes.note from to
              → TakesEntries [] from to
          none_written true from to same = subst (TakesEntries [] from) (sym same) (takes_none [] from)
          none_written false from to same = subst (TakesEntries [] from) (sym same) (takes_none [] from)
      leader_takes leader (Some e) takes followers =
          one_leader (e ∷ []) (TakesWritten (types_of s.schema) shard (taken_by (serves s leader shard) (Some e)) takes.note) leader
          (written_there (types_of s.schema) shard e takes.note (serves s leader shard)) takes.takes followers

      -- the leader that the write passed
      pub leader_relays : (leader : NodeName) (entry : Option Entry) → LeaderRelays s leader shard entry old new → new.followers ≡ old.followers
          → AllTake follower (option_to_list entry) old new
      leader_relays leader None takes followers = none_take [] old new takes followers
      leader_relays leader (Some e) takes followers =
          one_leader (e ∷ []) (RelaysTo (types_of s.schema) shard (taken_by (serves s leader shard) (Some e)) takes.0) leader
          (relayed_there (types_of s.schema) shard e takes.0 (serves s leader shard)) takes.1 followers

      -- the follower that asked for it
      pub follower_takes : (leader : NodeName) (entry : Option Entry)
          → FollowerTakes (types_of s.schema) (record { follower = follower; leader = leader }) shard entry old new → new.leaders ≡ old.leaders
          → AllTake follower (option_to_list entry) old new
      follower_takes leader None takes leaders = none_take [] old new leaders takes
      follower_takes leader (Some e) takes leaders =
          one_follower (e ∷ []) (AppliesTo (types_of s.schema) shard e takes.0) (applied_there (types_of s.schema) shard e takes.0) takes.1 leaders
