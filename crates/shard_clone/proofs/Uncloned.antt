-- What picking comes to without clones.
use Rattle.std.proofs.Common.{◌≡◌, ℕ, ◌%◌, Bool, true, false, cond, not, ◌&&◌, ◌||◌, ◌==◌, List, [], ◌∷◌, ◌++◌, length, map, filter, find}
use Rattle.std.proofs.Common.{IsFalse, Option, Some}
use Rattle.std.proofs.Common.{nat_lt, refl, arith, ap, subst, sym, ◌∙◌, option_and_then, slice_get}
use Rattle.std.specs.List.{range_with_len}
use Rattle.std.specs.Prelude.{if◌then◌else◌}
use Rattle.std.proofs.lemmas.Bool.{and_parts}
use Rattle.std.proofs.lemmas.Bool.Decides.{Decides-eqb}
use Rattle.node_name.specs.declared.NodeName.{NodeName}
use Rattle.node_name.specs.declared.NodeName.TheVariants.{Follower}
use Rattle.topology.specs.Choices.{followers_in_turn, serving_follower}
use Rattle.topology.specs.Counts.{follower_count}
use Rattle.topology.specs.States.{NodeStates, is_up}
use Rattle.shard_clone.specs.Clones.{Clones, is_clone, serves}
use Rattle.shard_clone.specs.Laws.{WithoutClones}
use Rattle.shard_clone.specs.Picks.{at_turn, has_server, is_able, is_other, other_servers, picked, servers_in, tiers_in_turn}

-- what is got of the first that has something, where one test has the same outcome on what is got
module _ {T N : Type 0} (has : T → Bool) (get : T → Option N) (node : T → N) (up : N → Bool) where
  first_got : ((t : T) → has t ≡ up (node t)) → ((t : T) → up (node t) ≡ true → get t ≡ Some (node t)) → (ts : List T)
      → option_and_then get (find has ts) ≡ find up (map node ts)
  first_got agree got [] = refl
  first_got agree got (t ∷ ts) = at (up (node t)) refl (first_got agree got ts)
    where
      at : (b : Bool) → up (node t) ≡ b → option_and_then get (find has ts) ≡ find up (map node ts)
          → option_and_then get (cond (has t) (Some t) (find has ts)) ≡ cond (up (node t)) (Some (node t)) (find up (map node ts))
      at true e later = rw (agree t) (rw e (got t e))
      at false e later = rw (agree t) (rw e later)

and_when : (x y : Bool) → (x ≡ true → y ≡ true) → (x && y) ≡ x
and_when true y h = h refl
and_when false y h = refl

and_never : (x y : Bool) → y ≡ false → (x && y) ≡ false
and_never true y e = e
and_never false y e = refl

preferred_serves : (x y z : Bool) → x ≡ true → y ≡ true → ((x && y) || z) ≡ true
preferred_serves x y z e f = rw (e, f) refl

-- of at most one node that one is taken
taken_of_one : (session : ℕ) (node : NodeName) (up : Bool) (nodes : List NodeName) → nodes ≡ cond up (node ∷ []) [] → up ≡ true
    → at_turn session nodes ≡ Some node
taken_of_one session node up nodes e is = subst (λ ns. at_turn session ns ≡ Some node) (sym (e ∙ ap (λ b. cond b (node ∷ []) []) is)) alone
  where
    one : session % 1 ≡ 0
    one = omega arith

    alone : at_turn session (node ∷ []) ≡ Some node
    alone = ap (slice_get (node ∷ [])) one

has_one : (node : NodeName) (up : Bool) (nodes : List NodeName) → nodes ≡ cond up (node ∷ []) [] → nat_lt 0 (length nodes) ≡ up
has_one node true nodes e = rw e refl
has_one node false nodes e = rw e refl

-- a row of the one alone
row_of_one : (node : NodeName) (name : ℕ → NodeName) (others : List ℕ) (able up : Bool) → able ≡ up → others ≡ []
    → (if able then node ∷ [] else []) ++ map name others ≡ cond up (node ∷ []) []
row_of_one node name others able true same none = rw (same, none) refl
row_of_one node name others able false same none = rw (same, none) refl

module _ (c : Clones) (states : NodeStates) (shard : ℕ) (same : c.regions ≡ states.regions) (none : (node : NodeName) → IsFalse (is_clone c node shard))
    (region : ℕ) where
  abbrev count : ℕ → ℕ
  count tier = follower_count c.regions region tier

  abbrev first : ℕ → NodeName
  first tier = serving_follower c.regions region tier shard

  first_serves : (tier : ℕ) → is_up states (first tier) ≡ true → serves c (first tier) shard ≡ true
  first_serves tier up =
      let known : nat_lt (shard % count tier) (count tier) ≡ true = subst (λ rs. nat_lt (shard % count tier) (follower_count rs region tier) ≡ true)
      (sym same) (and_parts _ _ up).0 in
      let itself : (shard % count tier == shard % count tier) ≡ true = (Decides-eqb (shard % count tier) (shard % count tier)).1 refl in
      preferred_serves _ _ _ known itself

  others_idle : (tier index : ℕ) → (index == shard % count tier) ≡ false → is_able c states shard (Follower region tier index) ≡ false
  others_idle tier index apart = and_never (is_up states (Follower region tier index)) _
      (neither (nat_lt index (count tier)) _ _ apart (none (Follower region tier index)))
    where
      neither : (x y z : Bool) → y ≡ false → z ≡ false → ((x && y) || z) ≡ false
      neither true y z e f = rw e f
      neither false y z e f = f

  other_idle : (tier index : ℕ) → is_other c states region tier shard index ≡ false
  other_idle tier index = at (index == shard % count tier) refl
    where
      at : (b : Bool) → (index == shard % count tier) ≡ b → (not b && is_able c states shard (Follower region tier index)) ≡ false
      at true e = refl
      at false e = others_idle tier index e

  none_among : (tier : ℕ) (indices : List ℕ) → filter (is_other c states region tier shard) indices ≡ []
  none_among tier [] = refl
  none_among tier (i ∷ indices) = at (is_other c states region tier shard i) (other_idle tier i) (none_among tier indices)
    where
      at : (b : Bool) → b ≡ false → filter (is_other c states region tier shard) indices ≡ []
          → cond b (i ∷ filter (is_other c states region tier shard) indices) (filter (is_other c states region tier shard) indices) ≡ []
      at true e later = absurd cc
      at false e later = later

  one_server : (tier : ℕ) → servers_in c states region tier shard ≡ cond (is_up states (first tier)) (first tier ∷ []) []
  one_server tier = row_of_one (first tier) (λ index. Follower region tier index) (other_servers c states region tier shard)
      (is_able c states shard (first tier)) (is_up states (first tier))
      (and_when (is_up states (first tier)) (serves c (first tier) shard) (first_serves tier)) (none_among tier (range_with_len 0 (count tier)))

  picks_first : (tier session : ℕ) → picked c states region tier shard session ≡ find (is_up states) (followers_in_turn c.regions region tier shard)
  picks_first tier session = first_got (has_server c states region shard) (λ t. at_turn session (servers_in c states region t shard)) first (is_up states)
      (λ t. has_one (first t) (is_up states (first t)) (servers_in c states region t shard) (one_server t))
      (λ t up. taken_of_one session (first t) (is_up states (first t)) (servers_in c states region t shard) (one_server t) up)
      (tiers_in_turn c region tier)

pub without_clones : (c : Clones) (states : NodeStates) (shard : ℕ) → WithoutClones c states shard
without_clones c states shard same none region tier session =
    subst (λ rs. picked c states region tier shard session ≡ find (is_up states) (followers_in_turn rs region tier shard)) same
    (picks_first c states shard same none region tier session)
