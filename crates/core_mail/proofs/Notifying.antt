-- One follower of a region after another is notified of an entry.
use Rattle.std.proofs.Common.{◌≡◌, ℕ, suc, ◌+◌, ◌-◌, ◌<◌, ◌≤◌, true, false, List, ◌∷◌, ◌++◌, map, refl, ap, sym, ◌∙◌, subst, arith}
use Rattle.std.proofs.lemmas.Bool.{and_parts}
use Rattle.std.proofs.lemmas.List.{append-nil}
use Rattle.std.proofs.lemmas.List.Elements.{Contains-append_right}
use Rattle.std.specs.List.{range_with_len}
use Rattle.std.specs.Prelude.{Contains, filter, min}
use Rattle.maint_msg.specs.Inbox.{IsSent}
use Rattle.maint_msg.specs.Maints.{SeenMaint}
use Rattle.node_name.specs.declared.NodeName.{NodeName}
use Rattle.topology.specs.Choices.{serving_follower}
use Rattle.topology.specs.Config.{Settings}
use Rattle.topology.specs.Counts.{NodeCounts, tier_count}
use Rattle.topology.specs.States.{NodeStates, is_cache, is_up}
use Rattle.core_model.specs.Fleet.{ChangesNode, HasNode, follower_names, leader_names, node_names, regions_of}
use Rattle.core_model.specs.Messages.{notified_of}
use Rattle.core_model.proofs.Turns.{named_follower}
use Rattle.core_mail.specs.Inboxes.{Inboxes, Sends, cache_names}

-- who is notified, from a tier on
abbrev pub notified_from : NodeStates → ℕ → ℕ → ℕ → List NodeName
notified_from states region shard tier =
    filter (is_up states) (map (λ t. serving_follower states.regions region t shard) (range_with_len tier (tier_count states.regions region - tier)))

-- what is sent to the rest, after what was sent before, comes to all
abbrev pub SendsRest : List NodeName → List NodeName → SeenMaint → Inboxes → Inboxes → Type 0
SendsRest all rest m start now = (new : Inboxes) → Sends rest m now new → Sends all m start new

module _ (states : NodeStates) (region shard : ℕ) (m : SeenMaint) where
  abbrev count : ℕ
  count = tier_count states.regions region

  abbrev turn : ℕ → NodeName
  turn tier = serving_follower states.regions region tier shard

  abbrev notified_at : List ℕ → List NodeName
  notified_at tiers = filter (is_up states) (map (λ t. serving_follower states.regions region t shard) tiers)

  abbrev all : List NodeName
  all = notified_of states region shard

  abbrev rest : ℕ → List NodeName
  rest tier = notified_from states region shard tier

  pub none_yet : (start : Inboxes) → SendsRest all (rest 0) m start start
  none_yet start new sends =
      let none : min 0 count ≡ 0 = omega arith in
      let whole : range_with_len 0 (count - 0) ++ range_with_len 0 (min 0 count) ≡ range_with_len 0 (count - 0) =
      ap (λ n. range_with_len 0 (count - 0) ++ range_with_len 0 n) none ∙ append-nil (range_with_len 0 (count - 0)) in
      subst (λ names. Sends names m start new) (sym (ap notified_at whole)) sends

  next_tier : (tier : ℕ) → tier < count → range_with_len tier (count - tier) ≡ tier ∷ range_with_len (tier + 1) (count - (tier + 1))
  next_tier tier lt = (let e : count - tier ≡ suc (count - (tier + 1)) = omega arith in ap (range_with_len tier) e)

  pub one_notified : (tier : ℕ) (start now after : Inboxes) (name : NodeName) → tier < count → name ≡ serving_follower states.regions region tier shard
      → is_up states name ≡ true → ChangesNode name (IsSent m) now after → SendsRest all (rest tier) m start now
      → SendsRest all (rest (tier + 1)) m start after
  one_notified tier start now after name lt called up change sends new later =
      let is_notified : is_up states (turn tier) ≡ true = subst (λ n. is_up states n ≡ true) called up in
      let next : notified_at (range_with_len tier (count - tier)) ≡ turn tier ∷ notified_at (range_with_len (tier + 1) (count - (tier + 1))) =
      ap notified_at (next_tier tier lt) ∙ rw is_notified refl in
      let changes : ChangesNode (turn tier) (IsSent m) now after = subst (λ n. ChangesNode n (IsSent m) now after) called change in
      sends new (subst (λ names. Sends names m now new) (sym next) (after, changes, later))

  pub one_down : (tier : ℕ) (start now : Inboxes) (name : NodeName) → tier < count → name ≡ serving_follower states.regions region tier shard
      → is_up states name ≡ false → SendsRest all (rest tier) m start now → SendsRest all (rest (tier + 1)) m start now
  one_down tier start now name lt called down sends new later =
      let is_down : is_up states (turn tier) ≡ false = subst (λ n. is_up states n ≡ false) called down in
      let next : notified_at (range_with_len tier (count - tier)) ≡ notified_at (range_with_len (tier + 1) (count - (tier + 1))) =
      ap notified_at (next_tier tier lt) ∙ rw is_down refl in
      sends new (subst (λ names. Sends names m now new) (sym next) later)

  pub all_notified : (tier : ℕ) (start now : Inboxes) → count ≤ tier → SendsRest all (rest tier) m start now → Sends all m start now
  all_notified tier start now past sends =
      let none : count - tier ≡ 0 = omega arith in
      sends now (subst (λ n. Sends (notified_at (range_with_len tier n)) m now now) (sym none) refl)

-- a follower that is up has an inbox
pub notified_there : (s : Settings) (states : NodeStates) (region tier shard : ℕ) (inboxes : Inboxes) → states.regions ≡ regions_of s
    → node_names inboxes ≡ cache_names s → is_up states (serving_follower states.regions region tier shard) ≡ true
    → HasNode (serving_follower states.regions region tier shard) inboxes
notified_there s states region tier shard inboxes own names up =
    let name = serving_follower states.regions region tier shard in
    let known : is_cache states.regions name ≡ true = (and_parts _ _ up).0 in
    let there : Contains (follower_names s) name =
    named_follower s region tier _ (subst (λ (rs : List NodeCounts). is_cache rs name ≡ true) own known) in
    subst (λ ns. Contains ns name) (sym names) (Contains-append_right (leader_names s) (follower_names s) name there)
