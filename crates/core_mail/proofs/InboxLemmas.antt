-- The inboxes of a configuration stay such.
use Rattle.std.proofs.Common.{◌≡◌, ℕ, zero, suc, ◌+◌, ◌<◌, ◌%◌, true, List, [], ◌∷◌, ◌++◌, drop, length, map, take, refl, ap, sym, ◌∙◌, subst, inl, inr}
use Rattle.std.proofs.lemmas.Bool.{eq-eqb}
use Rattle.std.proofs.lemmas.List.Edits.{map_over_more}
use Rattle.std.proofs.lemmas.List.Elements.{Contains-append_left, Contains-append_right}
use Rattle.std.specs.List.{AllByRecursion, remove}
use Rattle.std.specs.Prelude.{Contains, IfOk, IfSome, Option, Some, Result, Ok, Err, slice_get, slice_index_or, slice_set}
use Rattle.graph_model.proofs.Later.{all_append, all_filter, all_map}
use Rattle.maint_msg.proofs.MaintLemmas.{is_maint}
use Rattle.maint_msg.specs.Inbox.{IsSent}
use Rattle.maint_msg.specs.Maints.{SeenMaint}
use Rattle.node_name.specs.declared.NodeName.{NodeName}
use Rattle.node_name.specs.declared.NodeName.TheVariants.{Store, Leader, Follower}
use Rattle.shard_log.specs.View.{View}
use Rattle.core_model.specs.shard_tables.Written.{LiesOn, StandsIn}
use Rattle.tao_base.specs.declared.entry.Entry.{Entry}
use Rattle.topology.specs.Choices.{round_from, serving_follower}
use Rattle.topology.specs.Config.{Settings}
use Rattle.topology.specs.Counts.{NodeCounts, follower_count, tier_count}
use Rattle.topology.specs.States.{NodeStates, is_up}
use Rattle.core_model.specs.Evictions.{IsCacheOf}
use Rattle.core_model.specs.Fleet.{ChangesNode, IsFirstAt, follower_names, leader_names, named, node_names, regions_of, serves_in_turn}
use Rattle.core_model.specs.Messages.{IsMessageFor, notified_of}
use Rattle.core_model.specs.Pens.{IsSeen, Pens}
use Rattle.core_model.specs.declared.named.Named.{Named}
use Rattle.core_model.proofs.NamedNodes.{all_set, named_stands, names_set}
use Rattle.core_model.proofs.Places.{one_some}
use Rattle.core_model.proofs.Staying.{messages_stay}
use Rattle.core_mail.specs.Inboxes.{AreEmpty, AreInboxesOf, Inboxes, LosesAll, Sends, TakesOut, WaitsAt, cache_names, cleared, entry_message, no_messages}
use Rattle.core_mail.specs.Laws.{InboxesStay}

-- ---- each message of a list

pub all_removed : {X : Type 0} (P : X → Type 0) (xs : List X) (place : ℕ) → AllByRecursion P xs → AllByRecursion P (remove xs place)
all_removed P [] zero all = tt
all_removed P [] (suc place) all = tt
all_removed P (x ∷ xs) zero all = all.1
all_removed P (x ∷ xs) (suc place) all = (all.0, all_removed P xs place all.1)

pub all_at : {X : Type 0} (P : X → Type 0) (xs : List X) (place : ℕ) → AllByRecursion P xs → IfSome (slice_get xs place) P
all_at P [] place all = tt
all_at P (x ∷ xs) zero all = all.0
all_at P (x ∷ xs) (suc place) all = all_at P xs place all.1

pub all_of_image : {X Y : Type 0} (P : Y → Type 0) (f : X → Y) → ((x : X) → P (f x)) → (xs : List X) → AllByRecursion P (map f xs)
all_of_image P f each [] = tt
all_of_image P f each (x ∷ xs) = (each x, all_of_image P f each xs)

-- ---- an inbox changes

pub names_kept : (By : List SeenMaint → List SeenMaint → Type 0) (name : NodeName) (old new : Inboxes) → ChangesNode name By old new
    → node_names new ≡ node_names old
names_kept By name old new change = ap node_names change.is ∙ names_set old change.place name change.from change.to change.stands

module _ (s : Settings) (pens : Pens) where
  abbrev AreFor : NodeName → List SeenMaint → Type 0
  AreFor name waiting = AllByRecursion (IsMessageFor s pens name) waiting

  change_kept : (By : List SeenMaint → List SeenMaint → Type 0) (name : NodeName) (old new : Inboxes) → ChangesNode name By old new
      → ((from to : List SeenMaint) → By from to → AreFor name from → AreFor name to) → AreInboxesOf s pens old → AreInboxesOf s pens new
  change_kept By name old new change keeps is =
      let was = is.messages change.place name change.from change.stands in
      record {
        names = names_kept By name old new change ∙ is.names;
        messages =
            subst (λ (xs : Inboxes). (place : ℕ) (called : NodeName) (waiting : List SeenMaint) → slice_get xs place ≡ Some (named called waiting)
            → AreFor called waiting)
            (sym change.is)
            (all_set AreFor old change.place name change.to is.messages (keeps change.from change.to change.by was));
      }

  -- one is taken out
  pub taken_kept : (name : NodeName) (place : ℕ) (message : Option SeenMaint) (old new : Inboxes) → ChangesNode name (TakesOut place message) old new
      → AreInboxesOf s pens old → AreInboxesOf s pens new
  taken_kept name place message old new change is =
      change_kept (TakesOut place message) name old new change
      (λ from to takes all. subst (AreFor name) (sym takes.rest) (all_removed (IsMessageFor s pens name) from place all)) is

  -- all of an inbox are
  pub lost_kept : (name : NodeName) (old new : Inboxes) → ChangesNode name LosesAll old new → AreInboxesOf s pens old → AreInboxesOf s pens new
  lost_kept name old new change is = change_kept LosesAll name old new change (λ from to none all. subst (AreFor name) (sym none) tt) is

  -- what waits at a place
  waiting_for : (name : NodeName) (place at : ℕ) (waiting : List SeenMaint) (message : Option SeenMaint) (inboxes : Inboxes)
      → slice_get inboxes at ≡ Some (named name waiting) → message ≡ slice_get waiting place → AreInboxesOf s pens inboxes
      → IfSome message (IsMessageFor s pens name)
  waiting_for name place at waiting message inboxes stands same is =
      subst (λ m. IfSome m (IsMessageFor s pens name)) (sym same) (all_at (IsMessageFor s pens name) waiting place (is.messages at name waiting stands))

  pub taken_for : (name : NodeName) (place : ℕ) (message : Option SeenMaint) (old new : Inboxes) → ChangesNode name (TakesOut place message) old new
      → AreInboxesOf s pens old → IfSome message (IsMessageFor s pens name)
  taken_for name place message old new change is =
      waiting_for name place change.place change.from message old change.stands change.by.message_is is

  -- ---- messages are sent

  sent_kept : (name : NodeName) (m : SeenMaint) (from to : List SeenMaint) → IsMessageFor s pens name m → IsSent m from to → AreFor name from → AreFor name to
  sent_kept name m from to is (inl sent) all =
      subst (AreFor name) (sym sent.1) (all_append (IsMessageFor s pens name) from (m ∷ []) all (is, tt))
  sent_kept name m from to is (inr lost) all = subst (AreFor name) (sym lost) all

  sends_kept : (names : List NodeName) (m : SeenMaint) (old new : Inboxes) → AllByRecursion (λ name. IsMessageFor s pens name m) names → Sends names m old new
      → AreInboxesOf s pens old → AreInboxesOf s pens new
  sends_kept [] m old new all same is = subst (AreInboxesOf s pens) (sym same) is
  sends_kept (name ∷ names) m old new all sends is =
      sends_kept names m sends.0 new all.1 sends.2
      (change_kept (IsSent m) name old sends.0 sends.1 (λ from to sent was. sent_kept name m from to all.0 sent was) is)

  -- who is notified of an entry serves its shard
  notified_serve : (states : NodeStates) (region shard : ℕ) (m : SeenMaint) → states.regions ≡ regions_of s → m.shard ≡ shard
      → ((name : NodeName) → serves_in_turn (regions_of s) name m.shard ≡ true → IsMessageFor s pens name m)
      → AllByRecursion (λ name. IsMessageFor s pens name m) (notified_of states region shard)
  notified_serve states region shard m own here is =
      let tiers = round_from 0 (tier_count states.regions region) in
      let serve : (tier : ℕ) → serves_in_turn (regions_of s) (serving_follower states.regions region tier shard) m.shard ≡ true =
      λ tier. eq-eqb (m.shard % follower_count (regions_of s) region tier) (shard % follower_count states.regions region tier)
      (ap (λ n. n % follower_count (regions_of s) region tier) here ∙ ap (λ (rs : List NodeCounts). shard % follower_count rs region tier) (sym own)) in
      all_filter (λ name. IsMessageFor s pens name m) (is_up states) (map (λ t. serving_follower states.regions region t shard) tiers)
      (all_of_image (λ name. IsMessageFor s pens name m) (λ t. serving_follower states.regions region t shard)
      (λ t. is (serving_follower states.regions region t shard) (serve t)) tiers)

  -- one node is notified, which serves the shard
  pub notify_kept : (name : NodeName) (shard : ℕ) (entry : Entry) (note : View) (old new : Inboxes) → shard < s.shards
      → serves_in_turn (regions_of s) name shard ≡ true → StandsIn note entry → LiesOn note shard entry
      → Sends (name ∷ []) (entry_message shard entry note) old new → IsSeen pens shard note → AreInboxesOf s pens old → AreInboxesOf s pens new
  notify_kept name shard entry note old new here serves stands lies sends seen is =
      let for : IsMessageFor s pens name (entry_message shard entry note) =
      record { here = here; serves = serves; seen = seen; names = is_maint entry shard note stands lies } in
      sends_kept (name ∷ []) (entry_message shard entry note) old new (for, tt) sends is

  pub send_kept : (states : NodeStates) (region shard : ℕ) (entry : Entry) (note : View) (old new : Inboxes) → states.regions ≡ regions_of s
      → shard < s.shards → StandsIn note entry → LiesOn note shard entry → Sends (notified_of states region shard) (entry_message shard entry note) old new
      → IsSeen pens shard note → AreInboxesOf s pens old → AreInboxesOf s pens new
  send_kept states region shard entry note old new own here stands lies sends seen is =
      let m = entry_message shard entry note in
      sends_kept (notified_of states region shard) m old new
      (notified_serve states region shard m own refl
      (λ name serves. record { here = here; serves = serves; seen = seen; names = is_maint entry shard note stands lies })) sends is

-- the message at a place of the inbox that code reads
pub waits_there : {E : Type 0} (inboxes : Inboxes) (name : NodeName) (place at : ℕ) (d : Named (List SeenMaint)) (r : Result (Option SeenMaint) E)
    → IsFirstAt name inboxes at
    → IfOk r (λ copy. copy ≡ slice_get (slice_index_or inboxes at d).node place) → IfOk r (λ copy. WaitsAt name place copy inboxes)
waits_there inboxes name place at d (Ok copy) first is = record {
  waiting = (slice_index_or inboxes at d).node;
  inbox = (at, first, named_stands inboxes name at d first);
  message_is = is;
}
waits_there inboxes name place at d (Err e) first is = tt

pub copied_for : {E : Type 0} (name : NodeName) (place : ℕ) (r : Result (Option SeenMaint) E) (inboxes : Inboxes)
    → IfOk r (λ copy. WaitsAt name place copy inboxes)
    → IfOk r (λ copy. (s : Settings) (pens : Pens) → AreInboxesOf s pens inboxes → IfSome copy (IsMessageFor s pens name))
copied_for name place (Ok copy) inboxes waits =
    λ s pens is. waiting_for s pens name place waits.inbox.0 waits.waiting copy inboxes waits.inbox.2 waits.message_is is
copied_for name place (Err e) inboxes waits = tt

-- ---- laws

named_cache : (s : Settings) (name : NodeName) → IsCacheOf s name → Contains (cache_names s) name
named_cache s (Store store) is = absurd is
named_cache s (Leader region index) is = Contains-append_left (leader_names s) (follower_names s) (Leader region index) is
named_cache s (Follower region tier index) is = Contains-append_right (leader_names s) (follower_names s) (Follower region tier index) is

pub inboxes_stay : (s : Settings) (pens : Pens) (inboxes : Inboxes) → InboxesStay s pens inboxes
inboxes_stay s pens inboxes = record {
  rises = λ later rise is. record {
    names = is.names;
    messages = λ place name waiting stands.
        all_map (IsMessageFor s pens name) (IsMessageFor s later name) (λ m for. messages_stay.rises s pens later name m rise for) waiting
        (is.messages place name waiting stands);
  };
  cache_has = λ name cache is. subst (λ names. Contains names name) (sym is.names) (named_cache s name cache);
}

-- ---- empty inboxes

names_empty : (names : List NodeName) → node_names (map no_messages names) ≡ names
names_empty [] = refl
names_empty (name ∷ names) = ap (λ ns. name ∷ ns) (names_empty names)

pub all_empty : (names : List NodeName) → AreEmpty (map no_messages names)
all_empty names = all_of_image (λ inbox. inbox.node ≡ []) no_messages (λ name. refl) names

-- an inbox without messages has none
pub empty_at : (inboxes : Inboxes) (place : ℕ) (name : NodeName) (waiting : List SeenMaint) → AreEmpty inboxes
    → slice_get inboxes place ≡ Some (named name waiting) → waiting ≡ []
empty_at [] place name waiting all stands = absurd (cc)
empty_at (inbox ∷ inboxes) zero name waiting all stands =
    sym (ap (λ n. n.node) (one_some inbox (named name waiting) stands)) ∙ all.0
empty_at (inbox ∷ inboxes) (suc place) name waiting all stands = empty_at inboxes place name waiting all.1 stands

none_waits : (names : List NodeName) (place : ℕ) (name : NodeName) (waiting : List SeenMaint)
    → slice_get (map no_messages names) place ≡ Some (named name waiting) → [] ≡ waiting
none_waits [] place name waiting stands = absurd (cc)
none_waits (n ∷ ns) zero name waiting stands = ap (λ inbox. inbox.node) (one_some (no_messages n) (named name waiting) stands)
none_waits (n ∷ ns) (suc place) name waiting stands = none_waits ns place name waiting stands

pub empty_of : (s : Settings) (names : List NodeName) (pens : Pens) → names ≡ cache_names s → AreInboxesOf s pens (map no_messages names)
empty_of s names pens all = record {
  names = names_empty names ∙ all;
  messages = λ place name waiting stands. subst (AllByRecursion (IsMessageFor s pens name)) (none_waits names place name waiting stands) tt;
}

-- ---- inboxes are cleared

-- one more inbox is
pub clears_more : (xs ys : Inboxes) (place : ℕ) (inbox : Named (List SeenMaint)) (left : List SeenMaint) → place < length xs
    → ys ≡ map cleared (take place xs) ++ drop place xs → inbox ≡ slice_index_or ys place inbox → left ≡ []
    → slice_set ys place (named (slice_index_or ys place inbox).name left) ≡ map cleared (take (place + 1) xs) ++ drop (place + 1) xs
clears_more xs ys place inbox left lt so_far is none =
    let next : cleared inbox ≡ named (slice_index_or ys place inbox).name left =
    ap (λ (n : Named (List SeenMaint)). no_messages n.name) is ∙ ap (named (slice_index_or ys place inbox).name) (sym none) in
    ap (slice_set ys place) (sym next) ∙ map_over_more cleared xs ys place inbox lt so_far is

names_cleared : (inboxes : Inboxes) → node_names (map cleared inboxes) ≡ node_names inboxes
names_cleared [] = refl
names_cleared (inbox ∷ inboxes) = ap (λ names. inbox.name ∷ names) (names_cleared inboxes)

none_left : (inboxes : Inboxes) (place : ℕ) (name : NodeName) (waiting : List SeenMaint) → slice_get (map cleared inboxes) place ≡ Some (named name waiting)
    → [] ≡ waiting
none_left [] place name waiting stands = absurd (cc)
none_left (inbox ∷ inboxes) zero name waiting stands = ap (λ n. n.node) (one_some (cleared inbox) (named name waiting) stands)
none_left (inbox ∷ inboxes) (suc place) name waiting stands = none_left inboxes place name waiting stands

-- what clearing leaves
pub record IsCleared (old new : Inboxes) : Type 0 where
  pub empty : AreEmpty new
  pub names : node_names new ≡ node_names old
  pub of : (s : Settings) (pens : Pens) → AreInboxesOf s pens old → AreInboxesOf s pens new

pub all_cleared : (old new : Inboxes) → new ≡ map cleared old → IsCleared old new
all_cleared old new is = subst (IsCleared old) (sym is) (record {
  empty = all_of_image (λ inbox. inbox.node ≡ []) cleared (λ inbox. refl) old;
  names = names_cleared old;
  of = λ s pens of. record {
    names = names_cleared old ∙ of.names;
    messages = λ place name waiting stands.
        subst (AllByRecursion (IsMessageFor s pens name)) (none_left old place name waiting stands) tt;
  };
})
