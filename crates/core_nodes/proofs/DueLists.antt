-- What is due to several nodes, one after another, and region by region.
use Rattle.std.proofs.Common.{◌≡◌, ℕ, zero, suc, ◌+◌, ◌<◌, ◌≤◌, ◌++◌, Bool, true, false, List, [], ◌∷◌, drop, length, take, Ok, Err, Result, Some, refl, ap}
use Rattle.std.proofs.Common.{sym, ◌∙◌, subst, inl, inr, arith}
use Rattle.std.proofs.lemmas.Bool.{and_parts, cases_Bool, eqb-true, ltb-true}
use Rattle.std.proofs.lemmas.Grind.{flat_map-append}
use Rattle.std.proofs.lemmas.List.{append-nil, append_assoc}
use Rattle.std.specs.List.{range_with_len}
use Rattle.std.specs.Prelude.{⊤, ◌==◌, flat_map, nat_lt, slice_get, slice_set}
use Rattle.cache_items.specs.Node.{Node}
use Rattle.follower_cache.specs.Seen.{FollowerState}
use Rattle.follower_cache.specs.declared.queue.Refill.{Refill}
use Rattle.graph_model.proofs.Members.{IsIn}
use Rattle.graph_model.specs.Told.{WhereTold}
use Rattle.node_name.specs.declared.NodeName.{NodeName}
use Rattle.tao_keeper.specs.Table.{Tables}
use Rattle.tao_link.specs.Shown.{LinkShown}
use Rattle.topology.specs.Config.{Settings}
use Rattle.topology.specs.States.{NodeStates, is_up}
use Rattle.core_model.proofs.Places.{get_set, one_some}
use Rattle.core_model.specs.Fleet.{node_names, region_of}
use Rattle.core_model.specs.Pens.{Pens}
use Rattle.core_model.specs.declared.named.Named.{Named}
use Rattle.node_stages.specs.Caches.{follower_node, follower_refills, leader_node, leader_refills}
use Rattle.core_nodes.specs.Dues.{AllCaches, Due, EachKeepsBut, KeepsBut, LeavesDues, LogEnds, MeetsDues, after_carries, all_caches, dues_in}
use Rattle.core_nodes.specs.Dues.{dues_in_region, dues_in_regions, dues_in_turn, dues_of_all}
use Rattle.core_nodes.specs.Settling.{CachesGoOn, SeenLogs, is_turn, seen_logs}
use Rattle.core_nodes.specs.declared.settling.SettleStop.{SettleStop}
use Rattle.core_nodes.proofs.CachesLemmas.{had_turn}
use Rattle.core_nodes.proofs.DueLemmas.{AllMet, all_met, after_more, cut_at, meets_all, meets_less, meets_then, range_more}
use Rattle.core_nodes.proofs.DueNodes.{keeps_after, keeps_more, keeps_same, keeps_then}
use Rattle.core_nodes.proofs.MadeNames.{numbers_in}

-- ---- lists

-- a list about one of its places, and what it is with another element there
pub record SplitAt {X : Type 0} (xs : List X) (at : ℕ) (x y : X) : Type 0 where
  pub taken : take (suc at) xs ≡ take at xs ++ x ∷ []
  pub whole : xs ≡ take at xs ++ x ∷ drop (suc at) xs
  pub set_taken : take (suc at) (slice_set xs at y) ≡ take at xs ++ y ∷ []
  pub set_dropped : drop (suc at) (slice_set xs at y) ≡ drop (suc at) xs
  pub set_whole : slice_set xs at y ≡ take at xs ++ y ∷ drop (suc at) xs

split_at : {X : Type 0} (xs : List X) (at : ℕ) (x y : X) → slice_get xs at ≡ Some x → SplitAt xs at x y
split_at [] at x y here = absurd (cc)
split_at (z ∷ zs) zero x y here =
    let e : z ≡ x = cc in
    record {
      taken = ap (λ w. w ∷ []) e;
      whole = ap (λ w. w ∷ zs) e;
      set_taken = refl;
      set_dropped = refl;
      set_whole = refl;
    }
split_at (z ∷ zs) (suc at) x y here =
    let rest = split_at zs at x y here in
    record {
      taken = ap (λ ws. z ∷ ws) rest.taken;
      whole = ap (λ ws. z ∷ ws) rest.whole;
      set_taken = ap (λ ws. z ∷ ws) rest.set_taken;
      set_dropped = rest.set_dropped;
      set_whole = ap (λ ws. z ∷ ws) rest.set_whole;
    }

drop_next : {X : Type 0} (at : ℕ) (xs : List X) → drop (suc at) xs ≡ drop 1 (drop at xs)
drop_next zero xs = refl
drop_next (suc at) [] = refl
drop_next (suc at) (x ∷ xs) = drop_next at xs

take_whole : {X : Type 0} (at : ℕ) (xs : List X) → length xs ≤ at → take at xs ≡ xs
take_whole zero [] all = refl
take_whole (suc at) [] all = refl
take_whole zero (x ∷ xs) all = absurd (omega (arith, all))
take_whole (suc at) (x ∷ xs) all = ap (λ ys. x ∷ ys) (take_whole at xs (omega (arith, all)))

flat_alike : {X Y : Type 0} (f g : X → List Y) (xs : List X) → ((x : X) → IsIn x xs → f x ≡ g x) → flat_map f xs ≡ flat_map g xs
flat_alike f g [] alike = refl
flat_alike f g (x ∷ xs) alike = ap (λ ys. ys ++ flat_map f xs) (alike x (inl refl)) ∙ ap (λ ys. g x ++ ys) (flat_alike f g xs (λ z h. alike z (inr h)))

cons_parts : {X : Type 0} (x y : X) (xs ys : List X) → x ∷ xs ≡ y ∷ ys → (x ≡ y) × (xs ≡ ys)
cons_parts x y xs ys same = (cc, cc)

-- ---- one list of nodes

-- each node whose turn it isn't is as it was
pub record StaysUnturned {N : Type 0} (turn : NodeName → Bool) (old new : List (Named N)) : Type 0 where
  pub names : node_names new ≡ node_names old
  pub stays : (place : ℕ) (from to : Named N) → slice_get old place ≡ Some from → slice_get new place ≡ Some to → turn from.name ≡ false → to ≡ from

pub unturned_stay : {N : Type 0} (node : N → Node) (refills : N → List Refill) (logs : SeenLogs) (turn : NodeName → Bool) (old new : List (Named N))
    → CachesGoOn node refills logs turn old new → StaysUnturned turn old new
unturned_stay {N} node refills logs turn old new on = record {
  names = on.names;
  stays = λ place from to stood at off.
      let was = on.each place to at in
      let same : was.0 ≡ from = one_some was.0 from (sym was.1 ∙ stood) in
      was.2.same (ap (λ (c : Named N). turn c.name) same ∙ off) ∙ same;
}

module _ {N : Type 0} (node : N → Node) where
  pub each_same : (met : List Due) (cs : List (Named N)) → EachKeepsBut node met cs cs
  each_same met cs place from to stood at =
      let same : from ≡ to = one_some from to (sym stood ∙ at) in
      subst (λ (c : Named N). KeepsBut node met from c) same (keeps_same node met from)

  pub each_more : (first more : List Due) (old new : List (Named N)) → EachKeepsBut node first old new → EachKeepsBut node (first ++ more) old new
  each_more first more old new keeps place from to stood at = keeps_more node first more from to (keeps place from to stood at)

  pub each_after : (first more : List Due) (old new : List (Named N)) → EachKeepsBut node more old new → EachKeepsBut node (first ++ more) old new
  each_after first more old new keeps place from to stood at = keeps_after node first more from to (keeps place from to stood at)

  one_keeps : (first more : List Due) (at : ℕ) (start now : List (Named N)) (from to : Named N) → EachKeepsBut node first start now
      → slice_get now at ≡ Some from → KeepsBut node more from to → EachKeepsBut node (first ++ more) start (slice_set now at to)
  one_keeps first more at start now from to was here keeps place x y stood found = elim (get_set now at to place y found) [
    | inl e ↦ keeps_more node first more x y (was place x y stood e.1)
    | inr e ↦ subst (λ (c : Named N). KeepsBut node (first ++ more) x c) e.1
        (keeps_then node first more x from to (was place x from stood (ap (slice_get now) e.0 ∙ here)) keeps)
  ]

  -- one after another of two lists that are the same but for nodes that stay
  pub each_then : (first more : List Due) (a b c : List (Named N)) → EachKeepsBut node first a b → EachKeepsBut node more b c
      → ((place : ℕ) (to : Named N) → slice_get c place ≡ Some to → (mid : Named N) × (slice_get b place ≡ Some mid))
      → EachKeepsBut node (first ++ more) a c
  each_then first more a b c was keeps between place from to stood at =
      let mid = between place to at in
      keeps_then node first more from mid.0 to (was place from mid.0 stood mid.1) (keeps place mid.0 to mid.1 at)

  module _ (ends : LogEnds) (turn : NodeName → Bool) where
    abbrev Dues : List (Named N) → List Due
    Dues cs = dues_in node ends turn cs

    abbrev Own : Named N → List Due
    Own c = dues_in_turn node ends turn c

    dues_one : (cs : List (Named N)) (c : Named N) → Dues (cs ++ c ∷ []) ≡ Dues cs ++ Own c
    dues_one cs c = flat_map-append Own cs (c ∷ []) ∙ ap (λ ds. Dues cs ++ ds) (append-nil (Own c))

    dues_about : (cs ds : List (Named N)) (c : Named N) → Dues (cs ++ c ∷ ds) ≡ (Dues cs ++ Own c) ++ Dues ds
    dues_about cs ds c = flat_map-append Own cs (c ∷ ds) ∙ sym (append_assoc (Dues cs) (Own c) (Dues ds))

    -- to the nodes before the place all was met, and those from there on are as they were
    abbrev pub FirstMet : ℕ → List (Named N) → List (Named N) → LinkShown → LinkShown → Type 0
    FirstMet at start now from to =
        AllMet (Dues (take at start)) from to
        (λ met left. EachKeepsBut node met start now × (drop at now ≡ drop at start) × WhereTold ends.tells (Dues (take at now) ≡ left))

    pub first_met_none : (cs : List (Named N)) (link : LinkShown) → FirstMet 0 cs cs link link
    first_met_none cs link = record { link = refl; leaves = (each_same [] cs, refl, λ told. refl) }

    module _ (at : ℕ) (start now : List (Named N)) (old new : Named N) (from mid to : LinkShown) (was : FirstMet at start now from mid)
        (here : slice_get now at ≡ Some old) (stood : slice_get start at ≡ Some old) where
      abbrev LeavesOwn : List Due → List Due → Type 0
      LeavesOwn met left = KeepsBut node met old new × WhereTold ends.tells (Own new ≡ left)

      rest_same : drop (suc at) now ≡ drop (suc at) start
      rest_same = drop_next at now ∙ ap (drop 1) was.leaves.1 ∙ sym (drop_next at start)

      -- one more
      pub first_met_next : (done : ⊤) → MeetsDues (Own old) (Ok done) mid to LeavesOwn → FirstMet (at + 1) start (slice_set now at new) from to
      first_met_next done meets =
          let met = all_met (Own old) done mid to LeavesOwn meets in
          let next : suc at ≡ at + 1 = omega arith in
          let began = split_at start at old old stood in
          let stands = split_at now at old new here in
          let all : Dues (take at start) ++ Own old ≡ Dues (take (suc at) start) = sym (ap Dues began.taken ∙ dues_one (take at start) old) in
          let link : to ≡ after_carries (Dues (take at start) ++ Own old) from =
          met.link ∙ ap (after_carries (Own old)) was.link ∙ sym (after_more (Dues (take at start)) (Own old) from) in
          subst (λ n. FirstMet n start (slice_set now at new) from to) next (record {
            link = subst (λ ds. to ≡ after_carries ds from) all link;
            leaves = (
              subst (λ ds. EachKeepsBut node ds start (slice_set now at new)) all
                  (one_keeps (Dues (take at start)) (Own old) at start now old new was.leaves.0 here met.leaves.0),
              stands.set_dropped ∙ rest_same,
              λ told. ap Dues stands.set_taken ∙ dues_one (take at now) new ∙ ap (λ ds. ds ++ Own new) (was.leaves.2 told) ∙ met.leaves.1 told,
            );
          })

      -- it stops at this one
      pub stops_in_list : (stop : SettleStop) → MeetsDues (Own old) (Err stop) mid to LeavesOwn
          → MeetsDues (Dues start) (Err stop) from to
          (λ met left. EachKeepsBut node met start (slice_set now at new) × WhereTold ends.tells (Dues (slice_set now at new) ≡ left))
      stops_in_list stop meets =
          let began = split_at start at old old stood in
          let stands = split_at now at old new here in
          let last : List (Named N) = slice_set now at new in
          let whole : Dues start ≡ (Dues (take at start) ++ Own old) ++ Dues (drop (suc at) start) =
          ap Dues began.whole ∙ dues_about (take at start) (drop (suc at) start) old in
          let left_whole : Dues last ≡ (Dues (take at now) ++ Own new) ++ Dues (drop (suc at) now) =
          ap Dues stands.set_whole ∙ dues_about (take at now) (drop (suc at) now) new in
          let so_far = meets_then (Dues (take at start)) (Own old) (Err stop) from mid to LeavesOwn
          (λ met left. EachKeepsBut node met start last × WhereTold ends.tells (Dues (take at now) ++ Own new ≡ left)) was.link meets
          (λ met left more. (
            one_keeps (Dues (take at start)) met at start now old new was.leaves.0 here more.0,
            λ told. ap (λ ds. ds ++ Own new) (was.leaves.2 told) ∙ more.1 told,
          )) in
          subst (λ ds. MeetsDues ds (Err stop) from to (λ met left. EachKeepsBut node met start last × WhereTold ends.tells (Dues last ≡ left))) (sym whole)
          (meets_less (Dues (take at start) ++ Own old) (Dues (drop (suc at) start)) stop from to
          (λ met left. EachKeepsBut node met start last × WhereTold ends.tells (Dues (take at now) ++ Own new ≡ left))
          (λ met left. EachKeepsBut node met start last × WhereTold ends.tells (Dues last ≡ left)) so_far
          (λ met left less. (
            less.0,
            λ told. left_whole ∙ ap (λ ds. ds ++ Dues (drop (suc at) now)) (less.1 told) ∙ ap (λ cs. left ++ Dues cs) rest_same,
          )))

    -- all
    pub list_met : (at : ℕ) (start now : List (Named N)) (done : ⊤) (from to : LinkShown) → length start ≤ at → length now ≤ at
        → FirstMet at start now from to
        → MeetsDues (Dues start) (Ok done) from to (λ met left. EachKeepsBut node met start now × WhereTold ends.tells (Dues now ≡ left))
    list_met at start now done from to all long was =
        let began = take_whole at start all in
        let stands = take_whole at now long in
        meets_all (Dues start) done from to (λ met left. EachKeepsBut node met start now × WhereTold ends.tells (Dues now ≡ left))
        (subst (λ cs. to ≡ after_carries (Dues cs) from) began was.link)
        (subst (λ cs. EachKeepsBut node (Dues cs) start now) began was.leaves.0, λ told. ap Dues (sym stands) ∙ was.leaves.2 told)

    -- the same is due, where those whose turn it is stay as they were
    pub dues_stay : (other : NodeName → Bool) (old new : List (Named N)) → StaysUnturned other old new
        → ((name : NodeName) → turn name ≡ true → other name ≡ false) → Dues new ≡ Dues old
    dues_stay other old new unturned apart =
        by_places old new unturned.names (λ place from to stood at on. unturned.stays place from to stood at (apart from.name on))
      where
        same_own : (a b : Named N) → b.name ≡ a.name → (turn a.name ≡ true → b ≡ a) → Own b ≡ Own a
        same_own a b named same = elim (cases_Bool (turn a.name)) [
          | inl on ↦ ap Own (same on)
          | inr off ↦ (let none : turn b.name ≡ false = ap turn named ∙ off in rw (off, none) refl)
        ]

        by_places : (old new : List (Named N)) → node_names new ≡ node_names old
            → ((place : ℕ) (a b : Named N) → slice_get old place ≡ Some a → slice_get new place ≡ Some b → turn a.name ≡ true → b ≡ a)
            → Dues new ≡ Dues old
        by_places [] [] names same = refl
        by_places [] (b ∷ bs) names same = absurd (cc)
        by_places (a ∷ more) [] names same = absurd (cc)
        by_places (a ∷ more) (b ∷ bs) names same =
            let parts = cons_parts b.name a.name (node_names bs) (node_names more) names in
            ap (λ ds. ds ++ Dues bs) (same_own a b parts.0 (same 0 a b refl refl))
            ∙ ap (λ ds. Own a ++ ds) (by_places more bs parts.1 (λ place. same (suc place)))

-- ---- a region

module _ (ends : LogEnds) (states : NodeStates) (region : ℕ) where
  abbrev OfRegion : AllCaches → List Due
  OfRegion nodes = dues_in_region ends states region nodes

  abbrev ToLeaders : List (Named Node) → List Due
  ToLeaders ls = dues_in leader_node ends (is_turn states region) ls

  abbrev ToFollowers : List (Named FollowerState) → List Due
  ToFollowers fs = dues_in follower_node ends (is_turn states region) fs

  -- it stops among the leaders
  pub stops_at_leaders : (ls ms : List (Named Node)) (fs : List (Named FollowerState)) (stop : SettleStop) (from to : LinkShown)
      → MeetsDues (ToLeaders ls) (Err stop) from to (λ met left. EachKeepsBut leader_node met ls ms × WhereTold ends.tells (ToLeaders ms ≡ left))
      → MeetsDues (OfRegion (all_caches ls fs)) (Err stop) from to (LeavesDues ends.tells OfRegion (all_caches ls fs) (all_caches ms fs))
  stops_at_leaders ls ms fs stop from to meets =
      meets_less (ToLeaders ls) (ToFollowers fs) stop from to
      (λ met left. EachKeepsBut leader_node met ls ms × WhereTold ends.tells (ToLeaders ms ≡ left))
      (LeavesDues ends.tells OfRegion (all_caches ls fs) (all_caches ms fs)) meets
      (λ met left less. record {
        leaders = less.0;
        followers = each_same follower_node met fs;
        still = λ told. ap (λ ds. ds ++ ToFollowers fs) (less.1 told);
      })

  -- the followers come after the leaders
  pub then_followers : (ls ms : List (Named Node)) (fs gs : List (Named FollowerState)) (done : ⊤) (r : Result ⊤ SettleStop) (from mid to : LinkShown)
      → MeetsDues (ToLeaders ls) (Ok done) from mid (λ met left. EachKeepsBut leader_node met ls ms × WhereTold ends.tells (ToLeaders ms ≡ left))
      → MeetsDues (ToFollowers fs) r mid to (λ met left. EachKeepsBut follower_node met fs gs × WhereTold ends.tells (ToFollowers gs ≡ left))
      → MeetsDues (OfRegion (all_caches ls fs)) r from to (LeavesDues ends.tells OfRegion (all_caches ls fs) (all_caches ms gs))
  then_followers ls ms fs gs done r from mid to first meets =
      let met_first = all_met (ToLeaders ls) done from mid
      (λ met left. EachKeepsBut leader_node met ls ms × WhereTold ends.tells (ToLeaders ms ≡ left)) first in
      meets_then (ToLeaders ls) (ToFollowers fs) r from mid to
      (λ met left. EachKeepsBut follower_node met fs gs × WhereTold ends.tells (ToFollowers gs ≡ left))
      (LeavesDues ends.tells OfRegion (all_caches ls fs) (all_caches ms gs)) met_first.link meets
      (λ met left more. record {
        leaders = each_more leader_node (ToLeaders ls) met ls ms met_first.leaves.0;
        followers = each_after follower_node (ToLeaders ls) met fs gs more.0;
        still = λ told. ap (λ ds. ds ++ ToFollowers gs) (met_first.leaves.1 told) ∙ more.1 told;
      })

-- ---- region by region

-- of all leaders and followers each whose turn it isn't is as it was
pub record AllStayUnturned (turn : NodeName → Bool) (old new : AllCaches) : Type 0 where
  pub leaders : StaysUnturned turn old.leaders new.leaders
  pub followers : StaysUnturned turn old.followers new.followers

turn_region : (states : NodeStates) (region : ℕ) (name : NodeName) → is_turn states region name ≡ true → region_of name ≡ region
turn_region states region name on = eqb-true (region_of name) region (and_parts (region_of name == region) (is_up states name) on).0

-- a region has had no turn before its own
not_yet : (states : NodeStates) (region before : ℕ) (name : NodeName) → before ≤ region → is_turn states region name ≡ true
    → had_turn states before name ≡ false
not_yet states region before name least on = elim (cases_Bool (had_turn states before name)) [
  | inl had ↦ (
      let lt = ltb-true (region_of name) before (and_parts (nat_lt (region_of name) before) (is_up states name) had).0 in
      let here = turn_region states region name on in
      absurd (omega (arith, lt, here, least)))
  | inr off ↦ off
]

-- nor is it another's turn in its own
other_turn : (states : NodeStates) (region other : ℕ) (name : NodeName) → (other ≡ region → ⊥) → is_turn states region name ≡ true
    → is_turn states other name ≡ false
other_turn states region other name differ on = elim (cases_Bool (is_turn states other name)) [
  | inl also ↦ absurd (differ (sym (turn_region states other name also) ∙ turn_region states region name on))
  | inr off ↦ off
]

module _ (ends : LogEnds) (states : NodeStates) where
  abbrev Of : ℕ → AllCaches → List Due
  Of region nodes = dues_in_region ends states region nodes

  abbrev OfAll : List ℕ → AllCaches → List Due
  OfAll regions nodes = dues_in_regions ends states regions nodes

  region_stays : (other : NodeName → Bool) (region : ℕ) (old new : AllCaches) → AllStayUnturned other old new
      → ((name : NodeName) → is_turn states region name ≡ true → other name ≡ false) → Of region new ≡ Of region old
  region_stays other region old new unturned apart =
      ap (λ ds. ds ++ dues_in follower_node ends (is_turn states region) new.followers)
      (dues_stay leader_node ends (is_turn states region) other old.leaders new.leaders unturned.leaders apart)
      ∙ ap (λ ds. dues_in leader_node ends (is_turn states region) old.leaders ++ ds)
      (dues_stay follower_node ends (is_turn states region) other old.followers new.followers unturned.followers apart)

  -- in the regions before this all was met
  abbrev pub RegionsMet : ℕ → AllCaches → AllCaches → LinkShown → LinkShown → Type 0
  RegionsMet region start now from to =
      AllMet (OfAll (range_with_len 0 region) start) from to (LeavesDues ends.tells (OfAll (range_with_len 0 region)) start now)

  pub regions_none : (nodes : AllCaches) (link : LinkShown) → RegionsMet 0 nodes nodes link link
  regions_none nodes link = record {
    link = refl;
    leaves = record {
      leaders = each_same leader_node [] nodes.leaders;
      followers = each_same follower_node [] nodes.followers;
      still = λ told. refl;
    };
  }

  module _ (region : ℕ) (start now new : AllCaches) (from mid to : LinkShown) (was : RegionsMet region start now from mid)
      (had : AllStayUnturned (had_turn states region) start now) (turned : AllStayUnturned (is_turn states region) now new)
      (leaders_stand : (place : ℕ) (c : Named Node) → slice_get new.leaders place ≡ Some c → (b : Named Node) × (slice_get now.leaders place ≡ Some b))
      (followers_stand : (place : ℕ) (c : Named FollowerState) → slice_get new.followers place ≡ Some c
      → (b : Named FollowerState) × (slice_get now.followers place ≡ Some b)) where
    abbrev Before : AllCaches → List Due
    Before nodes = OfAll (range_with_len 0 region) nodes

    same_region : Of region now ≡ Of region start
    same_region = region_stays (had_turn states region) region start now had (λ name. not_yet states region region name (omega arith))

    -- the regions before are as they were
    before_stays : Before new ≡ Before now
    before_stays =
        flat_alike (λ r. Of r new) (λ r. Of r now) (range_with_len 0 region)
        (λ r h. region_stays (is_turn states region) r now new turned
        (λ name. other_turn states r region name (λ same. let lt = (numbers_in 0 region r h).1 in omega (arith, same, lt))))

    keeps_on : (due : AllCaches → List Due) (met left : List Due) → LeavesDues ends.tells (Of region) now new met left
        → WhereTold ends.tells (due new ≡ left) → LeavesDues ends.tells due start new (Before start ++ met) left
    keeps_on due met left more still = record {
      leaders = each_then leader_node (Before start) met start.leaders now.leaders new.leaders was.leaves.leaders more.leaders leaders_stand;
      followers = each_then follower_node (Before start) met start.followers now.followers new.followers was.leaves.followers more.followers
          followers_stand;
      still = still;
    }

    before_met : WhereTold ends.tells (Before new ≡ [])
    before_met told = before_stays ∙ was.leaves.still told

    -- one more region
    pub regions_next : (done : ⊤) → MeetsDues (Of region now) (Ok done) mid to (LeavesDues ends.tells (Of region) now new)
        → RegionsMet (region + 1) start new from to
    regions_next done meets =
        let met = all_met (Of region now) done mid to (LeavesDues ends.tells (Of region) now new) meets in
        let next : suc region ≡ region + 1 = omega arith in
        let same : 0 + region ≡ region = omega arith in
        let one : (nodes : AllCaches) → OfAll (range_with_len 0 (suc region)) nodes ≡ Before nodes ++ Of region nodes =
        λ nodes. ap (λ rs. OfAll rs nodes) (range_more 0 region ∙ ap (λ n. range_with_len 0 region ++ n ∷ []) same)
        ∙ flat_map-append (λ r. Of r nodes) (range_with_len 0 region) (region ∷ []) ∙ ap (λ ds. Before nodes ++ ds) (append-nil (Of region nodes)) in
        let all : Before start ++ Of region now ≡ OfAll (range_with_len 0 (suc region)) start =
        ap (λ ds. Before start ++ ds) same_region ∙ sym (one start) in
        let link : to ≡ after_carries (Before start ++ Of region now) from =
        met.link ∙ ap (after_carries (Of region now)) was.link ∙ sym (after_more (Before start) (Of region now) from) in
        let leaves = keeps_on (OfAll (range_with_len 0 (suc region))) (Of region now) [] met.leaves
        (λ told. one new ∙ ap (λ ds. ds ++ Of region new) (before_met told) ∙ met.leaves.still told) in
        subst (λ n. RegionsMet n start new from to) next (record {
          link = subst (λ ds. to ≡ after_carries ds from) all link;
          leaves = subst (λ ds. LeavesDues ends.tells (OfAll (range_with_len 0 (suc region))) start new ds []) all leaves;
        })

    -- it stops in the region
    pub stops_in_region : (count : ℕ) (stop : SettleStop) → region < count → AllStayUnturned (had_turn states (region + 1)) start new
        → MeetsDues (Of region now) (Err stop) mid to (LeavesDues ends.tells (Of region) now new)
        → MeetsDues (OfAll (range_with_len 0 count) start) (Err stop) from to
        (LeavesDues ends.tells (OfAll (range_with_len 0 count)) start new)
    stops_in_region count stop lt rest meets =
        let cut = cut_at 0 count region lt in
        let same : 0 + region ≡ region = omega arith in
        let is : range_with_len 0 count ≡ range_with_len 0 region ++ region ∷ cut.above =
        cut.is ∙ ap (λ n. range_with_len 0 region ++ n ∷ cut.above) same in
        let whole : (nodes : AllCaches) → OfAll (range_with_len 0 count) nodes ≡ (Before nodes ++ Of region nodes) ++ OfAll cut.above nodes =
        λ nodes. ap (λ rs. OfAll rs nodes) is ∙ flat_map-append (λ r. Of r nodes) (range_with_len 0 region) (region ∷ cut.above)
        ∙ sym (append_assoc (Before nodes) (Of region nodes) (OfAll cut.above nodes)) in
        let above : OfAll cut.above new ≡ OfAll cut.above start =
        flat_alike (λ r. Of r new) (λ r. Of r start) cut.above
        (λ r h. region_stays (had_turn states (region + 1)) r start new rest
        (λ name. not_yet states r (region + 1) name (let over = cut.are_above r h in omega arith))) in
        let here : MeetsDues (Of region start) (Err stop) mid to (LeavesDues ends.tells (Of region) now new) =
        subst (λ ds. MeetsDues ds (Err stop) mid to (LeavesDues ends.tells (Of region) now new)) same_region meets in
        let so_far = meets_then (Before start) (Of region start) (Err stop) from mid to (LeavesDues ends.tells (Of region) now new)
        (LeavesDues ends.tells (λ nodes. Before nodes ++ Of region nodes) start new) was.link here
        (λ met left more. keeps_on (λ nodes. Before nodes ++ Of region nodes) met left more
        (λ told. ap (λ ds. ds ++ Of region new) (before_met told) ∙ more.still told)) in
        subst (λ ds. MeetsDues ds (Err stop) from to (LeavesDues ends.tells (OfAll (range_with_len 0 count)) start new)) (sym (whole start))
        (meets_less (Before start ++ Of region start) (OfAll cut.above start) stop from to
        (LeavesDues ends.tells (λ nodes. Before nodes ++ Of region nodes) start new)
        (LeavesDues ends.tells (OfAll (range_with_len 0 count)) start new) so_far
        (λ met left less. record {
          leaders = less.leaders;
          followers = less.followers;
          still = λ told. whole new ∙ ap (λ ds. ds ++ OfAll cut.above new) (less.still told) ∙ ap (λ ds. left ++ ds) above;
        }))

  -- all regions
  pub regions_all : (region : ℕ) (start now : AllCaches) (done : ⊤) (from to : LinkShown) → region ≡ length ends.settings.regions
      → RegionsMet region start now from to
      → MeetsDues (dues_of_all ends states start) (Ok done) from to (LeavesDues ends.tells (dues_of_all ends states) start now)
  regions_all region start now done from to all was =
      let whole = subst (λ n. RegionsMet n start now from to) all was in
      meets_all (dues_of_all ends states start) done from to (LeavesDues ends.tells (dues_of_all ends states) start now) whole.link whole.leaves

-- ---- what came of what was due

-- to a list of nodes
abbrev pub ListMeets : {N : Type 0} → (N → Node) → LogEnds → (NodeName → Bool) → List (Named N) → List (Named N) → Result ⊤ SettleStop → LinkShown
    → LinkShown → Type 0
ListMeets node ends turn old new r from to =
    MeetsDues (dues_in node ends turn old) r from to
    (λ met left. EachKeepsBut node met old new × WhereTold ends.tells (dues_in node ends turn new ≡ left))

-- to leaders and followers
abbrev pub CachesMeet : Bool → (AllCaches → List Due) → AllCaches → AllCaches → Result ⊤ SettleStop → LinkShown → LinkShown → Type 0
CachesMeet tells due old new r from to = MeetsDues (due old) r from to (LeavesDues tells due old new)

-- those whose turn it isn't stay
pub both_unturned : (tells : Bool) (s : Settings) (tables : Tables) (pens : Pens) (turn : NodeName → Bool) (ls ms : List (Named Node))
    (fs gs : List (Named FollowerState)) → CachesGoOn leader_node leader_refills (seen_logs tells s tables pens) turn ls ms
    → CachesGoOn follower_node follower_refills (seen_logs tells s tables pens) turn fs gs
    → AllStayUnturned turn (all_caches ls fs) (all_caches ms gs)
both_unturned tells s tables pens turn ls ms fs gs leaders followers = record {
  leaders = unturned_stay leader_node leader_refills (seen_logs tells s tables pens) turn ls ms leaders;
  followers = unturned_stay follower_node follower_refills (seen_logs tells s tables pens) turn fs gs followers;
}
