-- Which nodes lie behind a cut, what becomes of them, and that none does afterwards.
use Rattle.std.proofs.Common.{◌≡◌, ◌⊎◌, ℕ, ◌≤◌, ◌<◌, Bool, true, List, [], ◌∷◌, Option, Some, refl, ap, sym, subst, ◌∙◌, inl, inr, arith}
use Rattle.std.proofs.lemmas.Bool.{and_from, and_parts, cases_Bool, eq-eqb, eqb-true, ltb-false}
use Rattle.std.specs.List.{AllByRecursion}
use Rattle.std.specs.Option.{option_map_or}
use Rattle.std.specs.Prelude.{◌==◌, filter, length, nat_lt, slice_get, slice_set}
use Rattle.std.proofs.lemmas.List.Elements.{recursion_from_All}
use Rattle.graph_model.proofs.Later.{all_map}
use Rattle.graph_model.proofs.Members.{All-from_in, IsIn, in_append_cases, in_append_left, in_append_right, in_filter, in_filter_parts, in_map_parts}
use Rattle.cache_items.specs.Node.{Node}
use Rattle.cache_node.specs.True.{IsServed}
use Rattle.follower_cache.specs.Seen.{FollowerState}
use Rattle.node_name.specs.declared.NodeName.{NodeName}
use Rattle.node_name.specs.declared.NodeName.TheVariants.{Store as StoreName_, Leader, Follower}
use Rattle.served_shards.specs.Served.{ServedShard, low_at, served_at}
use Rattle.tao_base.specs.declared.id.StoreName.{StoreName}
use Rattle.tao_keeper.specs.Table.{Becomes, Tables, after_cut}
use Rattle.topology.specs.Config.{Settings}
use Rattle.core_model.proofs.NamedNodes.{names_set}
use Rattle.core_model.proofs.PastCuts.{cut_is_past, node_at_stores}
use Rattle.core_model.proofs.Places.{get_set}
use Rattle.core_model.proofs.Reaching.{nodes_reach}
use Rattle.core_model.proofs.Turns.{turn_of}
use Rattle.core_model.specs.Consistent.{IsFleetOf, IsNodeOf}
use Rattle.core_model.specs.Cuts.{ArePastCuts, IsPastCuts, store_cut}
use Rattle.core_model.specs.Emptied.{EmptiesCache, IsAtStore, at_stores, region_tables}
use Rattle.core_model.specs.Evictions.{IsCacheOf}
use Rattle.core_model.specs.Fleet.{ChangesNode, Fleet, follower_names, leader_names, named, node_names, region_of, serves}
use Rattle.core_model.specs.Pens.{Pens, pens_of}
use Rattle.core_model.specs.Stores.{ComeToCuts, IsConfiguredStore}
use Rattle.core_model.specs.declared.named.Named.{Named}
use Rattle.core_steps.proofs.core_nodes_lemmas.MadeNames.{in_image}
use Rattle.core_steps.specs.core_nodes.Settling.{lies_behind}
use Rattle.core_steps.specs.core_nodes.Trimming.{behind_of, cut_to, is_behind, names_behind}
use Rattle.core_steps.specs.World.{World}
use Rattle.core_trims.specs.Trims.{AreOfRegion, ResetEach}
use Rattle.core_model.proofs.NamesOnce.{StandAlone, follower_is_cache, follows_none, in_place, leader_is_cache, leaders_alone, leads_none, stand_alone}

-- ---- who lies behind

module _ {N : Type 0} (node : N → Node) (s : Settings) (at : StoreName) (upto : ℕ) (nodes : List (Named N)) where
  abbrev lies : Named N → Bool
  lies n = is_behind s at upto n.name (low_at at.shard (node n.node).served)

  -- one that is named is one of the nodes, and of the store's region
  one_behind : (name : NodeName) → IsIn name (behind_of node s at upto nodes) → IsIn name (node_names nodes) × (region_of name ≡ at.region)
  one_behind name h =
      let one = in_map_parts (λ (n : Named N). n.name) (filter lies nodes) name h in
      let parts = in_filter_parts lies nodes one.0 one.1 in
      let here = and_parts (region_of one.0.name == at.region) (lies_behind s one.0.name at.shard (low_at at.shard (node one.0.node).served) upto) parts.1 in (
        subst (λ n. IsIn n (node_names nodes)) one.2 (in_image (λ (n : Named N). n.name) nodes one.0 parts.0),
        subst (λ n. region_of n ≡ at.region) one.2 (eqb-true (region_of one.0.name) at.region here.0),
      )

  -- each that lies behind is named
  behind_named : (place : ℕ) (name : NodeName) (one : N) → slice_get nodes place ≡ Some (named name one)
      → is_behind s at upto name (low_at at.shard (node one).served) ≡ true → IsIn name (behind_of node s at upto nodes)
  behind_named place name one stands behind =
      in_image (λ (n : Named N). n.name) (filter lies nodes) (named name one)
      (in_filter lies nodes (named name one) (in_place nodes place (named name one) stands) behind)

-- the leaders that lie behind, and the followers
abbrev leading_behind : Settings → Fleet → StoreName → ℕ → List NodeName
leading_behind s f at upto = behind_of (λ (n : Node). n) s at upto f.leaders

abbrev following_behind : Settings → Fleet → StoreName → ℕ → List NodeName
following_behind s f at upto = behind_of (λ (n : FollowerState). n.node) s at upto f.followers

-- those that are named are leaders and followers of the store's region
pub behind_of_region : (s : Settings) (f : Fleet) (at : StoreName) (upto : ℕ) → IsFleetOf s f → AreOfRegion s at.region (names_behind s f at upto)
behind_of_region s f at upto is = All-from_in (λ name. IsCacheOf s name × (region_of name ≡ at.region)) (names_behind s f at upto) of
  where
    of : (name : NodeName) → IsIn name (names_behind s f at upto) → IsCacheOf s name × (region_of name ≡ at.region)
    of name h = elim (in_append_cases (leading_behind s f at upto) (following_behind s f at upto) name h) [
      | inl leads ↦ (
          let one = one_behind (λ (n : Node). n) s at upto f.leaders name leads in
          (leader_is_cache s name (subst (IsIn name) is.leader_names one.0), one.1))
      | inr follows ↦ (
          let one = one_behind (λ (n : FollowerState). n.node) s at upto f.followers name follows in
          (follower_is_cache s name (subst (IsIn name) is.follower_names one.0), one.1))
    ]

-- ---- who doesn't

module _ (s : Settings) (pens : Pens) (at : StoreName) (upto : ℕ) (name : NodeName) (node : Node) (is : IsNodeOf s pens name node)
    (ahead : is_behind s at upto name (low_at at.shard node.served) ≡ true → ⊥) where
  not_behind : region_of name ≡ at.region → (t : ServedShard) → served_at at.shard node.served ≡ Some t → upto ≤ t.marks.low
  not_behind here t there =
      let low : low_at at.shard node.served ≡ t.marks.low = ap (λ (o : Option ServedShard). option_map_or (λ x. x.marks.low) o 0) there in
      let served : IsServed node.served at.shard = rw there refl in
      let turn = (turn_of s pens name node at.shard is served).1 in
      elim (cases_Bool (nat_lt (low_at at.shard node.served) upto)) [
        | inl less ↦ absurd (ahead (and_from (region_of name == at.region) _ (eq-eqb (region_of name) at.region here)
            (and_from (serves s name at.shard) (nat_lt (low_at at.shard node.served) upto) turn less)))
        | inr not_less ↦ (let come = ltb-false (low_at at.shard node.served) upto not_less in omega (arith, low, come))
      ]

  -- so where the log is cut there it is past the cut
  past_still : (old new : Tables) (cut : ℕ) → cut ≡ cut_to old at upto → Becomes old new at (after_cut (old at) cut) → IsPastCuts old (region_of name) node
      → IsPastCuts new (region_of name) node
  past_still old new cut cut_is becomes was =
      cut_is_past old new at cut (region_of name) node becomes
      (λ here t there.
      let come = not_behind here t there in
      let past : store_cut old (region_of name) at.shard ≤ t.marks.low = was.past at.shard t there in
      let same : store_cut old (region_of name) at.shard ≡ (old at).cut = ap (λ region. store_cut old region at.shard) here in
      omega (arith, cut_is, come, past, same)) was

-- ---- what becomes of them

module _ (s : Settings) (tables : Tables) (region : ℕ) where
  -- each of the nodes is one of the region, and at its store; or it is the one that stood there, and has none of the names
  abbrev ResetOrKept : {N : Type 0} → (N → Node) → List NodeName → List (Named N) → List (Named N) → Type 0
  ResetOrKept {N} node names old new = (place : ℕ) (name : NodeName) (to : N) → slice_get new place ≡ Some (named name to)
      → ((region_of name ≡ region) × IsAtStore tables region (node to)) ⊎ ((IsIn name names → ⊥) × (slice_get old place ≡ Some (named name to)))

  -- so it is of all leaders and followers, which are the configuration's
  record AreResetOrKept (names : List NodeName) (old new : Fleet) : Type 0 where
    leader_names : node_names new.leaders ≡ leader_names s
    follower_names : node_names new.followers ≡ follower_names s
    leaders : ResetOrKept (λ n. n) names old.leaders new.leaders
    followers : ResetOrKept (λ f. f.node) names old.followers new.followers

  module _ (name : NodeName) (names : List NodeName) (here : region_of name ≡ region) where
    -- one more is reset
    one_changed : {N : Type 0} (node : N → Node) (By : N → N → Type 0) (old mid new : List (Named N)) → StandAlone mid → ChangesNode name By mid new
        → ((from to : N) → By from to → IsAtStore tables region (node to)) → ResetOrKept node names old mid → ResetOrKept node (name ∷ names) old new
    one_changed {N} node By old mid new alone change is was place called to stands =
        let there : slice_get (slice_set mid change.place (named name change.to)) place ≡ Some (named called to) =
        subst (λ xs. slice_get xs place ≡ Some (named called to)) change.is stands in
        elim (get_set mid change.place (named name change.to) place (named called to) there) [
          | inl other ↦ elim (was place called to other.1) [
            | inl store ↦ inl store
            | inr kept ↦ inr (
              (λ h. elim h [
                | inl same ↦ other.0 (alone place change.place name to change.from
                    (subst (λ (n : NodeName). slice_get mid place ≡ Some (named n to)) (sym same) other.1) change.stands)
                | inr later ↦ kept.0 later
              ]),
              kept.1,
            )
          ]
          | inr one ↦ inl (
            subst (λ (n : Named N). region_of n.name ≡ region) one.1 here,
            subst (λ (n : Named N). IsAtStore tables region (node n.node)) one.1 (is change.from change.to change.by),
          )
        ]

    -- of the other kind none is
    none_changed : {N : Type 0} (node : N → Node) (old mid new : List (Named N)) → new ≡ mid
        → ((place : ℕ) (one : N) → slice_get mid place ≡ Some (named name one) → ⊥) → ResetOrKept node names old mid
        → ResetOrKept node (name ∷ names) old new
    none_changed node old mid new same none was place called to stands =
        let there : slice_get mid place ≡ Some (named called to) = subst (λ xs. slice_get xs place ≡ Some (named called to)) same stands in
        elim (was place called to there) [
          | inl store ↦ inl store
          | inr kept ↦ inr (
            (λ h. elim h [
              | inl is ↦ none place to (subst (λ (n : NodeName). slice_get mid place ≡ Some (named n to)) (sym is) there)
              | inr later ↦ kept.0 later
            ]),
            kept.1,
          )
        ]

  one_reset : (name : NodeName) (names : List NodeName) (pens : Pens) (old mid new : Fleet) → region_of name ≡ region
      → EmptiesCache name pens (at_stores (region_tables true tables region)) mid new → AreResetOrKept names old mid → AreResetOrKept (name ∷ names) old new
  one_reset (StoreName_ store) names pens old mid new here empties was = absurd empties
  one_reset (Leader home index) names pens old mid new here empties was =
      let change = empties.0 in
      let rest : new.followers ≡ mid.followers = ap (λ (f : Fleet). f.followers) empties.1 in
      record {
        leader_names = ap node_names change.is ∙ names_set mid.leaders change.place (Leader home index) change.from change.to change.stands ∙ was.leader_names;
        follower_names = ap node_names rest ∙ was.follower_names;
        leaders = one_changed (Leader home index) names here (λ n. n) _ old.leaders mid.leaders new.leaders
            (leaders_alone s mid.leaders was.leader_names) change (λ from to by. (nodes_reach tables region).comes_up pens from to by) was.leaders;
        followers = none_changed (Leader home index) names here (λ f. f.node) old.followers mid.followers new.followers rest
            (λ place one stands. leads_none s mid.followers place home index one was.follower_names stands) was.followers;
      }
  one_reset (Follower home tier index) names pens old mid new here empties was =
      let change = empties.0 in
      let rest : new.leaders ≡ mid.leaders = ap (λ (f : Fleet). f.leaders) empties.1 in
      record {
        leader_names = ap node_names rest ∙ was.leader_names;
        follower_names = ap node_names change.is
            ∙ names_set mid.followers change.place (Follower home tier index) change.from change.to change.stands ∙ was.follower_names;
        leaders = none_changed (Follower home tier index) names here (λ n. n) old.leaders mid.leaders new.leaders rest
            (λ place one stands. follows_none s mid.leaders place home tier index one was.leader_names stands) was.leaders;
        followers = one_changed (Follower home tier index) names here (λ f. f.node) _ old.followers mid.followers new.followers
            (stand_alone s mid.followers was.follower_names) change (λ from to by. (nodes_reach tables region).comes_up pens from.node to.node by.node)
            was.followers;
      }

  -- so it is where one after another is reset
  each_reset : (names : List NodeName) (old new : World) → AllByRecursion (λ name. region_of name ≡ region) names → IsFleetOf s old.fleet
      → ResetEach (region_tables true tables region) names old new → AreResetOrKept names old.fleet new.fleet
  each_reset [] old new of is same = subst (λ (w : World). AreResetOrKept [] old.fleet w.fleet) (sym same) (record {
    leader_names = is.leader_names;
    follower_names = is.follower_names;
    leaders = λ place name to stands. inr ((λ h. h), stands);
    followers = λ place name to stands. inr ((λ h. h), stands);
  })
  each_reset (name ∷ names) old new of is each =
      one_reset name names (pens_of each.0.fleet.stores) old.fleet each.0.fleet new.fleet of.0 each.2.empties (each_reset names old each.0 of.1 is each.1)

-- ---- nobody lies behind

module _ (s : Settings) (before after : Tables) (at : StoreName) (upto cut : ℕ) (old new : World) (here : IsConfiguredStore s at)
    (was : IsFleetOf s old.fleet) (is : IsFleetOf s new.fleet) (come : ComeToCuts s after) (cut_is : cut ≡ cut_to before at upto)
    (becomes : Becomes before after at (after_cut (before at) cut))
    (each : ResetEach (region_tables true after at.region) (names_behind s old.fleet at upto) old new) where
  are : AreResetOrKept s after at.region (names_behind s old.fleet at upto) old.fleet new.fleet
  are = each_reset s after at.region (names_behind s old.fleet at upto) old new
      (all_map (λ name. IsCacheOf s name × (region_of name ≡ at.region)) (λ name. region_of name ≡ at.region) (λ name one. one.1)
      (names_behind s old.fleet at upto)
      (recursion_from_All (λ name. IsCacheOf s name × (region_of name ≡ at.region)) (names_behind s old.fleet at upto)
      (behind_of_region s old.fleet at upto was)))
      was each

  -- one that was reset is at its store
  reset_past : (name : NodeName) (node : Node) → IsNodeOf s (pens_of new.fleet.stores) name node
      → (region_of name ≡ at.region) × IsAtStore after at.region node → IsPastCuts after (region_of name) node
  reset_past name node one store =
      node_at_stores s (pens_of new.fleet.stores) after name node come (subst (λ region. region < length s.regions) (sym store.0) here.region) one
      (subst (λ region. IsAtStore after region node) (sym store.0) store.1)

  pub none_behind : ArePastCuts before old.fleet → ArePastCuts after new.fleet
  none_behind past = record {
    leaders = λ place name node stands. elim (are.leaders place name node stands) [
      | inl store ↦ reset_past name node (is.leaders place name node stands) store
      | inr kept ↦ past_still s (pens_of old.fleet.stores) at upto name node (was.leaders place name node kept.1)
          (λ behind. kept.0 (in_append_left (leading_behind s old.fleet at upto) (following_behind s old.fleet at upto) name
          (behind_named (λ (n : Node). n) s at upto old.fleet.leaders place name node kept.1 behind)))
          before after cut cut_is becomes (past.leaders place name node kept.1)
    ];
    followers = λ place name follower stands. elim (are.followers place name follower stands) [
      | inl store ↦ reset_past name follower.node (is.followers place name follower stands).node store
      | inr kept ↦ past_still s (pens_of old.fleet.stores) at upto name follower.node (was.followers place name follower kept.1).node
          (λ behind. kept.0 (in_append_right (leading_behind s old.fleet at upto) (following_behind s old.fleet at upto) name
          (behind_named (λ (n : FollowerState). n.node) s at upto old.fleet.followers place name follower kept.1 behind)))
          before after cut cut_is becomes (past.followers place name follower kept.1)
    ];
  }
