-- What is due to a node, shard by shard, and what of it is met.
use Rattle.std.proofs.Common.{◌≡◌, ℕ, suc, ◌+◌, ◌<◌, ◌≤◌, ◌++◌, Bool, true, false, List, [], ◌∷◌, filter}
use Rattle.std.proofs.Common.{map, Option, Ok, Err, OnErr, OnOk, Result, Some, refl, ap}
use Rattle.std.proofs.Common.{sym, ◌∙◌, subst, inl, inr, arith, length}
use Rattle.std.proofs.lemmas.Bool.{cases_Bool, le-ltb}
use Rattle.std.proofs.lemmas.List.{append_assoc, map-append}
use Rattle.std.proofs.lemmas.List.Elements.{Contains-append_left, Contains-append_right, filter-append}
use Rattle.std.specs.List.{range_with_len}
use Rattle.std.specs.Option.{option_map_or}
use Rattle.std.specs.Prelude.{⊤, Contains, ◌&&◌, nat_lt}
use Rattle.cache_items.specs.Node.{Node}
use Rattle.cache_node.specs.True.{IsServed}
use Rattle.graph_model.proofs.Members.{IsIn, contains_from_in, in_filter_parts, in_from_contains}
use Rattle.graph_model.specs.Told.{WhereTold}
use Rattle.low_water.specs.Marks.{Marks, marks}
use Rattle.node_name.specs.declared.NodeName.{NodeName}
use Rattle.served_shards.specs.Served.{ServedShard, low_at, served_at}
use Rattle.tao_base.specs.declared.id.StoreName.{StoreName}
use Rattle.tao_keeper.specs.Table.{Tables}
use Rattle.tao_link.specs.Shown.{LinkShown}
use Rattle.core_model.specs.Fleet.{region_of, regions_of, serves_in_turn}
use Rattle.core_model.specs.Stores.{region_store, store_length, store_place}
use Rattle.core_model.specs.declared.named.Named.{Named}
use Rattle.core_nodes.specs.Beginning.{AreLengths, length_at, length_in}
use Rattle.core_nodes.specs.Dues.{Due, IsApart, KeepsBut, KeepsOthers, LogEnds, MeetsDue, MeetsDues, after_carries, due_at, dues_at, dues_in_turn, dues_of}
use Rattle.core_nodes.specs.Dues.{is_due}
use Rattle.core_nodes.specs.Settling.{lies_behind}
use Rattle.core_nodes.specs.declared.settling.SettleStop.{SettleStop}
use Rattle.core_nodes.proofs.CatchLemmas.{some_served}
use Rattle.core_nodes.proofs.DueLemmas.{AllMet, all_met, after_more, cut_at, filter_alike, filter_none, filter_one, meets_all}
use Rattle.core_nodes.proofs.DueLemmas.{meets_as, meets_less, meets_none, meets_then, range_more}
use Rattle.core_nodes.proofs.MadeNames.{image_in, numbers_in}

-- ---- whether something is due

off_left : (a b : Bool) → a ≡ false → (a && b) ≡ false
off_left a b off = rw off refl

off_right : (a b : Bool) → b ≡ false → (a && b) ≡ false
off_right true b off = off
off_right false b off = refl

-- nothing is due at a shard of which the node has processed all that its region's store has
pub end_not_due : (ends : LogEnds) (tables : Tables) (name : NodeName) (n : Node) (shard : ℕ)
    → AreLengths ends.tells ends.settings tables ends.lengths → ends.tells ≡ true → region_of name < length ends.settings.regions
    → shard < ends.settings.shards
    → ((t : ServedShard) → served_at shard n.served ≡ Some t → t.marks ≡ marks (store_length tables (region_of name) shard) [])
    → (serves_in_turn (regions_of ends.settings) name shard ≡ true → IsServed n.served shard) → is_due ends name n shard ≡ false
end_not_due ends tables name n shard are told there here at_end served =
    let until : ℕ = length_in ends.settings ends.lengths (region_of name) shard in
    elim (cases_Bool (serves_in_turn (regions_of ends.settings) name shard)) [
      | inl serves ↦ (
          let some = some_served n.served shard (served serves) in
          let low : low_at shard n.served ≡ some.0.marks.low = rw some.1 refl in
          let come : low_at shard n.served ≡ store_length tables (region_of name) shard =
          low ∙ ap (λ (m : Marks). m.low) (at_end some.0 some.1) in
          let long : until ≡ store_length tables (region_of name) shard =
          are.each (region_store (region_of name) shard) (record { region = there; shard = here }) told in
          let least : until ≤ low_at shard n.served = omega arith in
          off_right (serves_in_turn (regions_of ends.settings) name shard) (nat_lt (low_at shard n.served) until)
          (le-ltb (low_at shard n.served) until least))
      | inr off ↦ off_left (serves_in_turn (regions_of ends.settings) name shard) (nat_lt (low_at shard n.served) until) off
    ]

-- as the code tells it
pub due_is : (ends : LogEnds) (name : NodeName) (n : Node) (at : StoreName) (low until : ℕ) (lies : Bool) → region_of name ≡ at.region
    → low ≡ low_at at.shard n.served → until ≡ length_at ends.lengths (store_place ends.settings at)
    → lies ≡ lies_behind ends.settings name at.shard low until → is_due ends name n at.shard ≡ lies
due_is ends name n at low until lies region low_is until_is is =
    let named : at ≡ region_store (region_of name) at.shard = ap (λ r. region_store r at.shard) (sym region) in
    sym (is ∙ ap (λ k. lies_behind ends.settings name at.shard k until) low_is
    ∙ ap (λ k. lies_behind ends.settings name at.shard (low_at at.shard n.served) k)
    (until_is ∙ ap (λ (a : StoreName). length_at ends.lengths (store_place ends.settings a)) named))

-- ---- what a node keeps

module _ {N : Type 0} (node : N → Node) where
  pub keeps_same : (met : List Due) (c : Named N) → KeepsBut node met c c
  keeps_same met c = record { name_is = refl; others = λ shard apart. refl; none = λ apart. refl }

  pub keeps_then : (first more : List Due) (a b c : Named N) → KeepsBut node first a b → KeepsBut node more b c → KeepsBut node (first ++ more) a c
  keeps_then first more a b c was keeps = record {
    name_is = keeps.name_is ∙ was.name_is;
    others = λ shard apart. keeps.others shard (later shard apart) ∙ was.others shard (sooner shard apart);
    none = λ apart. keeps.none (λ shard. later shard (apart shard)) ∙ was.none (λ shard. sooner shard (apart shard));
  }
    where
      later : (shard : ℕ) → IsApart (first ++ more) a.name shard → IsApart more b.name shard
      later shard apart is =
          apart (Contains-append_right first more (due_at a.name shard) (subst (λ (n : NodeName). Contains more (due_at n shard)) was.name_is is))

      sooner : (shard : ℕ) → IsApart (first ++ more) a.name shard → IsApart first a.name shard
      sooner shard apart is = apart (Contains-append_left first more (due_at a.name shard) is)

  pub keeps_more : (first more : List Due) (a b : Named N) → KeepsBut node first a b → KeepsBut node (first ++ more) a b
  keeps_more first more a b keeps = keeps_then first more a b b keeps (keeps_same more b)

  pub keeps_after : (first more : List Due) (a b : Named N) → KeepsBut node more a b → KeepsBut node (first ++ more) a b
  keeps_after first more a b keeps = keeps_then first more a a b (keeps_same first a) keeps

  -- ---- what is due to it

  module _ (ends : LogEnds) where
    -- what is due is so at one of the shards
    pub due_among : (shards : List ℕ) (c : Named N) (shard : ℕ) → Contains (dues_at node ends shards c) (due_at c.name shard) → IsIn shard shards
    due_among shards c shard is =
        let due = image_in (due_at c.name) (filter (is_due ends c.name (node c.node)) shards) (due_at c.name shard)
        (in_from_contains (dues_at node ends shards c) (due_at c.name shard) is) in
        subst (λ n. IsIn n shards) (ap (λ (d : Due). d.shard) due.2) (in_filter_parts (is_due ends c.name (node c.node)) shards due.0 due.1).0

    -- the same is due to one that has the same of the shards
    pub dues_alike : (shards : List ℕ) (a b : Named N) → b.name ≡ a.name
        → ((shard : ℕ) → IsIn shard shards → served_at shard (node b.node).served ≡ served_at shard (node a.node).served)
        → dues_at node ends shards b ≡ dues_at node ends shards a
    dues_alike shards a b named same =
        ap (λ (n : NodeName). map (due_at n) (filter (is_due ends b.name (node b.node)) shards)) named
        ∙ ap (map (due_at a.name)) (filter_alike (is_due ends b.name (node b.node)) (is_due ends a.name (node a.node)) shards
        (λ shard h. ap (λ (n : NodeName). is_due ends n (node b.node) shard) named
        ∙ ap (λ (o : Option ServedShard). lies_behind ends.settings a.name shard (option_map_or (λ (t : ServedShard). t.marks.low) o 0)
        (length_in ends.settings ends.lengths (region_of a.name) shard)) (same shard h)))

    dues_append : (xs ys : List ℕ) (c : Named N) → dues_at node ends (xs ++ ys) c ≡ dues_at node ends xs c ++ dues_at node ends ys c
    dues_append xs ys c =
        ap (map (due_at c.name)) (filter-append (is_due ends c.name (node c.node)) xs ys)
        ∙ map-append (due_at c.name) (filter (is_due ends c.name (node c.node)) xs) (filter (is_due ends c.name (node c.node)) ys)

    abbrev Below : ℕ → Named N → List Due
    Below shard c = dues_at node ends (range_with_len 0 shard) c

    abbrev At : ℕ → Named N → List Due
    At shard c = dues_at node ends (shard ∷ []) c

    dues_more : (shard : ℕ) (c : Named N) → Below (shard + 1) c ≡ Below shard c ++ At shard c
    dues_more shard c =
        let next : shard + 1 ≡ suc shard = omega arith in
        let same : 0 + shard ≡ shard = omega arith in
        ap (λ ns. dues_at node ends ns c)
        (ap (range_with_len 0) next ∙ range_more 0 shard ∙ ap (λ n. range_with_len 0 shard ++ n ∷ []) same)
        ∙ dues_append (range_with_len 0 shard) (shard ∷ []) c

    one_due : (shard : ℕ) (c : Named N) → is_due ends c.name (node c.node) shard ≡ true → At shard c ≡ due_at c.name shard ∷ []
    one_due shard c due = ap (map (due_at c.name)) (filter_one (is_due ends c.name (node c.node)) shard due)

    none_due : (shard : ℕ) (c : Named N) → is_due ends c.name (node c.node) shard ≡ false → At shard c ≡ []
    none_due shard c off = ap (map (due_at c.name)) (filter_none (is_due ends c.name (node c.node)) shard off)

    -- ---- at one shard

    -- a node that didn't lie behind
    pub skips_shard : (shard : ℕ) (c : Named N) (done : ⊤) (link : LinkShown) → is_due ends c.name (node c.node) shard ≡ false
        → MeetsDues (At shard c) (Ok done) link link (λ met left. KeepsBut node met c c × WhereTold ends.tells (At shard c ≡ left))
    skips_shard shard c done link off =
        let none = none_due shard c off in
        subst (λ ds. MeetsDues ds (Ok done) link link (λ met left. KeepsBut node met c c × WhereTold ends.tells (At shard c ≡ left))) (sym none)
        (meets_none done link (λ met left. KeepsBut node met c c × WhereTold ends.tells (At shard c ≡ left)) (keeps_same [] c, λ told. none))

    -- one that did
    pub meets_shard : (shard : ℕ) (old new : Named N) (r : Result ⊤ SettleStop) (from to : LinkShown) → new.name ≡ old.name
        → is_due ends old.name (node old.node) shard ≡ true → MeetsDue (due_at old.name shard) r from to
        → KeepsOthers shard (node old.node) (node new.node) → OnErr r (new ≡ old)
        → WhereTold ends.tells (OnOk r (is_due ends new.name (node new.node) shard ≡ false))
        → MeetsDues (At shard old) r from to (λ met left. KeepsBut node met old new × WhereTold ends.tells (At shard new ≡ left))
    meets_shard shard old new (Ok done) from to named due meets keeps rests past =
        let Leaves : List Due → List Due → Type 0 = λ met left. KeepsBut node met old new × WhereTold ends.tells (At shard new ≡ left) in
        let it : Due = due_at old.name shard in
        let here : (k : ℕ) → k ≡ shard → Contains (it ∷ []) (due_at old.name k) =
        λ k same. contains_from_in (it ∷ []) (due_at old.name k) (inl (ap (due_at old.name) (sym same))) in
        subst (λ ds. MeetsDues ds (Ok done) from to Leaves) (sym (one_due shard old due))
        (meets_all (it ∷ []) done from to Leaves meets (
          record {
            name_is = named;
            others = λ k apart. keeps.others k (λ same. apart (here k same));
            none = λ apart. absurd (apart shard (here shard refl));
          },
          λ told. none_due shard new (past told),
        ))
    meets_shard shard old new (Err stop) from to named due meets keeps rests past =
        let Leaves : List Due → List Due → Type 0 = λ met left. KeepsBut node met old new × WhereTold ends.tells (At shard new ≡ left) in
        let one = one_due shard old due in
        subst (λ ds. MeetsDues ds (Err stop) from to Leaves) (sym one) (record {
          met = [];
          left = due_at old.name shard ∷ [];
          dues_are = refl;
          link = meets;
          leaves = (
            subst (λ (c : Named N). KeepsBut node [] old c) (sym rests) (keeps_same [] old),
            λ told. subst (λ (c : Named N). At shard c ≡ due_at old.name shard ∷ []) (sym rests) one,
          );
        })

    -- ---- shard by shard

    -- at the first shards all was met
    abbrev pub ShardsMet : ℕ → Named N → Named N → LinkShown → LinkShown → Type 0
    ShardsMet shard start now from to =
        AllMet (Below shard start) from to (λ met left. KeepsBut node met start now × WhereTold ends.tells (Below shard now ≡ left))

    pub shards_none : (c : Named N) (link : LinkShown) → ShardsMet 0 c c link link
    shards_none c link = record { link = refl; leaves = (keeps_same [] c, λ told. refl) }

    -- what is due at the shards below isn't at this one or one above
    below_apart : (shard : ℕ) (start : Named N) (k : ℕ) → shard ≤ k → IsApart (Below shard start) start.name k
    below_apart shard start k least is =
        let lt = (numbers_in 0 shard k (due_among (range_with_len 0 shard) start k is)).1 in
        omega (arith, least, lt)

    -- nor is what is due at one at the others
    at_apart : (shard : ℕ) (c : Named N) (k : ℕ) → (k ≡ shard → ⊥) → IsApart (At shard c) c.name k
    at_apart shard c k other is = elim (due_among (shard ∷ []) c k is) [ inl same ↦ other (sym same) | inr none ↦ absurd none ]

    module _ (shard : ℕ) (start now new : Named N) (from mid to : LinkShown) (was : ShardsMet shard start now from mid) where
      same_at : At shard now ≡ At shard start
      same_at = dues_alike (shard ∷ []) start now was.leaves.0.name_is
          (λ k h. was.leaves.0.others k (below_apart shard start k (elim h [ inl same ↦ omega (arith, same) | inr none ↦ absurd none ])))

      -- one more shard
      pub shards_next : (done : ⊤)
          → MeetsDues (At shard now) (Ok done) mid to (λ met left. KeepsBut node met now new × WhereTold ends.tells (At shard new ≡ left))
          → ShardsMet (shard + 1) start new from to
      shards_next done meets =
          let met = all_met (At shard now) done mid to (λ met left. KeepsBut node met now new × WhereTold ends.tells (At shard new ≡ left)) meets in
          let all : Below shard start ++ At shard now ≡ Below (shard + 1) start =
          ap (λ ds. Below shard start ++ ds) same_at ∙ sym (dues_more shard start) in
          let link : to ≡ after_carries (Below shard start ++ At shard now) from =
          met.link ∙ ap (after_carries (At shard now)) was.link ∙ sym (after_more (Below shard start) (At shard now) from) in
          record {
            link = subst (λ ds. to ≡ after_carries ds from) all link;
            leaves = (
              subst (λ ds. KeepsBut node ds start new) all (keeps_then (Below shard start) (At shard now) start now new was.leaves.0 met.leaves.0),
              λ told. (
                  let sooner : Below shard new ≡ Below shard now =
                  dues_alike (range_with_len 0 shard) now new met.leaves.0.name_is
                  (λ k h. met.leaves.0.others k (at_apart shard now k
                  (λ same. let lt = (numbers_in 0 shard k h).1 in omega (arith, same, lt)))) in
                  dues_more shard new ∙ ap (λ ds. ds ++ At shard new) (sooner ∙ was.leaves.1 told) ∙ met.leaves.1 told),
            );
          }

      -- it stops at the shard, where the node is as it was
      pub shards_stop : (count : ℕ) (stop : SettleStop) → shard < count → new ≡ now
          → MeetsDues (At shard now) (Err stop) mid to (λ met left. KeepsBut node met now new × WhereTold ends.tells (At shard new ≡ left))
          → MeetsDues (Below count start) (Err stop) from to
          (λ met left. KeepsBut node met start new × WhereTold ends.tells (Below count new ≡ left))
      shards_stop count stop lt rests meets =
          let cut = cut_at 0 count shard lt in
          let same : 0 + shard ≡ shard = omega arith in
          let is : range_with_len 0 count ≡ range_with_len 0 shard ++ shard ∷ cut.above =
          cut.is ∙ ap (λ n. range_with_len 0 shard ++ n ∷ cut.above) same in
          let whole : (c : Named N) → Below count c ≡ (Below shard c ++ At shard c) ++ dues_at node ends cut.above c =
          λ c. ap (λ ns. dues_at node ends ns c) is ∙ dues_append (range_with_len 0 shard) (shard ∷ cut.above) c
          ∙ ap (λ ds. Below shard c ++ ds) (dues_append (shard ∷ []) cut.above c)
          ∙ sym (append_assoc (Below shard c) (At shard c) (dues_at node ends cut.above c)) in
          let above : dues_at node ends cut.above now ≡ dues_at node ends cut.above start =
          dues_alike cut.above start now was.leaves.0.name_is
          (λ k h. was.leaves.0.others k (below_apart shard start k (let over = cut.are_above k h in omega arith))) in
          let here : MeetsDues (At shard start) (Err stop) mid to (λ met left. KeepsBut node met now new × WhereTold ends.tells (At shard new ≡ left)) =
          subst (λ ds. MeetsDues ds (Err stop) mid to (λ met left. KeepsBut node met now new × WhereTold ends.tells (At shard new ≡ left))) same_at meets in
          let so_far = meets_then (Below shard start) (At shard start) (Err stop) from mid to
          (λ met left. KeepsBut node met now new × WhereTold ends.tells (At shard new ≡ left))
          (λ met left. KeepsBut node met start new × WhereTold ends.tells (Below shard new ++ At shard new ≡ left)) was.link here
          (λ met left more. (
            keeps_then (Below shard start) met start now new was.leaves.0 more.0,
            λ told. ap (λ ds. ds ++ At shard new) (ap (Below shard) rests ∙ was.leaves.1 told) ∙ more.1 told,
          )) in
          subst (λ ds. MeetsDues ds (Err stop) from to (λ met left. KeepsBut node met start new × WhereTold ends.tells (Below count new ≡ left)))
          (sym (whole start))
          (meets_less (Below shard start ++ At shard start) (dues_at node ends cut.above start) stop from to
          (λ met left. KeepsBut node met start new × WhereTold ends.tells (Below shard new ++ At shard new ≡ left))
          (λ met left. KeepsBut node met start new × WhereTold ends.tells (Below count new ≡ left)) so_far
          (λ met left less. (
            less.0,
            λ told. whole new ∙ ap (λ ds. ds ++ dues_at node ends cut.above new) (less.1 told)
                ∙ ap (λ ds. left ++ ds) (ap (dues_at node ends cut.above) rests ∙ above),
          )))

    -- at all shards
    pub shards_all : (shard : ℕ) (start now : Named N) (done : ⊤) (from to : LinkShown) → shard ≡ ends.settings.shards → ShardsMet shard start now from to
        → MeetsDues (dues_of node ends start) (Ok done) from to (λ met left. KeepsBut node met start now × WhereTold ends.tells (dues_of node ends now ≡ left))
    shards_all shard start now done from to all was =
        let whole = subst (λ n. ShardsMet n start now from to) all was in
        meets_all (dues_of node ends start) done from to (λ met left. KeepsBut node met start now × WhereTold ends.tells (dues_of node ends now ≡ left))
        whole.link whole.leaves

    -- ---- where it is its turn

    module _ (turn : NodeName → Bool) where
      on_turn : (c : Named N) → turn c.name ≡ true → dues_in_turn node ends turn c ≡ dues_of node ends c
      on_turn c on = rw on refl

      off_turn : (c : Named N) → turn c.name ≡ false → dues_in_turn node ends turn c ≡ []
      off_turn c off = rw off refl

      pub misses_turn : (c : Named N) (done : ⊤) (link : LinkShown) → turn c.name ≡ false
          → MeetsDues (dues_in_turn node ends turn c) (Ok done) link link
          (λ met left. KeepsBut node met c c × WhereTold ends.tells (dues_in_turn node ends turn c ≡ left))
      misses_turn c done link off =
          subst (λ ds. MeetsDues ds (Ok done) link link
          (λ met left. KeepsBut node met c c × WhereTold ends.tells (dues_in_turn node ends turn c ≡ left))) (sym (off_turn c off))
          (meets_none done link (λ met left. KeepsBut node met c c × WhereTold ends.tells (dues_in_turn node ends turn c ≡ left))
          (keeps_same [] c, λ told. off_turn c off))

      pub takes_turn : (old new : Named N) (r : Result ⊤ SettleStop) (from to : LinkShown) → turn old.name ≡ true
          → MeetsDues (dues_of node ends old) r from to (λ met left. KeepsBut node met old new × WhereTold ends.tells (dues_of node ends new ≡ left))
          → MeetsDues (dues_in_turn node ends turn old) r from to
          (λ met left. KeepsBut node met old new × WhereTold ends.tells (dues_in_turn node ends turn new ≡ left))
      takes_turn old new r from to on meets =
          subst (λ ds. MeetsDues ds r from to
          (λ met left. KeepsBut node met old new × WhereTold ends.tells (dues_in_turn node ends turn new ≡ left))) (sym (on_turn old on))
          (meets_as (dues_of node ends old) r from to (λ met left. KeepsBut node met old new × WhereTold ends.tells (dues_of node ends new ≡ left))
          (λ met left. KeepsBut node met old new × WhereTold ends.tells (dues_in_turn node ends turn new ≡ left)) meets
          (λ met left less. (less.0, λ told. on_turn new (ap turn less.0.name_is ∙ on) ∙ less.1 told)))

-- what came of what was due to a node
abbrev pub NodeMeets : {N : Type 0} → (N → Node) → LogEnds → Named N → Named N → Result ⊤ SettleStop → LinkShown → LinkShown → Type 0
NodeMeets node ends old new r from to =
    MeetsDues (dues_of node ends old) r from to (λ met left. KeepsBut node met old new × WhereTold ends.tells (dues_of node ends new ≡ left))

-- at the store of a region and a shard
pub met_shard : {N : Type 0} (node : N → Node) (ends : LogEnds) (region shard : ℕ) (at : StoreName) (old new : Named N) (r : Result ⊤ SettleStop)
    (from to : LinkShown) → at ≡ region_store region shard
    → MeetsDues (dues_at node ends (at.shard ∷ []) old) r from to
    (λ met left. KeepsBut node met old new × WhereTold ends.tells (dues_at node ends (at.shard ∷ []) new ≡ left))
    → MeetsDues (dues_at node ends (shard ∷ []) old) r from to
    (λ met left. KeepsBut node met old new × WhereTold ends.tells (dues_at node ends (shard ∷ []) new ≡ left))
met_shard node ends region shard at old new r from to is meets =
    subst (λ n. MeetsDues (dues_at node ends (n ∷ []) old) r from to
    (λ met left. KeepsBut node met old new × WhereTold ends.tells (dues_at node ends (n ∷ []) new ≡ left)))
    (ap (λ (a : StoreName). a.shard) is) meets
