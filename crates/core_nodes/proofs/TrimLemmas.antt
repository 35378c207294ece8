-- Where a log may be cut, which nodes lie behind, and what a cut leaves of the stores.
use Rattle.std.proofs.Common.{◌≡◌, ◌≢◌, ◌⊎◌, ℕ, zero, suc, ◌+◌, ◌≤◌, ◌<◌, Bool, true, List, [], ◌∷◌, length, get_or, map, max, min, Result, Ok, Err, IfOk}
use Rattle.std.proofs.Common.{refl, ap, sym, subst, ◌∙◌, inl, inr, arith}
use Rattle.std.proofs.lemmas.List.FromFn.{get_or-map-range_with_len, length-map-range_with_len}
use Rattle.std.specs.List.{range_with_len}
use Rattle.std.specs.Prelude.{◌-◌}
use Rattle.graph_model.specs.Told.{WhereTold}
use Rattle.log_trim.specs.Trimming.{cut_by, least_of}
use Rattle.shard_tables.specs.Stores.{HasSeen}
use Rattle.shard_tables.specs.declared.refusal.StoreRefusal.{StoreRefusal}
use Rattle.tao_base.specs.declared.id.StoreName.{StoreName}
use Rattle.tao_keeper.proofs.Growing.{same_or_other}
use Rattle.tao_keeper.specs.Growing.{LogsGrow}
use Rattle.tao_keeper.specs.Table.{Changes, Stays, Table, Tables, after_cut}
use Rattle.topology.specs.Config.{Settings}
use Rattle.core_model.proofs.KeptStores.{kept_same}
use Rattle.core_model.proofs.PastCuts.{come_cut, come_same}
use Rattle.core_model.specs.Consistent.{IsConsistent}
use Rattle.core_model.specs.Fleet.{Fleet}
use Rattle.core_model.specs.Growing.{TablesGoOn}
use Rattle.core_model.specs.Stores.{AreInOrder, ComeToCuts, IsConfiguredStore, region_store, store_length}
use Rattle.core_nodes.proofs.FleetLemmas.{reach_grows}
use Rattle.core_nodes.specs.Trimming.{HaveComeTo, cut_to, least_mark}

-- ---- the least

-- the least of a number and of others is no more than any of these
least_below : (xs : List ℕ) (n i d : ℕ) → i < length xs → least_of n xs ≤ get_or xs i d
least_below [] n i d lt = absurd (omega (arith, lt))
least_below (x ∷ xs) n zero d lt = let rest = least_within xs (min n x) in omega (arith, rest)
  where
    least_within : (ys : List ℕ) (m : ℕ) → least_of m ys ≤ m
    least_within [] m = omega arith
    least_within (y ∷ ys) m = let rest = least_within ys (min m y) in omega (arith, rest)
least_below (x ∷ xs) n (suc i) d lt = least_below xs (min n x) i d (omega (arith, lt))

module _ (s : Settings) (tables : Tables) (shard : ℕ) where
  -- the lengths of so many of the shard's stores, from a region on
  abbrev pub lengths_from : ℕ → ℕ → List ℕ
  lengths_from region count = map (λ r. store_length tables r shard) (range_with_len region count)

  -- the least of a number and of the lengths of the shard's stores from a region on
  abbrev pub least_left : ℕ → ℕ → ℕ
  least_left region number = least_of number (lengths_from region (length s.regions - region))

  pub left_at_first : (position : ℕ) → least_left 0 position ≡ least_mark s tables shard position
  left_at_first position =
      let all : length s.regions - 0 ≡ length s.regions = omega arith in
      ap (λ n. least_of position (lengths_from 0 n)) all

  -- one region more
  pub one_region_less : (region least long : ℕ) → region < length s.regions → long ≡ store_length tables region shard
      → least_left (region + 1) (min least long) ≡ least_left region least
  one_region_less region least long lt is =
      let more : length s.regions - region ≡ suc (length s.regions - (region + 1)) = omega (arith, lt) in
      ap (λ n. least_left (region + 1) (min least n)) is ∙ sym (ap (λ n. least_of least (lengths_from region n)) more)

  -- so it is where code reads the length of the next store
  pub left_next : (tells : Bool) (now : Tables) (position region least long next : ℕ) (at : StoreName) → region < length s.regions → next ≡ min least long
      → at ≡ region_store region shard → WhereTold tells (long ≡ length (now at).log) → WhereTold tells (Stays tables now)
      → WhereTold tells (least_left region least ≡ least_mark s tables shard position)
      → WhereTold tells (least_left (region + 1) next ≡ least_mark s tables shard position)
  left_next tells now position region least long next at lt next_is named read stays was told =
      let long_is : long ≡ store_length tables region shard =
      read told ∙ ap (λ (n : StoreName). length (now n).log) named ∙ ap (λ (t : Table). length t.log) (stays told (region_store region shard)) in
      ap (least_left (region + 1)) next_is ∙ one_region_less region least long lt long_is ∙ was told

  -- each store of the shard has come to it
  pub come_to_least : (position least : ℕ) → least ≡ least_mark s tables shard position → HaveComeTo s tables shard least
  come_to_least position least is = record {
    come = λ at here same. (
        let count : ℕ = length s.regions in
        let region : at.region < count = here.region in
        let many = length-map-range_with_len (λ r. store_length tables r shard) 0 count in
        let below = least_below (lengths_from 0 count) position at.region 0 (omega (arith, region, many)) in
        let there = get_or-map-range_with_len (λ r. store_length tables r shard) 0 count at.region at.region 0 region (omega arith) in
        let own : store_length tables at.region shard ≡ length (tables at).log = ap (store_length tables at.region) (sym same) in
        omega (arith, is, below, there, own));
  }

pub least_comes : (tells : Bool) (s : Settings) (tables : Tables) (shard position : ℕ) (r : Result ℕ StoreRefusal)
    → WhereTold tells (IfOk r (λ least. least ≡ least_mark s tables shard position)) → WhereTold tells (IfOk r (HaveComeTo s tables shard))
least_comes tells s tables shard position (Ok least) is told = come_to_least s tables shard position least (is told)
least_comes tells s tables shard position (Err refusal) is told = tt

-- ---- the cut

-- a log that has come to the position is cut there, unless its cut is past it
pub cut_by_one : (table : Table) (position : ℕ) → position ≤ length table.log → cut_by table (position ∷ []) ≡ max table.cut position
cut_by_one table position within =
    let least : min (length table.log) position ≡ position = omega (arith, within) in
    ap (max table.cut) least

-- a cut changes nothing else of any table
pub cut_stays : {X : Type 0} (f : Table → X) (old new : Tables) (at : StoreName) (upto : ℕ) → f (after_cut (old at) upto) ≡ f (old at)
    → (r : Result ℕ StoreRefusal) → Changes r old new at (after_cut (old at) upto) → (name : StoreName) → f (new name) ≡ f (old name)
cut_stays f old new at upto same (Err refusal) changes name = ap f (changes name)
cut_stays {X} f old new at upto same (Ok cut) changes name = by (same_or_other name at)
  where
    by : (name ≡ at) ⊎ (name ≢ at) → f (new name) ≡ f (old name)
    by (inl is) = subst (λ n. f (new n) ≡ f (old n)) (sym is) (ap f changes.here ∙ same)
    by (inr other) = ap f (changes.others name other)

-- what a cut at a position leaves to which each store of the shard has come
module _ (s : Settings) (old new : Tables) (at : StoreName) (position : ℕ) (here : IsConfiguredStore s at) (come : HaveComeTo s old at.shard position) where
  abbrev pub Upto : ℕ
  Upto = cut_to old at position

  -- each store has come to it
  pub upto_come : ComeToCuts s old → (other : StoreName) → IsConfiguredStore s other → other.shard ≡ at.shard → Upto ≤ length (old other).log
  upto_come cuts other there same =
      let was : (old at).cut ≤ length (old other).log = cuts.come other at there here (sym same) in
      let reach : position ≤ length (old other).log = come.come other there same in
      omega (arith, was, reach)

  cuts_come : (r : Result ℕ StoreRefusal) → Changes r old new at (after_cut (old at) Upto) → ComeToCuts s old → ComeToCuts s new
  cuts_come (Ok cut) changes cuts = come_cut s old new at Upto cuts changes (upto_come cuts)
  cuts_come (Err refusal) changes cuts = come_same s old new changes cuts

  pub cut_in_order : (r : Result ℕ StoreRefusal) → Changes r old new at (after_cut (old at) Upto) → AreInOrder s old → AreInOrder s new
  cut_in_order r changes order = record {
    kept = kept_same s old new
        (record { logs = cut_stays (λ t. t.log) old new at Upto refl r changes; jobs = cut_stays (λ t. t.jobs) old new at Upto refl r changes }) order.kept;
    cuts = cuts_come r changes order.cuts;
  }

  cut_others : (r : Result ℕ StoreRefusal) → Changes r old new at (after_cut (old at) Upto) → (other : StoreName) → (IsConfiguredStore s other → ⊥)
      → new other ≡ old other
  cut_others (Ok cut) changes other none = changes.others other (λ same. none (subst (IsConfiguredStore s) (sym same) here))
  cut_others (Err refusal) changes other none = changes other

-- what the cut leaves of a core
pub record CutLeaves (tells : Bool) (s : Settings) (old new : Tables) (at : StoreName) (position : ℕ) (f : Fleet) (r : Result ℕ StoreRefusal) : Type 0 where
  pub cut : WhereTold tells (IfOk r (λ cut. cut ≡ cut_to old at position))
  pub changes : WhereTold tells (Changes r old new at (after_cut (old at) (cut_to old at position)))
  pub consistent : IsConsistent tells s new f
  pub on : TablesGoOn tells s old new

module _ (tells : Bool) (s : Settings) (old new : Tables) (at : StoreName) (position : ℕ) (f : Fleet) (is : IsConsistent tells s old f)
    (here : IsConfiguredStore s at) (come : WhereTold tells (HaveComeTo s old at.shard position)) where
  pub cut_leaves : (r : Result ℕ StoreRefusal) → WhereTold tells (IfOk r (λ cut. cut ≡ cut_by (old at) (position ∷ [])))
      → WhereTold tells (Changes r old new at (after_cut (old at) (cut_by (old at) (position ∷ [])))) → LogsGrow tells old new
      → CutLeaves tells s old new at position f r
  cut_leaves r answer tables logs =
      let same : tells ≡ true → cut_by (old at) (position ∷ []) ≡ cut_to old at position =
      λ told. cut_by_one (old at) position ((come told).come at here refl) in
      let changes : WhereTold tells (Changes r old new at (after_cut (old at) (cut_to old at position))) =
      λ told. subst (λ n. Changes r old new at (after_cut (old at) n)) (same told) (tables told) in
      let order : WhereTold tells (AreInOrder s new) =
      λ told. cut_in_order s old new at position here (come told) r (changes told) (record { kept = is.stores.kept told; cuts = is.stores.cuts told }) in
      record {
        cut = λ told. subst (λ n. IfOk r (λ cut. cut ≡ n)) (same told) (answer told);
        changes = changes;
        consistent = record {
          stores = record {
            configured = is.stores.configured;
            kept = λ told. (order told).kept;
            cuts = λ told. (order told).cuts;
            seen = λ place store stands. (
                let seen = is.stores.seen place store stands in
                record {
                  told_is = seen.told_is;
                  seen = λ told. subst (λ log. HasSeen store.role log store.view.entries)
                      (sym (cut_stays (λ t. t.log) old new at (cut_to old at position) refl r (changes told) store.name)) (seen.seen told);
                });
            follow = is.stores.follow;
          };
          fleet = is.fleet;
          reached = reach_grows tells old new f logs is.reached;
        };
        on = record {
          logs = logs;
          lines = λ told. cut_stays (λ t. t.line) old new at (cut_to old at position) refl r (changes told);
          others = λ told. cut_others s old new at position here (come told) r (changes told);
        };
      }
