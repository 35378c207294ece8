-- Leaders and followers that go on, one after another.
use Rattle.std.proofs.Common.{◌≡◌, ℕ, ◌+◌, ◌<◌, ◌≤◌, Bool, true, false, List, length, Err, Ok, OnOk, Result, Some, refl, ap, sym, ◌∙◌, subst, inl, inr}
use Rattle.std.proofs.Common.{arith}
use Rattle.std.proofs.lemmas.Bool.{and_from, and_parts, both_ways, cases_Bool, eq-eqb, eqb-true, lt-ltb, ltb-false, ltb-true, ne_eqb}
use Rattle.std.proofs.lemmas.Option.{slice_get_within}
use Rattle.std.specs.Prelude.{◌&&◌, ◌==◌, nat_lt, slice_get, slice_set}
use Rattle.cache_items.specs.Node.{Node}
use Rattle.follower_cache.specs.declared.queue.Refill.{Refill}
use Rattle.graph_model.specs.Told.{WhereTold}
use Rattle.node_name.specs.declared.NodeName.{NodeName}
use Rattle.tao_keeper.specs.Table.{Tables}
use Rattle.topology.specs.Config.{Settings}
use Rattle.topology.specs.States.{NodeStates, is_up}
use Rattle.core_model.proofs.NamedNodes.{names_set}
use Rattle.core_model.proofs.Places.{get_set, one_some}
use Rattle.core_model.specs.Fleet.{named, node_names, region_of}
use Rattle.core_model.specs.Pens.{Pens}
use Rattle.core_model.specs.declared.named.Named.{Named}
use Rattle.core_nodes.specs.Settling.{AreCaches, CacheGoesOn, CachesGoOn, CatchesInTurn, CatchesUp, GoesInTurn, HaveCaughtUp}
use Rattle.core_nodes.specs.Settling.{IsConfiguredCache, MayCatchUp, SeenLogs, is_turn, seen_logs}
use Rattle.core_nodes.proofs.CatchSteps.{cache_goes_on, cache_same}
use Rattle.core_nodes.proofs.RegionNames.{configured_region}

-- those so far have gone on, and where the logs are told they have caught up; the others stand as they stood
pub record FirstGoOn {N : Type 0} (node : N → Node) (refills : N → List Refill) (logs : SeenLogs) (turn : NodeName → Bool) (count : ℕ)
    (old now : List (Named N)) : Type 0 where
  pub on : CachesGoOn node refills logs turn old now
  pub caught : WhereTold logs.tells ((place : ℕ) (from to : Named N) → place < count → slice_get old place ≡ Some from → slice_get now place ≡ Some to
      → CatchesInTurn node logs.settings logs.tables (turn from.name) from to)
  pub rest : (place : ℕ) (cache : Named N) → count ≤ place → slice_get now place ≡ Some cache → slice_get old place ≡ Some cache

module _ {N : Type 0} (node : N → Node) (refills : N → List Refill) (tells : Bool) (s : Settings) (tables : Tables) (pens : Pens) where
  abbrev Logs : SeenLogs
  Logs = seen_logs tells s tables pens

  -- a node that stays as it is
  pub turn_same : (turn : Bool) (cache : Named N) → MayCatchUp Logs cache.name (node cache.node) → GoesInTurn node refills Logs turn cache cache
  turn_same turn cache may = record { goes = cache_same node refills tells s tables pens cache may; same = λ off. refl }

  pub none_goes : (turn : NodeName → Bool) (caches : List (Named N)) → AreCaches node Logs caches → CachesGoOn node refills Logs turn caches caches
  none_goes turn caches are = record { names = refl; each = λ place to at. (to, at, turn_same (turn to.name) to (are place to at)) }

  -- they may still catch up
  pub still_caches : (turn : NodeName → Bool) (old new : List (Named N)) → CachesGoOn node refills Logs turn old new → AreCaches node Logs new
  still_caches turn old new on place to at =
      let was = on.each place to at in
      subst (λ (n : NodeName). MayCatchUp Logs n (node to.node)) (sym was.2.goes.name_is) was.2.goes.goes.may

  -- ---- one after another

  module _ (turn : NodeName → Bool) where
    pub first_none : (caches : List (Named N)) → AreCaches node Logs caches → FirstGoOn node refills Logs turn 0 caches caches
    first_none caches are = record {
      on = none_goes turn caches are;
      caught = λ told place from to lt. absurd (omega (arith, lt));
      rest = λ place cache le at. at;
    }

    -- one more goes on
    pub one_goes_on : (count : ℕ) (old now : List (Named N)) (from to : Named N) → FirstGoOn node refills Logs turn count old now
        → slice_get now count ≡ Some from → GoesInTurn node refills Logs (turn from.name) from to
        → CachesGoOn node refills Logs turn old (slice_set now count to)
    one_goes_on count old now from to was at goes = record {
      names = ap (λ (n : NodeName). node_names (slice_set now count (named n to.node))) goes.goes.name_is
          ∙ names_set now count from.name from.node to.node at ∙ was.on.names;
      each = λ place x h. elim (get_set now count to place x h) [
        | inl e ↦ was.on.each place x e.1
        | inr e ↦ (
            let stood : slice_get old place ≡ Some from = ap (slice_get old) e.0 ∙ was.rest count from (omega arith) at in
            (from, stood, subst (GoesInTurn node refills Logs (turn from.name) from) e.1 goes))
      ];
    }

    -- and catches up
    pub one_more : (count : ℕ) (old now : List (Named N)) (from to : Named N) → FirstGoOn node refills Logs turn count old now
        → slice_get now count ≡ Some from → GoesInTurn node refills Logs (turn from.name) from to
        → WhereTold tells (CatchesInTurn node s tables (turn from.name) from to)
        → FirstGoOn node refills Logs turn (count + 1) old (slice_set now count to)
    one_more count old now from to was at goes catches = record {
      on = one_goes_on count old now from to was at goes;
      caught = λ told place x y lt stood h. elim (get_set now count to place y h) [
        | inl e ↦ was.caught told place x y (let differ = e.0 in omega (arith, lt, differ)) stood e.1
        | inr e ↦ (
            let there : slice_get old count ≡ Some x = ap (slice_get old) (sym e.0) ∙ stood in
            let same : from ≡ x = one_some from x (sym (was.rest count from (omega arith) at) ∙ there) in
            subst (λ (z : Named N). CatchesInTurn node s tables (turn x.name) x z) e.1
            (subst (λ (z : Named N). CatchesInTurn node s tables (turn z.name) z to) same (catches told)))
      ];
      rest = λ place cache le h. elim (get_set now count to place cache h) [
        | inl e ↦ was.rest place cache (omega (arith, le)) e.1
        | inr e ↦ absurd (let here = e.0 in omega (arith, le, here))
      ];
    }

    -- all have
    pub all_caught : (count : ℕ) (old now : List (Named N)) → FirstGoOn node refills Logs turn count old now → length now ≤ count
        → WhereTold tells (HaveCaughtUp node s tables turn old now)
    all_caught count old now was all told = record {
      each = λ place from to stood at. was.caught told place from to (let lt = slice_get_within now place to at in omega arith) stood at;
    }

  -- ---- those of one region after those of others

  abbrev CatchesUpFrom : Named N → Named N → Type 0
  CatchesUpFrom from to = CatchesUp s tables (region_of from.name) (node from.node) (node to.node)

  -- whose turn it is may be told otherwise
  pub on_as : (turn other : NodeName → Bool) (old new : List (Named N)) → ((name : NodeName) → other name ≡ false → turn name ≡ false)
      → CachesGoOn node refills Logs turn old new → CachesGoOn node refills Logs other old new
  on_as turn other old new off on = record {
    names = on.names;
    each = λ place to at.
        let was = on.each place to at in
        (was.0, was.1, record { goes = was.2.goes; same = λ no. was.2.same (off was.0.name no) });
  }

  pub caught_as : (turn other : NodeName → Bool) (old new : List (Named N)) → AreCaches node Logs old
      → ((name : NodeName) → IsConfiguredCache s name → other name ≡ true → turn name ≡ true) → HaveCaughtUp node s tables turn old new
      → HaveCaughtUp node s tables other old new
  caught_as turn other old new are on caught = record {
    each = λ place from to stood at.
        record { caught = λ turned. (caught.each place from to stood at).caught (on from.name (are place from stood).configured turned) };
  }

  module _ (first second both : NodeName → Bool) (ons : (name : NodeName) → both name ≡ false → (first name ≡ false) × (second name ≡ false)) where
    pub on_next : (old mid new : List (Named N)) → CachesGoOn node refills Logs first old mid → CachesGoOn node refills Logs second mid new
        → CachesGoOn node refills Logs both old new
    on_next old mid new was on = record {
      names = on.names ∙ was.names;
      each = λ place to at.
          let last = on.each place to at in
          let before = was.each place last.0 last.1 in (
            before.0,
            before.1,
            record {
              goes = cache_goes_on node refills tells s tables pens before.0 last.0 to before.2.goes last.2.goes;
              same = λ off.
                  let each_off = ons before.0.name off in
                  let stood : last.0 ≡ before.0 = before.2.same each_off.0 in
                  last.2.same (ap (λ (n : NodeName). second n) before.2.goes.name_is ∙ each_off.1) ∙ stood;
            },
          );
    }

    module _ (one : (name : NodeName) → both name ≡ true → (first name ≡ true → second name ≡ false) × (first name ≡ false → second name ≡ true)) where
      pub caught_next : (old mid new : List (Named N)) → CachesGoOn node refills Logs first old mid → CachesGoOn node refills Logs second mid new
          → HaveCaughtUp node s tables first old mid → HaveCaughtUp node s tables second mid new → HaveCaughtUp node s tables both old new
      caught_next old mid new was on before after = record {
        each = λ place from to stood at. (
            let last = on.each place to at in
            let start = was.each place last.0 last.1 in
            let is : start.0 ≡ from = one_some start.0 from (sym start.1 ∙ stood) in
            let goes : GoesInTurn node refills Logs (first from.name) from last.0 =
            subst (λ (z : Named N). GoesInTurn node refills Logs (first z.name) z last.0) is start.2 in
            let name_is : last.0.name ≡ from.name = goes.goes.name_is in
            record {
              caught = λ on_both. elim (cases_Bool (first from.name)) [
                | inl turned ↦ (
                    let still : to ≡ last.0 = last.2.same (ap (λ (n : NodeName). second n) name_is ∙ (one from.name on_both).0 turned) in
                    subst (λ (z : Named N). CatchesUpFrom from z) (sym still) ((before.each place from last.0 stood last.1).caught turned))
                | inr not_yet ↦ (
                    let stays : last.0 ≡ from = goes.same not_yet in
                    let turns : second last.0.name ≡ true = ap (λ (n : NodeName). second n) name_is ∙ (one from.name on_both).1 not_yet in
                    subst (λ (z : Named N). CatchesUpFrom z to) stays ((after.each place last.0 to last.1 at).caught turns))
              ];
            });
      }

-- ---- one, where it is its turn

-- it isn't
pub turn_none : {N : Type 0} (node : N → Node) (s : Settings) (tables : Tables) (turn : Bool) (cache : Named N) → turn ≡ false
    → CatchesInTurn node s tables turn cache cache
turn_none node s tables turn cache off = record { caught = λ on. absurd (both_ways turn off on) }

-- it is
pub turn_region : (states : NodeStates) (region : ℕ) (name : NodeName) → is_turn states region name ≡ true → region_of name ≡ region
turn_region states region name on = eqb-true (region_of name) region (and_parts (region_of name == region) (is_up states name) on).0

pub turn_goes : {N : Type 0} (node : N → Node) (refills : N → List Refill) (tells : Bool) (s : Settings) (tables : Tables) (pens : Pens) (turn : Bool)
    (from to : Named N) → turn ≡ true → CacheGoesOn node refills (seen_logs tells s tables pens) from to
    → GoesInTurn node refills (seen_logs tells s tables pens) turn from to
turn_goes node refills tells s tables pens turn from to on goes = record { goes = goes; same = λ off. absurd (both_ways turn off on) }

pub turn_caught : {N T E : Type 0} (node : N → Node) (s : Settings) (tables : Tables) (states : NodeStates) (region : ℕ) (from to : Named N)
    (r : Result T E) → is_turn states region from.name ≡ true → OnOk r (CatchesUp s tables region (node from.node) (node to.node))
    → OnOk r (CatchesInTurn node s tables (is_turn states region from.name) from to)
turn_caught node s tables states region from to (Ok done) on caught = record {
  caught = λ again.
      subst (λ r. CatchesUp s tables r (node from.node) (node to.node)) (sym (turn_region states region from.name on)) caught;
}
turn_caught node s tables states region from to (Err stop) on caught = tt

-- ---- region by region

-- the regions before this have had their turn
abbrev pub had_turn : NodeStates → ℕ → NodeName → Bool
had_turn states region name = nat_lt (region_of name) region && is_up states name

next_off : (r k : ℕ) (up : Bool) → (nat_lt r (k + 1) && up) ≡ false → ((nat_lt r k && up) ≡ false) × (((r == k) && up) ≡ false)
next_off r k up off = (
  elim (cases_Bool (nat_lt r k && up)) [
    | inl on ↦ (
        let parts = and_parts (nat_lt r k) up on in
        let lt : r < k + 1 = (let less = ltb-true r k parts.0 in omega arith) in
        absurd (both_ways (nat_lt r (k + 1) && up) off (and_from (nat_lt r (k + 1)) up (lt-ltb r (k + 1) lt) parts.1)))
    | inr none ↦ none
  ],
  elim (cases_Bool ((r == k) && up)) [
    | inl on ↦ (
        let parts = and_parts (r == k) up on in
        let lt : r < k + 1 = (let same = eqb-true r k parts.0 in omega arith) in
        absurd (both_ways (nat_lt r (k + 1) && up) off (and_from (nat_lt r (k + 1)) up (lt-ltb r (k + 1) lt) parts.1)))
    | inr none ↦ none
  ],
)

next_on : (r k : ℕ) (up : Bool) → (nat_lt r (k + 1) && up) ≡ true
    → ((nat_lt r k && up) ≡ true → ((r == k) && up) ≡ false) × ((nat_lt r k && up) ≡ false → ((r == k) && up) ≡ true)
next_on r k up on = (
  λ was. (
      let less = ltb-true r k (and_parts (nat_lt r k) up was).0 in
      let other : (r == k) ≡ false = ne_eqb r k (λ same. omega arith) in
      rw other refl),
  λ none. (
      let parts = and_parts (nat_lt r (k + 1)) up on in
      let lt = ltb-true r (k + 1) parts.0 in
      elim (cases_Bool (nat_lt r k)) [
        | inl less ↦ absurd (both_ways (nat_lt r k && up) none (and_from (nat_lt r k) up less parts.1))
        | inr past ↦ (
            let same : r ≡ k = (let most = ltb-false r k past in omega arith) in
            and_from (r == k) up (eq-eqb r k same) parts.1)
      ]),
)

module _ {N : Type 0} (node : N → Node) (refills : N → List Refill) (tells : Bool) (s : Settings) (tables : Tables) (pens : Pens) (states : NodeStates) where
  abbrev Region_logs : SeenLogs
  Region_logs = seen_logs tells s tables pens

  -- no region has
  pub no_region : (caches : List (Named N)) → HaveCaughtUp node s tables (had_turn states 0) caches caches
  no_region caches = record {
    each = λ place from to stood at. record {
      caught = λ on. (
          let parts = and_parts (nat_lt (region_of from.name) 0) (is_up states from.name) on in
          absurd (let none = ltb-true (region_of from.name) 0 parts.0 in omega arith));
    };
  }

  -- one more has
  pub region_on : (region : ℕ) (old mid new : List (Named N)) → CachesGoOn node refills Region_logs (had_turn states region) old mid
      → CachesGoOn node refills Region_logs (is_turn states region) mid new → CachesGoOn node refills Region_logs (had_turn states (region + 1)) old new
  region_on region old mid new =
      on_next node refills tells s tables pens (had_turn states region) (is_turn states region) (had_turn states (region + 1))
      (λ name. next_off (region_of name) region (is_up states name)) old mid new

  pub region_caught : (region : ℕ) (old mid new : List (Named N)) → CachesGoOn node refills Region_logs (had_turn states region) old mid
      → CachesGoOn node refills Region_logs (is_turn states region) mid new → HaveCaughtUp node s tables (had_turn states region) old mid
      → HaveCaughtUp node s tables (is_turn states region) mid new → HaveCaughtUp node s tables (had_turn states (region + 1)) old new
  region_caught region old mid new =
      caught_next node refills tells s tables pens (had_turn states region) (is_turn states region) (had_turn states (region + 1))
      (λ name. next_off (region_of name) region (is_up states name)) (λ name. next_on (region_of name) region (is_up states name)) old mid new

  -- some have, or all: those that are down stay as they are
  pub some_on : (region : ℕ) (old new : List (Named N)) → CachesGoOn node refills Region_logs (had_turn states region) old new
      → CachesGoOn node refills Region_logs (is_up states) old new
  some_on region old new =
      on_as node refills tells s tables pens (had_turn states region) (is_up states) old new (λ name off. elim (cases_Bool (nat_lt (region_of name) region)) [
        | inl before ↦ rw before off
        | inr after ↦ rw after refl
      ])

  -- all have
  pub all_up_caught : (region : ℕ) (old new : List (Named N)) → length s.regions ≤ region → AreCaches node Region_logs old
      → HaveCaughtUp node s tables (had_turn states region) old new → HaveCaughtUp node s tables (is_up states) old new
  all_up_caught region old new all are =
      caught_as node refills tells s tables pens (had_turn states region) (is_up states) old new are
      (λ name configured on. (
      let within = configured_region s name configured in
      and_from (nat_lt (region_of name) region) (is_up states name) (lt-ltb (region_of name) region (omega arith)) on))
