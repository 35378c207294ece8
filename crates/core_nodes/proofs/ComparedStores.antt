-- The slaves' logs, compared with their masters', shard by shard.
use Rattle.std.proofs.Common.{◌≡◌, ◌≢◌, ℕ, zero, suc, ◌+◌, ◌≤◌, ◌<◌, Bool, List, ◌∷◌, length, map, refl, sym, ap, ◌∙◌, subst, inl, inr}
use Rattle.std.proofs.Common.{arith, Err, Some}
use Rattle.std.proofs.lemmas.Bool.{cases_Bool, cases_eq, eqb-false, eqb-true}
use Rattle.std.proofs.lemmas.Option.{get_or_from_slice_get, slice_get_within}
use Rattle.std.specs.List.{AllWithin, range_with_len}
use Rattle.std.specs.Prelude.{◌==◌, All, filter, not, slice_get}
use Rattle.counts.proofs.Rises.{Rose-earlier}
use Rattle.graph_model.proofs.Members.{All-in, IsIn, in_from_contains}
use Rattle.graph_model.specs.Told.{WhereTold}
use Rattle.region_stream.specs.Agreeing.{DiffersFirst}
use Rattle.region_stream.specs.Opening.{AgreesAs, BeginsUnder, DisagreesFirst, NamesOneOf}
use Rattle.region_stream.specs.declared.opening.ShardRefusal.{ShardRefusal}
use Rattle.region_stream.specs.declared.opening.ShardRefusal.TheVariants as within
use Rattle.shard_log.proofs.Beginnings.{begins-self}
use Rattle.shard_log.specs.View.{Begins}
use Rattle.tao_base.specs.declared.id.StoreName.{StoreName}
use Rattle.tao_keeper.specs.KeeperState.{CallsKeeper, IsLater, KeeperState}
use Rattle.tao_keeper.specs.Table.{Stays, Tables}
use Rattle.topology.specs.Config.{Settings}
use Rattle.core_model.proofs.FoundStores.{same_name}
use Rattle.core_model.specs.Stores.{master_log, master_of, master_store, region_store}
use Rattle.core_nodes.specs.Opening.{AgreeUpTo, DisagreesAt, IsSlaveStore, RefusesMaking, shard_refusal, slave_names}
use Rattle.core_nodes.proofs.MadeNames.{in_slaves, slave_in}

-- ---- names that are compared in order

-- what holds of the names before one holds of that of each region before
abbrev HoldsBefore : (StoreName → Type 0) → ℕ → ℕ → ℕ → ℕ → List StoreName → Type 0
HoldsBefore P shard one first region names = (place : ℕ) → slice_get names place ≡ Some (region_store region shard) → AllWithin P names 0 place
    → (other : ℕ) → first ≤ other → other < region → other ≢ one → P (region_store other shard)

named_next : (P : StoreName → Type 0) (shard one first region : ℕ) (rest : List StoreName) → HoldsBefore P shard one (first + 1) region rest
    → HoldsBefore P shard one first region (region_store first shard ∷ rest)
named_next P shard one first region rest later zero here all other low lt differ =
    let same : region_store first shard ≡ region_store region shard = cc in
    absurd (omega (arith, low, lt, ap (λ (at : StoreName). at.region) same))
named_next P shard one first region rest later (suc place) here all other low lt differ = elim (cases_eq other first) [
  | inl same ↦ subst (λ r. P (region_store r shard)) (sym same) (all 0 (region_store first shard) (omega arith) (omega arith))
  | inr apart ↦ later place here (λ k d le under. all (suc k) d (omega arith) (omega (arith, under))) other (omega (arith, low, apart)) lt differ
]

before_named : (P : StoreName → Type 0) (shard one region first count : ℕ)
    → HoldsBefore P shard one first region (map (λ r. region_store r shard) (filter (λ r. not (r == one)) (range_with_len first count)))
before_named P shard one region first zero place here all other low lt differ = absurd (cc)
before_named P shard one region first (suc count) place here all other low lt differ = elim (cases_Bool (first == one)) [
  | inl is ↦ before_named P shard one region (first + 1) count place (rw is at here) (rw is at all) other
      (let same = eqb-true first one is in omega (arith, low, differ, same)) lt differ
  | inr isnt ↦ named_next P shard one first region (map (λ r. region_store r shard) (filter (λ r. not (r == one)) (range_with_len (first + 1) count)))
      (before_named P shard one region (first + 1) count) place (rw isnt at here) (rw isnt at all) other low lt differ
]

in_at : {X : Type 0} (xs : List X) (place : ℕ) (x : X) → slice_get xs place ≡ Some x → IsIn x xs
in_at xs place x h = in_from_contains xs x (place, slice_get_within xs place x h, get_or_from_slice_get xs place x x h)

-- ---- logs

-- a store of the master's region is the master's
own_begins : (s : Settings) (tables : Tables) (at : StoreName) → at.region ≡ master_of s at.shard → Begins (tables at).log (master_log s tables at.shard)
own_begins s tables at is =
    let same : at ≡ master_store s at.shard = same_name at (master_store s at.shard) is refl in
    subst (λ a. Begins (tables a).log (master_log s tables at.shard)) (sym same) (begins-self (master_log s tables at.shard))

pub agree_none : (s : Settings) (tables : Tables) → AgreeUpTo s tables 0
agree_none s tables at here lt = absurd (omega (arith, lt))

-- one more shard was compared
pub agree_more : (s : Settings) (tables : Tables) (shard : ℕ) → AgreeUpTo s tables shard
    → All (BeginsUnder tables (master_log s tables shard)) (slave_names s shard) → AgreeUpTo s tables (shard + 1)
agree_more s tables shard earlier all at here lt = elim (cases_eq at.shard shard) [
  | inl same ↦ elim (cases_eq at.region (master_of s at.shard)) [
    | inl own ↦ own_begins s tables at own
    | inr apart ↦
        subst (λ n. Begins (tables at).log (master_log s tables n)) (sym same)
        (All-in (BeginsUnder tables (master_log s tables shard)) (slave_names s shard) at all
        (subst (λ n. IsIn at (slave_names s n)) same (in_slaves s at here apart)))
  ]
  | inr differ ↦ earlier at here (omega (arith, lt, differ))
]

-- a slave of the shard disagrees
disagrees_at : (s : Settings) (tables : Tables) (shard : ℕ) (name : StoreName) (position : ℕ) → AgreeUpTo s tables shard
    → DisagreesFirst tables (master_log s tables shard) (slave_names s shard) name position → DisagreesAt s tables name position
disagrees_at s tables shard name position agree is =
    let slave = slave_in s shard name (in_at (slave_names s shard) is.place name is.stands) in
    let named : name ≡ region_store name.region shard = same_name name (region_store name.region shard) refl slave.shard_is in
    record {
      differs = subst (λ n. DiffersFirst (tables name).log (master_log s tables n) position) (sym slave.shard_is) is.differs;
      before = λ other here compared. elim compared [
        | inl lt ↦ agree other here (let same = slave.shard_is in omega (arith, lt, same))
        | inr later ↦ elim (cases_eq other.region (master_of s other.shard)) [
          | inl own ↦ own_begins s tables other own
          | inr apart ↦ (
              let shard_is : other.shard ≡ shard = later.0 ∙ slave.shard_is in
              let so : other ≡ region_store other.region shard = same_name other (region_store other.region shard) refl shard_is in
              let begins = before_named (BeginsUnder tables (master_log s tables shard)) shard (master_of s shard) name.region 0 (length s.regions) is.place
              (is.stands ∙ ap Some named) is.before other.region (omega arith) later.1 (λ e. apart (e ∙ ap (master_of s) (sym shard_is))) in
              subst (λ n. Begins (tables other).log (master_log s tables n)) (sym shard_is)
              (subst (λ a. Begins (tables a).log (master_log s tables shard)) (sym so) begins))
        ]
      ];
    }

-- ---- refusals

-- whatever the tables are, a store that is said to disagree is a slave's
slave_named : (s : Settings) (shard : ℕ) (name : StoreName) → shard < s.shards → IsIn name (slave_names s shard) → IsSlaveStore s name
slave_named s shard name lt h =
    let is = slave_in s shard name h in
    record {
      here = record { region = is.region; shard = (let same = is.shard_is in omega (arith, lt, same)) };
      apart = λ e. eqb-false name.region (master_of s shard) is.apart (e ∙ ap (master_of s) is.shard_is);
    }

-- the stores of a shard aren't made, where those of the shards before were
pub shard_refused : (T : Type 0) (tells : Bool) (s : Settings) (shard : ℕ) (start old new : KeeperState) (r : ShardRefusal) → shard < s.shards
    → WhereTold tells (AgreeUpTo s start.told shard) → WhereTold tells (Stays start.told old.told) → IsLater start old
    → WhereTold tells (AgreesAs {T = T} old.told (master_log s old.told shard) (slave_names s shard) (Err r)) → NamesOneOf (slave_names s shard) r
    → CallsKeeper {T = T} within.KeeperFault old new (Err r) → RefusesMaking tells s start new (shard_refusal r)
shard_refused T tells s shard start old new within.KeeperFault lt agree stays before agrees named calls =
    Rose-earlier start.faults old.faults new.faults before.faults (calls.failed refl)
shard_refused T tells s shard start old new (within.Disagree name position) lt agree stays before agrees named calls = (
  slave_named s shard name lt (in_from_contains (slave_names s shard) name named),
  λ told.
      let same : old.told ≡ start.told = λ i at. stays told at i in
      disagrees_at s start.told shard name position (agree told)
      (subst (λ t. DisagreesFirst t (master_log s t shard) (slave_names s shard) name position) same (agrees told)),
)
shard_refused T tells s shard start old new within.OutOfMemory lt agree stays before agrees named calls = tt
