-- The stores of a configuration while they are opened.
use Rattle.std.proofs.Common.{◌≡◌, ◌≢◌, ◌⊎◌, ℕ, zero, suc, ◌+◌, ◌*◌, ◌<◌, ◌≤◌, Bool, List, Err, refl, ap, sym, ◌∙◌, subst, inl, inr, arith}
use Rattle.std.specs.Prelude.{◌/◌, ◌%◌, length}
use Rattle.std.proofs.Common.{mul_comm}
use Rattle.std.proofs.Math.Nat.{div-lt_iff_lt-mul}
use Rattle.std.proofs.lemmas.Bool.{cases_eq, cases_lt}
use Rattle.std.proofs.lemmas.Nat.{div-mul-add, mod-mul-add, mul-add-lt}
use Rattle.tao_base.specs.declared.id.StoreName.{StoreName}
use Rattle.counts.proofs.Rises.{Rose-earlier}
use Rattle.graph_model.specs.Told.{WhereTold}
use Rattle.tao_keeper.specs.KeeperState.{IsLater, KeeperState}
use Rattle.tao_keeper.specs.Table.{Tables, Becomes, Stays, OpensAs, after_open}
use Rattle.tao_keeper.specs.declared.keeper.Opened.TheVariants.{Ready, OtherLine}
use Rattle.topology.specs.Config.{Settings}
use Rattle.replies.specs.declared.opening.OpenRefusal.{OpenRefusal}
use Rattle.replies.specs.declared.opening.OpenRefusal.TheVariants as refusal
use Rattle.core_model.proofs.FoundStores.{same_name}
use Rattle.core_model.specs.Stores.{IsConfiguredStore, store_count, store_place}
use Rattle.core_nodes.specs.Opening.{AreOpened, AreReady, HasOpenCause, IsFirst, IsOpened, OpensOne, RefusesOpening}

-- ---- places

-- a place is that of one store alone
pub one_place : (s : Settings) (a b : StoreName) → IsConfiguredStore s a → IsConfiguredStore s b → store_place s a ≡ store_place s b → a ≡ b
one_place s a b here there same =
    same_name a b
    (sym (div-mul-add a.region s.shards a.shard here.shard) ∙ ap (λ n. n / s.shards) same ∙ div-mul-add b.region s.shards b.shard there.shard)
    (sym (mod-mul-add a.region s.shards a.shard here.shard) ∙ ap (λ n. n % s.shards) same ∙ mod-mul-add b.region s.shards b.shard there.shard)

-- the region of a place is one of the configuration's
pub region_of_place : (s : Settings) (place shards : ℕ) → place < store_count s → shards ≡ s.shards → place / shards < length s.regions
region_of_place s place zero lt same =
    let none : length s.regions * s.shards ≡ length s.regions * 0 = ap (λ n. length s.regions * n) (sym same) in
    absurd (omega (arith, lt, none))
region_of_place s place (suc n) lt same =
    (div-lt_iff_lt-mul {k = suc n} {x = place} {y = length s.regions} (omega arith)).1 (subst (λ n. place < length s.regions * n) (sym same) lt)

-- it is one of all
pub place_within : (s : Settings) (at : StoreName) → IsConfiguredStore s at → store_place s at < store_count s
place_within s at here =
    let most = mul-add-lt at.region s.shards at.shard (length s.regions) here.region here.shard in
    omega (arith, most, mul_comm (length s.regions) s.shards)

-- each store of the configuration is one of all
pub all_first : (s : Settings) (at : StoreName) → IsConfiguredStore s at → IsFirst s (store_count s) at
all_first s at here = record { here = here; before = place_within s at here }

-- a store is one of the first, or isn't
pub first_or_other : (s : Settings) (count : ℕ) (at : StoreName) → IsFirst s count at ⊎ (IsFirst s count at → ⊥)
first_or_other s count at = by_parts (cases_lt at.region (length s.regions)) (cases_lt at.shard s.shards) (cases_lt (store_place s at) count)
  where
    by_parts : ((at.region < length s.regions) ⊎ (length s.regions ≤ at.region)) → ((at.shard < s.shards) ⊎ (s.shards ≤ at.shard))
        → ((store_place s at < count) ⊎ (count ≤ store_place s at)) → IsFirst s count at ⊎ (IsFirst s count at → ⊥)
    by_parts (inl region) (inl shard) (inl before) = inl (record { here = record { region = region; shard = shard }; before = before })
    by_parts (inr past) shard place = inr (λ first. let region = first.here.region in omega (arith, past, region))
    by_parts (inl region) (inr past) place = inr (λ first. let shard = first.here.shard in omega (arith, past, shard))
    by_parts (inl region) (inl shard) (inr past) = inr (λ first. let before = first.before in omega (arith, past, before))

-- ---- opening

-- no store is open yet
pub opened_none : (s : Settings) (line : List ℕ) (tables : Tables) → AreOpened s line 0 tables tables
opened_none s line tables = record {
  stores = λ at first. (let before = first.before in absurd (omega (arith, before)));
  others = λ at h. refl;
}

-- nothing changes
pub opened_stays : (s : Settings) (line : List ℕ) (count : ℕ) (old mid new : Tables) → AreOpened s line count old mid → Stays mid new
    → AreOpened s line count old new
opened_stays s line count old mid new opened stays = record {
  stores = λ at first. stays at ∙ opened.stores at first;
  others = λ at none. stays at ∙ opened.others at none;
}

module _ (s : Settings) (line : List ℕ) (count : ℕ) (next : StoreName) (here : IsConfiguredStore s next) (place : store_place s next ≡ count) where
  -- the store at the next place isn't one of the first
  unopened : (old mid : Tables) → AreOpened s line count old mid → mid next ≡ old next
  unopened old mid opened = opened.others next (λ first. let before = first.before in omega (arith, before, place))

  -- with it, one of the first is it or was one of them
  first_more : (at : StoreName) → IsFirst s (count + 1) at → (at ≡ next) ⊎ IsFirst s count at
  first_more at first = elim (cases_eq (store_place s at) count) [
    | inl same ↦ inl (one_place s at next first.here here (same ∙ sym place))
    | inr differ ↦ inr (record { here = first.here; before = (let before = first.before in omega (arith, before, differ)) })
  ]

  next_first : IsFirst s (count + 1) next
  next_first = record { here = here; before = omega (arith, place) }

  first_on : (at : StoreName) → IsFirst s count at → IsFirst s (count + 1) at
  first_on at first = record { here = first.here; before = (let before = first.before in omega (arith, before)) }

  apart : (at : StoreName) → IsFirst s count at → at ≢ next
  apart at first same = let before = first.before in omega (arith, before, place, ap (store_place s) same)

  -- one more store is open
  pub opened_more : (old mid new : Tables) → AreOpened s line count old mid → Becomes mid new next (after_open (mid next) line)
      → AreOpened s line (count + 1) old new
  opened_more old mid new opened becomes = record {
    stores = λ at first. elim (first_more at first) [
      | inl same ↦ subst (λ a. new a ≡ after_open (old a) line) (sym same) (becomes.here ∙ ap (λ t. after_open t line) (unopened old mid opened))
      | inr was ↦ becomes.others at (apart at was) ∙ opened.stores at was
    ];
    others = λ at none.
        becomes.others at (λ same. none (subst (IsFirst s (count + 1)) (sym same) next_first)) ∙ opened.others at (λ first. none (first_on at first));
  }

  -- one more store is ready
  pub ready_more : (old mid : Tables) → AreOpened s line count old mid → AreReady s line count old → OpensAs Ready (mid next) line
      → AreReady s line (count + 1) old
  ready_more old mid opened ready takes at first = elim (first_more at first) [
    | inl same ↦ subst (λ a. OpensAs Ready (old a) line) (sym same) (subst (λ t. OpensAs Ready t line) (unopened old mid opened) takes)
    | inr was ↦ ready at was
  ]

  -- it isn't opened: what was opened before it
  pub refused_opening : (T : Type 0) (tells : Bool) (start old new : KeeperState) (r : OpenRefusal) → count < store_count s
      → WhereTold tells (AreOpened s line count start.told old.told) → WhereTold tells (AreReady s line count start.told) → IsLater start old
      → WhereTold tells (OpensOne {T = T} line next old.told new.told (Err r)) → HasOpenCause old.faults new.faults r
      → RefusesOpening tells s line start new r
  refused_opening T tells start old new refusal.KeeperFault within opened ready before opens cause = (
    Rose-earlier start.faults old.faults new.faults before.faults cause,
    λ told. record { count = count; some = omega (arith, within); opened = opened_stays s line count start.told old.told new.told (opened told) (opens told) },
  )
  refused_opening T tells start old new refusal.OtherLine within opened ready before opens cause = λ told. record {
    store = next;
    configured = here;
    ready = subst (λ n. AreReady s line n start.told) (sym place) (ready told);
    other = subst (λ t. OpensAs OtherLine t line) (unopened start.told old.told (opened told)) (opens told).0;
    opened = subst (λ n. AreOpened s line (n + 1) start.told new.told) (sym place) (opened_more start.told old.told new.told (opened told) (opens told).1);
  }
  refused_opening T tells start old new (refusal.Disagree at position) within opened ready before opens cause = absurd cause
  refused_opening T tells start old new refusal.OutOfMemory within opened ready before opens cause =
      λ told. record { count = count; some = omega (arith, within); opened = opened_stays s line count start.told old.told new.told (opened told) (opens told) }

-- making the stores leaves them open
pub opened_kept : (s : Settings) (line : List ℕ) (start old new : Tables) → IsOpened s line start old → Stays old new → IsOpened s line start new
opened_kept s line start old new is stays =
    record { ready = is.ready; opened = opened_stays s line (store_count s) start old new is.opened stays }
