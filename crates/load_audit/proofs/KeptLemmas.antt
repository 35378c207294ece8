-- Keepers with their logs, each at its place.
use Rattle.std.proofs.Common.{◌≡◌, ◌∙◌, ℕ, Bool, List, [], ◌∷◌, ◌++◌, ap, subst, sym, length, map, refl, arith, take}
use Rattle.std.proofs.lemmas.List.{length-map}
use Rattle.std.proofs.lemmas.Option.{slice_get-get_or, slice_get-map, slice_get_within}
use Rattle.std.specs.Option.{option_map_or}
use Rattle.std.specs.Prelude.{IsErrOf, None, Option, Result, Some, get_or, option_map, slice_get}
use Rattle.keepers.specs.Shown.{place_of, told_in}
use Rattle.request_check.specs.declared.checked.CheckedWrite.{CheckedWrite}
use Rattle.tao_base.specs.declared.id.StoreName.{StoreName}
use Rattle.topology.specs.Config.{Settings}
use Rattle.tao_keeper.specs.KeeperState.{CallsKeeper, KeeperState, KeepsTables}
use Rattle.tao_keeper.specs.Table.{empty_table}
use Rattle.tao_keeper.specs.declared.keeper.KeepFail.TheVariants.{Failed as KeeperFailed}
use Rattle.graph_model.specs.Told.{WhereTold}
use Rattle.load_audit.specs.Auditing.{AuditsLog, AuditsLogs}
use Rattle.load_audit.specs.Kept.{AreAudited, AuditsEach, AuditsKept, HasFault, KeeperStays, KeepersStay, OneFailed, keepers_in}
use Rattle.load_audit.specs.declared.audits.AuditRefusal.{AuditRefusal}
use Rattle.load_audit.specs.declared.audits.AuditRefusal.TheVariants.{Failed as AuditFailed}
use Rattle.load_audit.specs.declared.audits.LoadAudit.{LoadAudit}
use Rattle.load_audit.specs.declared.kept.KeptLog.{KeptLog}

-- what a mapped list has at a place comes of what the list has there
unmapped : {X Y : Type 0} (f : X → Y) (xs : List X) (place : ℕ) (y : Y) → slice_get (map f xs) place ≡ Some y → (x : X) × (slice_get xs place ≡ Some x) × (f x ≡ y)
unmapped {X} {Y} f xs place y is = by (slice_get xs place) refl (sym (slice_get-map f xs place) ∙ is)
  where
    by : (found : Option X) → slice_get xs place ≡ found → option_map f found ≡ Some y → (x : X) × (slice_get xs place ≡ Some x) × (f x ≡ y)
    by None none same = absurd (cc)
    by (Some x) some same = (x, some, (let one : f x ≡ y = cc in one))

-- what was written to a whole list is what it has
take_front : {X : Type 0} (xs ys : List X) → take (length xs) (xs ++ ys) ≡ xs
take_front [] ys = refl
take_front (x ∷ xs) ys = ap (λ zs. x ∷ zs) (take_front xs ys)

pub whole_written : {X : Type 0} (new rest : List X) (len : ℕ) → length new ≡ len → take len (new ++ rest) ≡ new
whole_written new rest len same = subst (λ n. take n (new ++ rest) ≡ new) same (take_front new rest)

same_some : {X : Type 0} (x y : X) → Some x ≡ Some y → x ≡ y
same_some x y is = cc

module _ {M : Type 0} (state : M → KeeperState) where
  -- what keepers tell of the store whose keeper stands at its place
  pub told_at : (shards : ℕ) (all : List (KeptLog M)) (at : StoreName) (kept : KeptLog M) → slice_get all (place_of shards at) ≡ Some kept
      → told_in state shards (keepers_in all) at ≡ (state kept.keeper).told at
  told_at shards all at kept is =
      ap (λ (found : Option M). option_map_or (λ (keeper : M). (state keeper).told at) found empty_table)
      (slice_get-map (λ (k : KeptLog M). k.keeper) all (place_of shards at) ∙ ap (option_map (λ (k : KeptLog M). k.keeper)) is)

  -- the log of a keeper was audited, or none is to be
  pub audits_one : (tells : Bool) (writes : List CheckedWrite) (old new : KeptLog M) (at : StoreName) → new.at ≡ Some at
      → KeepsTables tells (state old.keeper) (state new.keeper) → CallsKeeper (AuditFailed KeeperFailed) (state old.keeper) (state new.keeper) new.found
      → WhereTold tells (AuditsLog writes at.shard ((state new.keeper).told at).log new.found) → AuditsKept tells state writes old new
  audits_one tells writes old new at here tables calls found = record {
    stays = record { tables = tables; later = record { calls = calls.calls; faults = calls.faults } };
    audited = λ other is.
        let same : at ≡ other = same_some at other (sym here ∙ is) in
        subst (λ (name : StoreName). WhereTold tells (AuditsLog writes name.shard ((state new.keeper).told name).log new.found)) same found;
    rose = λ failed. calls.failed failed.found_is;
  }

  pub audits_none : (tells : Bool) (writes : List CheckedWrite) (kept : KeptLog M) → kept.at ≡ None → AuditsKept tells state writes kept kept
  audits_none tells writes kept none = record {
    stays = record { tables = λ told at. refl; later = record { calls = omega arith; faults = omega arith } };
    audited = λ other is. absurd (cc);
    rose = λ failed. (let some = failed.at_is in absurd (cc));
  }

  -- keepers that nobody called stay
  pub same_stay : (tells : Bool) (given back : List M) → back ≡ given → KeepersStay tells state given back
  same_stay tells given back same = record {
    many = ap length same;
    each = λ place before after was is.
        let one : before ≡ after = same_some before after (sym was ∙ ap (λ (ks : List M). slice_get ks place) (sym same) ∙ is) in
        subst (λ (k : M). KeeperStays tells (state before) (state k)) one
        (record { tables = λ told at. refl; later = record { calls = omega arith; faults = omega arith } });
  }

  module _ (tells : Bool) (writes : List CheckedWrite) (old new : List (KeptLog M)) (many : length new ≡ length old)
      (audits : AuditsEach tells state writes old new) where
    -- what stood there before
    was_at : (place : ℕ) (after : KeptLog M) → slice_get new place ≡ Some after → (before : KeptLog M) × (slice_get old place ≡ Some before)
    was_at place after is =
        let within = slice_get_within new place after is in
        (get_or old place after, slice_get-get_or old place after (omega (arith, within, many)))

    pub all_audited : AreAudited tells state writes new
    all_audited place after is = let before = was_at place after is in (audits place before.0 after before.1 is).audited

    pub keepers_stay : KeepersStay tells state (keepers_in old) (keepers_in new)
    keepers_stay = record {
      many = length-map new (λ (k : KeptLog M). k.keeper) ∙ many ∙ sym (length-map old (λ (k : KeptLog M). k.keeper));
      each = stays_at;
    }
      where
        stays_at : (place : ℕ) (before after : M) → slice_get (keepers_in old) place ≡ Some before → slice_get (keepers_in new) place ≡ Some after
            → KeeperStays tells (state before) (state after)
        stays_at place before after before_is after_is =
            let first = unmapped (λ (k : KeptLog M). k.keeper) old place before before_is in
            let second = unmapped (λ (k : KeptLog M). k.keeper) new place after after_is in
            subst (λ (k : M). KeeperStays tells (state k) (state after)) first.2
            (subst (λ (k : M). KeeperStays tells (state first.0.keeper) (state k)) second.2 (audits place first.0 second.0 first.1 second.1).stays)

    pub one_failed : HasFault new → OneFailed state (keepers_in old) (keepers_in new)
    one_failed fault =
        let before = was_at fault.place fault.kept fault.stands in
        record {
          place = fault.place;
          before = before.0.keeper;
          after = fault.kept.keeper;
          before_is = slice_get-map (λ (k : KeptLog M). k.keeper) old fault.place ∙ ap (option_map (λ (k : KeptLog M). k.keeper)) before.1;
          after_is = slice_get-map (λ (k : KeptLog M). k.keeper) new fault.place ∙ ap (option_map (λ (k : KeptLog M). k.keeper)) fault.stands;
          rose = (audits fault.place before.0 fault.kept before.1 fault.stands).rose fault.failed;
        }

    -- ---- the keepers as they come back

    module _ (given back : List M) (given_are : keepers_in old ≡ given) (back_are : back ≡ keepers_in new) where
      pub stay_back : KeepersStay tells state given back
      stay_back =
          subst (λ (ks : List M). KeepersStay tells state ks back) given_are
          (subst (λ (ks : List M). KeepersStay tells state (keepers_in old) ks) (sym back_are) keepers_stay)

      pub fault_back : {T : Type 0} (found : Result T AuditRefusal) → (IsErrOf found (AuditFailed KeeperFailed) → HasFault new)
          → IsErrOf found (AuditFailed KeeperFailed) → OneFailed state given back
      fault_back found fault is =
          subst (λ (ks : List M). OneFailed state ks back) given_are
          (subst (λ (ks : List M). OneFailed state (keepers_in old) ks) (sym back_are) (one_failed (fault is)))

      pub sum_back : (s : Settings) (found : Result LoadAudit AuditRefusal)
          → ((ws : List CheckedWrite) → AreAudited tells state ws new → WhereTold tells (AuditsLogs s (told_in state s.shards (keepers_in new)) ws found))
          → WhereTold tells (AuditsLogs s (told_in state s.shards back) writes found)
      sum_back s found sums told =
          subst (λ (ks : List M). AuditsLogs s (told_in state s.shards ks) writes found) (sym back_are) (sums writes all_audited told)
