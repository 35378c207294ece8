-- What was seen begins the logs that a closed cluster has.
use Rattle.std.proofs.Common.{◌≡◌, ℕ, zero, suc, ◌+◌, ◌≤◌, ◌<◌, ◌⊎◌, ◌^◌, ◌-◌, Bool, List, [], ◌∷◌, ◌++◌}
use Rattle.std.proofs.Common.{Option, Some, Result, Ok, Err, length, sym, ap, subst, ◌∙◌, inl, inr, arith}
use Rattle.std.specs.Prelude.{IsSomeAnd, OnOk, min, option_map, slice_get}
use Rattle.std.specs.List.{range_with_len}
use Rattle.std.proofs.lemmas.List.{length-append}
use Rattle.std.proofs.lemmas.List.Elements.{All-push}
use Rattle.std.proofs.lemmas.Option.{slice_get-map, slice_get_within}
use Rattle.core_model.specs.Stores.{master_log}
use Rattle.graph_model.proofs.Sound.{slice_get-last}
use Rattle.graph_model.specs.Told.{WhereTold}
use Rattle.load_audit.specs.Audits.{logs_in}
use Rattle.load_audit.specs.Listed.{missing_adds}
use Rattle.load_shares.proofs.Shared.{all_missing, missing_length}
use Rattle.load_shares.specs.Seen.{AllBegin, BeginLogs}
use Rattle.load_shares.specs.Turns.{missing_of_first, share_of}
use Rattle.requests.specs.declared.request.Request.{Request}
use Rattle.session_pass.specs.Passes.{SeenPass}
use Rattle.shard_log.specs.View.{Begins, Grows, View}
use Rattle.shared_tiers.specs.locked_nodes.Cluster.{OnCluster}
use Rattle.tao_base.specs.declared.entry.Entry.{Entry}
use Rattle.tao_keeper.specs.Table.{Tables}
use Rattle.topology.specs.Config.{Settings}
use Rattle.tao_busy.proofs.PassesSeen.{some_and}
use Rattle.tao_busy.specs.Counting.{AreSharesOf, BeginsLog, IsShare}
use Rattle.tao_busy.specs.declared.shares.Share.{Share}

-- ---- the logs of all shards

range_at : (a n i : ℕ) → i < n → slice_get (range_with_len a n) i ≡ Some (a + i)
range_at a zero i inside = absurd (omega (arith, inside))
range_at a (suc n) zero inside = ap Some (omega arith)
range_at a (suc n) (suc i) inside = range_at (a + 1) n i (omega (arith, inside)) ∙ ap Some (omega arith)

pub logs_at : (s : Settings) (tables : Tables) (shard : ℕ) → shard < s.shards → slice_get (logs_in s tables) shard ≡ Some (master_log s tables shard)
logs_at s tables shard inside =
    slice_get-map (master_log s tables) (range_with_len 0 s.shards) shard
    ∙ (ap (λ (o : Option ℕ). option_map (master_log s tables) o) (range_at 0 s.shards shard inside) ∙ ap (λ n. Some (master_log s tables n)) from_zero)
  where
    from_zero : 0 + shard ≡ shard
    from_zero = omega arith

-- what was seen of each shard's log begins that log
pub begin_all : (s : Settings) (tables : Tables) (notes : List View) → length notes ≡ s.shards
    → ((shard : ℕ) → shard < s.shards → BeginsLog s tables notes shard) → BeginLogs (logs_in s tables) notes
begin_all s tables notes long all shard note at =
    let inside : shard < s.shards = omega (arith, long, slice_get_within notes shard note at) in
    let begins : Begins note.entries (master_log s tables shard) =
    subst (λ o. IsSomeAnd o (λ (n : View). Begins n.entries (master_log s tables shard))) at (all shard inside) in
    some_and (Begins note.entries) (slice_get (logs_in s tables) shard) (master_log s tables shard) (logs_at s tables shard inside) begins

-- ---- a note that met the closed cluster

on_ok : {T E : Type 0} (r : Result T E) {P Q : Type 0} → (P → Q) → OnOk r P → OnOk r Q
on_ok (Ok x) f p = f p
on_ok (Err e) f p = p

pub met_log : {T E : Type 0} (tells : Bool) (r : Result T E) (s : Settings) (tables : Tables) (notes : List View) (shard : ℕ) (old new : View)
    → slice_get notes shard ≡ Some old → Grows old new → WhereTold tells (OnOk r (new.entries ≡ master_log s tables shard))
    → WhereTold tells (OnOk r (BeginsLog s tables notes shard))
met_log tells r s tables notes shard old new at grows sees told =
    on_ok r (λ is. some_and (λ (n : View). Begins n.entries (master_log s tables shard)) (slice_get notes shard) old at
    (subst (Begins old.entries) is grows.begins)) (sees told)

-- ---- passes, one after another

pub begin_last : (logs : List (List Entry)) (passes : List SeenPass) (pass : SeenPass) → BeginLogs logs pass.notes → AllBegin logs passes
    → AllBegin logs (passes ++ pass ∷ [])
begin_last logs passes pass here all = All-push (λ (p : SeenPass). BeginLogs logs p.notes) passes pass all here

-- ---- shares, one after another

-- what is missed is covered by what was counted and what is still to come, or the count stands still
abbrev pub Covers : ℕ → ℕ → ℕ → Type 0
Covers needed counted left = (needed ≤ counted + left) ⊎ (2 ^ 64 ≤ counted + 1)

pub covers_next : (needed counted left more came now : ℕ) → Covers needed counted (left + more) → more ≤ came → now ≡ min (counted + came) (2 ^ 64 - 1)
    → Covers needed now left
covers_next needed counted left more came now (inl within) few is = elim (split (counted + came) (2 ^ 64 - 1)) [
  | inl fits ↦ inl (omega (arith, within, few, is, fits))
  | inr full ↦ inr (omega (arith, is, full))
]
  where
    split : (a b : ℕ) → (min a b ≡ a) ⊎ (min a b ≡ b)
    split a b = Prim.grind arith
covers_next needed counted left more came now (inr full) few is = inr (omega (arith, full, is))

pub covered : (logs : List (List Entry)) (threads refused : ℕ) (requests : List Request) → 0 < threads → length requests < 2 ^ 64
    → Covers (missing_of_first logs threads requests threads) refused 0 → missing_adds logs requests ≤ refused
covered logs threads refused requests some few (inl within) = omega (arith, within, all_missing logs threads requests some)
covered logs threads refused requests some few (inr full) = omega (arith, full, few, missing_length logs requests)

-- ---- the last of several shares

module _ {M : Type 0} (on : OnCluster M) (threads : ℕ) (requests : List Request) (old new : List Share) (share : Share) (is : old ≡ new ++ share ∷ [])
    (all : AreSharesOf on threads requests old)
  where
    front_at : (xs : List Share) (place : ℕ) (x : Share) → slice_get xs place ≡ Some x → slice_get (xs ++ share ∷ []) place ≡ Some x
    front_at [] place x at = absurd (cc)
    front_at (y ∷ ys) zero x at = at
    front_at (y ∷ ys) (suc place) x at = front_at ys place x at

    pub last_share : IsShare on threads (length new) requests share
    last_share = all (length new) share (subst (λ xs. slice_get xs (length new) ≡ Some share) (sym is) (slice_get-last new share))

    pub front_shares : AreSharesOf on threads requests new
    front_shares place x at = all place x (subst (λ xs. slice_get xs place ≡ Some x) (sym is) (front_at new place x at))

    -- one share more, all of which was seen
    pub next_share : (logs : List (List Entry)) (needed refused now : ℕ) → Covers needed refused (missing_of_first logs threads requests (length old))
        → missing_adds logs (share_of threads (length new) 0 requests) ≤ share.tally.refused → now ≡ min (refused + share.tally.refused) (2 ^ 64 - 1)
        → Covers needed now (missing_of_first logs threads requests (length new))
    next_share logs needed refused now covers few adds =
        covers_next needed refused (missing_of_first logs threads requests (length new)) (missing_adds logs (share_of threads (length new) 0 requests))
        share.tally.refused now (subst (λ n. Covers needed refused (missing_of_first logs threads requests n)) long covers) few adds
      where
        long : length old ≡ suc (length new)
        long = omega (arith, ap length is, length-append new (share ∷ []))

-- none was refused, nor of one share more
pub none_more : (refused came now : ℕ) → refused ≡ 0 → came ≡ 0 → now ≡ min (refused + came) (2 ^ 64 - 1) → now ≡ 0
none_more refused came now before next is = omega (arith, before, next, is)
