-- What an audit found, of the keepers as they come back.
use Rattle.std.proofs.Common.{◌≡◌, ℕ, ◌≤◌, Bool, true, List, Option, None, Some, Result, Ok, Err, arith, refl, sym, subst}
use Rattle.std.proofs.lemmas.Option.{slice_get-get_or, slice_get_within}
use Rattle.std.specs.Option.{option_map_or}
use Rattle.std.specs.Prelude.{IfErr, IfOk, slice_get}
use Rattle.keepers.specs.Shown.{place_of, told_in}
use Rattle.load_audit.specs.Audits.{IsAuditOf, logs_in}
use Rattle.load_audit.specs.Kept.{KeepersStay}
use Rattle.load_audit.specs.Listed.{missing_adds}
use Rattle.load_audit.specs.declared.audits.LoadAudit.{LoadAudit}
use Rattle.requests.specs.declared.request.Request.{Request}
use Rattle.tao_keeper.specs.KeeperState.{KeeperState}
use Rattle.tao_keeper.specs.Table.{Tables, empty_table}
use Rattle.topology.specs.Config.{Settings}
use Rattle.tao_busy.specs.Ending.{KeepsLogs}
use Rattle.tao_busy.specs.Load.{IsSettledLoad, LeavesLoad}

-- what is so of what was found
pub ok_here : {A E : Type 0} (P : A → Type 0) (r : Result A E) (x : A) → r ≡ Ok x → IfOk r P → P x
ok_here P r x is so = subst (λ q. IfOk q P) is so

-- what is so of why it was refused
pub err_here : {A E : Type 0} (P : E → Type 0) (r : Result A E) (e : E) → r ≡ Err e → IfErr r P → P e
err_here P r e is so = subst (λ q. IfErr q P) is so

-- keepers that stay tell the same tables
pub tables_stay : {M : Type 0} (tells : Bool) (state : M → KeeperState) (shards : ℕ) (old new : List M) → KeepersStay tells state old new → tells ≡ true
    → KeepsLogs (told_in state shards old) (told_in state shards new)
tables_stay {M} tells state shards old new stay told at =
    by (slice_get old (place_of shards at)) refl (slice_get new (place_of shards at)) refl
  where
    by : (before : Option M) → slice_get old (place_of shards at) ≡ before → (after : Option M) → slice_get new (place_of shards at) ≡ after
        → option_map_or (λ (keeper : M). (state keeper).told at) after empty_table ≡ option_map_or (λ (keeper : M). (state keeper).told at) before empty_table
    by None none None gone = refl
    by (Some k) is (Some l) stands = (stay.each (place_of shards at) k l is stands).tables told at
    by None none (Some l) stands =
        let within = slice_get_within new (place_of shards at) l stands in
        absurd (let some = slice_get-get_or old (place_of shards at) l (omega (arith, within, stay.many)) in cc)
    by (Some k) is None gone =
        let within = slice_get_within old (place_of shards at) k is in
        absurd (let some = slice_get-get_or new (place_of shards at) k (omega (arith, within, stay.many)) in cc)

-- tables that stay are the same
pub same_tables : (old new : Tables) → KeepsLogs old new → old ≡ new
same_tables old new stays = sym (λ i at. stays at i)

pub leaves_so : (s : Settings) (requests : List Request) (old new : Tables) (found : LoadAudit) (refused : ℕ) → KeepsLogs old new → IsSettledLoad s old
    → missing_adds (logs_in s old) requests ≤ refused → IsAuditOf s new requests found
    → LeavesLoad s requests new (record { edges = found.edges; logs = found.logs; refused = refused })
leaves_so s requests old new found refused stays settled few audit =
    let same : old ≡ new = same_tables old new stays in
    record {
      settled = subst (IsSettledLoad s) same settled;
      logs = audit.logs;
      edges = audit.edges;
      listed = audit.listed;
      few = subst (λ tables. missing_adds (logs_in s tables) requests ≤ refused) same few;
    }
