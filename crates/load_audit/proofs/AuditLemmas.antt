-- An audit of one shard after another.
use Rattle.std.proofs.Common.{◌≡◌, ◌∙◌, Bool, ℕ, ◌+◌, ◌<◌, ◌⊎◌, List, [], ◌∷◌, ◌++◌, length, map, ap, subst, sym, arith, inl, inr}
use Rattle.std.proofs.lemmas.List.FromFn.{map-range_with_len_more, sum_by-map-range_with_len_more}
use Rattle.std.specs.List.{range_with_len, sum_by}
use Rattle.std.specs.Prelude.{All, Err, IfErr, IfOk, Ok, Result}
use Rattle.core_model.specs.Stores.{master_log}
use Rattle.graph_model.specs.Told.{WhereTold}
use Rattle.request_check.specs.declared.checked.CheckedWrite.{CheckedWrite}
use Rattle.requests.specs.declared.request.Request.{Request}
use Rattle.tao_keeper.specs.Table.{Tables}
use Rattle.topology.specs.Config.{Settings}
use Rattle.load_audit.specs.Auditing.{AreKnownBelow, AuditsLog, AuditsLogs, IsFoundOf, IsStrangeIn, IsSumOf}
use Rattle.load_audit.specs.Audits.{IsAuditOf, RefusesAudit, first_logs}
use Rattle.load_audit.specs.Listed.{IsKnown, writes_of}
use Rattle.load_audit.specs.LiveEdges.{live_count}
use Rattle.load_audit.specs.Numbered.{IsStrangeAt}
use Rattle.load_audit.specs.declared.audits.AuditRefusal.{AuditRefusal}
use Rattle.load_audit.specs.declared.audits.AuditRefusal.TheVariants.{Failed, Stranger}
use Rattle.load_audit.specs.declared.audits.LoadAudit.{LoadAudit}
use Rattle.load_audit.specs.declared.found.LogFound.{LogFound}
use Rattle.load_audit.specs.declared.tally.Tally.{Tally}

-- what was found of the first shards, so many
pub record IsSoFar (s : Settings) (tables : Tables) (writes : List CheckedWrite) (count : ℕ) (tally : Tally) : Type 0 where
  pub lengths : tally.lengths.items ≡ map (λ shard. length (master_log s tables shard)) (range_with_len 0 count)
  pub live : tally.edges ≡ sum_by live_count (first_logs s tables count)
  pub known : AreKnownBelow s tables writes count

-- nothing was found of none
pub none_so_far : (s : Settings) (tables : Tables) (writes : List CheckedWrite) (tally : Tally) → tally.lengths.items ≡ [] → tally.edges ≡ 0
    → IsSoFar s tables writes 0 tally
none_so_far s tables writes tally lengths live = record { lengths = lengths; live = live; known = λ shard below. absurd (omega arith) }

-- one more log
pub one_log : (s : Settings) (tables : Tables) (writes : List CheckedWrite) (count : ℕ) (old new : Tally) (found : LogFound)
    → IsSoFar s tables writes count old → IsFoundOf writes (master_log s tables count) found → new.lengths.items ≡ old.lengths.items ++ found.length ∷ []
    → new.edges ≡ old.edges + found.live → IsSoFar s tables writes (count + 1) new
one_log s tables writes count old new found so_far is lengths edges = record {
  lengths = lengths ∙ ap (λ n. old.lengths.items ++ n ∷ []) is.length_is ∙ ap (λ xs. xs ++ length (master_log s tables count) ∷ []) so_far.lengths
      ∙ sym (map-range_with_len_more (λ shard. length (master_log s tables shard)) 0 count count (omega arith));
  live = edges ∙ ap (λ n. old.edges + n) is.live_is ∙ ap (λ n. n + live_count (master_log s tables count)) so_far.live
      ∙ sym (sum_by-map-range_with_len_more live_count (master_log s tables) 0 count count (omega arith));
  known = λ shard below. known_at shard (last_or_before shard count below);
}
  where
    last_or_before : (shard count : ℕ) → shard < count + 1 → (shard < count) ⊎ (shard ≡ count)
    last_or_before shard count below = grind arith

    known_at : (shard : ℕ) → (shard < count) ⊎ (shard ≡ count) → All (IsKnown writes) (master_log s tables shard)
    known_at shard (inl before) = so_far.known shard before
    known_at shard (inr last) = subst (λ n. All (IsKnown writes) (master_log s tables n)) (sym last) is.known

-- a stranger in the log that comes next is the first one
pub strange_next : (s : Settings) (tables : Tables) (writes : List CheckedWrite) (count : ℕ) (tally : Tally) (refusal : AuditRefusal) → count < s.shards
    → IsSoFar s tables writes count tally → AuditsLog writes count (master_log s tables count) (Err refusal) → AuditsLogs s tables writes (Err refusal)
strange_next s tables writes count tally (Failed fail) here so_far audits = tt
strange_next s tables writes count tally (Stranger shard position) here so_far audits = record {
  configured = omega (arith, audits.0);
  strange = subst (λ n. IsStrangeAt writes (master_log s tables n) position) (sym audits.0) audits.1;
  below = λ other before. so_far.known other (omega (arith, audits.0));
}

-- all shards
pub all_found : (s : Settings) (tables : Tables) (writes : List CheckedWrite) (tally : Tally) (audit : LoadAudit) → audit.logs ≡ tally.lengths.items
    → audit.edges ≡ tally.edges → IsSoFar s tables writes s.shards tally → IsSumOf s tables writes audit
all_found s tables writes tally audit logs edges so_far = record { lengths = logs ∙ so_far.lengths; live = edges ∙ so_far.live; known = so_far.known }

-- ---- what the audit answers

pub passes_so : (s : Settings) (tables : Tables) (requests : List Request) (writes : List CheckedWrite) (audit : LoadAudit) → writes ≡ writes_of s requests
    → IsSumOf s tables writes audit → IsAuditOf s tables requests audit
passes_so s tables requests writes audit are sum =
    let known : AreKnownBelow s tables (writes_of s requests) s.shards = subst (λ ws. AreKnownBelow s tables ws s.shards) are sum.known in
    record { logs = sum.lengths; edges = sum.live; listed = known }

pub refused_so : (s : Settings) (tables : Tables) (requests : List Request) (writes : List CheckedWrite) (refusal : AuditRefusal) → writes ≡ writes_of s requests
    → AuditsLogs s tables writes (Err refusal) → RefusesAudit s tables requests refusal
refused_so s tables requests writes (Failed fail) are audits = tt
refused_so s tables requests writes (Stranger shard position) are audits =
    let first : IsStrangeIn s tables (writes_of s requests) shard position = subst (λ ws. IsStrangeIn s tables ws shard position) are audits in
    record {
      configured = first.configured;
      entry = first.strange.entry;
      stands = first.strange.stands;
      strange = first.strange.strange;
      before = first.strange.before;
      below = first.below;
    }

module _ (tells : Bool) (s : Settings) (tables : Tables) (requests : List Request) where
  pub ok_so : (writes : List CheckedWrite) (found : Result LoadAudit AuditRefusal) → writes ≡ writes_of s requests
      → WhereTold tells (AuditsLogs s tables writes found) → WhereTold tells (IfOk found (IsAuditOf s tables requests))
  ok_so writes (Ok audit) are audits told = passes_so s tables requests writes audit are (audits told)
  ok_so writes (Err refusal) are audits told = tt

  pub err_so : (writes : List CheckedWrite) (found : Result LoadAudit AuditRefusal) → writes ≡ writes_of s requests
      → WhereTold tells (AuditsLogs s tables writes found) → WhereTold tells (IfErr found (RefusesAudit s tables requests))
  err_so writes (Ok audit) are audits told = tt
  err_so writes (Err refusal) are audits told = refused_so s tables requests writes refusal are (audits told)
