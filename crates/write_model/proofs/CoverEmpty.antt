-- Empty stores are sound and covered.
use Rattle.std.proofs.Common.{◌≡◌, ℕ, zero, suc, [], sym, ◌∙◌, subst}
use Rattle.std.proofs.lemmas.List.Elements.{All-nil}
use Rattle.std.specs.Prelude.{Some, None, ◌≤◌}
use Rattle.tao_base.specs.EdgeTypes.{EdgeTypes}
use Rattle.tao_base.specs.Ids.{shard_of}
use Rattle.tao_base.specs.declared.entry.Entry.{Entry}
use Rattle.write_model.specs.CoverLaws.{EmptyStoresAreKept}
use Rattle.write_model.specs.Merges.{IsWritten, Stores, log_of}
use Rattle.graph_model.specs.Log.{entry_at}
use Rattle.graph_model.specs.Soundness.{EdgeUpdate, IsSoundOf, KeepsEnds}
use Rattle.write_model.specs.Steps.{AreSoundAndCovered, HaveNoJobs}

pub nothing_at : (position : ℕ) (e : Entry) → entry_at [] position ≡ Some e → ⊥
nothing_at zero e h = absurd (cc)
nothing_at (suc n) e h = absurd (cc)

-- a log without entries is sound
pub empty_is_sound : (types : EdgeTypes) (shard : ℕ) → IsSoundOf types shard []
empty_is_sound types shard = record { sound = λ n e h. absurd (nothing_at (suc n) e h); ends = All-nil (KeepsEnds types shard) }

module _ (types : EdgeTypes) (stores : Stores) (empty : (shard : ℕ) → log_of stores.logs shard ≡ []) (none : HaveNoJobs stores) where
  nowhere : (shard position : ℕ) (e : Entry) → entry_at (log_of stores.logs shard) position ≡ Some e → ⊥
  nowhere shard position e h = nothing_at position e (subst (λ l. entry_at l position ≡ Some e) (empty shard) h)

  unwritten : (u : EdgeUpdate) → IsWritten (log_of stores.logs) u → ⊥
  unwritten u w = nowhere (shard_of u.0) w.position w.entry w.stands

  empty_is_kept : ((shard : ℕ) → stores.epochs.of shard ≤ stores.epochs.last) → AreSoundAndCovered types stores
  empty_is_kept epochs = record {
    sound = λ shard. subst (IsSoundOf types shard) (sym (empty shard)) (empty_is_sound types shard);
    covered = record {
      each = λ shard. record {
        owed = λ position e stands. absurd (nowhere shard position e stands);
        jobs = λ position us h. (let j : None ≡ Some us = sym (none shard position) ∙ h in absurd (cc));
        one = λ u v here w. absurd (unwritten u w);
        stamps = λ u v here w. absurd (unwritten u w);
        merges = λ position e from number h. absurd (nowhere shard position e h);
      };
      numbers = λ u w. absurd (unwritten u w);
      epochs = epochs;
    };
  }

pub empty_stores_are_kept : EmptyStoresAreKept
empty_stores_are_kept = record { kept = λ types stores empty none epochs. empty_is_kept types stores empty none epochs }
