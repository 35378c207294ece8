-- Two stores whose locks are held agree on the records of one edge, over both whole logs.
use Rattle.std.proofs.Common.{◌≡◌, ◌≢◌, ◌⊎◌, ℕ, ◌<◌, ◌≤◌, length, inl, inr, refl, sym, ap, ◌∙◌, subst, arith}
use Rattle.std.proofs.Math.Logic.{∥∥₁_elim, ∥∥₁_map}
use Rattle.std.proofs.Props.{props}
use Rattle.std.specs.Prelude.{Some}
use Rattle.tao_base.specs.EdgeTypes.{EdgeTypes, InversesMatch}
use Rattle.tao_base.specs.Ids.{shard_of}
use Rattle.tao_base.specs.Stamps.{stamp_of}
use Rattle.graph_model.specs.Log.{entry_at}
use Rattle.graph_model.specs.Soundness.{EdgeUpdate}
use Rattle.write_model.proofs.Agreeing.{agree_here, back, cases_origin, own_shard, turned, written_here}
use Rattle.write_model.proofs.BothEnds.{IsOtherEnd, other_end_from}
use Rattle.write_model.proofs.WrittenRecords.{job_source}
use Rattle.write_model.specs.Merges.{IsWritten}
use Rattle.locked_model.proofs.Prefixes.{seen_or_past, seen_stands}
use Rattle.locked_model.specs.Locked.{IsKept, Knowledge, SeeEachOther}

-- what the entry of a merge wrote was written at the other end, where its store has seen it
from_source : (types : EdgeTypes) → InversesMatch types → (shard : ℕ) (k : Knowledge) → IsKept types shard k → (u v : EdgeUpdate) → shard_of u.0 ≡ shard
    → (w : IsWritten k.log u) → k.begun < w.position → IsOtherEnd types u v
    → ((stamp_of u.3).shard ≡ shard_of u.0) ⊎ ∥ IsWritten k.log v ∥₁
from_source types match shard k kept u v here w past other = elim (cases_origin w.entry.origin) [
  | inl client ↦ inl (own_shard (k.log (shard_of u.0)) (kept.sound (shard_of u.0)).sound w.position w.entry u w.stands client w.writes)
  | inr m ↦ (
      let merged = kept.sources w.position w.entry m.0 m.1 past (subst (λ s. entry_at (k.log s) w.position ≡ Some w.entry) here w.stands) m.2 in
      inr (∥∥₁_map merged (λ c.
      let of = job_source types c.entry u (c.owed u w.writes) in
      let lies = written_here types m.0 (k.log m.0) (kept.sound m.0) c.position c.entry of.of c.stands of.writes in
      let same : of.of ≡ v = back types match u of.of v of.other other in
      subst (IsWritten k.log) same (record {
        position = c.position;
        entry = c.entry;
        stands = subst (λ s. entry_at (k.log s) c.position ≡ Some c.entry) (sym lies) c.stands;
        writes = of.writes;
      }))))
]

module _ (types : EdgeTypes) (match : InversesMatch types) (s t : ℕ) (a b : Knowledge) (of_a : IsKept types s a) (of_b : IsKept types t b)
    (sees : SeeEachOther s t a b) where
  -- a record of the one's log and one of the other's, at the two ends of an edge
  pub agree_between : (u v : EdgeUpdate) → shard_of u.0 ≡ s → shard_of v.0 ≡ t → s ≢ t → IsWritten a.log u → IsWritten b.log v
      → IsOtherEnd types u (v.0, v.1, v.2, u.3) → stamp_of u.3 ≡ stamp_of v.3 → u.3 ≡ v.3
  agree_between u v here there apart w x other same =
      let turn = turned types match u v other in
      let back_v : EdgeUpdate = (v.0, v.1, v.2, u.3) in
      let back_u : EdgeUpdate = (u.0, u.1, u.2, v.3) in
      elim (seen_or_past t a.log b.log sees.there v there x) [
        | inl v_seen ↦ of_a.covered.one u v here w v_seen (inr (other_end_from types u (v.0, v.1, v.2, u.3) other)) same
        | inr v_past ↦ elim (seen_or_past s b.log a.log sees.back u here w) [
          | inl u_seen ↦ sym (of_b.covered.one v u there x u_seen (inr (other_end_from types v (u.0, u.1, u.2, v.3) turn)) (sym same))
          | inr u_past ↦ elim (from_source types match s a of_a u back_v here w (after a.begun (length (b.log s)) w.position sees.least_back u_past) other) [
            | inr v_from ↦ ∥∥₁_elim v_from (hlevel props) (λ stands.
                agree_here types b.log of_b.sound back_v v (seen_stands t a.log b.log sees.there back_v there stands) x
                (record { id1 = refl; atype = refl; id2 = refl }) same)
            | inl u_own ↦ elim (from_source types match t b of_b v back_u there x (after b.begun (length (a.log t)) x.position sees.least_there v_past) turn) [
              | inr u_from ↦ ∥∥₁_elim u_from (hlevel props) (λ stands.
                  agree_here types a.log of_a.sound u back_u w (seen_stands s b.log a.log sees.back back_u here stands)
                  (record { id1 = refl; atype = refl; id2 = refl }) same)
              | inl v_own ↦ absurd (apart (sym here ∙ sym u_own ∙ ap (λ y. y.shard) same ∙ v_own ∙ there))
            ]
          ]
        ]
      ]
    where
      after : (begun seen position : ℕ) → begun ≤ seen → seen < position → begun < position
      after begun seen position least past = omega (arith, least, past)
