-- Floors after a version was learnt.
use Rattle.std.proofs.Common.{◌≡◌, ◌≢◌, ℕ, ◌<◌, ◌≤◌, Bool, true, false, cond, List, [], ◌∷◌, Some, max, nat_lt, unwrap_or, refl, sym, ◌∙◌, inl, inr}
use Rattle.std.proofs.Common.{arith, if◌then◌else◌}
use Rattle.std.proofs.lemmas.Bool.{cases_Bool, ltb-true, ltb-false, false≢true}
use Rattle.std.specs.Map.{lookup}
use Rattle.indexmap.specs.IndexMap.{insert_entry}
use Rattle.tao_base.proofs.SameKeys.{same_key-Decides}
use Rattle.tao_base.specs.Keys.{same_key}
use Rattle.tao_base.specs.declared.id.Key.{Key}
use Rattle.session_pass.specs.Floors.{FloorsRise, Learns, floor_at, with_learnt}
use Rattle.graph_model.proofs.Keys.{same_key-self}

apart : (key other : Key) → other ≢ key → same_key other key ≡ false
apart key other differs = elim (cases_Bool (same_key other key)) [ inl e ↦ absurd (differs ((same_key-Decides other key).0 e)) | inr e ↦ e ]

inserted : (floors : List (Key × ℕ)) (key : Key) (v : ℕ) → floor_at (insert_entry same_key floors key v) key ≡ v
inserted [] key v = rw (same_key-self key) refl
inserted (f ∷ fs) key v = elim (cases_Bool (same_key key f.0)) [ inl e ↦ rw e (rw e refl) | inr e ↦ rw e (rw e (inserted fs key v)) ]

elsewhere : (floors : List (Key × ℕ)) (key other : Key) (v : ℕ) → other ≢ key → floor_at (insert_entry same_key floors key v) other ≡ floor_at floors other
elsewhere [] key other v differs = rw (apart key other differs) refl
elsewhere (f ∷ fs) key other v differs = elim (cases_Bool (same_key key f.0)) [
  | inl e ↦ rw e (rw (apart f.0 other (λ same. differs (same ∙ sym ((same_key-Decides key f.0).0 e)))) refl)
  | inr e ↦
      rw e (next (same_key other f.0) (elsewhere fs key other v differs))
]
  where
    next : (b : Bool) → floor_at (insert_entry same_key fs key v) other ≡ floor_at fs other
        → unwrap_or (cond b (Some f.1) (lookup (same_key other) (insert_entry same_key fs key v))) 0 ≡ unwrap_or
        (cond b (Some f.1) (lookup (same_key other) fs)) 0
    next true later = refl
    next false later = later

pub learns : (floors : List (Key × ℕ)) (key : Key) (v : ℕ) → Learns key v floors (with_learnt key v floors)
learns floors key v = by (nat_lt (floor_at floors key) v) refl
  where
    by : (b : Bool) → nat_lt (floor_at floors key) v ≡ b → Learns key v floors (if b then insert_entry same_key floors key v else floors)
    by true e = record { here = inserted floors key v ∙ sym (greater (ltb-true _ _ e)); others = λ other differs. elsewhere floors key other v differs }
      where
        greater : floor_at floors key < v → max (floor_at floors key) v ≡ v
        greater lt = omega (arith, lt)
    by false e = record { here = sym (stays (ltb-false _ _ e)); others = λ other differs. refl }
      where
        stays : v ≤ floor_at floors key → max (floor_at floors key) v ≡ floor_at floors key
        stays le = omega (arith, le)

pub floors_rise : (floors : List (Key × ℕ)) (key : Key) (v : ℕ) → FloorsRise floors (with_learnt key v floors)
floors_rise floors key v = record { rise = λ other. by other (same_key other key) refl }
  where
    by : (other : Key) (b : Bool) → same_key other key ≡ b → floor_at floors other ≤ floor_at (with_learnt key v floors) other
    by other true e = rw ((same_key-Decides other key).0 e) (rw ((learns floors key v).here) (omega arith))
    by other false e = rw ((learns floors key v).others other (λ same. absurd (false≢true (sym e ∙ (same_key-Decides other key).1 same)))) (omega arith)
