-- A version that a log has reached is that of one of its beginnings.
use Rattle.std.proofs.Common.{◌≡◌, ℕ, zero, suc, ◌+◌, ◌≤◌, true, false, cond, List, [], ◌∷◌, length, take, refl, ap, ◌∙◌, inl, inr, arith}
use Rattle.std.proofs.lemmas.Bool.{cases_Bool}
use Rattle.tao_base.specs.declared.entry.Entry.{Entry}
use Rattle.tao_base.specs.declared.id.Key.{Key}
use Rattle.graph_model.proofs.Exact.{version_take}
use Rattle.graph_model.proofs.Versions.{version-append}
use Rattle.graph_model.specs.Log.{touches_key, version}
use Rattle.graph_model.specs.VersionLaws.{VersionsAreOfBeginnings}

-- the version counts the first entry where it touches the key
pub version_first : (e : Entry) (log : List Entry) (key : Key) → version (e ∷ log) key ≡ cond (touches_key key e) 1 0 + version log key
version_first e log key =
    version-append (e ∷ []) log key ∙ (let n : 0 + cond (touches_key key e) 1 0 ≡ cond (touches_key key e) 1 0 = omega arith in ap (λ n. n + version log key) n)

first_on : (e : Entry) (log : List Entry) (key : Key) → touches_key key e ≡ true → version (e ∷ log) key ≡ 1 + version log key
first_on e log key on = version_first e log key ∙ ap (λ b. cond b 1 0 + version log key) on

first_off : (e : Entry) (log : List Entry) (key : Key) → touches_key key e ≡ false → version (e ∷ log) key ≡ 0 + version log key
first_off e log key off = version_first e log key ∙ ap (λ b. cond b 1 0 + version log key) off

pub beginning_of : (log : List Entry) (key : Key) (v : ℕ) → v ≤ version log key → (n : ℕ) × (n ≤ length log) × (version (take n log) key ≡ v)
beginning_of log key zero le = (zero, omega arith, refl)
beginning_of [] key (suc v) le = absurd (omega arith)
beginning_of (e ∷ log) key (suc v) le = elim (cases_Bool (touches_key key e)) [
  | inl on ↦ (
      let whole = first_on e log key on in
      let rest = beginning_of log key v (omega arith) in
      let begun = first_on e (take rest.0 log) key on in
      let is = rest.2 in
      let within = rest.1 in
      (suc rest.0, omega arith, omega arith))
  | inr off ↦ (
      let whole = first_off e log key off in
      let rest = beginning_of log key (suc v) (omega arith) in
      let begun = first_off e (take rest.0 log) key off in
      let is = rest.2 in
      let within = rest.1 in
      (suc rest.0, omega arith, omega arith))
]

pub versions_are_of_beginnings : (log : List Entry) (key : Key) → VersionsAreOfBeginnings log key
versions_are_of_beginnings log key = record { beginning = beginning_of log key; no_greater = λ n. version_take n log key }
