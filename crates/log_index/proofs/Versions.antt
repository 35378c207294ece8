-- In a sound log the version of a key is how many changes there are.
use Rattle.std.proofs.Common.{◌≡◌, ◌≢◌, ◌∙◌, ◌+◌, ◌≤◌, true, List, [], ◌∷◌, append-nil, refl, sym, ap, inl, inr, length, length-append, arith}
use Rattle.std.proofs.lemmas.Bool.{cases_Bool}
use Rattle.std.proofs.lemmas.List.{length-map}
use Rattle.std.proofs.lemmas.List.Elements.{All-from_get_or, filter_passes, recursion_from_All}
use Rattle.std.proofs.lemmas.List.Kept.{AllPairs-filter}
use Rattle.std.proofs.lemmas.Option.{slice_get-get_or}
use Rattle.std.specs.Prelude.{All, AllPairs, Bool, filter}
use Rattle.std.specs.List.{AllByRecursion, list_any}
use Rattle.tao_base.specs.declared.entry.Entry.{Entry}
use Rattle.tao_base.specs.declared.entry.Touch.{Touch}
use Rattle.tao_base.specs.declared.id.Key.{Key}
use Rattle.graph_model.proofs.Keys.{same_key-same}
use Rattle.graph_model.proofs.Versions.{changes_of-append, untouched, version-append}
use Rattle.tao_base.specs.Keys.{same_key}
use Rattle.graph_model.specs.Log.{changes_of, touches_key, version}
use Rattle.graph_model.specs.Soundness.{IsSound}

abbrev pub AreOnce : List Touch → Type 0
AreOnce touches = AllPairs (λ s t. s.key ≢ t.key) touches

-- touches of one key, each at another, are one at most
pub one_at_most : (k : Key) (ts : List Touch) → AreOnce ts → All (λ t. same_key k t.key ≡ true) ts → length ts ≤ 1
one_at_most k [] once same = omega arith
one_at_most k (x ∷ []) once same = omega arith
one_at_most k (x ∷ y ∷ ts) once same =
    absurd (once 0 1 x (omega arith) (omega arith) (sym (same_key-same k x.key (same 0 x (omega arith))) ∙ same_key-same k y.key (same 1 x (omega arith))))

-- a touch of the key passes
some_passes : (p : Touch → Bool) (ts : List Touch) → list_any p ts ≡ true → 1 ≤ length (filter p ts)
some_passes p [] h = absurd (cc)
some_passes p (t ∷ ts) h = elim (cases_Bool (p t)) [
  | inl k ↦ rw k (omega arith)
  | inr k ↦ rw k (some_passes p ts (rw k at h))
]

changes_once : (e : Entry) (k : Key) → AreOnce e.touches → version (e ∷ []) k ≡ length (changes_of (e ∷ []) k)
changes_once e k once = elim (cases_Bool (touches_key k e)) [
  | inl h ↦ (let here : List Touch = filter (λ t. same_key k t.key) e.touches in
      let least : 1 ≤ length here = some_passes (λ t. same_key k t.key) e.touches h in
      let most : length here ≤ 1 = one_at_most k here (AllPairs-filter (λ (s : Touch) t. s.key ≢ t.key) (λ t. same_key k t.key) e.touches once)
      (filter_passes (λ (t : Touch). same_key k t.key) e.touches) in
      rw (h, append-nil e.touches, length-map here (λ (t : Touch). t.change)) (omega arith))
  | inr h ↦ rw (h, untouched e k h) refl
]

counts : (log : List Entry) (k : Key) → AllByRecursion (λ e. AreOnce e.touches) log → version log k ≡ length (changes_of log k)
counts [] k h = refl
counts (e ∷ log) k h =
    version-append (e ∷ []) log k ∙ ap (λ n. n + version log k) (changes_once e k h.0) ∙ ap (λ n. length (changes_of (e ∷ []) k) + n) (counts log k h.1)
    ∙ sym (ap length (changes_of-append (e ∷ []) log k) ∙ length-append (changes_of (e ∷ []) k) (changes_of log k))

pub version_counts : (log : List Entry) (k : Key) → IsSound log → version log k ≡ length (changes_of log k)
version_counts log k sound =
    counts log k (recursion_from_All (λ (x : Entry). AreOnce x.touches) log
    (lemma log sound))
  where
    lemma : (log : List Entry) → IsSound log → All (λ (x : Entry). AreOnce x.touches) log
    lemma [] sound = λ i d lt. absurd (omega arith)
    lemma (e ∷ log) sound = All-from_get_or (λ (x : Entry). AreOnce x.touches) (e ∷ log) e (λ i lt. (sound i _ (slice_get-get_or (e ∷ log) i e lt)).once)
