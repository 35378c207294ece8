-- Floors after an entry was learnt, and that they are reached.
use Rattle.std.proofs.Common.{◌≡◌, ℕ, zero, suc, ◌≤◌, ◌+◌, Bool, true, false, cond, List, [], ◌∷◌, Some, length, max, min, take, refl, ap, sym, ◌∙◌}
use Rattle.std.proofs.Common.{inl, inr, arith, subst}
use Rattle.std.proofs.lemmas.Bool.{cases_eq, cases_lt, false≢true}
use Rattle.std.proofs.lemmas.List.{take_all}
use Rattle.std.proofs.lemmas.List.Elements.{recursion_from_All}
use Rattle.std.specs.List.{AllByRecursion}
use Rattle.graph_model.proofs.Exact.{version_take}
use Rattle.graph_model.proofs.Later.{all_take}
use Rattle.graph_model.proofs.Rising.{touches_tell}
use Rattle.graph_model.specs.Log.{entry_at, version}
use Rattle.graph_model.specs.Soundness.{IsSound}
use Rattle.graph_model.specs.Told.{WhereTold}
use Rattle.shard_log.specs.View.{View}
use Rattle.tao_base.proofs.SameKeys.{same_key-Decides}
use Rattle.tao_base.specs.Keys.{key_shard, same_key}
use Rattle.tao_base.specs.declared.entry.Entry.{Entry}
use Rattle.tao_base.specs.declared.entry.Touch.{Touch}
use Rattle.tao_base.specs.declared.id.Key.{Key}
use Rattle.session_pass.proofs.FloorLemmas.{learns}
use Rattle.session_pass.proofs.PassLemmas.{both_reached, own_of, reached_by_note, reached_on}
use Rattle.session_pass.specs.Floors.{LearnsTouches, floor_at, learnt_touches, version_learnt, with_learnt}
use Rattle.session_pass.specs.Passes.{HasReached, IsNoteOf, IsPass, MeetsNote, SeenPass, after_meeting}

-- ---- touches

learnt_one : (key : Key) (t : Touch) (b : Bool) → same_key key t.key ≡ b → version_learnt key (t ∷ []) ≡ cond b t.version 0
learnt_one key t true e = rw e (omega arith)
learnt_one key t false e = rw e refl

pub learns_one : (shard : ℕ) (t : Touch) (floors : List (Key × ℕ)) → key_shard t.key ≡ shard
    → LearnsTouches shard (t ∷ []) floors (with_learnt t.key t.version floors)
learns_one shard t floors here = record {
  here = λ key on. by key (same_key key t.key) refl ∙ ap (max (floor_at floors key)) (sym (learnt_one key t (same_key key t.key) refl));
  others = λ key off. (learns floors t.key t.version).others key (λ same. off (ap key_shard same ∙ here));
}
  where
    stays : (m : ℕ) → m ≡ max m 0
    stays m = omega arith

    by : (key : Key) (b : Bool) → same_key key t.key ≡ b → floor_at (with_learnt t.key t.version floors) key ≡ max (floor_at floors key) (cond b t.version 0)
    by key true e =
        subst (λ k. floor_at (with_learnt t.key t.version floors) k ≡ max (floor_at floors k) t.version) (sym ((same_key-Decides key t.key).0 e))
        (learns floors t.key t.version).here
    by key false e =
        (learns floors t.key t.version).others key (λ same. absurd (false≢true (sym e ∙ (same_key-Decides key t.key).1 same))) ∙ stays (floor_at floors key)

-- the slice of the first eight
pub first_eight : (ts touches : List Touch) (n : ℕ) → n ≡ min (length ts) 8 → ts ≡ touches → take n ts ≡ take 8 touches
first_eight ts touches n is same = elim (cases_lt (length ts) 8) [
  | inl lt ↦ (
      let more : length ts ≤ n = omega (arith, is, lt) in
      let less : length ts ≤ 8 = omega (arith, lt) in
      take_all n ts more ∙ sym (take_all 8 ts less))
  | inr le ↦ (let eight : n ≡ 8 = omega (arith, is, le) in ap (λ m. take m ts) eight)
] ∙ ap (take 8) same

-- ---- what the touches of an entry tell is reached where it stands

learnt_below : (log : List Entry) (n : ℕ) (key : Key) (ts : List Touch) → AllByRecursion (λ t. t.version ≡ version (take n log) t.key) ts
    → version_learnt key ts ≤ version log key
learnt_below log n key [] all = omega arith
learnt_below log n key (t ∷ ts) all = most (cond (same_key key t.key) t.version 0) (version_learnt key ts) (version log key) (by (same_key key t.key) refl)
    (learnt_below log n key ts all.1)
  where
    most : (a b m : ℕ) → a ≤ m → b ≤ m → max a b ≤ m
    most a b m p q = omega (arith, p, q)

    by : (b : Bool) → same_key key t.key ≡ b → cond b t.version 0 ≤ version log key
    by true e =
        let here : t.version ≡ version (take n log) key = all.0 ∙ ap (version (take n log)) (sym ((same_key-Decides key t.key).0 e)) in
        let rises = version_take n log key in
        omega (arith, here, rises)
    by false e = omega arith

pub learnt_reached : (log : List Entry) (position : ℕ) (e : Entry) (key : Key) → IsSound log → entry_at log position ≡ Some e
    → version_learnt key (learnt_touches e) ≤ version log key
learnt_reached log zero e key sound at = absurd (cc (at))
learnt_reached log (suc n) e key sound at =
    learnt_below log (n + 1) key (take 8 e.touches) (all_take (λ t. t.version ≡ version (take (n + 1) log) t.key) 8 e.touches
    (recursion_from_All (λ t. t.version ≡ version (take (n + 1) log) t.key) e.touches (touches_tell log sound n e at).versions))

pub learnt_entry : (pass : SeenPass) (shard : ℕ) (e : Entry) (note : View) (floors : List (Key × ℕ)) (spare : ℕ)
    → IsNoteOf shard note pass.notes → MeetsNote shard note pass.notes
    → WhereTold note.log.told (IsSound note.entries) → WhereTold note.log.told (entry_at note.entries e.position ≡ Some e)
    → LearnsTouches shard (learnt_touches e) pass.floors floors → IsPass pass
    → IsPass (record pass { floors = floors; notes = after_meeting shard note pass.notes; spare = spare })
learnt_entry pass shard e note floors spare known meets sound stands learnt keeps = record {
  reached = λ key. elim (cases_eq (key_shard key) shard) [
    | inl on ↦ subst (HasReached (after_meeting shard note pass.notes) key) (sym (learnt.here key on))
        (both_reached (after_meeting shard note pass.notes) key (floor_at pass.floors key) (version_learnt key (learnt_touches e)) (stays key)
        (reached_by_note shard note pass.notes (own_of shard note pass.notes known meets) key (version_learnt key (learnt_touches e)) on
        (λ told. learnt_reached note.entries e.position e key (sound told) (stands told))))
    | inr off ↦ subst (HasReached (after_meeting shard note pass.notes) key) (sym (learnt.others key off)) (stays key)
  ];
}
  where
    stays : (key : Key) → HasReached (after_meeting shard note pass.notes) key (floor_at pass.floors key)
    stays key = reached_on shard note pass.notes (own_of shard note pass.notes known meets) key (floor_at pass.floors key) (keeps.reached key)
