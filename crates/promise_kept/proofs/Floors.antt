-- A session's floors are those of the entries that it has learnt of, and of the versions that its reads have shown it.
use Rattle.std.proofs.Common.{◌≡◌, ◌≢◌, ◌≤◌, ◌++◌, ◌∷◌, [], ℕ, Bool, true, false, List, length, take, max, ap, subst, sym, refl, ◌∙◌, arith, if◌then◌else◌, inl, inr}
use Rattle.std.proofs.lemmas.Bool.{cases_Bool, cases_eq, true≢false}
use Rattle.std.proofs.lemmas.List.{take_all}
use Rattle.std.proofs.lemmas.List.Elements.{recursion_from_All}
use Rattle.std.proofs.lemmas.List.Sums.{fold-append}
use Rattle.std.specs.List.{AllByRecursion, fold}
use Rattle.std.specs.Prelude.{All}
use Rattle.graph_model.specs.Legal.{floor, version_given}
use Rattle.plain_promise.specs.Promise.{SeenVersion, last_seen}
use Rattle.promise_kept.specs.Seen.{FloorsAre}
use Rattle.session_pass.specs.Floors.{Learns, LearnsTouches, floor_at, learnt_touches, version_learnt}
use Rattle.tao_base.proofs.SameKeys.{same_key-Decides}
use Rattle.tao_base.specs.Keys.{key_shard, same_key}
use Rattle.tao_base.specs.declared.entry.Entry.{Entry}
use Rattle.tao_base.specs.declared.entry.Touch.{Touch}
use Rattle.tao_base.specs.declared.id.Key.{Key}

-- the version of one touch of the key
abbrev given_by : Key → Touch → ℕ
given_by key t = if same_key key t.key then t.version else 0

max_assoc : (a b c : ℕ) → max (max a b) c ≡ max a (max b c)
max_assoc a b c = omega arith

-- from the front or from the back, the greatest is the same
folded : (key : Key) (ts : List Touch) (most : ℕ) → fold (λ most t. max most (given_by key t)) most ts ≡ max most (version_learnt key ts)
folded key [] most = omega arith
folded key (t ∷ ts) most = folded key ts (max most (given_by key t)) ∙ max_assoc most (given_by key t) (version_learnt key ts)

-- all touches of an entry are learnt, since they are few
all_learnt : (ts : List Touch) → length ts ≤ 8 → take 8 ts ≡ ts
all_learnt ts few = take_all 8 ts few

learnt_is_given : (key : Key) (e : Entry) → length e.touches ≤ 8 → version_learnt key (learnt_touches e) ≡ version_given key e
learnt_is_given key e few =
    let whole : fold (λ most t. max most (given_by key t)) 0 e.touches ≡ max 0 (version_learnt key e.touches) = folded key e.touches 0 in
    let none : max 0 (version_learnt key e.touches) ≡ version_learnt key e.touches = omega arith in
    ap (version_learnt key) (all_learnt e.touches few) ∙ sym (whole ∙ none)

-- one more entry that is learnt
floor_more : (learnt : List Entry) (e : Entry) (key : Key) → floor (learnt ++ e ∷ []) key ≡ max (floor learnt key) (version_given key e)
floor_more learnt e key = fold-append (λ most x. max most (version_given key x)) 0 learnt (e ∷ [])

-- a key of another shard is given nothing
none_given : (shard : ℕ) (key : Key) (ts : List Touch) → AllByRecursion (λ t. key_shard t.key ≡ shard) ts → key_shard key ≢ shard
    → version_learnt key ts ≡ 0
none_given shard key [] all apart = refl
none_given shard key (t ∷ ts) all apart = nothing (given_by key t) (version_learnt key ts) (by (same_key key t.key) refl) (none_given shard key ts all.1 apart)
  where
    nothing : (a b : ℕ) → a ≡ 0 → b ≡ 0 → max a b ≡ 0
    nothing a b p q = omega (arith, p, q)

    by : (b : Bool) → same_key key t.key ≡ b → (if b then t.version else 0) ≡ 0
    by true e = absurd (apart (ap key_shard ((same_key-Decides key t.key).0 e) ∙ all.0))
    by false e = refl

-- who has learnt nothing has no floor
pub floors_begin : FloorsAre [] [] []
floors_begin = record { at = λ key. refl }

-- and who learns an entry, all of whose touches lie on its shard, has its versions
pub floors_learn : (shard : ℕ) (e : Entry) (learnt : List Entry) (saw : List SeenVersion) (old new : List (Key × ℕ))
    → All (λ t. key_shard t.key ≡ shard) e.touches → length e.touches ≤ 8 → LearnsTouches shard (learnt_touches e) old new → FloorsAre learnt saw old
    → FloorsAre (learnt ++ e ∷ []) saw new
floors_learn shard e learnt saw old new here few learns are = record {
  at = λ key.
      let given = learnt_is_given key e few in
      let more = floor_more learnt e key in
      let was = are.at key in
      elim (cases_eq (key_shard key) shard) [
        | inl is ↦ let now = learns.here key is in omega (arith, now, given, more, was)
        | inr apart ↦
            let now = learns.others key apart in
            let all = recursion_from_All (λ t. key_shard t.key ≡ shard) e.touches here in
            let none = none_given shard key e.touches all apart in
            let few_is = ap (version_learnt key) (all_learnt e.touches few) in
            omega (arith, now, given, more, was, none, few_is)
      ];
}

-- who has seen one more version of a key has come to it there
seen_here : (key : Key) (one : SeenVersion) (saw : List SeenVersion) → key ≡ one.key → last_seen (one ∷ saw) key ≡ max one.version (last_seen saw key)
seen_here key one saw is = (let same : same_key key one.key ≡ true = (same_key-Decides key one.key).1 is in rw same refl)

seen_there : (key : Key) (one : SeenVersion) (saw : List SeenVersion) → same_key key one.key ≡ false → last_seen (one ∷ saw) key ≡ last_seen saw key
seen_there key one saw apart = (let none : max 0 (last_seen saw key) ≡ last_seen saw key = omega arith in rw apart none)

pub floors_see : (one : SeenVersion) (learnt : List Entry) (saw : List SeenVersion) (old new : List (Key × ℕ)) → Learns one.key one.version old new
    → FloorsAre learnt saw old → FloorsAre learnt (one ∷ saw) new
floors_see one learnt saw old new learns are = record {
  at = λ key.
      let was = are.at key in
      elim (cases_Bool (same_key key one.key)) [
        | inl is ↦
            let own = (same_key-Decides key one.key).0 is in
            let more = seen_here key one saw own in
            let now : floor_at new key ≡ max (floor_at old key) one.version =
            subst (λ k. floor_at new k ≡ max (floor_at old k) one.version) (sym own) learns.here in
            omega (arith, was, more, now)
        | inr apart ↦
            let less = seen_there key one saw apart in
            let now = learns.others key (λ own. true≢false (sym ((same_key-Decides key one.key).1 own) ∙ apart)) in
            omega (arith, was, less, now)
      ];
}
