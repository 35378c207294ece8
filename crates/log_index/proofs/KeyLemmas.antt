-- What one more touch makes of what the touches leave.
use Rattle.std.proofs.Common.{◌≡◌, ◌∙◌, ℕ, ◌+◌, true, false, List, [], ◌∷◌, ◌++◌, append-nil, append_assoc, refl, sym, ap, subst, inl, inr, length}
use Rattle.std.proofs.Common.{length-append, get_or, take, drop, zero, suc, arith, ◌<◌, None, unwrap_or}
use Rattle.std.proofs.lemmas.Bool.{cases_Bool}
use Rattle.std.proofs.lemmas.List.{map-append, take_more}
use Rattle.std.proofs.lemmas.List.Elements.{filter-append}
use Rattle.std.proofs.lemmas.Grind.{flat_map-append}
use Rattle.tao_base.specs.declared.entry.Entry.{Entry}
use Rattle.std.specs.BTreeMap.{BTreeMap, get}
use Rattle.tao_base.specs.Keys.{key_cmp, same_key}
use Rattle.tao_base.specs.declared.entry.Change.{Change}
use Rattle.tao_base.specs.declared.entry.Touch.{Touch}
use Rattle.tao_base.specs.declared.id.Key.{Key}
use Rattle.graph_model.proofs.Keys.{same_key-same}
use Rattle.graph_model.proofs.Lists.{list-snoc, record_in-snoc}
use Rattle.graph_model.proofs.Objects.{object_in-snoc}
use Rattle.graph_model.specs.Edges.{list_after, record_after}
use Rattle.graph_model.specs.Log.{changes_at, object_after}
use Rattle.log_index.specs.KeyIndex.{KeysTell, Touched, state_at, all_touches}
use Rattle.log_index.specs.KeyState.{IsAfter, IsLeftBy, KeyState, no_state}

-- the map as a function: where no key is found, there is no state
pub not_found : (keys : BTreeMap Key KeyState) (key : Key) → None ≡ get key_cmp keys key → no_state ≡ state_at keys key
not_found keys key h = ap (λ found. unwrap_or found no_state) h

-- one more change
pub left_after : (cs : List Change) (c : Change) (old new : KeyState) → IsLeftBy cs old → IsAfter c old new → IsLeftBy (cs ++ c ∷ []) new
left_after cs c old new was step = record {
  version_is = let before = was.version_is in let one = step.version_is in let longer = length-append cs (c ∷ []) in omega arith;
  object_is = step.object_is ∙ ap (object_after c) was.object_is ∙ sym (object_in-snoc cs c);
  edges_are = step.list_is.edges_are ∙ ap (list_after c) was.edges_are ∙ sym (list-snoc cs c);
  records_are = λ id2. step.list_is.records_are id2 ∙ ap (record_after id2 c) (was.records_are id2) ∙ sym (record_in-snoc cs c id2);
}

at_append : (key : Key) (ts us : List Touch) → changes_at key (ts ++ us) ≡ changes_at key ts ++ changes_at key us
at_append key ts us = rw (filter-append (λ (t : Touch). same_key key t.key) ts us, map-append (λ (t : Touch). t.change)) refl

at_here : (key : Key) (t : Touch) → same_key key t.key ≡ true → changes_at key (t ∷ []) ≡ t.change ∷ []
at_here key t h = rw h refl

at_other : (key : Key) (t : Touch) → same_key key t.key ≡ false → changes_at key (t ∷ []) ≡ []
at_other key t h = rw h refl

-- one more touch
pub says_more : (ts : List Touch) (t : Touch) (old new : BTreeMap Key KeyState) → Touched t old new → KeysTell ts old → KeysTell (ts ++ t ∷ []) new
says_more ts t old new step says = λ key. elim (cases_Bool (same_key key t.key)) [
  | inl h ↦ (let same : key ≡ t.key = same_key-same key t.key h in
      subst (λ cs. IsLeftBy cs (state_at new key)) (sym (at_append key ts (t ∷ []) ∙ ap (λ cs. changes_at key ts ++ cs) (at_here key t h)))
      (left_after (changes_at key ts) t.change (state_at old key) (state_at new key) (says key)
      (subst (λ (k : Key). IsAfter t.change (state_at old k) (state_at new k)) (sym same) step.here)))
  | inr h ↦
      subst (λ cs. IsLeftBy cs (state_at new key)) (sym (at_append key ts (t ∷ []) ∙ ap (λ cs. changes_at key ts ++ cs) (at_other key t h)
      ∙ append-nil (changes_at key ts)))
      (subst (IsLeftBy (changes_at key ts)) (sym (step.others key h)) (says key))
]

-- nothing was touched
pub says_nothing : (keys : BTreeMap Key KeyState) → ((key : Key) → state_at keys key ≡ no_state) → KeysTell [] keys
says_nothing keys h = λ key. subst (IsLeftBy []) (sym (h key)) (record { version_is = refl; object_is = refl; edges_are = refl; records_are = λ id2. refl })

-- the touches of an entry in turn
pub says_item : (ts us : List Touch) (i : ℕ) (t : Touch) (old new : BTreeMap Key KeyState) → i < length us → t ≡ get_or us i t → Touched t old new
    → KeysTell (ts ++ take i us) old → KeysTell (ts ++ take (i + 1) us) new
says_item ts us i t old new lt is step says =
    subst (λ all. KeysTell all new) (append_assoc ts (take i us) (t ∷ [])
    ∙ ap (λ more. ts ++ more) (ap (λ x. take i us ++ x ∷ []) is ∙ sym (take_more us i t lt)))
    (says_more (ts ++ take i us) t old new step says)

-- no stretch of nothing
pub no_stretch : {X : Type 0} (pos most : ℕ) → ◌≡◌ {A = List X} [] (take most (drop pos []))
no_stretch zero zero = refl
no_stretch zero (suc most) = refl
no_stretch (suc pos) zero = refl
no_stretch (suc pos) (suc most) = refl

-- the touches of a log with one more entry
pub touches_more : (log : List Entry) (e : Entry) → all_touches (log ++ e ∷ []) ≡ all_touches log ++ e.touches
touches_more log e = flat_map-append (λ (x : Entry). x.touches) log (e ∷ []) ∙ ap (λ ts. all_touches log ++ ts) (append-nil e.touches)
