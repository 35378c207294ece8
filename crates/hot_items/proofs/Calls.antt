-- What is held after any replies: by induction over them.
use Rattle.std.proofs.Common.{◌≡◌, ℕ, zero, suc, ◌-◌, Bool, true, false, cond, List, [], ◌∷◌, take, Option, Some, None, refl, sym, ap, subst, ◌∙◌}
use Rattle.std.specs.Prelude.{◌==◌, if◌then◌else◌}
use Rattle.std.specs.Bool.{then_some}
use Rattle.std.specs.Map.{lookup, lookup_entry, remove_entry}
use Rattle.std.specs.Option.{option_map_or}
use Rattle.std.proofs.lemmas.Bool.Decides.{Decides-and, Decides-eqb}
use Rattle.lru.specs.LruCache.{lru_cache, promoted, put_entries}
use Rattle.tao_base.specs.declared.query.Answer.{Answer}
use Rattle.tao_base.specs.declared.query.Query.{Query}
use Rattle.hot_items.specs.Hot.{held_as, held_at, hint_at, same_hint, unchanged_answer}
use Rattle.hot_items.specs.Keys.{Asked, asked_of, same_asked, same_query}
use Rattle.hot_items.specs.Laws.{UnchangedIsLastFull, cache_after, last_full}
use Rattle.hot_items.specs.declared.reply.Held.{Held}
use Rattle.hot_items.specs.declared.reply.Hint.{Hint}
use Rattle.hot_items.specs.declared.reply.HotReply.{HotReply}
use Rattle.hot_items.specs.declared.reply.HotReply.TheVariants.{Full, Unchanged}
use Rattle.hot_items.proofs.SameQueries.{same_asked-Decides}

abbrev Entries : Type 0
Entries = List (Asked × Held)

abbrev at : Asked → Entries → Option Held
at a es = lookup (same_asked a) es

-- the entry that is found is of the key
found_is : (b : Asked) (es : Entries) (e : Asked × Held) → lookup_entry (same_asked b) es ≡ Some e → b ≡ e.0
found_is b [] e h = absurd cc
found_is b (f ∷ es) e h = on (same_asked b f.0) refl (found_is b es e) h
  where
    on : (t : Bool) → same_asked b f.0 ≡ t → (lookup_entry (same_asked b) es ≡ Some e → b ≡ e.0)
        → cond t (Some f) (lookup_entry (same_asked b) es) ≡ Some e → b ≡ e.0
    on true is later h = let same : f ≡ e = cc in (same_asked-Decides b f.0).0 is ∙ ap (λ g. g.0) same
    on false is later h = later h

found_value : (b : Asked) (es : Entries) (e : Asked × Held) → lookup_entry (same_asked b) es ≡ Some e → at b es ≡ Some e.1
found_value b [] e h = absurd cc
found_value b (f ∷ es) e h = on (same_asked b f.0) (found_value b es e) h
  where
    on : (t : Bool) → (lookup_entry (same_asked b) es ≡ Some e → at b es ≡ Some e.1)
        → cond t (Some f) (lookup_entry (same_asked b) es) ≡ Some e → cond t (Some f.1) (at b es) ≡ Some e.1
    on true later h = let same : f ≡ e = cc in ap (λ g. Some g.1) same
    on false later h = later h

-- a key that is another isn't found less where one is taken out
apart_from : (a b : Asked) → same_asked a b ≡ false → (es : Entries) → at a (remove_entry (same_asked b) es) ≡ at a es
apart_from a b apart [] = refl
apart_from a b apart (f ∷ es) = on (same_asked b f.0) refl (apart_from a b apart es)
  where
    on : (t : Bool) → same_asked b f.0 ≡ t → at a (remove_entry (same_asked b) es) ≡ at a es
        → at a (cond t es (f ∷ remove_entry (same_asked b) es)) ≡ at a (f ∷ es)
    on true is later = let other : same_asked a f.0 ≡ false = subst (λ k. same_asked a k ≡ false) ((same_asked-Decides b f.0).0 is) apart in rw other refl
    on false is later = ap (λ rest. cond (same_asked a f.0) (Some f.1) rest) later

front_at : (a b : Asked) (es : Entries) (o : Option (Asked × Held)) → lookup_entry (same_asked b) es ≡ o
    → at a (option_map_or (λ e. e ∷ remove_entry (same_asked b) es) o es) ≡ at a es
front_at a b es None h = refl
front_at a b es (Some e) h = on (same_asked a e.0) refl
  where
    of : b ≡ e.0
    of = found_is b es e h

    on : (t : Bool) → same_asked a e.0 ≡ t → cond t (Some e.1) (at a (remove_entry (same_asked b) es)) ≡ at a es
    on true is = sym (found_value a es e (subst (λ k. lookup_entry (same_asked k) es ≡ Some e) (of ∙ sym ((same_asked-Decides a e.0).0 is)) h))
    on false is = apart_from a b (subst (λ k. same_asked a k ≡ false) (sym of) is) es

-- what is used is held as before, and so is all else
promoted_at : (a b : Asked) (es : Entries) → at a (promoted (same_asked b) es) ≡ at a es
promoted_at a b es = front_at a b es (lookup_entry (same_asked b) es) refl

take_at : (a : Asked) (n : ℕ) (es : Entries) (held : Held) → at a (take n es) ≡ Some held → at a es ≡ Some held
take_at a zero es held h = absurd cc
take_at a (suc n) [] held h = h
take_at a (suc n) (f ∷ es) held h = on (same_asked a f.0) (take_at a n es held) h
  where
    on : (t : Bool) → (at a (take n es) ≡ Some held → at a es ≡ Some held) → cond t (Some f.1) (at a (take n es)) ≡ Some held
        → cond t (Some f.1) (at a es) ≡ Some held
    on true later h = h
    on false later h = later h

module _ (a b : Asked) (value : Held) (most : ℕ) (es : Entries) (held : Held) where
  put_on : (o : Option (Asked × Held)) → lookup_entry (same_asked b) es ≡ o
      → at a (option_map_or (λ e. (e.0, value) ∷ remove_entry (same_asked b) es) o ((b, value) ∷ take (most - 1) es)) ≡ Some held
      → cond (same_asked a b) (Some value) (at a es) ≡ Some held
  put_on None h found = on (same_asked a b) found
    where
      on : (t : Bool) → cond t (Some value) (at a (take (most - 1) es)) ≡ Some held → cond t (Some value) (at a es) ≡ Some held
      on true f = f
      on false f = take_at a (most - 1) es held f
  put_on (Some e) h found = on (same_asked a b) refl (subst (λ k. cond (same_asked a k) (Some value) (at a (remove_entry (same_asked b) es)) ≡ Some held)
      (sym (found_is b es e h)) found)
    where
      on : (t : Bool) → same_asked a b ≡ t → cond t (Some value) (at a (remove_entry (same_asked b) es)) ≡ Some held
          → cond t (Some value) (at a es) ≡ Some held
      on true is f = f
      on false is f = sym (apart_from a b is es) ∙ f

  -- what is held after a put is what was put, or was held before
  put_at : at a (put_entries same_asked (lru_cache es most) b value) ≡ Some held → cond (same_asked a b) (Some value) (at a es) ≡ Some held
  put_at found = put_on (lookup_entry (same_asked b) es) refl found

-- what is held is the latest full reply
held_is_last : (most : ℕ) (calls : List (Query × HotReply)) (query : Query) (held : Held)
    → held_at query (cache_after most calls) ≡ Some held → last_full query calls ≡ Some held
held_is_last most [] query held h = absurd cc
held_is_last most ((other, Full epoch version answer) ∷ earlier) query held h =
    on (same_query query other) (held_is_last most earlier query held)
    (put_at (asked_of query) (asked_of other) (held_as (hint_at epoch version) answer) (cache_after most earlier).most (cache_after most earlier).held held h)
  where
    on : (t : Bool) → (held_at query (cache_after most earlier) ≡ Some held → last_full query earlier ≡ Some held)
        → cond t (Some (held_as (hint_at epoch version) answer)) (held_at query (cache_after most earlier)) ≡ Some held
        → (if t then Some (held_as (hint_at epoch version) answer) else last_full query earlier) ≡ Some held
    on true later f = f
    on false later f = later f
held_is_last most ((other, Unchanged epoch version) ∷ earlier) query held h =
    held_is_last most earlier query held (sym (promoted_at (asked_of query) (asked_of other) (cache_after most earlier).held) ∙ h)

same_hint_is : (x y : Hint) → same_hint x y ≡ true → x ≡ y
same_hint_is x y e =
    let both = (Decides-and (x.epoch == y.epoch) (x.version == y.version) (Decides-eqb x.epoch y.epoch) (Decides-eqb x.version y.version)).0 e in
    λ i. record { epoch = both.0 i; version = both.1 i }

answered : (hint : Hint) (held : Held) (answer : Answer) → (t : Bool) → same_hint held.hint hint ≡ t → then_some t held.answer ≡ Some answer
    → held ≡ held_as hint answer
answered hint held answer true is h = let given : held.answer ≡ answer = cc in λ i. record { hint = same_hint_is held.hint hint is i; answer = given i }
answered hint held answer false is h = absurd cc

answered_of : (hint : Hint) (found : Option Held) (answer : Answer) → unchanged_answer hint found ≡ Some answer → found ≡ Some (held_as hint answer)
answered_of hint None answer h = absurd cc
answered_of hint (Some held) answer h = ap Some (answered hint held answer (same_hint held.hint hint) refl h)

pub last_full_held : (most : ℕ) (calls : List (Query × HotReply)) (query : Query) → UnchangedIsLastFull most calls query
last_full_held most calls query epoch version answer h = held_is_last most calls query (held_as (hint_at epoch version) answer)
    (answered_of (hint_at epoch version) (held_at query (cache_after most calls)) answer h)
