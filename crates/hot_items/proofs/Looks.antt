-- What the calls of the cache come to, seen by queries.
use Rattle.std.proofs.Common.{◌≡◌, ℕ, ◌<◌, ◌≤◌, Bool, true, false, cond, List, [], ◌∷◌, Contains, length, map, Option, Some, None, refl}
use Rattle.std.proofs.Common.{sym, ap, subst, arith, inl, inr, OnErr, OnOk}
use Rattle.std.specs.Prelude.{Result, Ok, Err}
use Rattle.std.specs.Map.{lookup}
use Rattle.lru.proofs.CallerLemmas.{Contains-promoted, Contains-put_entries}
use Rattle.lru.proofs.Splits.{Contains-head, Contains-tail}
use Rattle.lru.specs.LruCache.{LruCache, lru_cache, promoted, put_entries}
use Rattle.tao_base.specs.declared.query.Query.{Query}
use Rattle.hot_items.specs.CacheView.{seen}
use Rattle.hot_items.specs.Hot.{held_at, hot_of, used, with_held}
use Rattle.hot_items.specs.KeyView.{asked}
use Rattle.hot_items.specs.Keys.{Asked, asked_of, ids_of, same_asked}
use Rattle.hot_items.specs.Replies.{IsStrange, strange_of}
use Rattle.hot_items.specs.contracts.key.HotKeyPartialEq.TheImpl.{eq-value as hot_eq}
use Rattle.hot_items.specs.declared.key.HotKey.{HotKey}
use Rattle.hot_items.specs.declared.reply.Held.{Held}
use Rattle.hot_items.specs.declared.reply.Hint.{Hint}
use Rattle.hot_items.proofs.KeyTest.{key_test}
use Rattle.hot_items.proofs.Moved.{lookup_moved, promoted_moved, put_moved}
use Rattle.hot_items.proofs.SameQueries.{same_asked-Decides}

abbrev Entries : Type 0
Entries = List (HotKey × Held)

-- no key that is held has more ids than that
abbrev pub FitIn : ℕ → Entries → Type 0
FitIn room es = (e : HotKey × Held) → Contains es e → length e.0.ids.items ≤ room

-- a query with more ids than each that is held isn't held
pub misses : (room : ℕ) (query : Query) → room < length (ids_of query) → (es : Entries) → FitIn room es → (most : ℕ)
    → held_at query (hot_of (map seen es) most) ≡ None
misses room query over [] fit most = refl
misses room query over (e ∷ es) fit most = at (same_asked (asked_of query) (asked e.0)) refl
    (misses room query over es (λ f among. fit f (Contains-tail e es f among)) most)
  where
    at : (b : Bool) → same_asked (asked_of query) (asked e.0) ≡ b → lookup (same_asked (asked_of query)) (map seen es) ≡ None
        → cond b (Some e.1) (lookup (same_asked (asked_of query)) (map seen es)) ≡ None
    at true is later =
        let same = (same_asked-Decides (asked_of query) (asked e.0)).0 is in
        let long : length (ids_of query) ≡ length e.0.ids.items = ap (λ (a : Asked). length a.ids) same in
        absurd (omega (arith, over, long, fit e (Contains-head e es)))
    at false is later = later

module _ (key : HotKey) (query : Query) (same : asked key ≡ asked_of query) where
  -- a look-up by a query's key finds what is held for the query
  pub finds : (es : Entries) (most : ℕ) → held_at query (hot_of (map seen es) most) ≡ lookup (hot_eq.it key) es
  finds es most = subst (λ a. lookup (same_asked a) (map seen es) ≡ lookup (hot_eq.it key) es) same
      (lookup_moved asked (hot_eq.it key) (same_asked (asked key)) (key_test key) es)

  pub uses : (es : Entries) (most : ℕ) → hot_of (map seen (promoted (hot_eq.it key) es)) most ≡ used query (hot_of (map seen es) most)
  uses es most = subst (λ a. hot_of (map seen (promoted (hot_eq.it key) es)) most ≡ hot_of (promoted (same_asked a) (map seen es)) most) same
      (ap (λ held. hot_of held most) (sym (promoted_moved asked (hot_eq.it key) (same_asked (asked key)) (key_test key) es)))

  pub keeps : (c : LruCache HotKey Held) (held : Held)
      → hot_of (map seen (put_entries hot_eq.it c key held)) c.cap ≡ with_held query held (hot_of (map seen c.entries) c.cap)
  keeps c held = subst (λ a. hot_of (map seen (put_entries hot_eq.it c key held)) c.cap
      ≡ hot_of (put_entries same_asked (lru_cache (map seen c.entries) c.cap) a held) c.cap) same
      (ap (λ es. hot_of es c.cap) (sym (put_moved asked hot_eq.it same_asked key_test c key held)))

pub fit_more : (room more : ℕ) → room ≤ more → (es : Entries) → FitIn room es → FitIn more es
fit_more room more le es fit e among = omega (arith, le, fit e among)

pub fit_used : (room : ℕ) (key : HotKey) (es : Entries) → FitIn room es → FitIn room (promoted (hot_eq.it key) es)
fit_used room key es fit e among = fit e (Contains-promoted (hot_eq.it key) es e among)

pub fit_put : (room : ℕ) (c : LruCache HotKey Held) (key : HotKey) (held : Held) → length key.ids.items ≤ room → FitIn room c.entries
    → FitIn room (put_entries hot_eq.it c key held)
fit_put room c key held few fit e among = elim (Contains-put_entries hot_eq.it c key held e among) [
  | inl before ↦ fit e before
  | inr put ↦ elim put.1 [
    | inl same ↦ subst (λ (k : HotKey). length k.ids.items ≤ room) (sym same) few
    | inr old ↦ fit (e.0, old.0) old.1
  ]
]

-- a query's key has as many ids as the query
pub few_ids : (room : ℕ) (key : HotKey) (query : Query) (ids : List ℕ) → asked key ≡ asked_of query → ids ≡ ids_of query → length ids ≤ room
    → length key.ids.items ≤ room
few_ids room key query ids same named le =
    let few : length key.ids.items ≡ length (ids_of query) = ap (λ (a : Asked). length a.ids) same in
    let all : length ids ≡ length (ids_of query) = ap length named in omega (arith, few, all, le)

-- nothing is held that the reply could mean
pub strange_none : (hint : Hint) (found : Option Held) → found ≡ None → IsStrange hint found (strange_of hint)
strange_none hint found none = rw none (refl, refl)

-- what holds after both ends of a call
pub either_way : {X T E : Type 0} (P : X → Type 0) (r : Result T E) (new a b : X) → OnOk r (new ≡ a) → OnErr r (new ≡ b) → P a → P b → P new
either_way P (Ok x) new a b ok err at_ok at_err = subst P (sym ok) at_ok
either_way P (Err e) new a b ok err at_ok at_err = subst P (sym err) at_err

pub after_ok : {T E : Type 0} {P Q : Type 0} (r : Result T E) → (P → Q) → OnOk r P → OnOk r Q
after_ok (Ok x) f p = f p
after_ok (Err e) f p = tt
