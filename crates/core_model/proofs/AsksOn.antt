-- Asks go on.
use Rattle.std.proofs.Common.{◌≡◌, ℕ, ◌+◌, ◌<◌, Bool, not, List, [], ◌∷◌, ◌++◌, refl, sym, subst, ◌∙◌, inl, inr, arith}
use Rattle.std.specs.Prelude.{◌==◌, filter, map, IfSome, find}
use Rattle.std.proofs.lemmas.Bool.{cases_Bool}
use Rattle.tao_base.specs.Ids.{IsRising}
use Rattle.tao_base.specs.Keys.{same_key}
use Rattle.tao_base.specs.declared.id.Key.{Key}
use Rattle.ask_table.specs.Asks.{Asks, IsTable, fresh, with_ask, with_floor, without_ask}
use Rattle.ask_table.specs.Open.{is_numbered, raised_ask}
use Rattle.ask_table.specs.declared.ask.Ask.{Ask}
use Rattle.cache_items.specs.Kept.{ask_at}
use Rattle.cache_items.specs.Node.{raised_all}
use Rattle.maint_msg.specs.declared.key_versions.KeyVersion.{KeyVersion}
use Rattle.core_model.specs.Asks.{AreAsksOn, AsksGoOn, AsksStayOn, IsAskOn}
use Rattle.ask_table.proofs.Tables.{raised_number}

on_append : (number : ℕ) (key : Key) (xs : List Ask) (y : Ask) → AreAsksOn number key xs → (y.number ≡ number → y.key ≡ key)
    → AreAsksOn number key (xs ++ y ∷ [])
on_append number key [] y all last = (last, tt)
on_append number key (x ∷ xs) y all last = (all.0, on_append number key xs y all.1 last)

raised_key : (key : Key) (version : ℕ) (a : Ask) → (raised_ask key version a).key ≡ a.key
raised_key key version a = elim (cases_Bool (same_key a.key key)) [ inl h ↦ rw h refl | inr h ↦ rw h refl ]

on_map : (number : ℕ) (key : Key) (other : Key) (version : ℕ) (xs : List Ask) → AreAsksOn number key xs
    → AreAsksOn number key (map (raised_ask other version) xs)
on_map number key other version [] all = tt
on_map number key other version (x ∷ xs) all =
    ((λ e. raised_key other version x ∙ all.0 (sym (raised_number other version x) ∙ e)), on_map number key other version xs all.1)

on_filter : (number : ℕ) (key : Key) (q : Ask → Bool) (xs : List Ask) → AreAsksOn number key xs → AreAsksOn number key (filter q xs)
on_filter number key q [] all = tt
on_filter number key q (x ∷ xs) all = elim (cases_Bool (q x)) [
  | inl h ↦ rw h (all.0, on_filter number key q xs all.1)
  | inr h ↦ rw h (on_filter number key q xs all.1)
]

pub asks_stay : (t : Asks) → AsksGoOn t t
asks_stay t number key is = is

pub asks_go_on : (s t u : Asks) → AsksGoOn s t → AsksGoOn t u → AsksGoOn s u
asks_go_on s t u p q number key is = q number key (p number key is)

pub begins : (t : Asks) (key : Key) (mark : ℕ) → AsksGoOn t (with_ask key mark t)
begins t key mark number other is = record {
  given = (let le = is.given in omega arith);
  on = on_append number other t.asks (fresh t key mark) is.on (λ e. let le = is.given in absurd (omega arith));
}

pub raises : (t : Asks) (key : Key) (version : ℕ) → AsksGoOn t (with_floor key version t)
raises t key version number other is = record { given = is.given; on = on_map number other key version t.asks is.on }

pub raises_all : (keys : List KeyVersion) (t : Asks) → AsksGoOn t (raised_all keys t)
raises_all [] t = asks_stay t
raises_all (k ∷ ks) t =
    let once : Asks = with_floor k.key k.version t in
    asks_go_on t once (raised_all ks once) (raises t k.key k.version) (raises_all ks once)

pub ends : (t : Asks) (number : ℕ) → AsksGoOn t (without_ask number t)
ends t number other key is = record { given = is.given; on = on_filter other key (λ a. not (is_numbered number a)) t.asks is.on }

-- numbers that rise up to one are below it
below : (n : ℕ) (key : Key) (xs : List Ask) → IsRising (map (λ a. a.number) xs ++ n ∷ []) → AreAsksOn n key xs
    × ((y : Ask) (ys : List Ask) → xs ≡ y ∷ ys → y.number < n)
below n key [] rising = (tt, λ y ys e. absurd (cc))
below n key (x ∷ []) rising = (
  ((λ e. let lt = rising.0 in absurd (omega arith)), tt),
  λ y ys e. (let same : x ≡ y = cc in subst (λ (z : Ask). z.number < n) same rising.0),
)
below n key (x ∷ z ∷ zs) rising =
    let rest = below n key (z ∷ zs) rising.1 in
    let next : z.number < n = rest.1 z zs refl in
    let lt : x.number < n = (let step = rising.0 in omega arith) in
    (((λ e. absurd (omega arith)), rest.0), λ y ys e. (let same : x ≡ y = cc in subst (λ (w : Ask). w.number < n) same lt))

pub begun : (t : Asks) (key : Key) (mark : ℕ) → IsTable t → IsAskOn (with_ask key mark t) (t.given + 1) key
begun t key mark table = record {
  given = omega arith;
  on = on_append (t.given + 1) key t.asks (fresh t key mark) (below (t.given + 1) key t.asks table.rising).0 (λ e. refl);
}

found_on : (number : ℕ) (key : Key) (xs : List Ask) → AreAsksOn number key xs → IfSome (find (is_numbered number) xs) (λ a. a.key ≡ key)
found_on number key [] all = tt
found_on number key (x ∷ xs) all = elim (cases_Bool (x.number == number)) [
  | inl h ↦ rw h (all.0 (let e : x.number ≡ number = grind arith in e))
  | inr h ↦ rw h (found_on number key xs all.1)
]

pub found : (t : Asks) (number : ℕ) (key : Key) → IsAskOn t number key → IfSome (ask_at number t) (λ a. a.key ≡ key)
found t number key is = found_on number key t.asks is.on

pub asks_stay_on : AsksStayOn
asks_stay_on = record {
  stay = asks_stay;
  on = asks_go_on;
  begins = begins;
  raises = raises;
  raises_all = raises_all;
  ends = ends;
  begun = begun;
  found = found;
}
