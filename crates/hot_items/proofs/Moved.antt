-- The entries of a cache, seen by other keys.
use Rattle.std.proofs.Common.{◌≡◌, ◌-◌, Bool, true, false, cond, List, [], ◌∷◌, map, take, Option, Some, None, refl, ap}
use Rattle.std.specs.Map.{lookup, lookup_entry, remove_entry}
use Rattle.std.specs.Option.{option_map, option_map_or}
use Rattle.std.proofs.lemmas.List.{take-map}
use Rattle.lru.specs.LruCache.{LruCache, lru_cache, promoted, put_entries}

module _ {K Q V : Type 0} (f : K → Q) where
  abbrev pub moved : K × V → Q × V
  moved e = (f e.0, e.1)

  module _ (test : K → Bool) (other : Q → Bool) (agree : (k : K) → other (f k) ≡ test k) where
    pub lookup_moved : (es : List (K × V)) → lookup other (map moved es) ≡ lookup test es
    lookup_moved [] = refl
    lookup_moved (e ∷ es) = rw (agree e.0) (at (test e.0) (lookup_moved es))
      where
        at : (b : Bool) → lookup other (map moved es) ≡ lookup test es
            → cond b (Some e.1) (lookup other (map moved es)) ≡ cond b (Some e.1) (lookup test es)
        at true later = refl
        at false later = later

    entry_moved : (es : List (K × V)) → lookup_entry other (map moved es) ≡ option_map moved (lookup_entry test es)
    entry_moved [] = refl
    entry_moved (e ∷ es) = rw (agree e.0) (at (test e.0) (entry_moved es))
      where
        at : (b : Bool) → lookup_entry other (map moved es) ≡ option_map moved (lookup_entry test es)
            → cond b (Some (moved e)) (lookup_entry other (map moved es)) ≡ option_map moved (cond b (Some e) (lookup_entry test es))
        at true later = refl
        at false later = later

    remove_moved : (es : List (K × V)) → remove_entry other (map moved es) ≡ map moved (remove_entry test es)
    remove_moved [] = refl
    remove_moved (e ∷ es) = rw (agree e.0) (at (test e.0) (remove_moved es))
      where
        at : (b : Bool) → remove_entry other (map moved es) ≡ map moved (remove_entry test es)
            → cond b (map moved es) (moved e ∷ remove_entry other (map moved es)) ≡ map moved (cond b es (e ∷ remove_entry test es))
        at true later = refl
        at false later = ap (λ rest. moved e ∷ rest) later

    to_front : (o : Option (K × V)) (left : List (K × V)) (es : List (K × V))
        → option_map_or (λ e. e ∷ map moved left) (option_map moved o) (map moved es) ≡ map moved (option_map_or (λ e. e ∷ left) o es)
    to_front None left es = refl
    to_front (Some e) left es = refl

    pub promoted_moved : (es : List (K × V)) → promoted other (map moved es) ≡ map moved (promoted test es)
    promoted_moved es = rw (entry_moved es, remove_moved es) (to_front (lookup_entry test es) (remove_entry test es) es)

    put_front : (key : Q) (k : K) (v : V) → key ≡ f k → (o : Option (K × V)) (left es : List (K × V))
        → option_map_or (λ e. (e.0, v) ∷ map moved left) (option_map moved o) ((key, v) ∷ map moved es)
        ≡ map moved (option_map_or (λ e. (e.0, v) ∷ left) o ((k, v) ∷ es))
    put_front key k v same None left es = ap (λ q. (q, v) ∷ map moved es) same
    put_front key k v same (Some e) left es = refl

pub put_moved : {K Q V : Type 0} (f : K → Q) (eq : K → K → Bool) (same : Q → Q → Bool) → ((k j : K) → same (f k) (f j) ≡ eq k j)
    → (c : LruCache K V) (k : K) (v : V)
    → put_entries same (lru_cache (map (moved f) c.entries) c.cap) (f k) v ≡ map (moved f) (put_entries eq c k v)
put_moved f eq same agree c k v =
    rw (entry_moved f (eq k) (same (f k)) (agree k) c.entries, remove_moved f (eq k) (same (f k)) (agree k) c.entries, take-map (moved f) (c.cap - 1) c.entries)
    (put_front f (eq k) (same (f k)) (agree k) (f k) k v refl (lookup_entry (eq k) c.entries) (remove_entry (eq k) c.entries) (take (c.cap - 1) c.entries))
