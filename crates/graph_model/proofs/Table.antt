-- The test of deciding is its table.
use Rattle.std.proofs.Common.{◌≡◌, ℕ, ◌+◌, ◌<◌, ◌≤◌, Bool, false, List, ◌⊎◌, inl, inr, length, refl, eqb, ltb, leb, min}
use Rattle.std.proofs.lemmas.Bool.{le-leb, leb-true}
use Rattle.std.proofs.lemmas.Bool.Decides.{Decides-by_and, Decides-eqb, Decides-like, Decides-ltb, Decides-or}
use Rattle.std.proofs.lemmas.List.Folds.{Any-from_list_any, list_any-from_Any}
use Rattle.std.specs.Bool.{Decides}
use Rattle.std.specs.List.{list_all, list_any}
use Rattle.std.specs.Option.{option_map_or}
use Rattle.std.specs.Prelude.{Any, IsSomeAnd, Option, Some, None, ◌||◌, ◌==◌}
use Rattle.tao_base.specs.declared.edge.Edge.{Edge}
use Rattle.tao_base.specs.declared.query.Query.{Query}
use Rattle.tao_base.specs.declared.query.Query.TheVariants.{ObjGet, AssocGet, AssocCount, AssocRange, AssocTimeRange}
use Rattle.graph_model.proofs.Lists.{eqb-same}
use Rattle.graph_model.specs.Log.{last}
use Rattle.graph_model.specs.PrefixLaws.{DecidesExactly}
use Rattle.graph_model.specs.Prefixes.{EndsBelow, count_within, ends_below, ends_below_given, is_empty_span}

Decides-leb : (a b : ℕ) → Decides (leb a b) (a ≤ b)
Decides-leb a b = (leb-true a b, le-leb a b)

Decides-or3 : {P Q R : Type 0} (a b c : Bool) → Decides a P → Decides b Q → Decides c R → Decides (a || b || c) (P ⊎ Q ⊎ R)
Decides-or3 a b c p q r = Decides-like (a || b || c)
    (λ h. elim h [ inl k ↦ elim k [ inl j ↦ inl j | inr j ↦ inr (inl j) ] | inr k ↦ inr (inr k) ])
    (λ h. elim h [ inl k ↦ inl (inl k) | inr k ↦ elim k [ inl j ↦ inl (inr j) | inr j ↦ inr j ] ])
    (Decides-or (a || b) c (Decides-or a b p q) r)

Decides-or4 : {P Q R S : Type 0} (a b c d : Bool) → Decides a P → Decides b Q → Decides c R → Decides d S → Decides (a || b || c || d) (P ⊎ Q ⊎ R ⊎ S)
Decides-or4 a b c d p q r s = Decides-like (a || b || c || d)
    (λ h. elim h [ inl k ↦ elim k [ inl j ↦ inl j | inr j ↦ inr (elim j [ inl i ↦ inl i | inr i ↦ inr (inl i) ]) ] | inr k ↦ inr (inr (inr k)) ])
    (λ h. elim h [ inl k ↦ inl (inl k) | inr k ↦ elim k [ inl j ↦ inl (inr (inl j)) | inr j ↦ elim j [ inl i ↦ inl (inr (inr i)) | inr i ↦ inr i ] ] ])
    (Decides-or (a || b || c) d (Decides-or3 a b c p q r) s)

Decides-map_or : {X : Type 0} (p : X → Bool) (P : X → Type 0) (o : Option X) → ((x : X) → Decides (p x) (P x))
    → Decides (option_map_or p o false) (IsSomeAnd o P)
Decides-map_or p P None each = (λ h. absurd (cc), λ h. absurd h)
Decides-map_or p P (Some x) each = each x

ends : (low : ℕ) (edges : List Edge) → Decides (ends_below low edges) (EndsBelow low edges)
ends low edges = Decides-map_or (λ (e : Edge). ltb e.time low) (λ e. e.time < low) (last edges) (λ e. Decides-ltb e.time low)

among : (edges : List Edge) (id : ℕ) → Decides (list_any (λ e. id == e.id2) edges) (Any (λ e. id ≡ e.id2) edges)
among edges id = (
  λ h. (let found = Any-from_list_any (λ (e : Edge). id == e.id2) edges h in (found.0, found.1, found.2, found.3, eqb-same id found.1.id2 found.4)),
  λ found. list_any-from_Any (λ (e : Edge). id == e.id2) edges (found.0, found.1, found.2, found.3, (Decides-eqb id found.1.id2).1 found.4),
)

pub decides_exactly : (bound : ℕ) (edges : List Edge) (total : ℕ) (q : Query) → DecidesExactly bound edges total q
decides_exactly bound edges total (ObjGet id) = (λ h. absurd (cc), λ h. absurd h)
decides_exactly bound edges total (AssocCount id1 atype) = (λ h. tt, λ h. refl)
decides_exactly bound edges total (AssocRange id1 atype pos limit) =
    Decides-or3 (eqb (length edges) total) (leb (pos + min limit bound) (length edges)) (leb total pos)
    (Decides-eqb (length edges) total) (Decides-leb (pos + min limit bound) (length edges)) (Decides-leb total pos)
decides_exactly bound edges total (AssocTimeRange id1 atype high low limit) =
    Decides-or4 (eqb (length edges) total) (ltb high low) (leb (min limit bound) (count_within (Some low) (Some high) edges)) (ends_below low edges)
    (Decides-eqb (length edges) total) (Decides-ltb high low) (Decides-leb (min limit bound) (count_within (Some low) (Some high) edges)) (ends low edges)
decides_exactly bound edges total (AssocGet id1 atype ids high low) =
    Decides-or4 (eqb (length edges) total) (list_all (λ id. list_any (λ e. id == e.id2) edges) ids) (is_empty_span low high) (ends_below_given low edges)
    (Decides-eqb (length edges) total)
    (Decides-by_and (λ id. list_any (λ e. id == e.id2) edges) (λ id. Any (λ e. id ≡ e.id2) edges) (list_all (λ id. list_any (λ e. id == e.id2) edges))
    (among edges) refl (λ _ _. refl) ids)
    (Decides-map_or (λ from. option_map_or (λ to. ltb to from) high false) (λ from. IsSomeAnd high (λ to. to < from)) low
    (λ from. Decides-map_or (λ to. ltb to from) (λ to. to < from) high (λ to. Decides-ltb to from)))
    (Decides-map_or (λ from. ends_below from edges) (λ from. EndsBelow from edges) low (λ from. ends from edges))
