-- Queries are the same where their keys are.
use Rattle.std.proofs.Common.{◌≡◌, ℕ, false, sym, ap, refl, ◌∙◌, ◌==◌, ◌&&◌, List, Option, Some, None}
use Rattle.std.specs.Bool.{Decides}
use Rattle.std.specs.Cmp.Lexicographic.{pointwise, pointwise_decides}
use Rattle.std.specs.Option.{option_eq}
use Rattle.std.proofs.lemmas.Bool.{true≢false}
use Rattle.std.proofs.lemmas.Bool.Decides.{Decides-and, Decides-eqb, Decides-like}
use Rattle.tao_base.proofs.SameKeys.{same_key-Decides}
use Rattle.tao_base.specs.Keys.{same_key}
use Rattle.tao_base.specs.declared.id.Key.{Key}
use Rattle.tao_base.specs.declared.id.Key.TheVariants.{Obj, List as Assocs}
use Rattle.tao_base.specs.declared.query.Query.{Query}
use Rattle.tao_base.specs.declared.query.Query.TheVariants.{ObjGet, AssocGet, AssocCount, AssocRange, AssocTimeRange}
use Rattle.hot_items.specs.Keys.{Asked, asked_of, same_asked, same_part, same_query}
use Rattle.hot_items.specs.Laws.{TellsQueries}
use Rattle.hot_items.specs.declared.key.Part.{Part}
use Rattle.hot_items.specs.declared.key.Part.TheVariants.{Whole, Among, Places, Times}

differ : {P : Type 0} → (P → ⊥) → Decides false P
differ apart = (λ e. absurd (true≢false (sym e)), λ p. absurd (apart p))

abbrev value_of : Option ℕ → ℕ
value_of None = 0
value_of (Some n) = n

times_same : (x y : Option ℕ) → Decides (option_eq ◌==◌ x y) (x ≡ y)
times_same None None = (λ e. refl, λ e. refl)
times_same None (Some m) = differ (λ e. absurd cc)
times_same (Some n) None = differ (λ e. absurd cc)
times_same (Some n) (Some m) = Decides-like (n == m) (λ e. ap Some e) (λ e. ap value_of e) (Decides-eqb n m)

abbrev high_of : Part → Option ℕ
high_of (Among high low) = high
high_of part = None

abbrev low_of : Part → Option ℕ
low_of (Among high low) = low
low_of part = None

abbrev first_of : Part → ℕ
first_of (Places pos limit) = pos
first_of (Times high low limit) = high
first_of part = 0

abbrev second_of : Part → ℕ
second_of (Places pos limit) = limit
second_of (Times high low limit) = low
second_of part = 0

abbrev third_of : Part → ℕ
third_of (Times high low limit) = limit
third_of part = 0

same_part-Decides : (x y : Part) → Decides (same_part x y) (x ≡ y)
same_part-Decides Whole Whole = (λ e. refl, λ e. refl)
same_part-Decides (Among high low) (Among top bottom) = Decides-like (option_eq ◌==◌ high top && option_eq ◌==◌ low bottom)
    (λ both. λ i. Among (both.0 i) (both.1 i)) (λ e. (ap high_of e, ap low_of e))
    (Decides-and (option_eq ◌==◌ high top) (option_eq ◌==◌ low bottom) (times_same high top) (times_same low bottom))
same_part-Decides (Places pos limit) (Places place most) = Decides-like (pos == place && limit == most)
    (λ both. λ i. Places (both.0 i) (both.1 i)) (λ e. (ap first_of e, ap second_of e))
    (Decides-and (pos == place) (limit == most) (Decides-eqb pos place) (Decides-eqb limit most))
same_part-Decides (Times high low limit) (Times top bottom most) = Decides-like (high == top && (low == bottom && limit == most))
    (λ all. λ i. Times (all.0 i) (all.1.0 i) (all.1.1 i)) (λ e. (ap first_of e, (ap second_of e, ap third_of e)))
    (Decides-and (high == top) (low == bottom && limit == most) (Decides-eqb high top)
    (Decides-and (low == bottom) (limit == most) (Decides-eqb low bottom) (Decides-eqb limit most)))
same_part-Decides part other = differ (λ e. absurd cc)

pub same_asked-Decides : (x y : Asked) → Decides (same_asked x y) (x ≡ y)
same_asked-Decides x y = Decides-like (same_key x.key y.key && (same_part x.part y.part && pointwise ◌==◌ x.ids y.ids))
    (λ all. λ i. record { key = all.0 i; part = all.1.0 i; ids = all.1.1 i })
    (λ e. (ap (λ (a : Asked). a.key) e, (ap (λ (a : Asked). a.part) e, ap (λ (a : Asked). a.ids) e)))
    (Decides-and (same_key x.key y.key) (same_part x.part y.part && pointwise ◌==◌ x.ids y.ids) (same_key-Decides x.key y.key)
    (Decides-and (same_part x.part y.part) (pointwise ◌==◌ x.ids y.ids) (same_part-Decides x.part y.part) (pointwise_decides Decides-eqb x.ids y.ids)))

-- the query that a key stands for
abbrev query_at : Key → Part → List ℕ → Query
query_at (Obj id) part ids = ObjGet id
query_at (Assocs id1 atype) Whole ids = AssocCount id1 atype
query_at (Assocs id1 atype) (Among high low) ids = AssocGet id1 atype ids high low
query_at (Assocs id1 atype) (Places pos limit) ids = AssocRange id1 atype pos limit
query_at (Assocs id1 atype) (Times high low limit) ids = AssocTimeRange id1 atype high low limit

abbrev query_of : Asked → Query
query_of asked = query_at asked.key asked.part asked.ids

back : (query : Query) → query_of (asked_of query) ≡ query
back (ObjGet id) = refl
back (AssocGet id1 atype ids high low) = refl
back (AssocCount id1 atype) = refl
back (AssocRange id1 atype pos limit) = refl
back (AssocTimeRange id1 atype high low limit) = refl

pub tells_queries : (query other : Query) → TellsQueries query other
tells_queries query other = Decides-like (same_query query other) (λ e. sym (back query) ∙ ap query_of e ∙ back other) (λ e. ap asked_of e)
    (same_asked-Decides (asked_of query) (asked_of other))
