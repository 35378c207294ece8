-- Names are the same where they are equal, and the derived `==` tests that.
use Rattle.std.proofs.Common.{◌≡◌, ℕ, ap, refl, ◌==◌, ◌&&◌}
use Rattle.std.specs.Bool.{Decides}
use Rattle.std.proofs.lemmas.Bool.Decides.{Decides-and, Decides-eqb, Decides-like}
use Rattle.tao_base.proofs.SameKeys.{same_key-Decides}
use Rattle.tao_base.specs.Keys.{same_key}
use Rattle.tao_base.specs.declared.id.Key.{Key}
use Rattle.tao_base.specs.declared.id.Key.TheVariants.{Obj, List as Assocs}
use Rattle.herd_state.specs.Names.{same_name}
use Rattle.herd_state.specs.contracts.name.HerdNamePartialEq.TheImpl.{eq-value}
use Rattle.herd_state.specs.declared.name.HerdName.{HerdName}

pub same_name-Decides : (x y : HerdName) → Decides (same_name x y) (x ≡ y)
same_name-Decides x y = Decides-like (x.region == y.region && (x.tier == y.tier && same_key x.key y.key))
    (λ all. λ i. record { region = all.0 i; tier = all.1.0 i; key = all.1.1 i })
    (λ e. (ap (λ (n : HerdName). n.region) e, (ap (λ (n : HerdName). n.tier) e, ap (λ (n : HerdName). n.key) e)))
    (Decides-and (x.region == y.region) (x.tier == y.tier && same_key x.key y.key) (Decides-eqb x.region y.region)
    (Decides-and (x.tier == y.tier) (same_key x.key y.key) (Decides-eqb x.tier y.tier) (same_key-Decides x.key y.key)))

abbrev named : ℕ → ℕ → Key → HerdName
named region tier key = record { region = region; tier = tier; key = key }

derived_at : (r t s u : ℕ) (k q : Key) → eq-value.it (named r t k) (named s u q) ≡ same_name (named r t k) (named s u q)
derived_at r t s u (Obj x) (Obj y) = refl
derived_at r t s u (Obj x) (Assocs y b) = refl
derived_at r t s u (Assocs x a) (Obj y) = refl
derived_at r t s u (Assocs x a) (Assocs y b) = refl

pub derived_is : (x : HerdName) → eq-value.it x ≡ same_name x
derived_is x = λ i y. derived_at x.region x.tier y.region y.tier x.key y.key i

pub derived_same : eq-value.it ≡ same_name
derived_same = λ i x. derived_is x i
