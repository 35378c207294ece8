-- Keys are the same where they are equal.
use Rattle.std.proofs.Common.{◌≡◌, ℕ, sym, ap, ◌==◌, ◌&&◌}
use Rattle.std.specs.Bool.{Decides}
use Rattle.std.proofs.lemmas.Bool.{true≢false}
use Rattle.std.proofs.lemmas.Bool.Decides.{Decides-and, Decides-eqb, Decides-like}
use Rattle.tao_base.specs.Keys.{same_key}
use Rattle.tao_base.specs.declared.id.Key.{Key}
use Rattle.tao_base.specs.declared.id.Key.TheVariants.{Obj, List as Assocs}

abbrev id_of : Key → ℕ
id_of (Obj id) = id
id_of (Assocs id1 atype) = id1

abbrev atype_of : Key → ℕ
atype_of (Obj id) = 0
atype_of (Assocs id1 atype) = atype.0

pub same_key-Decides : (x y : Key) → Decides (same_key x y) (x ≡ y)
same_key-Decides (Obj id) (Obj other) = Decides-like (id == other) (λ e. ap Obj e) (λ e. cc) (Decides-eqb id other)
same_key-Decides (Obj id) (Assocs other atype) = (λ e. absurd (true≢false (sym e)), λ e. absurd cc)
same_key-Decides (Assocs id1 atype) (Obj other) = (λ e. absurd (true≢false (sym e)), λ e. absurd cc)
same_key-Decides (Assocs id1 atype) (Assocs other type2) = Decides-like (id1 == other && atype.0 == type2.0)
    (λ both. λ i. Assocs (both.0 i) (record { 0 = both.1 i })) (λ e. (ap id_of e, ap atype_of e))
    (Decides-and (id1 == other) (atype.0 == type2.0) (Decides-eqb id1 other) (Decides-eqb atype.0 type2.0))
