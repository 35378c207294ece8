-- The derived `==` of keys tests what contracts see of them.
use Rattle.std.proofs.Common.{◌≡◌, Bool, ◌&&◌, ◌==◌, refl, sym}
use Rattle.std.specs.Cmp.Lexicographic.{pointwise}
use Rattle.tao_base.specs.declared.id.Key.{Key}
use Rattle.tao_base.specs.declared.id.Key.TheVariants.{Obj, List as Assocs}
use Rattle.tao_base.specs.Keys.{same_key}
use Rattle.tao_base.specs.contracts.id.KeyPartialEq.TheImpl.{eq-value as key_eq}
use Rattle.hot_items.specs.KeyView.{asked}
use Rattle.hot_items.specs.Keys.{same_asked, same_part}
use Rattle.hot_items.specs.contracts.key.HotKeyPartialEq.TheImpl.{eq-value as hot_eq}
use Rattle.hot_items.specs.contracts.key.PartPartialEq.TheImpl.{eq-value as part_eq}
use Rattle.hot_items.specs.declared.key.HotKey.{HotKey}
use Rattle.hot_items.specs.declared.key.Part.{Part}
use Rattle.hot_items.specs.declared.key.Part.TheVariants.{Whole, Among, Places, Times}

key_at : (k q : Key) → key_eq.it k q ≡ same_key k q
key_at (Obj x) (Obj y) = refl
key_at (Obj x) (Assocs y b) = refl
key_at (Assocs x a) (Obj y) = refl
key_at (Assocs x a) (Assocs y b) = refl

part_at : (p q : Part) → part_eq.it p q ≡ same_part p q
part_at Whole Whole = refl
part_at (Among high low) (Among top bottom) = refl
part_at (Places pos limit) (Places place most) = refl
part_at (Times high low limit) (Times top bottom most) = refl
part_at part other = refl

both : {a b c d : Bool} (rest : Bool) → a ≡ b → c ≡ d → (a && (c && rest)) ≡ (b && (d && rest))
both rest first second = rw (first, second) refl

pub key_test : (k q : HotKey) → same_asked (asked k) (asked q) ≡ hot_eq.it k q
key_test k q = both (pointwise ◌==◌ k.ids.items q.ids.items) (sym (key_at k.key q.key)) (sym (part_at k.part q.part))
