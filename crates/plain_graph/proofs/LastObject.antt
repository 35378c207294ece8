-- The object, found from the last change back.
use Rattle.std.proofs.Common.{◌≡◌, List, [], ◌∷◌, refl, map, reverse, Bor}
use Rattle.std.proofs.lemmas.List.{map-append, reverse-append}
use Rattle.std.specs.Prelude.{None, find, is_some, option_and_then, option_copied, unwrap_or}
use Rattle.tao_base.specs.declared.entry.Change.{Change}
use Rattle.tao_base.specs.declared.entry.Change.TheVariants.{PutObject, DropObject, SetEdge, CutEdge}
use Rattle.graph_model.proofs.Lists.{snoc_ind}
use Rattle.graph_model.proofs.Objects.{object_in-snoc}
use Rattle.graph_model.specs.Log.{object_in, object_left}

-- the last change of the object is asked first
last_first : (c : Change) (cs : List (Bor Change)) (b : Bor Change) → b.now ≡ c
    → unwrap_or (option_and_then object_left (option_copied (find (λ x. is_some (object_left x.now)) (reverse cs)))) None ≡ object_in (map (λ x. x.now) cs)
    → unwrap_or (option_and_then object_left (option_copied (find (λ x. is_some (object_left x.now)) (b ∷ reverse cs)))) None ≡ unwrap_or (object_left c)
    (object_in (map (λ x. x.now) cs))
last_first (PutObject object) cs b is ih = rw is refl
last_first DropObject cs b is ih = rw is refl
last_first (SetEdge edge was) cs b is ih = rw is ih
last_first (CutEdge id2 stamp was) cs b is ih = rw is ih

-- what the last change of the object leaves is the object
pub object_found : (changes : List (Bor Change))
    → unwrap_or (option_and_then object_left (option_copied (find (λ c. is_some (object_left c.now)) (reverse changes)))) None ≡ object_in
    (map (λ c. c.now) changes)
object_found = snoc_ind
    (λ cs. unwrap_or (option_and_then object_left (option_copied (find (λ c. is_some (object_left c.now)) (reverse cs)))) None ≡ object_in
    (map (λ c. c.now) cs)) refl
    (λ cs c ih. rw (reverse-append cs (c ∷ []), map-append (λ (x : Bor Change). x.now) cs (c ∷ []), object_in-snoc (map (λ x. x.now) cs) c.now)
    (last_first c.now cs c refl ih))
