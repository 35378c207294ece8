-- The stamps of the records that a write gives.
use Rattle.std.proofs.Common.{◌≡◌, ℕ, ◌+◌, ◌<◌, ◌≤◌, Bool, true, false, List, [], ◌∷◌, refl, sym, ap, ◌∙◌, arith}
use Rattle.std.proofs.lemmas.Bool.Decides.{nat_tests}
use Rattle.std.proofs.lemmas.List.Elements.{All-append, All-filter, All-from_recursion, recursion_from_All}
use Rattle.std.specs.List.{AllByRecursion, cons_option, list_any}
use Rattle.std.specs.Prelude.{Option, Some, None, IfSome, filter_map, max, ◌==◌, not}
use Rattle.tao_base.specs.EdgeTypes.{EdgeTypes}
use Rattle.tao_base.specs.Stamps.{stamp_of}
use Rattle.tao_base.specs.declared.data.Pair.{Pair}
use Rattle.tao_base.specs.declared.edge.EdgeState.{EdgeState}
use Rattle.tao_base.specs.declared.edge.EdgeState.TheVariants.{Live, Cut}
use Rattle.tao_base.specs.declared.entry.Entry.{Entry}
use Rattle.tao_base.specs.declared.id.AType.{AType}
use Rattle.tao_base.specs.declared.write.Write.{Write}
use Rattle.tao_base.specs.declared.write.Write.TheVariants.{ObjAdd, ObjUpdate, ObjDelete, AssocAdd, AssocDelete, AssocChangeType}
use Rattle.graph_model.specs.Edges.{edge_record, number_of}
use Rattle.graph_model.specs.Soundness.{EdgeUpdate, other_end}
use Rattle.write_model.specs.Writes.{epoch_base, is_near, next_stamp, own_updates, same_edge, when, with_near_ends}
use Rattle.write_touches.specs.Edges.{AreNext, AreStamped, is_past_stamps}
use Rattle.write_touches.specs.Touching.{lacks_stamp}
use Rattle.std.proofs.lemmas.Bool.{or_parts}

abbrev Small : EdgeUpdate → Type 0
Small u = (stamp_of u.3).number < 4611686018427387904

abbrev at_inverse : EdgeUpdate → Option AType → Option EdgeUpdate
at_inverse u None = None
at_inverse u (Some inverse) = Some (u.2, inverse, u.0, u.3)

-- the record of the other end has the same stamp
inverse_small : (u : EdgeUpdate) (inverse : Option AType) → Small u → IfSome (at_inverse u inverse) Small
inverse_small u None h = tt
inverse_small u (Some inverse) h = h

when_small : (b : Bool) (o : Option EdgeUpdate) → IfSome o Small → IfSome (when b o) Small
when_small true o h = h
when_small false o h = tt

put_small : (o : Option EdgeUpdate) (vs : List EdgeUpdate) → IfSome o Small → AllByRecursion Small vs → AllByRecursion Small (cons_option o vs)
put_small None vs h hs = hs
put_small (Some v) vs h hs = (h, hs)

ends_small : (types : EdgeTypes) (us : List EdgeUpdate) → AllByRecursion Small us
    → AllByRecursion Small (filter_map (λ u. when (is_near u) (other_end types u)) us)
ends_small types [] h = tt
ends_small types (u ∷ us) h =
    put_small (when (is_near u) (other_end types u)) (filter_map (λ v. when (is_near v) (other_end types v)) us)
    (when_small (is_near u) (other_end types u) (inverse_small u (types.inverse u.1) h.0)) (ends_small types us h.1)

-- the records with those of the near ends have their stamps where the records have
pub near_ends_stamped : (types : EdgeTypes) (us : List EdgeUpdate) → AreStamped us → AreStamped (with_near_ends types us)
near_ends_stamped types us h = record {
  each = All-append Small us _ h.each
      (All-filter (λ v. not (list_any (same_edge v) us)) Small _ (All-from_recursion Small _ (ends_small types us (recursion_from_All Small us h.each))));
}

below : (us : List EdgeUpdate) → AllByRecursion (λ u. (stamp_of u.3).number ≤ 4611686018427387904) us → list_any is_past_stamps us ≡ false
    → AllByRecursion Small us
below [] h none = tt
below (u ∷ us) h none =
    let parts = or_parts (is_past_stamps u) (list_any is_past_stamps us) none in
    (is_below (stamp_of u.3).number h.0 parts.0, below us h.1 parts.1)
  where
    is_below : (n : ℕ) → n ≤ 4611686018427387904 → (n == 4611686018427387904) ≡ false → n < 4611686018427387904
    is_below n le ne = grind (arith, nat_tests)

-- next stamps of which none is past the last are stamps
pub next_stamped : (us : List EdgeUpdate) → AreNext us → list_any is_past_stamps us ≡ false → AreStamped us
next_stamped us h none = record { each = All-from_recursion Small us (below us h.each none) }

-- a stamp is past the last where the record had the last
abbrev had_last : List Entry → EdgeUpdate → Bool
had_last log u = number_of (edge_record log u.0 u.1 u.2) == 4611686018427387903

abbrev cut_of_live : List Entry → EdgeUpdate → Option EdgeState → List EdgeUpdate
cut_of_live log cut (Some (Live time payload stamp)) = cut ∷ []
cut_of_live log cut (Some (Cut stamp)) = []
cut_of_live log cut None = []

cut_past : (log : List Entry) (cut first : EdgeUpdate) (found : Option EdgeState) → is_past_stamps cut ≡ had_last log first
    → list_any is_past_stamps (cut_of_live log cut found) ≡ list_any (had_last log) (cut_of_live log first found)
cut_past log cut first (Some (Live time payload stamp)) e = rw e refl
cut_past log cut first (Some (Cut stamp)) e = refl
cut_past log cut first None e = refl

abbrev move_of_live : List Entry → EdgeUpdate → (ℕ → List Pair → EdgeUpdate) → Option EdgeState → List EdgeUpdate
move_of_live log cut set (Some (Live time payload stamp)) = cut ∷ set time payload ∷ []
move_of_live log cut set (Some (Cut stamp)) = []
move_of_live log cut set None = []

move_past : (log : List Entry) (cut first : EdgeUpdate) (set second : ℕ → List Pair → EdgeUpdate) (found : Option EdgeState)
    → is_past_stamps cut ≡ had_last log first
    → ((time : ℕ) (payload : List Pair) → is_past_stamps (set time payload) ≡ had_last log (second time payload))
    → list_any is_past_stamps (move_of_live log cut set found) ≡ list_any (had_last log) (move_of_live log first second found)
move_past log cut first set second (Some (Live time payload stamp)) e f = rw (e, f time payload) refl
move_past log cut first set second (Some (Cut stamp)) e f = refl
move_past log cut first set second None e f = refl

past_last : (epoch n : ℕ) → epoch ≤ 1000 → (max n (epoch_base epoch) + 1 == 4611686018427387904) ≡ (n == 4611686018427387903)
past_last epoch n few = grind (arith, nat_tests, few)

-- so in all records that a write gives
own_past : (epoch : ℕ) → epoch ≤ 1000 → (log : List Entry) (write : Write)
    → list_any is_past_stamps (own_updates epoch log write) ≡ list_any (had_last log) (own_updates 0 log write)
own_past epoch few log (AssocAdd id1 atype id2 time payload) = rw (past_last epoch (number_of (edge_record log id1 atype id2)) few) refl
own_past epoch few log (AssocDelete id1 atype id2) =
    cut_past log (id1, atype, id2, Cut (next_stamp epoch log id1 atype id2)) (id1, atype, id2, Cut (next_stamp 0 log id1 atype id2))
    (edge_record log id1 atype id2) (past_last epoch (number_of (edge_record log id1 atype id2)) few)
own_past epoch few log (AssocChangeType id1 atype id2 newtype) =
    move_past log (id1, atype, id2, Cut (next_stamp epoch log id1 atype id2)) (id1, atype, id2, Cut (next_stamp 0 log id1 atype id2))
    (λ time payload. (id1, newtype, id2, Live time payload (next_stamp epoch log id1 newtype id2)))
    (λ time payload. (id1, newtype, id2, Live time payload (next_stamp 0 log id1 newtype id2)))
    (edge_record log id1 atype id2) (past_last epoch (number_of (edge_record log id1 atype id2)) few)
    (λ time payload. past_last epoch (number_of (edge_record log id1 newtype id2)) few)
own_past epoch few log (ObjAdd shard otype payload) = refl
own_past epoch few log (ObjUpdate id payload) = refl
own_past epoch few log (ObjDelete id) = refl

pub past_is : (epoch : ℕ) → epoch ≤ 1000 → (log : List Entry) (write : Write) (us : List EdgeUpdate) (b : Bool) → us ≡ own_updates epoch log write
    → list_any is_past_stamps us ≡ b → lacks_stamp log write ≡ b
past_is epoch few log write us b own h = sym (own_past epoch few log write) ∙ ap (list_any is_past_stamps) (sym own) ∙ h
