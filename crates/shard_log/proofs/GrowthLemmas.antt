-- What stays so when a view grows.
use Rattle.std.proofs.Common.{◌≡◌, ℕ, zero, suc, ◌≤◌, ◌+◌, true, List, [], ◌∷◌, ◌++◌, length, take, drop, refl, sym, ap, subst, ◌∙◌, inl, inr, arith}
use Rattle.std.proofs.Math.Seq.{take-append_seam}
use Rattle.std.proofs.lemmas.Bool.{cases_lt}
use Rattle.std.proofs.lemmas.List.{take-append-le, take-take, take_all}
use Rattle.std.specs.Prelude.{Option, Some, slice_get}
use Rattle.tao_base.specs.declared.edge.Edge.{Edge}
use Rattle.tao_base.specs.declared.edge.Object.{Object}
use Rattle.tao_base.specs.declared.entry.Entry.{Entry}
use Rattle.tao_base.specs.declared.id.AType.{AType}
use Rattle.tao_base.specs.declared.id.Id.{Id}
use Rattle.graph_model.proofs.Exact.{items_stay}
use Rattle.graph_model.proofs.Sound.{slice_get-take, sound_take}
use Rattle.graph_model.proofs.Versions.{version-append}
use Rattle.tao_base.specs.EdgeTypes.{EdgeTypes}
use Rattle.tao_base.specs.Queries.{query_key}
use Rattle.tao_base.specs.declared.query.Answer.{Answer}
use Rattle.tao_base.specs.declared.query.Query.{Query}
use Rattle.graph_model.specs.Answers.{answer}
use Rattle.graph_model.specs.Legal.{IsLegal}
use Rattle.graph_model.specs.Log.{version, entry_at}
use Rattle.graph_model.specs.Prefixes.{IsExactList, IsExactObject}
use Rattle.graph_model.specs.Soundness.{IsSound}
use Rattle.shard_log.proofs.Beginnings.{begins-rest, begins-self, begins-shorter, begins-trans, begins-whole, longer_begins}
use Rattle.shard_log.specs.GrowthLaws.{BeginningsAreSound, EntriesStay, GrowthGoesOn, IsLegalIn, ItemsStayExact, SeenStays, VersionsStay}
use Rattle.graph_model.specs.Told.{WhereTold}
use Rattle.shard_log.specs.View.{View, Grows, longer_view}
use Rattle.graph_model.proofs.EntryLemmas.{entry_at-last}

pub grows-self : (v : View) → Grows v v
grows-self v = record { log_is = refl; begins = begins-self v.entries }

pub grows-trans : (u v w : View) → Grows u v → Grows v w → Grows u w
grows-trans u v w p q = record { log_is = q.log_is ∙ p.log_is; begins = begins-trans u.entries v.entries w.entries p.begins q.begins }

pub growth_goes_on : GrowthGoesOn
growth_goes_on = record {
  stays = grows-self;
  goes_on = grows-trans;
  in_order = λ u v w p q le. record { log_is = sym q.log_is ∙ p.log_is; begins = begins-shorter u.entries v.entries w.entries p.begins q.begins le };
  whole = λ v w p le. begins-whole v.entries w.entries p.begins le;
}

-- a view that grew into a told one is told
told_before : (v w : View) → Grows v w → w.log.told ≡ true → v.log.told ≡ true
told_before v w grows told = ap (λ l. l.told) (sym grows.log_is) ∙ told

-- what a view has grown by
abbrev rest_of : View → View → List Entry
rest_of v w = drop (length v.entries) w.entries

-- what is so in a view and stays so with more entries is so in what it grew into
stays_told : (v w : View) (P : List Entry → Type 0) → Grows v w → (P v.entries → P (v.entries ++ rest_of v w)) → WhereTold v.log.told (P v.entries)
    → WhereTold w.log.told (P w.entries)
stays_told v w P grows stays was told = subst P (begins-rest v.entries w.entries grows.begins) (stays (was (told_before v w grows told)))

pub object_stays : (v w : View) (id : Id) (at : ℕ) (found : Option Object) → Grows v w
    → WhereTold v.log.told (IsExactObject v.entries id at found) → WhereTold w.log.told (IsExactObject w.entries id at found)
object_stays v w id at found grows = stays_told v w (λ log. IsExactObject log id at found) grows ((items_stay v.entries (rest_of v w)).object_stays id at found)

pub list_stays : (v w : View) (id1 : Id) (atype : AType) (at : ℕ) (edges : List Edge) (total : ℕ) → Grows v w
    → WhereTold v.log.told (IsExactList v.entries id1 atype at edges total) → WhereTold w.log.told (IsExactList w.entries id1 atype at edges total)
list_stays v w id1 atype at edges total grows =
    stays_told v w (λ log. IsExactList log id1 atype at edges total) grows ((items_stay v.entries (rest_of v w)).list_stays id1 atype at edges total)

pub items_stay_exact : ItemsStayExact
items_stay_exact = record { object_stays = object_stays; list_stays = list_stays }

pub first_stay : (v w : View) (n : ℕ) → Grows v w → n ≤ length v.entries → take n w.entries ≡ take n v.entries
first_stay v w n grows le = sym (ap (take n) grows.begins ∙ take-take n (length v.entries) w.entries le)

pub versions_stay : VersionsStay
versions_stay = record {
  first_stay = first_stay;
  version_stays = λ v w key n grows le. ap (λ log. version log key) (first_stay v w n grows le);
  version_rises = λ v w key grows.
      let split = version-append v.entries (rest_of v w) key in
      let whole = ap (λ log. version log key) (begins-rest v.entries w.entries grows.begins) in
      omega arith;
}

pub entry_stays : (v w : View) (position : ℕ) (e : Entry) → Grows v w → entry_at v.entries position ≡ Some e → entry_at w.entries position ≡ Some e
entry_stays v w zero e grows h = absurd (cc (h))
entry_stays v w (suc n) e grows h = (slice_get-take w.entries (length v.entries) n e (ap (λ log. slice_get log n) (sym grows.begins) ∙ h)).0

pub entries_stay : EntriesStay
entries_stay = record { added = entry_at-last; stays = entry_stays }

pub beginnings_are_sound : BeginningsAreSound
beginnings_are_sound = record {
  begins = λ v w grows sound told.
      subst IsSound (sym grows.begins) (sound_take w.entries (length v.entries) (sound (ap (λ l. l.told) grows.log_is ∙ told)));
}

pub seen-meets : (v w whole : View) → Grows v whole → Grows w whole → Grows (longer_view v w) whole
seen-meets v w whole p q = record { log_is = p.log_is; begins = (longer_begins v.entries w.entries whole.entries p.begins q.begins).0 }

-- a beginning of a list is one of each list that it begins
legal-append : (types : EdgeTypes) (log more : List Entry) (query : Query) (floor : ℕ) (given : Answer) (at : ℕ) → IsLegal types log query floor given at
    → IsLegal types (log ++ more) query floor given at
legal-append types log more query floor given at legal = elim (cases_lt (length log) legal.n) [
  | inr le ↦ (
      let cut : take legal.n (log ++ more) ≡ take legal.n log = take-append-le legal.n log more le in
      record {
        n = legal.n;
        answers = legal.answers ∙ ap (λ l. answer types l query) (sym cut);
        version_is = legal.version_is ∙ ap (λ l. version l (query_key query)) (sym cut);
        reached = legal.reached;
      })
  | inl lt ↦ (
      let whole : take legal.n log ≡ log = take_all legal.n log (omega arith) in
      let cut : take (length log) (log ++ more) ≡ take legal.n log = take-append_seam log more ∙ sym whole in
      record {
        n = length log;
        answers = legal.answers ∙ ap (λ l. answer types l query) (sym cut);
        version_is = legal.version_is ∙ ap (λ l. version l (query_key query)) (sym cut);
        reached = legal.reached;
      })
]

pub legal-grows : (v w : View) (types : EdgeTypes) (query : Query) (floor : ℕ) (given : Answer) (at : ℕ) → Grows v w
    → IsLegalIn types v query floor given at → IsLegalIn types w query floor given at
legal-grows v w types query floor given at grows =
    stays_told v w (λ log. IsLegal types log query floor given at) grows (legal-append types v.entries (rest_of v w) query floor given at)

pub seen_stays : SeenStays
seen_stays = record { meets = seen-meets; legal = legal-grows }
