-- What a change of the lead of one name makes of all leads.
use Rattle.std.proofs.Common.{◌≡◌, ◌<◌, ◌∙◌, Bool, length, true, false, cond, List, Option, None, Some, Result, Ok, Err, refl, sym, ap, subst, inl, inr}
use Rattle.std.proofs.lemmas.Bool.{cases_Bool}
use Rattle.std.specs.Map.{lookup}
use Rattle.std.specs.Prelude.{IsSome, IsSomeAnd}
use Rattle.futures.specs.declared.task.context.Context.{Context}
use Rattle.futures.specs.declared.task.waker.Waker.{Waker}
use Rattle.herd_state.proofs.SameNames.{derived_is, derived_same, same_name-Decides}
use Rattle.herd_state.specs.Herds.{ComesLast, EndsAs, GivesThose, JoinsAs, Outcome, WaitsAs}
use Rattle.herd_state.specs.Leads.{Becomes, Leads, StayOpen, wakers_of}
use Rattle.herd_state.specs.Names.{same_name}
use Rattle.herd_state.specs.contracts.name.HerdNamePartialEq.TheImpl.{eq-value}
use Rattle.herd_state.specs.declared.name.HerdName.{HerdName}
use Rattle.herd_state.specs.declared.state.Joined.TheVariants.{Lead, Wait, Alone}

-- a map has the wakers at the name, and at each other name what it had
abbrev PutsBy : (HerdName → HerdName → Bool) → HerdName → Option (List Waker) → Leads → Leads → Type 0
PutsBy eq name wakers old new = (other : HerdName) → lookup (eq other) new ≡ cond (eq name other) wakers (lookup (eq other) old)

abbrev pub Puts : HerdName → Option (List Waker) → Leads → Leads → Type 0
Puts name wakers old new = PutsBy eq-value.it name wakers old new

abbrev pub IsFound : HerdName → Option (List Waker) → Leads → Type 0
IsFound name found leads = found ≡ lookup (eq-value.it name) leads

put_so : (name : HerdName) (wakers : Option (List Waker)) (old new : Leads) → Puts name wakers old new → PutsBy same_name name wakers old new
put_so name wakers old new puts = subst (λ (eq : HerdName → HerdName → Bool). PutsBy eq name wakers old new) derived_same puts

found_so : (name : HerdName) (found : Option (List Waker)) (leads : Leads) → IsFound name found leads → found ≡ wakers_of leads name
found_so name found leads is = subst (λ (test : HerdName → Bool). found ≡ lookup test leads) (derived_is name) is

pub is_open : (name : HerdName) (found : List Waker) (leads : Leads) → IsFound name (Some found) leads → IsSome (lookup (eq-value.it name) leads)
is_open name found leads is = subst IsSome is refl

pub becomes : (name : HerdName) (put wakers : Option (List Waker)) (inside old new : Leads) → put ≡ wakers → inside ≡ old → Puts name put inside new
    → Becomes name wakers old new
becomes name put wakers inside old new is view puts = record {
  leads = λ other. put_so name put inside new puts other ∙ (λ i. cond (same_name name other) (is i) (wakers_of (view i) other));
}

-- ---- a join where a lead is open

-- what is written at a name is what was found there
stays_at : (name other : HerdName) (found : List Waker) (old new : Leads) → Some found ≡ wakers_of old name → PutsBy same_name name (Some found) old new
    → wakers_of new other ≡ wakers_of old other
stays_at name other found old new at puts = elim (cases_Bool (same_name name other)) [
  | inl same ↦ puts other ∙ ap (λ b. cond b (Some found) (wakers_of old other)) same ∙ at
      ∙ ap (wakers_of old) ((same_name-Decides name other).0 same)
  | inr differ ↦ puts other ∙ ap (λ b. cond b (Some found) (wakers_of old other)) differ
]

stays : (name : HerdName) (found now : List Waker) (old new : Leads) → Some found ≡ wakers_of old name → now ≡ found
    → PutsBy same_name name (Some now) old new → StayOpen old new
stays name found now old new at same puts = record {
  leads = λ other. stays_at name other found old new at (subst (λ (w : List Waker). PutsBy same_name name (Some w) old new) same puts);
}

waited : (name : HerdName) (cx after : Context) (found now : List Waker) (old new : Leads) (result : Outcome) → WaitsAs cx after found now result
    → Some found ≡ wakers_of old name → PutsBy same_name name (Some now) old new → JoinsAs name cx after old new result
waited name cx after found now old new (Ok (Lead ticket)) waits at puts = absurd waits
waited name cx after found now old new (Ok Wait) waits at puts =
    subst (λ (o : Option (List Waker)). IsSomeAnd o (λ wakers. (late : List Waker)
    × (length wakers < 1024) × ComesLast cx after wakers late × Becomes name (Some late) old new)) at (now, waits.0, waits.1, record { leads = puts })
waited name cx after found now old new (Ok (Alone waiting)) waits at puts =
    (waits.0, subst (λ (o : Option (List Waker)). IsSomeAnd o (λ wakers. length wakers ≡ 1024)) at waits.1, stays name found now old new at waits.2 puts)
waited name cx after found now old new (Err why) waits at puts = stays name found now old new at waits puts

pub joins_open : (name : HerdName) (cx after : Context) (found now : List Waker) (old new : Leads) (result : Outcome) → WaitsAs cx after found now result
    → IsFound name (Some found) old → Puts name (Some now) old new → JoinsAs name cx after old new result
joins_open name cx after found now old new result waits at puts =
    waited name cx after found now old new result waits (found_so name (Some found) old at) (put_so name (Some now) old new puts)

-- ---- an end

pub ends : (name : HerdName) (inside old new : Leads) (found : Option (List Waker)) (given : List Waker) → inside ≡ old → IsFound name found inside
    → Puts name None inside new → GivesThose found given → EndsAs name old new given
ends name inside old new found given view at puts gives = (
  subst (λ (o : Option (List Waker)). GivesThose o given) (found_so name found inside at ∙ ap (λ (l : Leads). wakers_of l name) view) gives,
  becomes name None None inside old new refl view puts,
)
