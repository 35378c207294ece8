-- The open asks after any calls: by induction over the calls.
use Rattle.std.proofs.Common.{◌≡◌, ℕ, ◌+◌, ◌≤◌, true, false, not, ◌||◌, List, [], ◌∷◌, ◌++◌, refl, sym, ◌∙◌, ap, subst, arith, inl, inr}
use Rattle.std.specs.Prelude.{max, map, if◌then◌else◌}
use Rattle.std.specs.List.{list_any}
use Rattle.std.proofs.lemmas.Bool.{cases_Bool, or_parts, not-true, not_from_false}
use Rattle.tao_base.specs.declared.id.Key.{Key}
use Rattle.tao_base.specs.Keys.{same_key}
use Rattle.graph_model.proofs.Members.{IsIn, in_from_contains, contains_from_in, in_append_left, in_append_right, in_append_cases, in_filter, in_filter_parts}
use Rattle.ask_table.specs.declared.ask.Ask.{Ask}
use Rattle.ask_table.specs.Asks.{IsTable, is_full, fresh, with_ask}
use Rattle.ask_table.specs.History.{AskCall, Begin, Raise, End, EndAll, EndShard, asks_after, greatest_raised, ends, IsOpenAsk, AsksAreOpen}
use Rattle.ask_table.specs.Open.{raised_ask, is_numbered, is_on_shard}
use Rattle.ask_table.proofs.Tables.{not_full, table_push, table_filter, table_raised}

-- the ask began in one of the calls
abbrev Begun : List AskCall → Ask → Type 0
Begun calls a = (later : List AskCall) × (earlier : List AskCall) × (calls ≡ later ++ Begin a.key a.mark ∷ earlier) × IsOpenAsk later earlier a

in_map : (f : Ask → Ask) (asks : List Ask) (a : Ask) → IsIn a asks → IsIn (f a) (map f asks)
in_map f [] a h = absurd h
in_map f (b ∷ asks) a (inl e) = inl (ap f e)
in_map f (b ∷ asks) a (inr h) = inr (in_map f asks a h)

in_map_parts : (f : Ask → Ask) (asks : List Ask) (a : Ask) → IsIn a (map f asks) → (b : Ask) × IsIn b asks × (f b ≡ a)
in_map_parts f [] a h = absurd h
in_map_parts f (b ∷ asks) a (inl e) = (b, inl refl, e)
in_map_parts f (b ∷ asks) a (inr h) = let p = in_map_parts f asks a h in (p.0, inr p.1, p.2)

-- a further call that leaves the ask
later_begin : (calls : List AskCall) (a : Ask) (key : Key) (mark : ℕ) → Begun calls a → Begun (Begin key mark ∷ calls) a
later_begin calls a key mark b = (
  Begin key mark ∷ b.0,
  b.1,
  ap (λ l. Begin key mark ∷ l) b.2,
  record { room = b.3.room; number = b.3.number; floor = b.3.floor; not_ended = b.3.not_ended },
)

later_end : (calls : List AskCall) (a : Ask) (number : ℕ) → is_numbered number a ≡ false → Begun calls a → Begun (End number ∷ calls) a
later_end calls a number other b = (
  End number ∷ b.0,
  b.1,
  ap (λ l. End number ∷ l) b.2,
  record { room = b.3.room; number = b.3.number; floor = b.3.floor; not_ended = rw other b.3.not_ended },
)

later_end_shard : (calls : List AskCall) (a : Ask) (shard : ℕ) → is_on_shard shard a ≡ false → Begun calls a → Begun (EndShard shard ∷ calls) a
later_end_shard calls a shard other b = (
  EndShard shard ∷ b.0,
  b.1,
  ap (λ l. EndShard shard ∷ l) b.2,
  record { room = b.3.room; number = b.3.number; floor = b.3.floor; not_ended = rw other b.3.not_ended },
)

-- what ends an ask doesn't look at its floor
ends_alike : (a : Ask) (floor : ℕ) (later : List AskCall) → list_any (ends (record a { floor = floor })) later ≡ list_any (ends a) later
ends_alike a floor [] = refl
ends_alike a floor (Begin key mark ∷ later) = ends_alike a floor later
ends_alike a floor (Raise key version ∷ later) = ends_alike a floor later
ends_alike a floor (End number ∷ later) = ap (λ b. is_numbered number a || b) (ends_alike a floor later)
ends_alike a floor (EndShard shard ∷ later) = ap (λ b. is_on_shard shard a || b) (ends_alike a floor later)
ends_alike a floor (EndAll ∷ later) = refl

later_raise : (calls : List AskCall) (a : Ask) (key : Key) (version : ℕ) → Begun calls a → Begun (Raise key version ∷ calls) (raised_ask key version a)
later_raise calls a key version b = elim (cases_Bool (same_key a.key key)) [
  | inl t ↦ rw t (
    Raise key version ∷ b.0,
    b.1,
    ap (λ l. Raise key version ∷ l) b.2,
    record { room = b.3.room; number = b.3.number; floor = rw (t, b.3.floor) refl; not_ended = ends_alike a (max a.floor version) b.0 ∙ b.3.not_ended },
  )
  | inr t ↦ rw t (
    Raise key version ∷ b.0,
    b.1,
    ap (λ l. Raise key version ∷ l) b.2,
    record { room = b.3.room; number = b.3.number; floor = rw t b.3.floor; not_ended = b.3.not_ended },
  )
]

fresh_begun : (earlier : List AskCall) (key : Key) (mark : ℕ) → is_full (asks_after earlier) ≡ false
    → Begun (Begin key mark ∷ earlier) (fresh (asks_after earlier) key mark)
fresh_begun earlier key mark room = ([], earlier, refl, record { room = room; number = refl; floor = refl; not_ended = refl })

begun_of : (calls : List AskCall) (a : Ask) → IsIn a (asks_after calls).asks → Begun calls a
begun_of [] a h = absurd h
begun_of (Begin key mark ∷ earlier) a h = elim (cases_Bool (is_full (asks_after earlier))) [
  | inl full ↦ let before : IsIn a (asks_after earlier).asks = rw full at h in later_begin earlier a key mark (begun_of earlier a before)
  | inr room ↦
      let one_more : IsIn a ((asks_after earlier).asks ++ fresh (asks_after earlier) key mark ∷ []) = rw room at h in
      elim (in_append_cases (asks_after earlier).asks (fresh (asks_after earlier) key mark ∷ []) a one_more) [
        | inl before ↦ later_begin earlier a key mark (begun_of earlier a before)
        | inr now ↦ elim now [ inl e ↦ subst (Begun (Begin key mark ∷ earlier)) e (fresh_begun earlier key mark room) | inr none ↦ absurd none ]
      ]
]
begun_of (Raise key version ∷ earlier) a h =
    let p = in_map_parts (raised_ask key version) (asks_after earlier).asks a h in
    subst (Begun (Raise key version ∷ earlier)) p.2 (later_raise earlier p.0 key version (begun_of earlier p.0 p.1))
begun_of (End number ∷ earlier) a h =
    let p = in_filter_parts (λ b. not (is_numbered number b)) (asks_after earlier).asks a h in
    later_end earlier a number (not-true (is_numbered number a) p.1) (begun_of earlier a p.0)
begun_of (EndShard shard ∷ earlier) a h =
    let p = in_filter_parts (λ b. not (is_on_shard shard b)) (asks_after earlier).asks a h in
    later_end_shard earlier a shard (not-true (is_on_shard shard a) p.1) (begun_of earlier a p.0)
begun_of (EndAll ∷ earlier) a h = absurd h

-- an ask that is open is in the table
with_parts : (a : Ask) (number floor : ℕ) → a.number ≡ number → a.floor ≡ floor → (record { number = number; key = a.key; mark = a.mark; floor = floor }) ≡ a
with_parts a number floor n f = sym (λ i. record { number = n i; key = a.key; mark = a.mark; floor = f i })

raised_is : (a : Ask) (key : Key) (version floor : ℕ) → a.floor ≡ (if same_key a.key key then max floor version else floor)
    → raised_ask key version (record a { floor = floor }) ≡ a
raised_is a key version floor is = elim (cases_Bool (same_key a.key key)) [
  | inl t ↦ let high : a.floor ≡ max floor version = rw t at is in rw t (with_parts a a.number (max floor version) refl high)
  | inr t ↦ let stays : a.floor ≡ floor = rw t at is in rw t (with_parts a a.number floor refl stays)
]

open_in : (later earlier : List AskCall) (a : Ask) → IsOpenAsk later earlier a → IsIn a (asks_after (later ++ Begin a.key a.mark ∷ earlier)).asks
open_in [] earlier a k =
    let is : fresh (asks_after earlier) a.key a.mark ≡ a = with_parts a ((asks_after earlier).given + 1) 0 k.number k.floor in
    rw k.room (in_append_right (asks_after earlier).asks (fresh (asks_after earlier) a.key a.mark ∷ []) a (inl is))
open_in (Begin key mark ∷ later) earlier a k =
    let before = open_in later earlier a (record { room = k.room; number = k.number; floor = k.floor; not_ended = k.not_ended }) in
    let calls : List AskCall = later ++ Begin a.key a.mark ∷ earlier in
    elim (cases_Bool (is_full (asks_after calls))) [
      | inl full ↦ rw full before
      | inr room ↦ rw room (in_append_left (asks_after calls).asks (fresh (asks_after calls) key mark ∷ []) a before)
    ]
open_in (Raise key version ∷ later) earlier a k =
    let floor : ℕ = greatest_raised a.key later in
    let before = open_in later earlier (record a { floor = floor })
    (record { room = k.room; number = k.number; floor = refl; not_ended = ends_alike a floor later ∙ k.not_ended }) in
    let calls : List AskCall = later ++ Begin a.key a.mark ∷ earlier in
    subst (λ b. IsIn b (map (raised_ask key version) (asks_after calls).asks)) (raised_is a key version floor k.floor)
    (in_map (raised_ask key version) (asks_after calls).asks (record a { floor = floor }) before)
open_in (End number ∷ later) earlier a k =
    let p = or_parts (is_numbered number a) (list_any (ends a) later) k.not_ended in
    let before = open_in later earlier a (record { room = k.room; number = k.number; floor = k.floor; not_ended = p.1 }) in
    in_filter (λ b. not (is_numbered number b)) (asks_after (later ++ Begin a.key a.mark ∷ earlier)).asks a before (not_from_false (is_numbered number a) p.0)
open_in (EndShard shard ∷ later) earlier a k =
    let p = or_parts (is_on_shard shard a) (list_any (ends a) later) k.not_ended in
    let before = open_in later earlier a (record { room = k.room; number = k.number; floor = k.floor; not_ended = p.1 }) in
    in_filter (λ b. not (is_on_shard shard b)) (asks_after (later ++ Begin a.key a.mark ∷ earlier)).asks a before (not_from_false (is_on_shard shard a) p.0)
open_in (EndAll ∷ later) earlier a k = absurd (let ended = k.not_ended in cc)

full_stays : (earlier : List AskCall) (key : Key) (mark : ℕ) → is_full (asks_after earlier) ≡ true → asks_after (Begin key mark ∷ earlier) ≡ asks_after earlier
full_stays earlier key mark full = rw full refl

room_begins : (earlier : List AskCall) (key : Key) (mark : ℕ) → is_full (asks_after earlier) ≡ false
    → asks_after (Begin key mark ∷ earlier) ≡ with_ask key mark (asks_after earlier)
room_begins earlier key mark room = rw room refl

table_after : (calls : List AskCall) → IsTable (asks_after calls)
table_after [] = record { rising = tt; few = omega arith }
table_after (Begin key mark ∷ earlier) = elim (cases_Bool (is_full (asks_after earlier))) [
  | inl full ↦ subst IsTable (sym (full_stays earlier key mark full)) (table_after earlier)
  | inr room ↦ subst IsTable (sym (room_begins earlier key mark room))
      (table_push (asks_after earlier) key mark (not_full (asks_after earlier) room) (table_after earlier))
]
table_after (Raise key version ∷ earlier) = table_raised key version (asks_after earlier).asks (asks_after earlier).given (table_after earlier)
table_after (End number ∷ earlier) = table_filter (λ a. not (is_numbered number a)) (asks_after earlier).asks (asks_after earlier).given (table_after earlier)
table_after (EndShard shard ∷ earlier) = table_filter (λ a. not (is_on_shard shard a)) (asks_after earlier).asks (asks_after earlier).given
    (table_after earlier)
table_after (EndAll ∷ earlier) = record { rising = tt; few = omega arith }

given_after : (call : AskCall) (calls : List AskCall) → (asks_after calls).given ≤ (asks_after (call ∷ calls)).given
given_after (Begin key mark) calls = elim (cases_Bool (is_full (asks_after calls))) [
  | inl full ↦ rw full (omega arith)
  | inr room ↦ rw room (omega arith)
]
given_after (Raise key version) calls = omega arith
given_after (End number) calls = omega arith
given_after (EndShard shard) calls = omega arith
given_after EndAll calls = omega arith

pub asks_open : (calls : List AskCall) → AsksAreOpen calls
asks_open calls = record {
  begun = λ a h. begun_of calls a (in_from_contains (asks_after calls).asks a h);
  kept = λ a later earlier e k. contains_from_in (asks_after calls).asks a (subst (λ l. IsIn a (asks_after l).asks) (sym e) (open_in later earlier a k));
  table = table_after calls;
  given = λ call. given_after call calls;
}
