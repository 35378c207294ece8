-- How many of a workload's requests are calls.
use Rattle.std.proofs.Common.{◌≡◌, ℕ, zero, suc, ◌+◌, ◌-◌, Bool, true, false, List, [], ◌∷◌, ◌++◌, append_assoc, drop, refl, sym, ap, ◌∙◌, arith}
use Rattle.std.specs.Prelude.{if◌then◌else◌}
use Rattle.requests.specs.declared.request.Request.{Request}
use Rattle.load_gen.specs.Calls.{call_in, call_of}
use Rattle.load_gen.specs.Draws.{below}
use Rattle.load_gen.specs.Kinds.{kind_of}
use Rattle.load_gen.specs.Left.{requests_left, settling}
use Rattle.load_gen.specs.Names.{NameLists}
use Rattle.load_gen.specs.Requests.{calls_after, openings_from}
use Rattle.load_gen.specs.Summary.{calls_in, is_call}
use Rattle.load_gen.specs.declared.kind.Kind.{Kind}
use Rattle.load_gen.specs.declared.kind.Kind.TheVariants.{ObjAdd, AssocAdd, AssocDelete, AssocRange, AssocCount, Deliver, Stream}
use Rattle.load_gen.specs.declared.names.TierName.{TierName}
use Rattle.load_gen.specs.declared.workload.Workload.TheInside.{Inside}

-- each kind draws a call
drawn_is_call : (names : NameLists) (number : ℕ) (kind : Kind) (state : ℕ) → is_call (call_of names number kind state).0 ≡ true
drawn_is_call names number ObjAdd state = refl
drawn_is_call names number AssocAdd state = refl
drawn_is_call names number AssocDelete state = refl
drawn_is_call names number AssocRange state = refl
drawn_is_call names number AssocCount state = refl
drawn_is_call names number Deliver state = refl
drawn_is_call names number Stream state = refl

pub is_drawn_call : (names : NameLists) (number state : ℕ) → is_call (call_in names number state).0 ≡ true
is_drawn_call names number state = drawn_is_call names number (kind_of (below 10 state).0) (below 10 state).1

one_counted : (request : Request) (requests : List Request) → is_call request ≡ true → calls_in (request ∷ requests) ≡ 1 + calls_in requests
one_counted request requests is = ap (λ b. (if b then 1 else 0) + calls_in requests) is

-- openings are none
counted_openings : (session : ℕ) (tiers : List TierName) (rest : List Request) → calls_in (openings_from session tiers ++ rest) ≡ calls_in rest
counted_openings session [] rest = refl
counted_openings session (tier ∷ tiers) rest = let more = counted_openings (session + 1) tiers rest in omega (arith, more)

-- each call is one
counted_calls : (names : NameLists) (number state count : ℕ) (rest : List Request)
    → calls_in (calls_after names number state count ++ rest) ≡ count + calls_in rest
counted_calls names number state zero rest = omega arith
counted_calls names number state (suc count) rest =
    let drawn = call_in names (number + 1) state in
    let more = counted_calls names (number + 1) drawn.1 count rest in
    let one = one_counted drawn.0 (calls_after names (number + 1) drawn.1 count ++ rest) (is_drawn_call names (number + 1) state) in
    omega (arith, more, one)

-- the settling is none
counted_settling : (settled : Bool) → calls_in (settling settled) ≡ 0
counted_settling true = refl
counted_settling false = refl

-- those that are left
pub calls_are_left : (w : Inside) → calls_in (requests_left w) ≡ w.calls - w.made
calls_are_left w =
    let first = openings_from (w.opened + 1) (drop w.opened w.names.tiers) in
    let calls = calls_after w.names w.made w.draws (w.calls - w.made) in
    let rest = calls ++ settling w.settled in
    let parts = ap calls_in (append_assoc first calls (settling w.settled)) in
    let openings = counted_openings (w.opened + 1) (drop w.opened w.names.tiers) rest in
    let count = counted_calls w.names w.made w.draws (w.calls - w.made) (settling w.settled) in
    omega (arith, parts, openings, count, counted_settling w.settled)
