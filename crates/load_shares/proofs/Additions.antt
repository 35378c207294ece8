-- The additions of a workload always write, and one whose entry was seen stands in each log that what was seen begins.
use Rattle.std.proofs.Common.{◌≡◌, ℕ, zero, suc, ◌+◌, Bool, true, false, List, [], ◌∷◌, Option, Some, None, Result, Ok, Err, refl, ap, sym, subst, ◌∙◌, arith}
use Rattle.std.specs.Prelude.{◌&&◌, ◌||◌, IfOk, IsSomeAnd, drop, if◌then◌else◌, length, not, slice_get}
use Rattle.std.specs.List.{list_any}
use Rattle.std.proofs.lemmas.List.Sums.{sum_by-cons}
use Rattle.graph_model.specs.Log.{entry_at}
use Rattle.load_audit.specs.Listed.{is_add, missing_add, missing_adds, stands_in}
use Rattle.log_index.specs.Positions.{same_origin}
use Rattle.outcomes.specs.Results.{◌>>=◌}
use Rattle.replies.specs.declared.refusals.NameRefused.{NameRefused}
use Rattle.request_check.specs.Calls.{checked_write, checked_write_call, edge_type}
use Rattle.request_check.specs.Names.{configured_shard, otype_named}
use Rattle.request_check.specs.declared.checked.CheckedWrite.{CheckedWrite}
use Rattle.requests.specs.declared.calls.Call.TheVariants as call
use Rattle.requests.specs.declared.calls.WriteCall.{WriteCall}
use Rattle.requests.specs.declared.calls.WriteText.{WriteText}
use Rattle.requests.specs.declared.calls.WriteText.TheVariants as text
use Rattle.requests.specs.declared.request.Request.TheVariants as request
use Rattle.shard_log.proofs.Beginnings.{begins-rest}
use Rattle.shard_log.specs.View.{Begins, View}
use Rattle.tao_base.proofs.Tests.{eqb-self}
use Rattle.tao_base.specs.EdgeTypes.{EdgeTypes}
use Rattle.tao_base.specs.declared.entry.Entry.{Entry}
use Rattle.tao_base.specs.declared.entry.Origin.{Origin}
use Rattle.tao_base.specs.declared.entry.Origin.TheVariants.{Client}
use Rattle.tao_base.specs.declared.write.Write.{Write}
use Rattle.topology.specs.Config.{Settings}
use Rattle.write_model.proofs.Growing.{entry_at-more}
use Rattle.write_model.specs.Writes.{forward_entry}
use Rattle.load_shares.specs.Adding.{AdditionsStand, IsCheckedOf}
use Rattle.load_shares.specs.Seen.{BeginLogs}

-- ---- what an addition writes

-- the write always has something to write
abbrev AlwaysWrites : Write → Type 0
AlwaysWrites w = (types : EdgeTypes) (log : List Entry) (origin : Origin) → forward_entry types 0 log origin w ≡ None → ⊥

whatever : {A B : Type 0} (Q : B → Type 0) (found : Result A NameRefused) (next : A → Result B NameRefused) → ((a : A) → IfOk (next a) Q) → IfOk (found >>= next) Q
whatever Q (Ok a) next there = there a
whatever Q (Err refused) next there = tt

some_none : {A : Type 0} (x : A) (o : Option A) → o ≡ Some x → o ≡ None → ⊥
some_none x o some none = let e : Some x ≡ None = sym some ∙ none in absurd (cc)

adds : (s : Settings) (asked : WriteText) → is_add asked ≡ true → IfOk (checked_write s asked) AlwaysWrites
adds s (text.ObjAdd shard name payload) is = whatever AlwaysWrites (otype_named s name) _
    (λ otype. whatever AlwaysWrites (configured_shard s shard) _ (λ there types log origin none. some_none _ _ refl none))
adds s (text.AssocAdd edge time payload) is = whatever AlwaysWrites (edge_type s edge) _ (λ atype types log origin none. some_none _ _ refl none)
adds s (text.ObjUpdate id payload) is = absurd (cc)
adds s (text.ObjDelete id) is = absurd (cc)
adds s (text.AssocDelete edge) is = absurd (cc)
adds s (text.AssocChangeType edge newtype) is = absurd (cc)

ok_of : {A E : Type 0} (Q : A → Type 0) (found : Result A E) (a : A) → found ≡ Ok a → IfOk found Q → Q a
ok_of Q found a is so = subst (λ r. IfOk r Q) is so

checked_of : (s : Settings) (asked : WriteCall) (w : CheckedWrite) → checked_write_call s asked ≡ Ok w → IsCheckedOf asked w
checked_of s asked w is = by (checked_write s asked.write) refl is
  where
    by : (found : Result Write NameRefused) → checked_write s asked.write ≡ found
        → (found >>= (λ (one : Write). Ok (record { session = asked.session; seq = asked.seq; write = one }))) ≡ Ok w → IsCheckedOf asked w
    by (Ok one) found gives =
        let same : record { session = asked.session; seq = asked.seq; write = one } ≡ w = cc in
        subst (IsCheckedOf asked) same (record {
          session_is = refl;
          seq_is = refl;
          adds = λ add. ok_of AlwaysWrites (checked_write s asked.write) one found (adds s asked.write add);
        })
    by (Err refused) found gives = absurd (cc)

-- ---- an addition that stands in a log

any_at : {A : Type 0} (p : A → Bool) (xs : List A) (i : ℕ) (x : A) → slice_get xs i ≡ Some x → p x ≡ true → list_any p xs ≡ true
any_at p [] i x at is = absurd (cc)
any_at p (y ∷ ys) zero x at is = let same : y ≡ x = cc in rw (ap p same ∙ is) refl
any_at p (y ∷ ys) (suc i) x at is = rw (any_at p ys i x at is) (or_true (p y))
  where
    or_true : (b : Bool) → (b || true) ≡ true
    or_true true = refl
    or_true false = refl

same_client : (session seq : ℕ) → same_origin (Client session seq) (Client session seq) ≡ true
same_client session seq = rw (eqb-self session, eqb-self seq) refl

entry_any : (log : List Entry) (position : ℕ) (e : Entry) (session seq : ℕ) → entry_at log position ≡ Some e → e.origin ≡ Client session seq
    → list_any (λ (x : Entry). same_origin (Client session seq) x.origin) log ≡ true
entry_any log zero e session seq at is = absurd (cc)
entry_any log (suc n) e session seq at is =
    any_at (λ (x : Entry). same_origin (Client session seq) x.origin) log n e at (ap (same_origin (Client session seq)) is ∙ same_client session seq)

-- what stands in what was seen stands in each log that this begins
pub stands_on : (part whole : List Entry) (position : ℕ) (e : Entry) → Begins part whole → entry_at part position ≡ Some e → entry_at whole position ≡ Some e
stands_on part whole position e begins stands =
    subst (λ xs. entry_at xs position ≡ Some e) (begins-rest part whole begins) (entry_at-more part (drop (length part) whole) position e stands)

pub some_parts : {X : Type 0} (P : X → Type 0) (o : Option X) → IsSomeAnd o P → (x : X) × (o ≡ Some x) × P x
some_parts P None h = absurd h
some_parts P (Some x) h = (x, refl, h)

seen_stands : (logs : List (List Entry)) (notes : List View) (shard : ℕ) (note : View) (position : ℕ) (e : Entry) (session seq : ℕ)
    → BeginLogs logs notes → slice_get notes shard ≡ Some note → entry_at note.entries position ≡ Some e → e.origin ≡ Client session seq
    → stands_in logs (Client session seq) ≡ true
seen_stands logs notes shard note position e session seq begin seen at is =
    let log = some_parts (Begins note.entries) (slice_get logs shard) (begin shard note seen) in
    any_at (λ (xs : List Entry). list_any (λ (x : Entry). same_origin (Client session seq) x.origin) xs) logs shard log.0 log.1
    (entry_any log.0 position e session seq (stands_on note.entries log.0 position e log.2 at) is)

none_where_stands : (b : Bool) (n : ℕ) → (if b && not true then n else 0) ≡ 0
none_where_stands true n = refl
none_where_stands false n = refl

one_write : (logs : List (List Entry)) (asked : WriteCall)
    → missing_adds logs (request.Call (call.Write asked) ∷ []) ≡ missing_add logs (request.Call (call.Write asked)) + 0
one_write logs asked = sum_by-cons (missing_add logs) (request.Call (call.Write asked)) []

pub additions_stand : AdditionsStand
additions_stand = record {
  checked = checked_of;
  stands = λ logs notes asked shard note position e begin seen at is.
      let stands = seen_stands logs notes shard note position e asked.session asked.seq begin seen at is in
      let none : missing_add logs (request.Call (call.Write asked)) ≡ 0 = rw stands (none_where_stands (is_add asked.write) 1) in
      omega (arith, one_write logs asked, none);
  plain = λ logs asked no_add.
      let none : missing_add logs (request.Call (call.Write asked)) ≡ 0 = rw no_add refl in
      omega (arith, one_write logs asked, none);
}
