-- Requests that pass as a batch are reads of its session.
use Rattle.std.proofs.Common.{◌≡◌, ℕ, ◌≤◌, ◌&&◌, Bool, true, false, nat_le, List, length, arith, refl}
use Rattle.std.proofs.lemmas.Bool.Decides.{nat_tests}
use Rattle.std.proofs.lemmas.List.Elements.{All-weaker}
use Rattle.std.proofs.lemmas.List.Sums.{AllPass-from_list_all}
use Rattle.std.specs.List.{list_all}
use Rattle.requests.specs.declared.calls.Call.TheVariants as call
use Rattle.requests.specs.declared.request.Request.{Request}
use Rattle.requests.specs.declared.request.Request.TheVariants as request
use Rattle.talk_lines.specs.Batches.{AreBatch, IsReadOf, are_batch, is_read_of}

is_read : (session : ℕ) (asked : Request) → is_read_of session asked ≡ true → IsReadOf session asked
is_read session (request.Call (call.Read read)) is = grind (arith, nat_tests)
is_read session (request.Call (call.Write write)) is = absurd (cc is)
is_read session (request.Open opening) is = absurd (cc is)
is_read session (request.Plan asked) is = absurd (cc is)
is_read session (request.Cache asked) is = absurd (cc is)
is_read session (request.Store asked) is = absurd (cc is)
is_read session (request.Health asked) is = absurd (cc is)
is_read session (request.Link asked) is = absurd (cc is)

both : (a b : Bool) → (a && b) ≡ true → (a ≡ true) × (b ≡ true)
both true b is = (refl, is)
both false b is = absurd (cc is)

pub are_reads : (session : ℕ) (requests : List Request) → are_batch session requests ≡ true → AreBatch session requests
are_reads session requests are =
    let all = list_all (is_read_of session) requests in
    let some = nat_le 1 (length requests) in
    let most = nat_le (length requests) 256 in
    let parts = both (some && most) all are in
    let many = both some most parts.0 in
    record {
      some = at_least many.0;
      most = at_most many.1;
      reads = All-weaker _ (IsReadOf session) (is_read session) requests (AllPass-from_list_all (is_read_of session) requests parts.1);
    }
  where
    at_least : nat_le 1 (length requests) ≡ true → 1 ≤ length requests
    at_least is = grind (arith, nat_tests)

    at_most : nat_le (length requests) 256 ≡ true → length requests ≤ 256
    at_most is = grind (arith, nat_tests)
