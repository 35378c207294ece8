-- A batch's reads make a batch, and what is replied to them.
use Rattle.std.proofs.Common.{◌≡◌, ℕ, ◌+◌, ◌≤◌, ◌<◌, ◌∙◌, Bool, true, false, List, [], ◌∷◌, length, nat_lt, Option, None, Some, Result, Ok, Err, OnErr, IfOk, inl, inr, refl, sym, ap, subst, arith}
use Rattle.std.proofs.lemmas.Bool.Decides.{nat_tests}
use Rattle.std.proofs.lemmas.List.Elements.{recursion_from_All}
use Rattle.std.specs.List.{AllByRecursion, position, position_or_len}
use Rattle.read_batch.specs.Refusing.{RefusesBatch, asks_other, asks_read}
use Rattle.read_batch.specs.declared.refusal.BatchRefusal.{BatchRefusal}
use Rattle.read_batch.specs.declared.refusal.BatchRefusal.TheVariants.{NotRead, OutOfMemory, TooMany}
use Rattle.requests.specs.declared.calls.Call.TheVariants as call
use Rattle.requests.specs.declared.request.Request.{Request}
use Rattle.requests.specs.declared.request.Request.TheVariants as request
use Rattle.talk_lines.specs.Batches.{AreBatch, IsReadOf}

asks_it : (session : ℕ) (r : Request) → IsReadOf session r → asks_other r ≡ false
asks_it session (request.Call (call.Read read)) is = refl
asks_it session (request.Call (call.Write write)) is = absurd is
asks_it session (request.Open opening) is = absurd is
asks_it session (request.Plan asked) is = absurd is
asks_it session (request.Cache asked) is = absurd is
asks_it session (request.Store asked) is = absurd is
asks_it session (request.Health asked) is = absurd is
asks_it session (request.Link asked) is = absurd is

all_passed : (session : ℕ) (rs : List Request) → AllByRecursion (IsReadOf session) rs → position_or_len asks_other rs ≡ length rs
all_passed session [] are = refl
all_passed session (r ∷ rs) are = let first = asks_it session r are.0 in let others = all_passed session rs are.1 in rw first (omega (arith, others))

-- none of a batch's requests is another than a read
pub no_other : (session : ℕ) (rs : List Request) → AreBatch session rs → position asks_other rs ≡ None
no_other session rs are =
    let all = all_passed session rs (recursion_from_All (IsReadOf session) rs are.reads) in
    let none : nat_lt (length rs) (length rs) ≡ false = grind (arith, nat_tests) in
    rw (all, none) refl

-- a batch of reads is refused for want of memory alone
pub only_memory : (session : ℕ) (rs items : List Request) (refusal : BatchRefusal) → items ≡ rs → AreBatch session rs → RefusesBatch items refusal
    → refusal ≡ OutOfMemory
only_memory session rs items (TooMany count) is are refuses =
    let many = refuses.0 in let few = are.most in let same : length items ≡ length rs = ap length is in absurd (omega arith)
only_memory session rs items (NotRead place) is are refuses =
    let none : position asks_other items ≡ None = ap (position asks_other) is ∙ no_other session rs are in absurd (cc (none, refuses.1))
only_memory session rs items OutOfMemory is are refuses = refl
