-- Each call of a workload is one thread's, so all threads together miss at least what the workload misses.
use Rattle.std.proofs.Common.{◌≡◌, ℕ, zero, suc, ◌+◌, ◌≤◌, ◌<◌, ◌⊎◌, true, List, [], ◌∷◌, ◌++◌, refl, ap, inl, inr, arith}
use Rattle.std.specs.Prelude.{◌%◌, if◌then◌else◌, length}
use Rattle.std.proofs.lemmas.Bool.{cases_eq}
use Rattle.std.proofs.lemmas.List.Sums.{sum_by-append, sum_by-cons}
use Rattle.std.proofs.lemmas.Nat.{mod_below}
use Rattle.load_audit.specs.Listed.{missing_add, missing_adds}
use Rattle.load_gen.specs.Summary.{is_call}
use Rattle.requests.specs.declared.request.Request.{Request}
use Rattle.requests.specs.declared.request.Request.TheVariants as request
use Rattle.tao_base.proofs.Tests.{eqb-self}
use Rattle.tao_base.specs.declared.entry.Entry.{Entry}
use Rattle.load_shares.specs.Turns.{SharesCoverAll, missing_of_first, one_call, share_of, taken_of}

module _ (logs : List (List Entry)) (threads : ℕ) where
  missing_both : (xs ys : List Request) → missing_adds logs (xs ++ ys) ≡ missing_adds logs xs + missing_adds logs ys
  missing_both xs ys = sum_by-append (missing_add logs) xs ys

  -- what weighs anything is a call
  weighs_call : (r : Request) → (is_call r ≡ true) ⊎ (missing_add logs r ≡ 0)
  weighs_call (request.Call asked) = inl refl
  weighs_call (request.Open opening) = inr refl
  weighs_call (request.Plan asked) = inr refl
  weighs_call (request.Cache asked) = inr refl
  weighs_call (request.Store asked) = inr refl
  weighs_call (request.Health asked) = inr refl
  weighs_call (request.Link asked) = inr refl

  -- one request, by the first places, so many
  abbrev taken_first : ℕ → Request → ℕ → ℕ
  taken_first number r zero = 0
  taken_first number r (suc count) = taken_first number r count + missing_adds logs (taken_of threads count number r)

  -- requests before which so many calls came, by the first places, so many
  abbrev first_at : ℕ → List Request → ℕ → ℕ
  first_at before rs zero = 0
  first_at before rs (suc count) = first_at before rs count + missing_adds logs (share_of threads count before rs)

  first_split : (before : ℕ) (r : Request) (rest : List Request) (count : ℕ)
      → first_at before (r ∷ rest) count ≡ taken_first (before + one_call r) r count + first_at (before + one_call r) rest count
  first_split before r rest zero = omega arith
  first_split before r rest (suc count) =
      let number : ℕ = before + one_call r in
      omega (arith, first_split before r rest count, missing_both (taken_of threads count number r) (share_of threads count number rest))

  missing_cons : (r : Request) (rest : List Request) → missing_adds logs (r ∷ rest) ≡ missing_add logs r + missing_adds logs rest
  missing_cons r rest = sum_by-cons (missing_add logs) r rest

  taken_alone : (number place : ℕ) (r : Request) → is_call r ≡ true → number % threads ≡ place
      → missing_adds logs (taken_of threads place number r) ≡ missing_add logs r
  taken_alone number place r call here = rw (call, here, eqb-self place) (omega (arith, missing_cons r []))

  taken_once : (number : ℕ) (r : Request) (count : ℕ) → is_call r ≡ true → number % threads < count → missing_add logs r ≤ taken_first number r count
  taken_once number r zero call below = absurd (omega (arith, below))
  taken_once number r (suc count) call below = elim (cases_eq (number % threads) count) [
    | inl here ↦ omega (arith, taken_alone number count r call here)
    | inr other ↦ omega (arith, taken_once number r count call (omega (arith, below, other)))
  ]

  all_first : (before : ℕ) (rs : List Request) → 0 < threads → missing_adds logs rs ≤ first_at before rs threads
  all_first before [] some = omega arith
  all_first before (r ∷ rest) some =
      let number : ℕ = before + one_call r in
      let split = first_split before r rest threads in
      let more = all_first number rest some in
      elim (weighs_call r) [
        | inl call ↦ (let once = taken_once number r threads call (mod_below number threads some) in omega (arith, split, more, once, missing_cons r rest))
        | inr none ↦ omega (arith, split, more, none, missing_cons r rest)
      ]

  first_same : (rs : List Request) (count : ℕ) → first_at 0 rs count ≡ missing_of_first logs threads rs count
  first_same rs zero = refl
  first_same rs (suc count) = ap (λ (n : ℕ). n + missing_adds logs (share_of threads count 0 rs)) (first_same rs count)

  -- the shares of all threads miss at least what all requests miss
  pub all_missing : (rs : List Request) → 0 < threads → missing_adds logs rs ≤ missing_of_first logs threads rs threads
  all_missing rs some = omega (arith, all_first 0 rs some, first_same rs threads)

  -- one request more of a thread's: what all of its calls miss is still covered
  pub one_more : (place before refused came all : ℕ) (r : Request) (rest : List Request)
      → all ≤ refused + missing_adds logs (share_of threads place before (r ∷ rest))
      → missing_adds logs (taken_of threads place (before + one_call r) r) ≤ came
      → all ≤ (refused + came) + missing_adds logs (share_of threads place (before + one_call r) rest)
  one_more place before refused came all r rest so few =
      let number : ℕ = before + one_call r in
      omega (arith, so, few, missing_both (taken_of threads place number r) (share_of threads place number rest))

-- no request misses more than itself
missing_one : (logs : List (List Entry)) (r : Request) → missing_add logs r ≤ 1
missing_one logs r = Prim.grind arith

pub missing_length : (logs : List (List Entry)) (rs : List Request) → missing_adds logs rs ≤ length rs
missing_length logs [] = omega arith
missing_length logs (r ∷ rs) = omega (arith, missing_one logs r, missing_length logs rs, sum_by-cons (missing_add logs) r rs)

pub shares_cover_all : SharesCoverAll
shares_cover_all = record { cover = λ logs threads requests some. all_missing logs threads requests some }
