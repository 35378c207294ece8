-- The write that a request is, once it was checked.
use Rattle.std.proofs.Common.{◌≡◌, refl, sym, ap, ◌∙◌}
use Rattle.std.specs.Prelude.{None, Result, Ok, Err}
use Rattle.std.specs.Result.{result_ok}
use Rattle.outcomes.specs.Results.{◌>>=◌}
use Rattle.replies.specs.declared.refusals.NameRefused.{NameRefused}
use Rattle.replies.specs.declared.reply.Reply.{Reply}
use Rattle.request_check.specs.Caches.{checked_cache}
use Rattle.request_check.specs.Calls.{checked_read_call, checked_write_call}
use Rattle.request_check.specs.Health.{checked_health}
use Rattle.request_check.specs.Links.{checked_link}
use Rattle.request_check.specs.Names.{placed_as, tier_named}
use Rattle.request_check.specs.Plans.{checked_plan}
use Rattle.request_check.specs.Refusal.{for_name, replied}
use Rattle.request_check.specs.Requests.{checked_of}
use Rattle.request_check.specs.Stores.{checked_store}
use Rattle.request_check.specs.declared.checked.Checked.{Checked}
use Rattle.request_check.specs.declared.checked.Checked.TheVariants as checked
use Rattle.request_check.specs.declared.checked.CheckedCall.TheVariants as of_call
use Rattle.request_check.specs.declared.checked.CheckedRead.{CheckedRead}
use Rattle.request_check.specs.declared.checked.CheckedWrite.{CheckedWrite}
use Rattle.requests.specs.declared.calls.Call.TheVariants as call
use Rattle.requests.specs.declared.request.Request.{Request}
use Rattle.requests.specs.declared.request.Request.TheVariants as request
use Rattle.topology.specs.Config.{Settings}
use Rattle.load_audit.specs.Listed.{write_in}
use Rattle.load_audit.specs.Places.{write_of}

-- what is found makes a request that is no write
no_write : {A : Type 0} (f : A → Checked) → ((a : A) → write_of (f a) ≡ None) → (found : Result A NameRefused) (x : Checked)
    → replied (for_name (placed_as f found)) ≡ Ok x → write_of x ≡ None
no_write f none (Ok a) x is = let same : f a ≡ x = cc in ap write_of (sym same) ∙ none a
no_write f none (Err cause) x is = absurd (cc)

pub taken : (s : Settings) (r : Request) (x : Checked) → replied (for_name (checked_of s r)) ≡ Ok x → write_of x ≡ write_in s r
taken s (request.Call (call.Write c)) x is = by (checked_write_call s c) is
  where
    by : (found : Result CheckedWrite NameRefused)
        → replied (for_name (placed_as checked.Call (found >>= λ (write : CheckedWrite). Ok (of_call.Write write)))) ≡ Ok x → write_of x ≡ result_ok found
    by (Ok w) same = let one : checked.Call (of_call.Write w) ≡ x = cc in ap write_of (sym one)
    by (Err cause) same = absurd (cc)
taken s (request.Call (call.Read c)) x is = by (checked_read_call s c) is
  where
    by : (found : Result CheckedRead NameRefused)
        → replied (for_name (placed_as checked.Call (found >>= λ (read : CheckedRead). Ok (of_call.Read read)))) ≡ Ok x → write_of x ≡ None
    by (Ok r) same = let one : checked.Call (of_call.Read r) ≡ x = cc in ap write_of (sym one)
    by (Err cause) same = absurd (cc)
taken s (request.Open opening) x is = no_write (λ place. checked.Open opening.session place.region place.tier) (λ place. refl)
    (tier_named s opening.region opening.tier) x is
taken s (request.Plan asked) x is = no_write checked.Plan (λ a. refl) (checked_plan s asked) x is
taken s (request.Cache asked) x is = no_write checked.Cache (λ a. refl) (checked_cache s asked) x is
taken s (request.Store asked) x is = no_write checked.Store (λ a. refl) (checked_store s asked) x is
taken s (request.Health asked) x is = no_write checked.Health (λ a. refl) (checked_health s asked) x is
taken s (request.Link asked) x is = no_write checked.Link (λ a. refl) (checked_link s asked) x is

pub refused_for : (s : Settings) (r : Request) (e : Reply) → replied (for_name (checked_of s r)) ≡ Err e → None ≡ write_in s r
refused_for s (request.Call (call.Write c)) e is = by (checked_write_call s c) is
  where
    by : (found : Result CheckedWrite NameRefused)
        → replied (for_name (placed_as checked.Call (found >>= λ (write : CheckedWrite). Ok (of_call.Write write)))) ≡ Err e → None ≡ result_ok found
    by (Ok w) same = absurd (cc)
    by (Err cause) same = refl
refused_for s (request.Call (call.Read c)) e is = refl
refused_for s (request.Open opening) e is = refl
refused_for s (request.Plan asked) e is = refl
refused_for s (request.Cache asked) e is = refl
refused_for s (request.Store asked) e is = refl
refused_for s (request.Health asked) e is = refl
refused_for s (request.Link asked) e is = refl
