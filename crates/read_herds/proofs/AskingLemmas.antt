-- What was found of a request's names is what it asks by.
use Rattle.std.proofs.Common.{◌≡◌, ap, Option, None, Some, IfSome, Result, Ok, Err, subst, sym, refl}
use Rattle.std.specs.Prelude.{IsOkAnd}
use Rattle.herd_state.specs.declared.name.HerdName.{HerdName}
use Rattle.replies.specs.declared.refusals.NameRefused.{NameRefused}
use Rattle.request_check.specs.Refusal.{for_name, replied}
use Rattle.request_check.specs.Requests.{checked_of}
use Rattle.request_check.specs.declared.checked.Checked.{Checked}
use Rattle.requests.specs.declared.request.Request.{Request}
use Rattle.session_pass.specs.Passes.{SeenPass}
use Rattle.topology.specs.Config.{Settings}
use Rattle.read_herds.specs.Asking.{IsHerdOf, ReadsAs}

same_ok : {A E : Type 0} (r : Result A E) (a b : A) → r ≡ Ok a → r ≡ Ok b → a ≡ b
same_ok r a b one other = cc

found_is : (found : Result Checked NameRefused) (checked : Checked) → replied (for_name found) ≡ Ok checked → found ≡ Ok checked
found_is (Ok other) checked gives = ap Ok (same_ok (replied (for_name (Ok other))) other checked refl gives)
found_is (Err name) checked gives = absurd (cc)

pub is_herd : (s : Settings) (pass : SeenPass) (request : Request) (checked : Checked) (name : Option HerdName)
    → replied (for_name (checked_of s request)) ≡ Ok checked → IfSome name (ReadsAs pass checked) → IfSome name (IsHerdOf s pass request)
is_herd s pass request checked None gives so = tt
is_herd s pass request checked (Some name) gives so =
    subst (λ (found : Result Checked NameRefused). IsOkAnd found (λ c. ReadsAs pass c name)) (sym (found_is (checked_of s request) checked gives)) so
