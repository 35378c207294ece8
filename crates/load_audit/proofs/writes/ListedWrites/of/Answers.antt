use Rattle.std.proofs.Common.{◌∙◌, ◌≡◌, Some, ap, map, subst, List}
use Rattle.std.specs.Prelude.{Option, slice_get}
use Rattle.request_check.specs.declared.checked.CheckedWrite.{CheckedWrite}
use Rattle.load_audit.proofs.PlaceLemmas.{at_places, writes_are}
use Rattle.load_audit.specs.Listed.{write_in}
use Rattle.load_audit.specs.Places.{writes_among}
use Rattle.load_audit.proofs.writes.ListedWrites.of.Goals as goal

pub invariant_of-result : goal.invariant_of-result
invariant_of-result c = λ place write is.
    at_places c.args.config.now c.args.requests.now c.requires place write
    (subst (λ (calls : List (Option CheckedWrite)). slice_get calls place ≡ Some (Some write))
    (ap (map (write_in c.args.config.now)) c.in_ok-calls_in.ensures) is)

pub returns : goal.returns
returns c =
    ap (λ calls. writes_among (map (write_in c.args.config.now) calls)) c.in_ok-calls_in.ensures ∙ writes_are c.args.config.now c.args.requests.now
