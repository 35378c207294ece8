use Rattle.std.proofs.Common.{◌≡◌, subst, sym}
use Rattle.std.specs.Prelude.{IfOk}
use Rattle.load_audit.proofs.PlaceLemmas.{call_placed, looked_past, looked_up, none_placed}
use Rattle.load_audit.proofs.writes.call_at.Goals as goal

pub returns-in-Some : goal.returns-in-Some
returns-in-Some c =
    subst (λ found. IfOk c.write_in.result (λ write. write ≡ found))
    (sym (call_placed c.args.config.now c.args.calls.now c.args.place c.in-Some.request.now
    (looked_up c.args.calls.now c.args.place c.in-Some.request.now c.in-Some.ensures.lookup.0 c.in-Some.ensures.lookup.1))) c.write_in.ensures

pub returns-in-None : goal.returns-in-None
returns-in-None c = sym (none_placed c.args.config.now c.args.calls.now c.args.place (looked_past c.args.calls.now c.args.place c.in-None.ensures.lookup.0))
