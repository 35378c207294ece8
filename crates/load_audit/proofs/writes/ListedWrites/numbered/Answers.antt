use Rattle.std.proofs.Common.{◌≡◌, subst, arith}
use Rattle.std.specs.Prelude.{IfOk, None}
use Rattle.load_audit.specs.Numbered.{IsFoundBy}
use Rattle.load_audit.specs.Places.{call_at, placed_calls}
use Rattle.load_audit.proofs.PlaceLemmas.{found_ok, none_by}
use Rattle.load_audit.proofs.writes.ListedWrites.numbered.Goals as goal

pub returns-in-Some : goal.returns-in-Some
returns-in-Some c =
    let s = c.self.inside.config.now in
    let calls = c.self.inside.calls.items in
    let found = c.call_at.result in
    subst (λ writes. IfOk found (IsFoundBy c.args.seq writes)) c.self.view_is
    (found_ok (placed_calls s calls) c.self.invariant c.args.seq found (omega (arith, c.in-Some.ensures))
    (subst (λ n. IfOk found (λ write. write ≡ call_at (placed_calls s calls) n)) c.in-Some.ensures.1
    (subst (λ cs. IfOk found (λ write. write ≡ call_at (placed_calls s cs) c.in-Some.place)) c.deref.ensures.value c.call_at.ensures)))

pub returns-in-None : goal.returns-in-None
returns-in-None c =
    let zero : c.args.seq ≡ 0 = omega (arith, c.in-None.ensures) in
    subst (λ writes. IsFoundBy c.args.seq writes None) c.self.view_is
    (none_by (placed_calls c.self.inside.config.now c.self.inside.calls.items) c.self.invariant c.args.seq zero)
