use Rattle.std.proofs.Common.{◌≡◌, subst, sym}
use Rattle.core_plans.specs.declared.held.HeldPlan.TheVariants.{Write}
use Rattle.request_check.specs.declared.checked.CheckedCall.{CheckedCall}
use Rattle.tao_core.specs.HeldCalls.{begun_plan, call_start}
use Rattle.tao_core.proofs.calls.begun_plan.Goals as goal

pub returns-in-Write : goal.returns-in-Write
returns-in-Write c session starts =
    let s = c.args.config.now in
    subst (λ (x : CheckedCall). Write c.begun_write.result ≡ begun_plan s session c.args.from.follower x) (sym c.in-Write.is)
    (c.begun_write.ensures s session (subst (λ (x : CheckedCall). c.args.from.start ≡ call_start x session) c.in-Write.is starts))
