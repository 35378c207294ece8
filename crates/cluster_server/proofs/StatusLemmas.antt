-- The statuses of a server.
use Rattle.std.proofs.Common.{◌≡◌, ℕ, Result, Ok, Err, IfOk, inl, inr, refl, sym, subst, lit<}
use Rattle.cluster_server.specs.Statuses.{IsServerStatus}
use Rattle.first_line.specs.Interrupts.{interrupt_code}
use Rattle.first_line.specs.declared.interrupt.Interrupt.{Interrupt}
use Rattle.first_line.specs.declared.interrupt.Interrupt.TheVariants.{InputTooLong, Memory, Sink, Source}
use Rattle.tao_io.specs.declared.status.Status.{Status}
use Rattle.work_server.specs.Serving.{EndsServer}

-- one that ended is known
ended_known : (ends now faults later : ℕ) (status : Status) → EndsServer ends now faults later status → IsServerStatus status.code
ended_known ends now faults later status (inl ended) = subst IsServerStatus (sym ended.0) (0, lit< tt, refl)
ended_known ends now faults later status (inr failed) = subst IsServerStatus (sym failed.0) (6, lit< tt, refl)

pub known_when : {E : Type 0} (r : Result Status E) (status : Status) (ends now faults later : ℕ) → r ≡ Ok status → IfOk r (EndsServer ends now faults later)
    → IsServerStatus status.code
known_when (Ok ended) status ends now faults later is how =
    let same : ended ≡ status = cc is in
    subst (λ (s : Status). IsServerStatus s.code) same (ended_known ends now faults later ended how)
known_when (Err e) status ends now faults later is how = absurd (cc is)

-- so is the one of an interrupt
pub interrupt_known : (interrupt : Interrupt) → IsServerStatus (interrupt_code interrupt)
interrupt_known Source = (2, lit< tt, refl)
interrupt_known Sink = (3, lit< tt, refl)
interrupt_known Memory = (4, lit< tt, refl)
interrupt_known InputTooLong = (5, lit< tt, refl)
