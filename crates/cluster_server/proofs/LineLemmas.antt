-- The line of a server, whole or in part.
use Rattle.std.proofs.Common.{◌≡◌, ℕ, ◌≤◌, List, length, take, Option, Result, Ok, Err, IfErr, OnErr, OnOk, refl, sym, subst, arith}
use Rattle.std.proofs.KnownBytes.{Appends-kept}
use Rattle.std.proofs.Math.Seq.{take-length}
use Rattle.std.specs.Io.KnownBytes.{Appends, Keeps}
use Rattle.first_line.specs.Interrupts.{AppendsPart, InterruptsWriting}
use Rattle.first_line.specs.declared.interrupt.Interrupt.{Interrupt}
use Rattle.first_line.specs.declared.interrupt.Interrupt.TheVariants.{InputTooLong, Memory, Sink, Source}

-- all was written
whole_is_part : (before after : Option (List ℕ)) (line : List ℕ) → Appends before after line → AppendsPart before after line
whole_is_part before after line whole = (length line, subst (Appends before after) (sym (take-length line)) whole)

-- a line that was written stays so when it is shown, and where that fails
pub shown_ok : {T E : Type 0} (r : Result T E) (before then' after : Option (List ℕ)) (line : List ℕ) → Appends before then' line → Keeps then' after
    → OnOk r (Appends before after line)
shown_ok (Ok x) before then' after line written kept = Appends-kept before then' after line written kept
shown_ok (Err e) before then' after line written kept = tt

pub shown_err : {T E : Type 0} (r : Result T E) (before then' after : Option (List ℕ)) (line : List ℕ) → Appends before then' line → Keeps then' after
    → OnErr r (AppendsPart before after line)
shown_err (Ok x) before then' after line written kept = tt
shown_err (Err e) before then' after line written kept = whole_is_part before after line (Appends-kept before then' after line written kept)

-- what fails later has the same cause since before
fails_since : (interrupt : Interrupt) (before later now : ℕ) → before ≤ later → InterruptsWriting later now interrupt → InterruptsWriting before now interrupt
fails_since Sink before later now grew rose = omega (arith, grew, rose)
fails_since Memory before later now grew writing = tt
fails_since Source before later now grew writing = absurd writing
fails_since InputTooLong before later now grew writing = absurd writing

pub fails_later : {T : Type 0} (r : Result T Interrupt) (before later now : ℕ) → before ≤ later → IfErr r (InterruptsWriting later now)
    → IfErr r (InterruptsWriting before now)
fails_later (Ok x) before later now grew writing = tt
fails_later (Err interrupt) before later now grew writing = fails_since interrupt before later now grew writing
