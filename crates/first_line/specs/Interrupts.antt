-- What ends the reading or writing of lines, and its causes.
use Rattle.std.specs.Prelude.{ℕ, ◌≤◌, List, Option, take}
use Rattle.std.specs.Io.KnownBytes.{Appends}
use Rattle.counts.specs.Count.{Rose}
use Rattle.tao_io.specs.declared.lines.ReadFault.{ReadFault}
use Rattle.tao_io.specs.declared.lines.ReadFault.TheVariants as read
use Rattle.first_line.specs.declared.interrupt.Interrupt.{Interrupt}
use Rattle.first_line.specs.declared.interrupt.Interrupt.TheVariants as interrupt

-- what a fault of the source interrupts by
abbrev pub interrupt_from : ReadFault → Interrupt
interrupt_from read.Failed = interrupt.Source
interrupt_from read.InputTooLong = interrupt.InputTooLong
interrupt_from read.OutOfMemory = interrupt.Memory

-- the status after an interrupt
abbrev pub interrupt_code : Interrupt → ℕ
interrupt_code interrupt.Source = 4
interrupt_code interrupt.Sink = 5
interrupt_code interrupt.Memory = 7
interrupt_code interrupt.InputTooLong = 9

-- how often the source and the sink failed
pub record Faults : Type 0 where
  pub source : ℕ
  pub sink : ℕ

-- a source that failed so often, and a sink that did
abbrev pub faults : ℕ → ℕ → Faults
faults source sink = record { source = source; sink = sink }

-- no count fell
pub record FaultsGrow (old new : Faults) : Type 0 where
  pub source : old.source ≤ new.source
  pub sink : old.sink ≤ new.sink

-- the source or the sink interrupts only where that count rose
abbrev pub InterruptHasCause : Faults → Faults → Interrupt → Type 0
InterruptHasCause old new interrupt.Source = Rose old.source new.source
InterruptHasCause old new interrupt.Sink = Rose old.sink new.sink
InterruptHasCause old new interrupt.Memory = Unit {0}
InterruptHasCause old new interrupt.InputTooLong = Unit {0}

-- the writing of a line is interrupted only by the sink, where its count rose, or as out of memory
abbrev pub InterruptsWriting : ℕ → ℕ → Interrupt → Type 0
InterruptsWriting before now interrupt.Sink = Rose before now
InterruptsWriting before now interrupt.Memory = Unit {0}
InterruptsWriting before now interrupt.Source = ⊥
InterruptsWriting before now interrupt.InputTooLong = ⊥

-- known bytes grow by a front of these
abbrev pub AppendsPart : Option (List ℕ) → Option (List ℕ) → List ℕ → Type 0
AppendsPart before after bytes = (size : ℕ) × Appends before after (take size bytes)
