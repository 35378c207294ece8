-- The parts of a run: its first line, as it was taken, and each later one.
use Rattle.std.specs.Prelude.{◌≡◌, ◌⊎◌, ℕ, Bool, List, [], ◌∷◌, Option, Ok}
use Rattle.std.specs.Io.KnownBytes.{Appends}
use Rattle.counts.specs.Count.{Rose}
use Rattle.first_line.specs.First.{refusal_line}
use Rattle.first_line.specs.Interrupts.{AppendsPart, InterruptsWriting}
use Rattle.replies.specs.declared.reply.Reply.TheVariants.{BadConfiguration}
use Rattle.tao_io.specs.Lines.{GivesLines}
use Rattle.command_words.specs.declared.Words.{Words}
use Rattle.core_nodes.specs.Outside.{Outside}
use Rattle.tao_top.specs.Served.{IsStill, Streams, disagreement_line, printed, start}
use Rattle.tao_top.specs.Step.{Given, State, ended, line_read, Configures, Disagreement, FindsDisagreement, Replies}
use Rattle.tao_top.specs.declared.stop.Stop.{Stop}
use Rattle.tao_top.specs.declared.stop.Stop.TheVariants as stop

-- the first line has a reply, and what is printed of that is written so
abbrev pub RepliesFirst : Words → Bool → State → List ℕ → State → (List ℕ → Type 0) → Type 0
RepliesFirst words tells old line new Writes =
    Replies tells old (line_read line) new (λ said. Writes (printed (Ok words) (line_read line ∷ []) (said ∷ [])))

-- the first line came out of the known bytes and has a reply, and what is printed of that was written
pub record Begins (words : Words) (tells : Bool) (old : Outside) (new : State) (before after : Streams) : Type 0 where
  pub line : List ℕ
  pub read : GivesLines before.left after.left (line ∷ [])
  pub replied : RepliesFirst words tells (start old) line new (Appends before.written after.written)

-- the configuration got a reply, what is printed of that was written so, and since then no table changed
abbrev pub ConfiguredInPart : Words → Bool → Outside → Outside → List ℕ → (List ℕ → Type 0) → Type 0
ConfiguredInPart words tells old now line Writes = (last : State) × RepliesFirst words tells (start old) line last Writes × IsStill tells last now

-- the line was refused as the configuration, and the line that says so was written
pub record RefusesLine (tells : Bool) (old now : Outside) (line : List ℕ) (before after : Option (List ℕ)) : Type 0 where
  pub field : List ℕ
  pub refused : Configures tells old line (BadConfiguration field) ended now
  pub written : Appends before after (refusal_line field)

-- the stores of the line's configuration disagree, and the line that says so was written
pub record SaysDisagreement (tells : Bool) (old now : Outside) (line : List ℕ) (before after : Option (List ℕ)) : Type 0 where
  pub found : Disagreement
  pub disagree : FindsDisagreement tells old line found now
  pub written : Appends before after (disagreement_line found)

-- the given got no reply and changed nothing, or got one of which a front was written
abbrev pub RepliesInPart : Bool → State → Given → State → Option (List ℕ) → Option (List ℕ) → Type 0
RepliesInPart tells old given new before after = ((new ≡ old) × Appends before after []) ⊎ Replies tells old given new (λ said. AppendsPart before after said.text)

-- what stops a run at its configuration, once that was read
abbrev pub StopsBeginning : ℕ → ℕ → ℕ → ℕ → Stop → Type 0
StopsBeginning sink_before sink_now keepers_before keepers_now stop.Configuration = Unit {0}
StopsBeginning sink_before sink_now keepers_before keepers_now stop.Keepers = Rose keepers_before keepers_now
StopsBeginning sink_before sink_now keepers_before keepers_now stop.Stores = Unit {0}
StopsBeginning sink_before sink_now keepers_before keepers_now (stop.Interrupted interrupt) = InterruptsWriting sink_before sink_now interrupt
