-- What a run took of its source.
use Rattle.std.specs.Prelude.{ℕ, ◌<◌, ◌≤◌, ◌^◌, ⊤, List, length, Option, Result, Ok, Err, IfSome}
use Rattle.std.specs.Io.KnownBytes.{IsAtEnd, prepend_known}
use Rattle.command_words.specs.declared.Words.{Words}
use Rattle.command_words.specs.declared.Words.TheVariants.{Gen, Run}
use Rattle.command_words.specs.declared.WordsRefusal.{WordsRefusal}
use Rattle.tao_io.specs.LineReader.{most_ahead}
use Rattle.tao_io.specs.Lines.{GivesLines}

-- a run took the first line, where there is one, and past it at most the rest of the 65,536 bytes in which its end came
pub record TakesFirst (before after : Option (List ℕ)) : Type 0 where
  pub lines : List (List ℕ)
  pub past : List ℕ
  pub read : GivesLines before (prepend_known past after) lines
  pub one : length lines ≤ 1
  pub short : length past ≤ most_ahead

-- a run took all of the known bytes, which are fewer than 2^40
pub record TakesAll (before after : Option (List ℕ)) : Type 0 where
  pub end : IsAtEnd after
  pub few : IfSome before (λ bytes. length bytes < 2 ^ 40)

-- a run that did all took what its words ask for: `run` all, and `gen` the first line
abbrev pub TakesAsked : Result Words WordsRefusal → Option (List ℕ) → Option (List ℕ) → Type 0
TakesAsked (Ok (Run sql)) before after = TakesAll before after
TakesAsked (Ok (Gen seed calls)) before after = TakesFirst before after
TakesAsked (Err refused) before after = ⊤
