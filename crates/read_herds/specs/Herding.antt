-- What is known of herds behind their lock.
use Rattle.std.specs.Prelude.{◌≡◌, ℕ, ⊤, Ok, Err}
use Rattle.herd_state.specs.Herds.{Outcome}
use Rattle.herd_state.specs.declared.name.HerdName.{HerdName}
use Rattle.herd_state.specs.declared.state.Joined.TheVariants.{Lead, Wait, Alone}
use Rattle.read_herds.specs.declared.herd.Herd.{Herd}

-- the source for which those wait who wait for a lead
abbrev pub source_of : Herd → ℕ
source_of herd = herd.source.id

-- a join of a name gives leave to lead that name, and is alone where 1,024 wait
abbrev pub AnswersFor : HerdName → Outcome → Type 0
AnswersFor name (Ok (Lead ticket)) = ticket ≡ name
AnswersFor name (Ok (Alone waiting)) = waiting ≡ 1024
AnswersFor name (Ok Wait) = ⊤
AnswersFor name (Err why) = ⊤
