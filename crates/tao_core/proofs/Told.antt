-- What sessions were told of: each key has come to their floors, and stays there while logs grow.
use Rattle.std.proofs.Common.{ℕ, Bool, List, [], ◌∷◌, arith}
use Rattle.std.specs.Prelude.{All}
use Rattle.std.specs.List.{AllByRecursion}
use Rattle.std.proofs.lemmas.List.Elements.{All-from_recursion, recursion_from_All}
use Rattle.core_model.specs.Pens.{AreFirstNotes, Pens, Rise}
use Rattle.core_plans.proofs.Missing.{version_later}
use Rattle.core_sessions.specs.Sessions.{Session}
use Rattle.shard_log.proofs.GrowthLemmas.{grows-trans}
use Rattle.shard_log.specs.View.{View}
use Rattle.tao_base.specs.Keys.{key_shard}
use Rattle.tao_keeper.specs.Growing.{LogsGrow}
use Rattle.tao_keeper.specs.Table.{Tables}
use Rattle.topology.specs.Config.{Settings}
use Rattle.tao_core.specs.Core.{IsSessionOf}

-- what holds of each element, and makes another thing hold, makes it hold of each
all_then : {X : Type 0} (P Q : X → Type 0) (xs : List X) → ((x : X) → P x → Q x) → AllByRecursion P xs → AllByRecursion Q xs
all_then P Q [] then all = tt
all_then P Q (x ∷ xs) then all = (then x all.0, all_then P Q xs then all.1)

pub notes_later : (pens later : Pens) (count : ℕ) (notes : List View) → Rise pens later → AreFirstNotes pens count notes → AreFirstNotes later count notes
notes_later pens later count notes rise are = record {
  long = are.long;
  seen = λ shard note at. grows-trans note (pens shard) (later shard) (are.seen shard note at) (rise shard);
}

pub session_later : (tells : Bool) (s : Settings) (old new : Tables) (pens later : Pens) (session : Session) → LogsGrow tells old new → Rise pens later
    → IsSessionOf tells s old pens session → IsSessionOf tells s new later session
session_later tells s old new pens later session grows rise is = record {
  region = is.region;
  notes = notes_later pens later s.shards session.notes rise is.notes;
  floors = λ told key. let le = is.floors told key in let rises = version_later tells s old new key (key_shard key) grows told in omega (arith, le, rises);
}

-- so it is of all sessions
pub sessions_later : (tells : Bool) (s : Settings) (old new : Tables) (pens later : Pens) (sessions : List Session) → LogsGrow tells old new → Rise pens later
    → All (IsSessionOf tells s old pens) sessions → All (IsSessionOf tells s new later) sessions
sessions_later tells s old new pens later sessions grows rise all =
    All-from_recursion (IsSessionOf tells s new later) sessions
    (all_then (IsSessionOf tells s old pens) (IsSessionOf tells s new later) sessions (λ session. session_later tells s old new pens later session grows rise)
    (recursion_from_All (IsSessionOf tells s old pens) sessions all))
