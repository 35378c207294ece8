-- How a load ends, and the status that says so.
use Rattle.std.proofs.Common.{◌≡◌, ℕ, List, length, Option, Result, Ok, Err, IfOk, OnErr, OnOk, inl, refl, sym, subst, lit<}
use Rattle.std.proofs.KnownBytes.{Appends-nil}
use Rattle.core_model.specs.Stores.{store_count}
use Rattle.first_line.specs.declared.FirstStop.{FirstStop}
use Rattle.first_line.specs.declared.FirstStop.TheVariants.{Configuration, Interrupted}
use Rattle.first_line.specs.declared.Interrupt.TheVariants.{InputTooLong, Memory, Sink, Source}
use Rattle.first_line.specs.Interrupts.{AppendsPart}
use Rattle.keepers.specs.declared.steady.SteadyKeeper.{SteadyKeeper}
use Rattle.load_top.specs.Ending.{CameSo, EndsLoad, WritesPart}
use Rattle.load_top.specs.Lines.{IsLoadLine, bad_line}
use Rattle.load_top.specs.Statuses.{IsStatus, came_code, first_code}
use Rattle.load_top.specs.declared.ended.Came.{Came}
use Rattle.load_top.specs.declared.ended.Came.TheVariants.{Settled, Strange, Stuck}
use Rattle.load_top.specs.declared.ended.Ended.{Ended}
use Rattle.new_stores.specs.Empty.{tables_of}
use Rattle.requests.specs.declared.request.Request.{Request}
use Rattle.topology.specs.Config.{Settings}

-- ---- what was written

-- the line is written of what came
pub ends_so : {E : Type 0} (r : Result Ended E) (s : Settings) (requests : List Request) (came : Came) (keepers : List SteadyKeeper)
    (Writes : List ℕ → Type 0) (line : List ℕ) → length keepers ≡ store_count s
    → (Writes line → CameSo s requests (tables_of s keepers) came Writes) → IfOk r (λ e. e.came ≡ came) → IfOk r (λ e. e.keepers.items ≡ keepers)
    → OnOk r (Writes line) → IfOk r (λ e. EndsLoad s requests e.came e.keepers.items Writes)
ends_so (Ok e) s requests came keepers Writes line many so same back written =
    subst (λ c. EndsLoad s requests c e.keepers.items Writes) (sym same)
    (subst (λ k. EndsLoad s requests came k Writes) (sym back) (record { many = many; so = so written }))
ends_so (Err e) s requests came keepers Writes line many so same back written = tt

-- or nothing
pub part_none : (before : Option (List ℕ)) → WritesPart before before
part_none before = (bad_line, inl refl, (0, Appends-nil before))

pub part_none_on : {T E : Type 0} (r : Result T E) (before : Option (List ℕ)) → OnErr r (WritesPart before before)
part_none_on (Ok x) before = tt
part_none_on (Err e) before = part_none before

-- or a front of the line that was to be written
pub part_of : {T E : Type 0} (r : Result T E) (before after : Option (List ℕ)) (line : List ℕ) → IsLoadLine line → OnErr r (AppendsPart before after line)
    → OnErr r (WritesPart before after)
part_of (Ok x) before after line is part = tt
part_of (Err e) before after line is part = (line, is, part)

-- ---- the status

pub came_known : (came : Came) → IsStatus (came_code came)
came_known Settled = (0, lit< tt, refl)
came_known Stuck = (6, lit< tt, refl)
came_known Strange = (7, lit< tt, refl)

pub first_known : (stop : FirstStop) → IsStatus (first_code stop)
first_known Configuration = (1, lit< tt, refl)
first_known (Interrupted Source) = (2, lit< tt, refl)
first_known (Interrupted Sink) = (3, lit< tt, refl)
first_known (Interrupted Memory) = (4, lit< tt, refl)
first_known (Interrupted InputTooLong) = (5, lit< tt, refl)
