-- A log that may have been cut back to a length, with its jobs.
use Rattle.std.proofs.Common.{◌≡◌, ◌∙◌, ℕ, ◌<◌, ◌≤◌, Bool, true, false, cond, List, length, take, refl, ap, sym, subst, arith}
use Rattle.std.proofs.lemmas.Bool.Decides.{nat_tests}
use Rattle.std.proofs.lemmas.List.{length-take}
use Rattle.std.proofs.lemmas.List.Elements.{All-take}
use Rattle.std.specs.Prelude.{None, All, nat_le}
use Rattle.tao_base.specs.declared.entry.Entry.{Entry}
use Rattle.graph_model.proofs.Sound.{sound_take}
use Rattle.graph_model.specs.Soundness.{IsSound}
use Rattle.tao_keeper.specs.Table.{Jobs, jobs_within}

-- a fact that the shorter log has too
either : (P : List Entry → Type 0) (done : Bool) (log now : List Entry) (len : ℕ) → now ≡ cond done (take len log) log → P log → P (take len log) → P now
either P true log now len is before after = subst P (sym is) after
either P false log now len is before after = subst P (sym is) before

pub back_sound : (done : Bool) (log now : List Entry) (len : ℕ) → now ≡ cond done (take len log) log → IsSound log → IsSound now
back_sound done log now len is sound = either IsSound done log now len is sound (sound_take log len sound)

pub back_short : (done : Bool) (log now : List Entry) (len most : ℕ) → now ≡ cond done (take len log) log → length log ≤ most → length now ≤ most
back_short done log now len most is few = either (λ l. length l ≤ most) done log now len is few (omega (arith, length-take len log))

pub back_all : (P : Entry → Type 0) (done : Bool) (log now : List Entry) (len : ℕ) → now ≡ cond done (take len log) log → All P log → All P now
back_all P done log now len is all = either (All P) done log now len is all (All-take P len log all)

pub back_cut_within : (done : Bool) (log now : List Entry) (len cut : ℕ) → now ≡ cond done (take len log) log → cut ≤ len → len ≤ length log → cut ≤ length now
back_cut_within done log now len cut is least within =
    either (λ l. cut ≤ length l) done log now len is (omega (arith, least, within)) (omega (arith, length-take len log, least, within))

-- no job is left past the length
pub back_of_entries : (done : Bool) (log now : List Entry) (len : ℕ) (jobs after : Jobs) → now ≡ cond done (take len log) log
    → after ≡ cond done (jobs_within jobs len) jobs → len ≤ length log → ((position : ℕ) → length log < position → jobs position ≡ None)
    → (position : ℕ) → length now < position → after position ≡ None
back_of_entries false log now len jobs after log_is jobs_is within of_entries position past =
    ap (λ j. j position) jobs_is ∙ of_entries position (subst (λ l. length l < position) log_is past)
back_of_entries true log now len jobs after log_is jobs_is within of_entries position past =
    let at : length (take len log) < position = subst (λ l. length l < position) log_is past in
    let outside : nat_le position len ≡ false = (let far : len < position = omega (arith, length-take len log, within, at) in grind (arith, nat_tests)) in
    ap (λ j. j position) jobs_is ∙ (rw outside refl)
