use Rattle.std.proofs.Common.{◌≡◌, ◌⊎◌, ℕ, Ok, Err, ap, arith, inl, inr, lit<, map, refl, string_bytes, subst, sym, ◌∙◌}
use Rattle.command_words.specs.Read.{words_in}
use Rattle.first_line.proofs.FirstLemmas.{takes_none}
use Rattle.tao_top.proofs.Complete.{ends_done, ends_idle, ends_stopped, known_status}
use Rattle.tao_top.proofs.Answering.{answered_unread}
use Rattle.tao_top.proofs.Promised.{keeps_promise, runs_are_promised}
use Rattle.tao_top.proofs.WholeRun.{done_whole, fails_opening, only_stores}
use Rattle.core_nodes.specs.Outside.{outside}
use Rattle.tao_top.specs.Served.{Done, Ending, EndsInPart, ends_with, start, streams}
use Rattle.tao_top.specs.Status.{EndsByStores, IsStatus}
use Rattle.tao_top.specs.Stop.{stop_code}
use Rattle.tao_top.specs.Taken.{TakesAsked}
use Rattle.first_line.specs.declared.Interrupt.TheVariants.{InputTooLong, Memory, Sink, Source}
use Rattle.tao_top.specs.declared.stop.Stop.{Stop}
use Rattle.tao_top.specs.declared.stop.Stop.TheVariants.{Configuration, Interrupted, Keepers, Stores}
use Rattle.tao_top.proofs.top.run.Goals as goal

pub returns-in-Err-clause-in_part : goal.returns-in-Err-clause-in_part
returns-in-Err-clause-in_part g c = inr (inr (answered_unread (words_in (map string_bytes c.args.words.now)) g.K.Keeper.TELLS
    (start (outside (g.K.Keeper.state c.args.keepers.now) (g.L.Link.shown c.args.link.now))) _ _))

pub returns-in-Ok-gone-clause-done : goal.returns-in-Ok-gone-clause-done
returns-in-Ok-gone-clause-done g c = λ _.
    let before = outside (g.K.Keeper.state c.args.keepers.now) (g.L.Link.shown c.args.link.now) in
    let after = outside (g.K.Keeper.state c.go-gone.new.keepers) (g.L.Link.shown c.go-gone.new.link) in
    subst (λ asked. Done asked g.K.Keeper.TELLS before after (streams (g.R.Source.left c.args.input.now) (g.S.Sink.taken c.args.output.now))
    (g.S.Sink.taken c.go-gone.new.output)) (sym c.in-Ok.ensures.asked) c.in-Ok-gone.ensures.ok

pub returns-in-Ok-gone-clause-asked : goal.returns-in-Ok-gone-clause-asked
returns-in-Ok-gone-clause-asked g c = λ _.
    subst (λ asked. TakesAsked asked (g.R.Source.left c.args.input.now) (g.R.Source.left c.go-gone.new.input)) (sym c.in-Ok.ensures.asked) c.in-Ok-gone.ensures.asked

pub returns-in-Ok-gone-clause-in_part : goal.returns-in-Ok-gone-clause-in_part
returns-in-Ok-gone-clause-in_part g c =
    let before = outside (g.K.Keeper.state c.args.keepers.now) (g.L.Link.shown c.args.link.now) in
    let after = outside (g.K.Keeper.state c.go-gone.new.keepers) (g.L.Link.shown c.go-gone.new.link) in
    inr (done_whole (words_in (map string_bytes c.args.words.now)) g.K.Keeper.TELLS before after _ _ _ (returns-in-Ok-gone-clause-done g c refl))

pub returns-in-Err-gone-clause-in_part : goal.returns-in-Err-gone-clause-in_part
returns-in-Err-gone-clause-in_part g c =
    let before = outside (g.K.Keeper.state c.args.keepers.now) (g.L.Link.shown c.args.link.now) in
    let after = outside (g.K.Keeper.state c.go-gone.new.keepers) (g.L.Link.shown c.go-gone.new.link) in
    let ends : Ending → Type 0 = λ ending. EndsInPart ending g.K.Keeper.TELLS before after
    (streams (g.R.Source.left c.args.input.now) (g.S.Sink.taken c.args.output.now)) (g.S.Sink.taken c.go-gone.new.output) in
    subst (λ asked. ends (ends_with c.code.result asked)) (sym c.in-Ok.ensures.asked)
    (subst (λ code. ends (ends_with code (Ok c.in-Ok.asked))) (sym c.code.ensures) c.in-Err-gone.ensures.err)

-- ---- the promise

-- a stop has a status of its own
stop_some : (stop : Stop) → stop_code stop ≡ 0 → ⊥
stop_some Configuration is = absurd (omega arith)
stop_some Keepers is = absurd (omega arith)
stop_some Stores is = absurd (omega arith)
stop_some (Interrupted Source) is = absurd (omega arith)
stop_some (Interrupted Sink) is = absurd (omega arith)
stop_some (Interrupted Memory) is = absurd (omega arith)
stop_some (Interrupted InputTooLong) is = absurd (omega arith)

-- nor is it asked for in vain with 0
some_refusal : (code : ℕ) → (code ≡ 2) ⊎ (code ≡ 7) → code ≡ 0 → ⊥
some_refusal code (inl two) is = absurd (omega (arith, two, is))
some_refusal code (inr seven) is = absurd (omega (arith, seven, is))

pub returns-in-Err-clause-promise : goal.returns-in-Err-clause-promise
returns-in-Err-clause-promise g c =
    let before = outside (g.K.Keeper.state c.args.keepers.now) (g.L.Link.shown c.args.link.now) in
    keeps_promise runs_are_promised g.K.Keeper.TELLS (ends_with c.in-Err.code (words_in (map string_bytes c.args.words.now))) before before (g.R.Source.left c.args.input.now)
    (g.S.Sink.taken c.args.output.now) (g.S.Sink.taken c.args.output.now) (returns-in-Err-clause-in_part g c)
    (λ ok. absurd (some_refusal c.in-Err.code c.in-Err.ensures.code ok))

pub returns-in-Ok-gone-clause-promise : goal.returns-in-Ok-gone-clause-promise
returns-in-Ok-gone-clause-promise g c =
    let before = outside (g.K.Keeper.state c.args.keepers.now) (g.L.Link.shown c.args.link.now) in
    let after = outside (g.K.Keeper.state c.go-gone.new.keepers) (g.L.Link.shown c.go-gone.new.link) in
    keeps_promise runs_are_promised g.K.Keeper.TELLS (ends_with 0 (words_in (map string_bytes c.args.words.now))) before after (g.R.Source.left c.args.input.now)
    (g.S.Sink.taken c.args.output.now) (g.S.Sink.taken c.go-gone.new.output) (returns-in-Ok-gone-clause-in_part g c)
    (returns-in-Ok-gone-clause-done g c)

pub returns-in-Err-gone-clause-promise : goal.returns-in-Err-gone-clause-promise
returns-in-Err-gone-clause-promise g c =
    let before = outside (g.K.Keeper.state c.args.keepers.now) (g.L.Link.shown c.args.link.now) in
    let after = outside (g.K.Keeper.state c.go-gone.new.keepers) (g.L.Link.shown c.go-gone.new.link) in
    keeps_promise runs_are_promised g.K.Keeper.TELLS (ends_with c.code.result (words_in (map string_bytes c.args.words.now))) before after (g.R.Source.left c.args.input.now)
    (g.S.Sink.taken c.args.output.now) (g.S.Sink.taken c.go-gone.new.output) (returns-in-Err-gone-clause-in_part g c)
    (λ ok. absurd (stop_some c.in-Err-gone.stop (sym c.code.ensures ∙ ok)))

-- ----

pub returns-in-Err-gone-clause-keepers : goal.returns-in-Err-gone-clause-keepers
returns-in-Err-gone-clause-keepers g c = λ is.
    let before = outside (g.K.Keeper.state c.args.keepers.now) (g.L.Link.shown c.args.link.now) in
    let after = outside (g.K.Keeper.state c.go-gone.new.keepers) (g.L.Link.shown c.go-gone.new.link) in
    fails_opening g.K.Keeper.TELLS before after _ _ _ _ _ c.in-Err-gone.stop (sym c.code.ensures ∙ is)
    (λ same. c.in-Err-gone.ensures.keepers (ap (λ s. Err s) same)) c.in-Err-gone.ensures.cause

pub returns-in-Err-gone-clause-stores : goal.returns-in-Err-gone-clause-stores
returns-in-Err-gone-clause-stores g c = λ is. c.in-Err-gone.ensures.stores (ap (λ s. Err s) (only_stores c.in-Err-gone.stop (sym c.code.ensures ∙ is)))

pub returns-in-Err-gone-clause-at_stores : goal.returns-in-Err-gone-clause-at_stores
returns-in-Err-gone-clause-at_stores g c = λ is. c.in-Err-gone.ensures.at_stores (ap (λ s. Err s) (only_stores c.in-Err-gone.stop (sym c.code.ensures ∙ is)))

pub returns-in-Err-clause-taken : goal.returns-in-Err-clause-taken
returns-in-Err-clause-taken g c = takes_none (g.R.Source.left c.args.input.now)

pub returns-in-Err-gone-clause-known : goal.returns-in-Err-gone-clause-known
returns-in-Err-gone-clause-known g c = subst IsStatus (sym c.code.ensures) (known_status c.in-Err-gone.stop)

refused_status : (code : ℕ) → (code ≡ 2) ⊎ (code ≡ 7) → IsStatus code
refused_status code (inl two) = subst IsStatus (sym two) (1, lit< tt, refl)
refused_status code (inr seven) = subst IsStatus (sym seven) (6, lit< tt, refl)

pub returns-in-Err-clause-known : goal.returns-in-Err-clause-known
returns-in-Err-clause-known g c = refused_status c.in-Err.code c.in-Err.ensures.code

-- ---- completeness

pub returns-in-Err-clause-complete : goal.returns-in-Err-clause-complete
returns-in-Err-clause-complete g c = λ good none.
    let before = outside (g.K.Keeper.state c.args.keepers.now) (g.L.Link.shown c.args.link.now) in
    ends_idle g.K.Keeper.TELLS _ before before (g.R.Source.left c.args.input.now) (g.S.Sink.taken c.args.output.now) (g.S.Sink.taken c.args.output.now) good
    c.in-Err.code c.in-Err.ensures.usage c.in-Err.ensures.code

pub returns-in-Ok-gone-clause-complete : goal.returns-in-Ok-gone-clause-complete
returns-in-Ok-gone-clause-complete g c = λ good none.
    let before = outside (g.K.Keeper.state c.args.keepers.now) (g.L.Link.shown c.args.link.now) in
    let after = outside (g.K.Keeper.state c.go-gone.new.keepers) (g.L.Link.shown c.go-gone.new.link) in
    ends_done g.K.Keeper.TELLS _ before after (g.R.Source.left c.args.input.now) (g.S.Sink.taken c.args.output.now) (g.S.Sink.taken c.go-gone.new.output) good
    (returns-in-Ok-gone-clause-done g c refl)

pub returns-in-Err-gone-clause-complete : goal.returns-in-Err-gone-clause-complete
returns-in-Err-gone-clause-complete g c = λ good none.
    let before = outside (g.K.Keeper.state c.args.keepers.now) (g.L.Link.shown c.args.link.now) in
    let after = outside (g.K.Keeper.state c.go-gone.new.keepers) (g.L.Link.shown c.go-gone.new.link) in
    subst (EndsByStores good.settings (g.K.Keeper.state c.args.keepers.now).told) (sym c.code.ensures)
    (ends_stopped g.K.Keeper.TELLS _ before after (g.R.Source.left c.args.input.now) (g.S.Sink.taken c.args.output.now) (g.S.Sink.taken c.go-gone.new.output) good
    _ _ _ _ c.in-Err-gone.stop none (λ same. c.in-Err-gone.ensures.refused (ap (λ s. Err s) same)) (λ same. c.in-Err-gone.ensures.stores (ap (λ s. Err s) same))
    c.in-Err-gone.ensures.cause (λ same. c.in-Err-gone.ensures.long (ap (λ s. Err s) same)))
