use Rattle.std.proofs.Common.{◌≡◌, Ok, Err, ap, arith, inr, subst, sym}
use Rattle.std.proofs.lemmas.Result.{err_from_is_err_and}
use Rattle.tao_io.proofs.GivenLines.{CountsTaken-trans}
use Rattle.first_line.proofs.FirstLemmas.{fresh, long_input, takes_counted, takes_none}
use Rattle.first_line.specs.Interrupts.{FaultsGrow, InterruptHasCause, faults}
use Rattle.tao_top.proofs.FirstLine.{first_cause, first_configuration, first_interrupted, first_keepers, first_stores, gives_one, gives_refused}
use Rattle.tao_top.proofs.Keeping.{leaves_then}
use Rattle.tao_top.proofs.Answering.{answered_unread, gen_done, gen_done_in_part, run_done, run_done_in_part}
use Rattle.tao_top.proofs.OneLine.{IfErr-any}
use Rattle.tao_top.proofs.WholeRun.{begun_disagree, begun_in_part, begun_opening, begun_refused, begun_well, end_of_source, first_in_part, first_refused}
use Rattle.tao_top.proofs.WholeRun.{interrupt_later, interrupt_writing, may_open, short_input, takes_first, takes_gen}
use Rattle.tao_top.proofs.WholeRun.{takes_run}
use Rattle.core_nodes.specs.Outside.{outside}
use Rattle.tao_top.specs.Served.{EndsInPart, ends_with, start, streams}
use Rattle.tao_top.specs.Stop.{StopHasCause, stop_code}
use Rattle.first_line.specs.declared.Interrupt.TheVariants.{InputTooLong}
use Rattle.tao_top.specs.declared.stop.Stop.TheVariants.{Configuration, Keepers, Stores}
use Rattle.tao_top.proofs.top.go.Goals as goal

pub returns-in_err-reader-clause-err : goal.returns-in_err-reader-clause-err
returns-in_err-reader-clause-err g c = IfErr-any _ _ (λ stop. inr (inr (answered_unread (Ok c.args.words.now) g.K.Keeper.TELLS
    (start (outside (g.K.Keeper.state c.args.keepers.now) (g.L.Link.shown c.args.link.now))) _ _)))

pub returns-in_err-first-clause-err : goal.returns-in_err-first-clause-err
returns-in_err-first-clause-err g c =
    IfErr-any _ _ (λ stop. inr (first_in_part g.K.Keeper.TELLS (outside (g.K.Keeper.state c.args.keepers.now) (g.L.Link.shown c.args.link.now)) _ _ _ _ _
    (fresh c.in_ok-reader.reader _ c.in_ok-reader.ensures.ahead) c.args.words.now c.in_err-first.ensures.err))

pub returns-in_err-first-clause-refused : goal.returns-in_err-first-clause-refused
returns-in_err-first-clause-refused g c = λ e.
    let p = err_from_is_err_and c.from_residual-in_err-first.result c.from_residual-in_err-first.ensures.1 in
    let same = first_configuration c.in_err-first.field-0.0 (cc (e, p.1, p.2)) in
    first_refused g.K.Keeper.TELLS (outside (g.K.Keeper.state c.args.keepers.now) (g.L.Link.shown c.args.link.now)) _ _ _ _ _
    (fresh c.in_ok-reader.reader _ c.in_ok-reader.ensures.ahead)
    (c.in_err-first.ensures.refused (ap (λ s. Err s) same))

pub returns-in_err-first-clause-keepers : goal.returns-in_err-first-clause-keepers
returns-in_err-first-clause-keepers g c = λ e.
    let p = err_from_is_err_and c.from_residual-in_err-first.result c.from_residual-in_err-first.ensures.1 in
    absurd (first_keepers c.in_err-first.field-0.0 (cc (e, p.1, p.2)))

pub returns-in_err-first-clause-stores : goal.returns-in_err-first-clause-stores
returns-in_err-first-clause-stores g c = λ e.
    let p = err_from_is_err_and c.from_residual-in_err-first.result c.from_residual-in_err-first.ensures.1 in
    absurd (first_stores c.in_err-first.field-0.0 (cc (e, p.1, p.2)))

pub returns-in_err-first-clause-at_stores : goal.returns-in_err-first-clause-at_stores
returns-in_err-first-clause-at_stores g c = λ e.
    let p = err_from_is_err_and c.from_residual-in_err-first.result c.from_residual-in_err-first.ensures.1 in
    absurd (first_stores c.in_err-first.field-0.0 (cc (e, p.1, p.2)))

pub returns-in_err-first-clause-cause : goal.returns-in_err-first-clause-cause
returns-in_err-first-clause-cause g c =
    let p = err_from_is_err_and c.from_residual-in_err-first.result c.from_residual-in_err-first.ensures.1 in
    let before = faults (g.R.Source.faults c.args.input.now) (g.S.Sink.faults c.args.output.now) in
    let after = faults (g.R.Source.faults c.read_first.new.input) (g.S.Sink.faults c.read_first.new.output) in
    let kept = (g.K.Keeper.state c.args.keepers.now).faults in
    rw p.1 (subst (StopHasCause before after kept kept) (sym p.2) (first_cause before after kept kept c.in_err-first.field-0.0 c.in_err-first.ensures.cause))

pub returns-in_err-first-clause-long : goal.returns-in_err-first-clause-long
returns-in_err-first-clause-long g c = λ e.
    let p = err_from_is_err_and c.from_residual-in_err-first.result c.from_residual-in_err-first.ensures.1 in
    let same = first_interrupted c.in_err-first.field-0.0 InputTooLong (cc (e, p.1, p.2)) in
    long_input _ _ _ _ c.in_ok-reader.ensures.taken c.read_first.ensures.counted (c.in_err-first.ensures.long (ap (λ s. Err s) same))

pub returns-in_err-serving-clause-err : goal.returns-in_err-serving-clause-err
returns-in_err-serving-clause-err g c =
    let before = outside (g.K.Keeper.state c.args.keepers.now) (g.L.Link.shown c.args.link.now) in
    let begun = outside (g.K.Keeper.state c.begin.new.keepers) (g.L.Link.shown c.args.link.now) in
    let p = err_from_is_err_and c.from_residual-in_err-serving.result c.from_residual-in_err-serving.ensures.1 in
    let part =
    begun_in_part g.K.Keeper.TELLS before begun _ _ _ _ _ _ c.in_ok-first.first.line.items
    (fresh c.in_ok-reader.reader _ c.in_ok-reader.ensures.ahead) (ap g.S.Sink.taken c.in_ok-first.ensures.silent) c.in_ok-first.ensures.line
    c.args.words.now (stop_code c.in_err-serving.field-0.0)
    (c.in_err-serving.ensures.err (g.L.Link.shown c.args.link.now)) in
    rw p.1 (subst
    (λ stop. EndsInPart (ends_with (stop_code stop) (Ok c.args.words.now)) g.K.Keeper.TELLS before begun (streams (g.R.Source.left c.args.input.now) (g.S.Sink.taken c.args.output.now))
    (g.S.Sink.taken c.begin.new.output))
    (sym p.2) part)

pub returns-in_err-serving-clause-refused : goal.returns-in_err-serving-clause-refused
returns-in_err-serving-clause-refused g c = λ e.
    let before = outside (g.K.Keeper.state c.args.keepers.now) (g.L.Link.shown c.args.link.now) in
    let begun = outside (g.K.Keeper.state c.begin.new.keepers) (g.L.Link.shown c.args.link.now) in
    let p = err_from_is_err_and c.from_residual-in_err-serving.result c.from_residual-in_err-serving.ensures.1 in
    let same : c.in_err-serving.field-0.0 ≡ Configuration = cc (e, p.1, p.2) in
    begun_refused g.K.Keeper.TELLS before begun _ _ _ _ _ _ c.in_ok-first.first.line.items
    (fresh c.in_ok-reader.reader _ c.in_ok-reader.ensures.ahead) (ap g.S.Sink.taken c.in_ok-first.ensures.silent) c.in_ok-first.ensures.line
    (c.in_err-serving.ensures.refused (ap (λ s. Err s) same) (g.L.Link.shown c.args.link.now))

pub returns-in_err-served-in-Run-clause-long : goal.returns-in_err-served-in-Run-clause-long
returns-in_err-served-in-Run-clause-long g c = λ e.
    let p = err_from_is_err_and c.from_residual-in_err-served-in-Run.result c.from_residual-in_err-served-in-Run.ensures.1 in
    let same : c.in_err-served-in-Run.field-0.0 ≡ InputTooLong = cc (e, p.1, p.2) in
    long_input _ _ _ _ c.in_ok-reader.ensures.taken (CountsTaken-trans _ _ _ _ _ _ c.read_first.ensures.counted c.serve-served.ensures.counted)
    (c.in_err-served-in-Run.ensures.long (ap (λ i. Err i) same))

pub returns-in_err-served-in-Run-clause-cause : goal.returns-in_err-served-in-Run-clause-cause
returns-in_err-served-in-Run-clause-cause g c =
    let source = g.R.Source.faults in
    let sink = g.S.Sink.faults in
    let p = err_from_is_err_and c.from_residual-in_err-served-in-Run.result c.from_residual-in_err-served-in-Run.ensures.1 in
    let before = faults (source c.args.input.now) (sink c.args.output.now) in
    let begun = faults (source c.read_first.new.input) (sink c.begin.new.output) in
    let after = faults (source c.serve-served.new.input) (sink c.serve-served.new.output) in
    let first = c.read_first.ensures.later in
    let grew : FaultsGrow before begun = record { source = first.source; sink = omega (arith, first.sink, c.begin.ensures.later) } in
    let cause : InterruptHasCause before after c.in_err-served-in-Run.field-0.0 =
    interrupt_later before begun after c.in_err-served-in-Run.field-0.0 grew c.in_err-served-in-Run.ensures.cause in
    rw p.1 (subst (StopHasCause before after (g.K.Keeper.state c.args.keepers.now).faults (g.K.Keeper.state c.serve-served.new.keepers).faults) (sym p.2) cause)

pub begin-requires-clause-kept : goal.begin-requires-clause-kept
begin-requires-clause-kept g c =
    may_open g.K.Keeper.TELLS (g.K.Keeper.state c.args.keepers.now).told _ _ _ c.in_ok-first.first.line.items c.in_ok-first.first.config
    (fresh c.in_ok-reader.reader _ c.in_ok-reader.ensures.ahead)
    c.in_ok-first.ensures.line c.in_ok-first.ensures.configured c.requires.kept

pub returns-in_err-serving-clause-keepers : goal.returns-in_err-serving-clause-keepers
returns-in_err-serving-clause-keepers g c = λ e.
    let before = outside (g.K.Keeper.state c.args.keepers.now) (g.L.Link.shown c.args.link.now) in
    let begun = outside (g.K.Keeper.state c.begin.new.keepers) (g.L.Link.shown c.args.link.now) in
    let p = err_from_is_err_and c.from_residual-in_err-serving.result c.from_residual-in_err-serving.ensures.1 in
    let same : c.in_err-serving.field-0.0 ≡ Keepers = cc (e, p.1, p.2) in
    begun_opening g.K.Keeper.TELLS before begun _ _ _ _ _ _ c.in_ok-first.first.line.items
    (fresh c.in_ok-reader.reader _ c.in_ok-reader.ensures.ahead) (ap g.S.Sink.taken c.in_ok-first.ensures.silent) c.in_ok-first.ensures.line
    (c.in_err-serving.ensures.keepers (ap (λ s. Err s) same) (g.L.Link.shown c.args.link.now))

pub returns-in_err-serving-clause-stores : goal.returns-in_err-serving-clause-stores
returns-in_err-serving-clause-stores g c = λ e.
    let before = outside (g.K.Keeper.state c.args.keepers.now) (g.L.Link.shown c.args.link.now) in
    let begun = outside (g.K.Keeper.state c.begin.new.keepers) (g.L.Link.shown c.args.link.now) in
    let p = err_from_is_err_and c.from_residual-in_err-serving.result c.from_residual-in_err-serving.ensures.1 in
    let same : c.in_err-serving.field-0.0 ≡ Stores = cc (e, p.1, p.2) in
    begun_disagree g.K.Keeper.TELLS before begun _ _ _ _ _ _ c.in_ok-first.first.line.items
    (fresh c.in_ok-reader.reader _ c.in_ok-reader.ensures.ahead) (ap g.S.Sink.taken c.in_ok-first.ensures.silent) c.in_ok-first.ensures.line
    (c.in_err-serving.ensures.stores (ap (λ s. Err s) same) (g.L.Link.shown c.args.link.now))

-- ---- what was taken

pub returns-in_err-reader-clause-taken : goal.returns-in_err-reader-clause-taken
returns-in_err-reader-clause-taken g c = takes_none (g.R.Source.left c.args.input.now)

pub returns-in_err-first-clause-taken : goal.returns-in_err-first-clause-taken
returns-in_err-first-clause-taken g c = takes_counted _ _ _ _ c.in_ok-reader.ensures.taken c.read_first.ensures.counted c.read_first.ensures.limited

pub returns-in_err-first-clause-at_first : goal.returns-in_err-first-clause-at_first
returns-in_err-first-clause-at_first g c = λ e.
    let p = err_from_is_err_and c.from_residual-in_err-first.result c.from_residual-in_err-first.ensures.1 in
    let same = first_configuration c.in_err-first.field-0.0 (cc (e, p.1, p.2)) in
    takes_first _ _ _ _ (fresh c.in_ok-reader.reader _ c.in_ok-reader.ensures.ahead) c.read_first.ensures.near
    (gives_refused _ _ _ _ (c.in_err-first.ensures.refused (ap (λ s. Err s) same)))

pub returns-in_err-serving-clause-taken : goal.returns-in_err-serving-clause-taken
returns-in_err-serving-clause-taken g c = takes_counted _ _ _ _ c.in_ok-reader.ensures.taken c.read_first.ensures.counted c.read_first.ensures.limited

pub returns-in_err-serving-clause-at_first : goal.returns-in_err-serving-clause-at_first
returns-in_err-serving-clause-at_first g c = λ _.
    takes_first _ _ _ _ (fresh c.in_ok-reader.reader _ c.in_ok-reader.ensures.ahead) c.read_first.ensures.near
    (gives_one _ _ c.in_ok-first.first.line.items c.in_ok-first.ensures.line)

pub returns-in_err-serving-clause-at_stores : goal.returns-in_err-serving-clause-at_stores
returns-in_err-serving-clause-at_stores g c = λ _.
    takes_first _ _ _ _ (fresh c.in_ok-reader.reader _ c.in_ok-reader.ensures.ahead) c.read_first.ensures.near
    (gives_one _ _ c.in_ok-first.first.line.items c.in_ok-first.ensures.line)

pub returns-in_err-served-in-Run-clause-taken : goal.returns-in_err-served-in-Run-clause-taken
returns-in_err-served-in-Run-clause-taken g c =
    takes_counted _ _ _ _ c.in_ok-reader.ensures.taken
    (CountsTaken-trans _ _ _ _ _ _ c.read_first.ensures.counted c.serve-served.ensures.counted) (c.serve-served.ensures.limited c.read_first.ensures.limited)

pub returns-in_err-served-in-Run-clause-tables : goal.returns-in_err-served-in-Run-clause-tables
returns-in_err-served-in-Run-clause-tables g c = leaves_then _ _ _ _ c.begin.ensures.tables c.serve-served.ensures.tables

pub returns-in-Run-clause-taken : goal.returns-in-Run-clause-taken
returns-in-Run-clause-taken g c =
    takes_counted _ _ _ _ c.in_ok-reader.ensures.taken
    (CountsTaken-trans _ _ _ _ _ _ c.read_first.ensures.counted c.serve-served.ensures.counted) (c.serve-served.ensures.limited c.read_first.ensures.limited)

pub returns-in-Run-clause-asked : goal.returns-in-Run-clause-asked
returns-in-Run-clause-asked g c =
    takes_run c.args.words.now c.in-Run.sql _ _ c.in-Run.is (record {
      end = end_of_source c.serve-served.new.reader.ahead _ c.in_ok-served-in-Run.ensures.end;
      few = short_input (g.R.Source.left c.args.input.now) (g.R.Source.left c.serve-served.new.input) c.serve-served.new.reader.ahead _ _
          c.in_ok-reader.ensures.taken (CountsTaken-trans _ _ _ _ _ _ c.read_first.ensures.counted c.serve-served.ensures.counted)
          c.in_ok-served-in-Run.ensures.end c.in_ok-served-in-Run.ensures.short;
    })

pub returns-in-Run-clause-tables : goal.returns-in-Run-clause-tables
returns-in-Run-clause-tables g c = leaves_then _ _ _ _ c.begin.ensures.tables c.serve-served.ensures.tables

-- ---- all after the first line

pub returns-in_err-served-in-Run-clause-err : goal.returns-in_err-served-in-Run-clause-err
returns-in_err-served-in-Run-clause-err g c =
    let before = outside (g.K.Keeper.state c.args.keepers.now) (g.L.Link.shown c.args.link.now) in
    let begun = outside (g.K.Keeper.state c.begin.new.keepers) (g.L.Link.shown c.args.link.now) in
    let served = outside (g.K.Keeper.state c.serve-served.new.keepers) (g.L.Link.shown c.serve-served.new.link) in
    IfErr-any _ _ (λ stop. inr (run_done_in_part c.args.words.now g.K.Keeper.TELLS before begun served c.in_ok-serving.serving _ _ _ _ _
    (begun_well g.K.Keeper.TELLS before begun _ _ _ _ _ _ c.in_ok-first.first.line.items
    (fresh c.in_ok-reader.reader _ c.in_ok-reader.ensures.ahead)
    (ap g.S.Sink.taken c.in_ok-first.ensures.silent) c.in_ok-first.ensures.line c.args.words.now c.in_ok-serving.serving
    (c.in_ok-serving.ensures.ok (g.L.Link.shown c.args.link.now)))
    c.in-Run.sql c.in-Run.is c.in_err-served-in-Run.ensures.err))

pub returns-in-Run-clause-ok : goal.returns-in-Run-clause-ok
returns-in-Run-clause-ok g c =
    let before = outside (g.K.Keeper.state c.args.keepers.now) (g.L.Link.shown c.args.link.now) in
    let begun = outside (g.K.Keeper.state c.begin.new.keepers) (g.L.Link.shown c.args.link.now) in
    let served = outside (g.K.Keeper.state c.serve-served.new.keepers) (g.L.Link.shown c.serve-served.new.link) in
    run_done c.args.words.now g.K.Keeper.TELLS before begun served c.in_ok-serving.serving _ _ _ _ _
    (begun_well g.K.Keeper.TELLS before begun _ _ _ _ _ _ c.in_ok-first.first.line.items
    (fresh c.in_ok-reader.reader _ c.in_ok-reader.ensures.ahead)
    (ap g.S.Sink.taken c.in_ok-first.ensures.silent) c.in_ok-first.ensures.line c.args.words.now c.in_ok-serving.serving
    (c.in_ok-serving.ensures.ok (g.L.Link.shown c.args.link.now)))
    c.in-Run.sql c.in-Run.is c.serve-served.new.serving c.in_ok-served-in-Run.ensures.ok

-- ---- the requests that are made

pub returns-in_err-made-in-Gen-clause-err : goal.returns-in_err-made-in-Gen-clause-err
returns-in_err-made-in-Gen-clause-err g c =
    let before = outside (g.K.Keeper.state c.args.keepers.now) (g.L.Link.shown c.args.link.now) in
    let begun = outside (g.K.Keeper.state c.begin.new.keepers) (g.L.Link.shown c.args.link.now) in
    let made = outside (g.K.Keeper.state c.make_requests-made.new.keepers) (g.L.Link.shown c.make_requests-made.new.link) in
    IfErr-any _ _ (λ stop. inr (gen_done_in_part c.args.words.now g.K.Keeper.TELLS before begun made c.in_ok-serving.serving _ _ _ _ _
    (begun_well g.K.Keeper.TELLS before begun _ _ _ _ _ _ c.in_ok-first.first.line.items
    (fresh c.in_ok-reader.reader _ c.in_ok-reader.ensures.ahead)
    (ap g.S.Sink.taken c.in_ok-first.ensures.silent) c.in_ok-first.ensures.line c.args.words.now c.in_ok-serving.serving
    (c.in_ok-serving.ensures.ok (g.L.Link.shown c.args.link.now)))
    c.in-Gen.seed c.in-Gen.calls c.in-Gen.is c.in_err-made-in-Gen.ensures.err))

pub returns-in_err-made-in-Gen-clause-cause : goal.returns-in_err-made-in-Gen-clause-cause
returns-in_err-made-in-Gen-clause-cause g c =
    let source = g.R.Source.faults in
    let sink = g.S.Sink.faults in
    let p = err_from_is_err_and c.from_residual-in_err-made-in-Gen.result c.from_residual-in_err-made-in-Gen.ensures.1 in
    let before = faults (source c.args.input.now) (sink c.args.output.now) in
    let after = faults (source c.read_first.new.input) (sink c.make_requests-made.new.output) in
    let first = c.read_first.ensures.later in
    let cause : InterruptHasCause before after c.in_err-made-in-Gen.field-0.0 =
    interrupt_writing before after (sink c.begin.new.output) c.in_err-made-in-Gen.field-0.0 (omega (arith, first.sink, c.begin.ensures.later))
    c.in_err-made-in-Gen.ensures.cause in
    rw p.1 (subst (StopHasCause before after (g.K.Keeper.state c.args.keepers.now).faults (g.K.Keeper.state c.make_requests-made.new.keepers).faults)
    (sym p.2) cause)

pub returns-in_err-made-in-Gen-clause-taken : goal.returns-in_err-made-in-Gen-clause-taken
returns-in_err-made-in-Gen-clause-taken g c =
    takes_counted _ _ _ _ c.in_ok-reader.ensures.taken c.read_first.ensures.counted c.read_first.ensures.limited

pub returns-in_err-made-in-Gen-clause-tables : goal.returns-in_err-made-in-Gen-clause-tables
returns-in_err-made-in-Gen-clause-tables g c = leaves_then _ _ _ _ c.begin.ensures.tables c.make_requests-made.ensures.tables

pub returns-clause-ok : goal.returns-clause-ok
returns-clause-ok g c =
    let before = outside (g.K.Keeper.state c.args.keepers.now) (g.L.Link.shown c.args.link.now) in
    let begun = outside (g.K.Keeper.state c.begin.new.keepers) (g.L.Link.shown c.args.link.now) in
    let made = outside (g.K.Keeper.state c.make_requests-made.new.keepers) (g.L.Link.shown c.make_requests-made.new.link) in
    gen_done c.args.words.now g.K.Keeper.TELLS before begun made c.in_ok-serving.serving _ _ _ _ _
    (begun_well g.K.Keeper.TELLS before begun _ _ _ _ _ _ c.in_ok-first.first.line.items
    (fresh c.in_ok-reader.reader _ c.in_ok-reader.ensures.ahead)
    (ap g.S.Sink.taken c.in_ok-first.ensures.silent) c.in_ok-first.ensures.line c.args.words.now c.in_ok-serving.serving
    (c.in_ok-serving.ensures.ok (g.L.Link.shown c.args.link.now)))
    c.in-Gen.seed c.in-Gen.calls c.in-Gen.is c.make_requests-made.new.serving c.in_ok-made-in-Gen.ensures.ok

pub returns-clause-taken : goal.returns-clause-taken
returns-clause-taken g c = takes_counted _ _ _ _ c.in_ok-reader.ensures.taken c.read_first.ensures.counted c.read_first.ensures.limited

pub returns-clause-asked : goal.returns-clause-asked
returns-clause-asked g c =
    takes_gen c.args.words.now c.in-Gen.seed c.in-Gen.calls _ _ c.in-Gen.is
    (takes_first _ _ _ _ (fresh c.in_ok-reader.reader _ c.in_ok-reader.ensures.ahead) c.read_first.ensures.near
    (gives_one _ _ c.in_ok-first.first.line.items c.in_ok-first.ensures.line))

pub returns-clause-tables : goal.returns-clause-tables
returns-clause-tables g c = leaves_then _ _ _ _ c.begin.ensures.tables c.make_requests-made.ensures.tables
