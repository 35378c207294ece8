use Rattle.std.proofs.Common.{◌≡◌, ◌≤◌, ◌+◌, Some, None, ap, arith, refl, subst, sym, ◌∙◌}
use Rattle.std.specs.Io.KnownBytes.{Appends}
use Rattle.load_gen.specs.Requests.{first_of}
use Rattle.load_gen.specs.Summary.{calls_in, refusals_in}
use Rattle.core_nodes.specs.Outside.{outside}
use Rattle.first_line.specs.Interrupts.{AppendsPart}
use Rattle.tao_top.proofs.GoingOn.{still_refl}
use Rattle.tao_top.proofs.MakingLemmas.{counts_on, first_came, made_none_left, made_one_of, made_part_none, made_part_one_of}
use Rattle.tao_top.proofs.OneLine.{OnErr-any}
use Rattle.tao_top.specs.Served.{serves, summed_at}
use Rattle.tao_top.specs.Step.{reply_line, serving}
use Rattle.tao_top.proofs.making.Making.make_next.Goals as goal

pub returns-in_err-next-clause-err : goal.returns-in_err-next-clause-err
returns-in_err-next-clause-err g c =
    let before = outside (g.K.Keeper.state c.args.keepers.now) (g.L.Link.shown c.args.link.now) in
    OnErr-any _ _ (made_part_none g.K.Keeper.TELLS (serves c.args.serving.now before) before _ _
    (still_refl g.K.Keeper.TELLS before (serves c.args.serving.now before) refl))

pub overflow_add-self : goal.overflow_add-self
overflow_add-self g c =
    let came = subst (λ o. (o, c.next.new.self) ≡ first_of c.args.self.now.workload) c.in-Some.is c.in_ok-next.ensures.came in
    let counts = counts_on c.args.self.now.workload c.next.new.self c.in-Some.request c.call-reply.result c.args.self.now.calls c.args.self.now.refused
    came c.requires.counts in
    let count = c.refusals.ensures in
    omega (arith, counts, count)

pub returns-in_err-said-in-Some-clause-counts : goal.returns-in_err-said-in-Some-clause-counts
returns-in_err-said-in-Some-clause-counts g c =
    let came = subst (λ o. (o, c.next.new.self) ≡ first_of c.args.self.now.workload) c.in-Some.is c.in_ok-next.ensures.came in
    let counts = counts_on c.args.self.now.workload c.next.new.self c.in-Some.request c.call-reply.result c.args.self.now.calls c.args.self.now.refused
    came c.requires.counts in
    let count = c.refusals.ensures in
    omega (arith, counts, count)

pub returns-in_ok-said-in-Some-clause-counts : goal.returns-in_ok-said-in-Some-clause-counts
returns-in_ok-said-in-Some-clause-counts g c =
    let came = subst (λ o. (o, c.next.new.self) ≡ first_of c.args.self.now.workload) c.in-Some.is c.in_ok-next.ensures.came in
    let counts = counts_on c.args.self.now.workload c.next.new.self c.in-Some.request c.call-reply.result c.args.self.now.calls c.args.self.now.refused
    came c.requires.counts in
    let count = c.refusals.ensures in
    omega (arith, counts, count)

pub returns-in-None-clause-ok : goal.returns-in-None-clause-ok
returns-in-None-clause-ok g c =
    let came = subst (λ o. (o, c.next.new.self) ≡ first_of c.args.self.now.workload) c.in-None.is c.in_ok-next.ensures.came in
    made_none_left g.K.Keeper.TELLS _ c.args.self.now.workload c.next.new.self c.args.self.now.calls c.args.self.now.refused _ came

pub returns-in_ok-said-in-Some-clause-ok : goal.returns-in_ok-said-in-Some-clause-ok
returns-in_ok-said-in-Some-clause-ok g c =
    let before = outside (g.K.Keeper.state c.args.keepers.now) (g.L.Link.shown c.args.link.now) in
    let after = outside (g.K.Keeper.state c.call-reply.new.keepers) (g.L.Link.shown c.call-reply.new.link) in
    let came = subst (λ o. (o, c.next.new.self) ≡ first_of c.args.self.now.workload) c.in-Some.is c.in_ok-next.ensures.came in
    made_one_of g.K.Keeper.TELLS c.args.serving.now c.call-reply.new.self before after c.in-Some.request c.args.self.now.workload c.next.new.self
    c.args.self.now.calls c.args.self.now.refused c.call-reply.result
    (record { does = c.call-reply.ensures.does; later = c.call-reply.ensures.later }) came
    c.refusals.result c.refusals.ensures _ _
    (subst (λ written. Appends (g.S.Sink.taken c.args.output.now) written (summed_at c.args.self.now.calls c.args.self.now.refused c.in-Some.request
    (reply_line (serving c.call-reply.new.self) c.call-reply.result))) (sym c.progress.ensures.taken) c.in_ok-said-in-Some.ensures.ok)

pub returns-in_err-said-in-Some-clause-err : goal.returns-in_err-said-in-Some-clause-err
returns-in_err-said-in-Some-clause-err g c =
    let before = outside (g.K.Keeper.state c.args.keepers.now) (g.L.Link.shown c.args.link.now) in
    let after = outside (g.K.Keeper.state c.call-reply.new.keepers) (g.L.Link.shown c.call-reply.new.link) in
    let came = subst (λ o. (o, c.next.new.self) ≡ first_of c.args.self.now.workload) c.in-Some.is c.in_ok-next.ensures.came in
    OnErr-any _ _ (made_part_one_of g.K.Keeper.TELLS c.args.serving.now c.call-reply.new.self before after c.in-Some.request c.args.self.now.workload
    c.next.new.self c.args.self.now.calls c.args.self.now.refused c.call-reply.result
    (record { does = c.call-reply.ensures.does; later = c.call-reply.ensures.later }) came
    _ _ (subst (λ written. AppendsPart (g.S.Sink.taken c.args.output.now) written (summed_at c.args.self.now.calls c.args.self.now.refused c.in-Some.request
    (reply_line (serving c.call-reply.new.self) c.call-reply.result))) (sym c.progress.ensures.taken) c.in_err-said-in-Some.ensures.err))
