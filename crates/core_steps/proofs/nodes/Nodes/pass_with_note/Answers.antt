use Rattle.std.proofs.Common.{◌≡◌}
use Rattle.std.proofs.lemmas.Result.{err_from_is_err_and}
use Rattle.core_steps.proofs.LinkLemmas.{carried_on, failed_carry, link_self}
use Rattle.core_steps.proofs.RelayLemmas.{short_before, stopped_there}
use Rattle.replies.specs.declared.refusals.Refusal.TheVariants.{Memory}
use Rattle.core_steps.proofs.nodes.Nodes.pass_with_note.Goals as goal

pub returns-in_err-note-clause-refused : goal.returns-in_err-note-clause-refused
returns-in_err-note-clause-refused g c =
    let p = err_from_is_err_and c.from_residual.result c.from_residual.ensures.1 in
    let short : p.0 ≡ Memory 0 = cc (p.2, c.in_err-note.ensures.err) in
    rw p.1 (λ tells keepers. short_before tells c.args.route p.0 c.args.self.now c.spare_note.new.self c.spare_note.ensures.same keepers
    (g.L.Link.shown c.args.link.now) short)

pub returns-in_err-note-clause-later : goal.returns-in_err-note-clause-later
returns-in_err-note-clause-later g c = link_self (g.L.Link.shown c.args.link.now)

pub returns-in-Err-clause-refused : goal.returns-in-Err-clause-refused
returns-in-Err-clause-refused g c = λ tells keepers.
    stopped_there tells c.args.route c.in-Err.refusal c.args.self.now c.spare_note.new.self c.spare_note.ensures.same keepers
    (g.L.Link.shown c.args.link.now) (g.L.Link.shown c.pass_over.new.link) c.in-Err.ensures.refusal c.in-Err.ensures.fails

pub returns-in-Err-clause-later : goal.returns-in-Err-clause-later
returns-in-Err-clause-later g c = failed_carry _ (g.L.Link.shown c.args.link.now) (g.L.Link.shown c.pass_over.new.link) c.in-Err.ensures.fails

pub returns-in-Ok-clause-later : goal.returns-in-Ok-clause-later
returns-in-Ok-clause-later g c = carried_on (g.L.Link.shown c.args.link.now) (g.L.Link.shown c.pass_over.new.link) c.in-Ok.ensures.ok
