use Rattle.std.proofs.Common.{◌≡◌, length, rules}
use Rattle.std.proofs.lemmas.List.{with_items_is}
use Rattle.session_pass.proofs.PassLemmas.{sees}
use Rattle.session_pass.specs.PassView.{pass_seen}
use Rattle.session_pass.specs.Passes.{IsNoteOf, MeetsNote}
use Rattle.session_pass.proofs.pass.Pass.see.Goals as goal

pub invariant_of-self : goal.invariant_of-self
invariant_of-self c =
    let value = c.deref_mut.ensures.value in
    let known : IsNoteOf c.args.shard c.args.note (pass_seen c.self.inside).notes = search rules in
    let meets : MeetsNote c.args.shard c.args.note (pass_seen c.self.inside).notes = rw (← value) c.meet.ensures.meets in
    let long : length c.meet.new.notes ≡ c.self.inside.notes.len = search rules in
    rw (with_items_is c.self.inside.notes c.meet.new.notes long)
    (rw c.meet.ensures.met (rw value (sees (pass_seen c.self.inside) c.args.shard c.args.note known meets c.self.invariant)))
