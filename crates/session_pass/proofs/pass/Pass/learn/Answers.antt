use Rattle.std.proofs.Common.{◌≡◌, length, rules}
use Rattle.std.proofs.lemmas.List.{with_items_is}
use Rattle.tao_base.specs.Keys.{key_shard}
use Rattle.session_pass.proofs.FloorLemmas.{floors_rise, learns}
use Rattle.session_pass.proofs.PassLemmas.{learnt_pass}
use Rattle.session_pass.specs.PassView.{pass_seen}
use Rattle.session_pass.specs.Passes.{IsNoteOf, MeetsNote}
use Rattle.session_pass.proofs.pass.Pass.learn.Goals as goal

pub invariant_of-self : goal.invariant_of-self
invariant_of-self c =
    let before = pass_seen c.self.inside in
    let value = c.deref_mut.ensures.value in
    let known : IsNoteOf (key_shard c.args.key) c.args.note before.notes = search rules in
    let meets : MeetsNote (key_shard c.args.key) c.args.note before.notes = rw (← value) (rw (← c.shard.ensures) c.meet.ensures.meets) in
    let long : length c.meet.new.notes ≡ c.self.inside.notes.len = search rules in
    rw (with_items_is c.self.inside.notes c.meet.new.notes long) (rw c.learn.ensures.floors (rw c.meet.ensures.met (rw value (rw c.shard.ensures
    (learnt_pass before c.args.key c.args.version c.args.note c.learn.new.self.spare known meets c.requires.reached c.self.invariant)))))

pub returns-clause-floors : goal.returns-clause-floors
returns-clause-floors c = rw (← c.self.view_is) (rw c.learn.ensures.floors (learns c.self.inside.floors.floors c.args.key c.args.version))

pub returns-clause-rise : goal.returns-clause-rise
returns-clause-rise c = rw (← c.self.view_is) (rw c.learn.ensures.floors (floors_rise c.self.inside.floors.floors c.args.key c.args.version))
