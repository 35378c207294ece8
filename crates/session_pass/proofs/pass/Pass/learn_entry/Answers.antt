use Rattle.std.proofs.Common.{◌≡◌, length, rules, min, take, refl}
use Rattle.std.proofs.lemmas.List.{with_items_is}
use Rattle.session_pass.proofs.EntryLemmas.{first_eight, learnt_entry}
use Rattle.session_pass.specs.Floors.{LearnsTouches, learnt_touches}
use Rattle.session_pass.specs.PassView.{pass_seen}
use Rattle.session_pass.specs.Passes.{IsNoteOf, MeetsNote}
use Rattle.session_pass.proofs.pass.Pass.learn_entry.Goals as goal

pub invariant_of-self : goal.invariant_of-self
invariant_of-self c =
    let before = pass_seen c.self.inside in
    let value = c.deref_mut.ensures.value in
    let known : IsNoteOf c.args.shard c.args.note before.notes = search rules in
    let meets : MeetsNote c.args.shard c.args.note before.notes = rw (← value) c.meet.ensures.meets in
    let long : length c.meet.new.notes ≡ c.self.inside.notes.len = search rules in
    let least : c.min.result ≡ min (length c.as_slice-touches.result.now) 8 = search rules in
    let first : take c.min.result c.as_slice-touches.result.now ≡ learnt_touches c.args.entry.now = first_eight _ _ _ least c.as_slice-touches.ensures in
    let learnt : LearnsTouches c.args.shard (learnt_touches c.args.entry.now) c.self.inside.floors.floors c.learn_touches.new.self.floors =
    rw (← first) c.learn_touches.ensures.learns in
    rw (with_items_is c.self.inside.notes c.meet.new.notes long) (rw c.meet.ensures.met (rw value
    (learnt_entry before c.args.shard c.args.entry.now c.args.note c.learn_touches.new.self.floors c.learn_touches.new.self.spare known meets
    c.notes_are_sound.ensures.sound c.requires.stands learnt c.self.invariant)))

pub returns-clause-learns : goal.returns-clause-learns
returns-clause-learns c =
    let before = pass_seen c.self.inside in
    let value = c.deref_mut.ensures.value in
    let long : length c.meet.new.notes ≡ c.self.inside.notes.len = search rules in
    let least : c.min.result ≡ min (length c.as_slice-touches.result.now) 8 = search rules in
    let first : take c.min.result c.as_slice-touches.result.now ≡ learnt_touches c.args.entry.now = first_eight _ _ _ least c.as_slice-touches.ensures in
    let learnt : LearnsTouches c.args.shard (learnt_touches c.args.entry.now) c.self.inside.floors.floors c.learn_touches.new.self.floors =
    rw (← first) c.learn_touches.ensures.learns in
    rw (← c.self.view_is) (rw (with_items_is c.self.inside.notes c.meet.new.notes long)
    (rw c.meet.ensures.met (rw value record { floors = learnt; rest = refl })))
