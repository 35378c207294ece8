use Rattle.std.proofs.Common.{◌≡◌, sym, ap, ◌∙◌, subst}
use Rattle.graph_model.specs.Soundness.{CanFollow}
use Rattle.graph_model.specs.Told.{WhereTold}
use Rattle.std.specs.Prelude.{None}
use Rattle.shard_log.specs.View.{Grows, View}
use Rattle.shard_tables.proofs.SlaveLemmas.{slave_note, taken_follows, taken_seen}
use Rattle.shard_tables.specs.StoreView.{Store}
use Rattle.tao_base.specs.declared.id.StoreName.{StoreName}
use Rattle.tao_keeper.proofs.Growing.{growing_laws}
use Rattle.tao_keeper.specs.Table.{Becomes, after_commit}
use Rattle.shard_tables.proofs.store.StoreNode.take_next.Goals as goal

pub commit-requires-clause-follows : goal.commit-requires-clause-follows
commit-requires-clause-follows g c = λ told.
    let at_is : c.name.result ≡ c.args.self.now.name = c.name.ensures ∙ ap (λ s. s.name) c.note.ensures.same in
    let seen_is = slave_note c.args.self.now c.in_ok-seen.seen c.requires.slave c.in_ok-seen.ensures.view in
    let grows : Grows c.args.self.now.view c.meet.new.self = subst (λ (v : View). Grows v c.meet.new.self) seen_is c.meet.ensures.grows in
    subst (λ (n : StoreName). CanFollow ((g.M.Keeper.state c.args.keeper.now).told n).log c.args.entry) (sym at_is)
    (taken_follows g.M.Keeper.TELLS (g.M.Keeper.state c.args.keeper.now).told c.args.self.now c.args.note c.meet.new.self c.args.entry
    c.requires.slave c.requires.keeper grows c.meet.ensures.grows_from_other c.requires.next c.notes_are_sound.ensures.sound told)

pub returns-clause-logs : goal.returns-clause-logs
returns-clause-logs g c =
    growing_laws.commits g.M.Keeper.TELLS (g.M.Keeper.state c.args.keeper.now).told (g.M.Keeper.state c.commit.new.self).told c.name.result c.args.entry None
    c.in_ok-commit.ensures.changes

pub returns-clause-keeper : goal.returns-clause-keeper
returns-clause-keeper g c =
    let at_is : c.name.result ≡ c.args.self.now.name = c.name.ensures ∙ ap (λ s. s.name) c.note.ensures.same in
    let seen_is = slave_note c.args.self.now c.in_ok-seen.seen c.requires.slave c.in_ok-seen.ensures.view in
    let grows : Grows c.args.self.now.view c.meet.new.self = subst (λ (v : View). Grows v c.meet.new.self) seen_is c.meet.ensures.grows in
    taken_seen g.M.Keeper.TELLS (g.M.Keeper.state c.args.keeper.now).told c.args.self.now c.args.note c.meet.new.self c.args.entry
    c.requires.slave c.requires.keeper grows c.meet.ensures.grows_from_other c.requires.next (g.M.Keeper.state c.commit.new.self).told c.see.new.self
    (subst (λ (n : StoreName). WhereTold g.M.Keeper.TELLS (Becomes (g.M.Keeper.state c.args.keeper.now).told (g.M.Keeper.state c.commit.new.self).told n
    (after_commit ((g.M.Keeper.state c.args.keeper.now).told n) c.args.entry None))) at_is c.in_ok-commit.ensures.changes)
    (c.see.ensures ∙ ap (λ (s : Store). record s { view = c.meet.new.self }) c.note.ensures.same)
