use Rattle.std.proofs.Common.{sym, ◌≡◌, ◌∙◌}
use Rattle.core_model.proofs.Turns.{right_serves_turn}
use Rattle.core_model.specs.Pens.{pens_of}
use Rattle.unlocked_nodes.proofs.MeetLemmas.{is_so, log_there, met_there, not_there}
use Rattle.unlocked_nodes.proofs.meeting.meet_shard.Goals as goal

pub returns-then-not-serves_in_turn-clause-seen : goal.returns-then-not-serves_in_turn-clause-seen
returns-then-not-serves_in_turn-clause-seen g c =
    not_there c.args.config.now (pens_of c.args.stores.now) c.args.name (g.C.Cache.node c.args.cache.now) c.requires.logs c.args.shard
    c.serves_in_turn.result c.serves_in_turn.ensures c.if-not-serves_in_turn.true

pub note-requires : goal.note-requires
note-requires g c = record {
  served = (right_serves_turn c.args.config.now (λ shard view. (pens_of c.args.stores.now shard).log ≡ view.log) c.args.name
      (g.C.Cache.node c.args.cache.now) c.args.shard).serves c.requires.logs c.requires.here (is_so _ (sym c.serves_in_turn.ensures ∙ c.if-not-serves_in_turn.false));
}

pub meet_note-requires-clause-one_log : goal.meet_note-requires-clause-one_log
meet_note-requires-clause-one_log g c =
    log_there c.args.config.now (pens_of c.args.stores.now) c.args.name (g.C.Cache.node c.args.cache.now) c.requires.logs c.args.shard c.in_ok-note.note
    c.in_ok-note.ensures.view

pub returns-clause-seen : goal.returns-clause-seen
returns-clause-seen g c =
    met_there (pens_of c.args.stores.now) c.args.shard (g.C.Cache.node c.args.cache.now) c.in_ok-note.note c.in_ok-note.ensures.view c.meet_note.result
    c.meet_note.ensures.seen
