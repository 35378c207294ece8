use Rattle.unlocked_nodes.proofs.MeetLemmas.{met_seen, one_log_at}
use Rattle.unlocked_nodes.proofs.meeting.meet_note.Goals as goal

pub meet_master-requires : goal.meet_master-requires
meet_master-requires c = record {
  one_log = one_log_at c.args.config.now c.masters_are_regions.ensures c.args.stores.now c.requires.stores c.args.shard c.requires.here c.args.note.log
      c.requires.one_log;
}

pub returns-clause-seen : goal.returns-clause-seen
returns-clause-seen c =
    met_seen c.args.config.now c.masters_are_regions.ensures c.args.stores.now c.requires.stores c.args.shard c.requires.here c.meet_master.result c.args.note
    c.meet_master.new.note c.meet_master.ensures.met c.meet_master.ensures.grows
