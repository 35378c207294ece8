use Rattle.load_audit.proofs.Meeting.{met_all}
use Rattle.load_audit.specs.LiveEdges.{records_of}
use Rattle.load_audit.proofs.live.live_edges.Goals as goal

pub returns : goal.returns
returns c = (met_all (records_of c.args.log.now) c.new-count.result c.meet_log.new.self c.new-count.ensures c.in_ok-meet_log.ensures).live_is
