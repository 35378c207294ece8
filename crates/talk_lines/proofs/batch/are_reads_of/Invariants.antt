use Rattle.std.proofs.Common.{◌≡◌, drop}
use Rattle.std.specs.List.{list_all}
use Rattle.talk_lines.specs.Batches.{is_read_of}
use Rattle.talk_lines.proofs.batch.are_reads_of.Given as goal

abbrev pub invariant-loop-request : goal.invariant-loop-request
invariant-loop-request l = list_all (is_read_of l.session) (drop l.request-index l.requests) ≡ list_all (is_read_of l.session) l.requests
