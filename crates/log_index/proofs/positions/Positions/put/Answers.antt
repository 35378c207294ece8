use Rattle.log_index.proofs.PositionLemmas.{client_put, merge_put}
use Rattle.log_index.proofs.positions.Positions.put.Goals as goal

pub returns-in_ok-insert-in-Client : goal.returns-in_ok-insert-in-Client
returns-in_ok-insert-in-Client c =
    rw c.in-Client.is (client_put c.args.self.now.clients c.insert.new.self c.args.self.now.merges c.in-Client.session c.in-Client.seq c.args.stands
    c.in_ok-insert-in-Client.ensures.updates.0)

pub returns-in_ok-insert-in-Merge : goal.returns-in_ok-insert-in-Merge
returns-in_ok-insert-in-Merge c =
    rw c.in-Merge.is (merge_put c.args.self.now.merges c.insert-in-Merge.new.self c.args.self.now.clients c.in-Merge.shard c.in-Merge.position c.args.stands
    c.in_ok-insert-in-Merge.ensures.updates.0)
