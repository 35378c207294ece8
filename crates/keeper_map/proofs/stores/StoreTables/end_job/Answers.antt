use Rattle.std.proofs.Common.{refl}
use Rattle.keeper_map.proofs.StoreLemmas.{becomes_there, found_at, is_there, written}
use Rattle.tao_keeper.specs.Table.{after_end}
use Rattle.keeper_map.proofs.stores.StoreTables.end_job.Goals as goal

pub returns-in-Some : goal.returns-in-Some
returns-in-Some c =
    becomes_there c.args.self.now.tables c.args.self.now.tables (c.get_mut.follows.lender c.end_job.new.self) c.args.at c.in-Some.table.now
    c.end_job.new.self (λ t. after_end t c.args.position) (λ name. refl)
    (found_at c.args.at c.key_of.result c.in-Some.table.now c.args.self.now.tables c.key_of.ensures c.in-Some.ensures.value)
    (written c.args.at c.key_of.result c.end_job.new.self c.args.self.now.tables (c.get_mut.follows.lender c.end_job.new.self) c.key_of.ensures
    ((c.get_mut.follows.holds c.end_job.new.self).3 (is_there c.key_of.result c.in-Some.table.now c.args.self.now.tables c.in-Some.ensures.value)))
    c.end_job.ensures
