use Rattle.node_stages.proofs.RestLemmas.{may_process, processed_rest}
use Rattle.node_stages.proofs.catching.catch_up_with.Goals as goal

pub process_all-requires : goal.process_all-requires
process_all-requires g c =
    let may = may_process g.K.Keeper.TELLS (g.K.Keeper.state c.args.keepers.now).told c.args.store.now c.name-shard.result c.mark-low.result
    c.deref.result.now c.in_ok-entries.field-0.entries.items c.in_ok-entries.field-0.note c.name-shard.ensures c.in_ok-entries.ensures.entries
    c.in_ok-entries.ensures.note c.deref.ensures.value (g.C.Cache.node c.args.cache.now).served c.mark-low.ensures.value c.requires.log
    c.requires.keeper c.requires.here in
    record { log = may.log; next = may.next; here = may.here }

pub returns-clause-does : goal.returns-clause-does
returns-clause-does g c =
    processed_rest g.K.Keeper.TELLS (g.K.Keeper.state c.args.keepers.now).told c.args.store.now c.name-shard.result c.mark-low.result
    c.deref.result.now c.in_ok-entries.field-0.entries.items c.in_ok-entries.field-0.note c.name-shard.ensures c.in_ok-entries.ensures.entries
    c.in_ok-entries.ensures.note c.deref.ensures.value g.C.Cache.node g.C.Cache.refills c.args.cache.now c.process_all.new.cache
    c.mark-low.ensures.value c.mark-low.ensures.marks c.process_all.ensures
