use Rattle.shared_stores.proofs.Kept.{kept_read}
use Rattle.shared_stores.proofs.leading.ask_at.Goals as goal

pub invariant_of-store : goal.invariant_of-store
invariant_of-store g c = record {
  kept = kept_read g.K.Keeper.TELLS g.J.Sharing.making g.J.Logs.log c.args.store.now.store c.ask_leader.new.store
      (g.K.Keeper.state c.args.store.now.keeper).told (g.K.Keeper.state c.ask_leader.new.keepers).told c.args.store.now.notes.items
      c.args.store.now.kept c.ask_leader.ensures.same c.ask_leader.ensures.tables;
}
