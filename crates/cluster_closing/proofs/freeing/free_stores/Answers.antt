use Rattle.std.proofs.Common.{◌∷◌, [], ap, arith, length, length-append, subst}
use Rattle.shared_stores.specs.Locked.{IsSharedStore, locked}
use Rattle.cluster_closing.specs.Freeing.{HasRoomLeft}
use Rattle.cluster_closing.proofs.FreedStores.{freed_more}
use Rattle.cluster_closing.proofs.freeing.free_stores.Goals as goal

pub loop-store-preserved : goal.loop-store-preserved
loop-store-preserved g c =
    let rest = ap length c.in-Some.ensures.steps.0 in
    record {
      shared = freed_more
          (λ store keeper notes. IsSharedStore g.K.Keeper.TELLS g.J.Sharing.making g.J.Logs.log (locked store (g.K.Keeper.state keeper).told notes))
          c.loop-store.freed c.put_store.new.freed c.loop-store.invariant.shared c.put_store.ensures;
      room = c.put_store.ensures.room _ (subst (λ n. HasRoomLeft n c.loop-store.freed) (omega (arith, rest)) c.loop-store.invariant.room);
      many = (
          let many = c.loop-store.invariant.many in
          let more = ap length c.put_store.ensures.keepers_are in
          let long = length-append c.loop-store.freed.keepers.items (c.put_store.ensures.keeper ∷ []) in
          omega (arith, many, more, long, rest));
    }
