use Rattle.std.proofs.Common.{[], ◌∷◌, ap, arith, length, length-append}
use Rattle.shared_stores.specs.Locked.{IsSharedStore, locked}
use Rattle.cluster_opening.proofs.OpenedNotes.{last_is, rest_are}
use Rattle.cluster_opening.proofs.opening.lock_stores.Goals as goal

pub take_last-keeper-requires : goal.take_last-keeper-requires
take_last-keeper-requires g c =
    let long = c.loop-store.invariant.shared.keepers_long in
    omega (arith, long, ap length c.in-Some.ensures.items, length-append c.pop.new.self.items (c.in-Some.store ∷ []))

pub take_last-notes-requires : goal.take_last-notes-requires
take_last-notes-requires g c =
    let long = c.loop-store.invariant.shared.notes_long in
    omega (arith, long, ap length c.in-Some.ensures.items, length-append c.pop.new.self.items (c.in-Some.store ∷ []))

pub lock_store-store-requires : goal.lock_store-store-requires
lock_store-store-requires g c =
    last_is (λ store keeper notes. IsSharedStore g.K.Keeper.TELLS g.J.Sharing.making g.J.Logs.log (locked store (g.K.Keeper.state keeper).told notes))
    c.loop-store.stores.items c.pop.new.self.items c.loop-store.keepers.items c.take_last-keeper.new.all.items c.loop-store.noted.items
    c.take_last-notes.new.all.items c.in-Some.store c.take_last-keeper.result c.take_last-notes.result c.loop-store.invariant.shared
    c.in-Some.ensures.items c.take_last-keeper.ensures.items c.take_last-notes.ensures.items

pub put_last-requires : goal.put_last-requires
put_last-requires g c =
    let room = c.loop-store.invariant.room in
    omega (arith, room, ap length c.in-Some.ensures.items, length-append c.pop.new.self.items (c.in-Some.store ∷ []))

pub loop-store-preserved : goal.loop-store-preserved
loop-store-preserved g c = record {
  shared = rest_are (λ store keeper notes. IsSharedStore g.K.Keeper.TELLS g.J.Sharing.making g.J.Logs.log (locked store (g.K.Keeper.state keeper).told notes))
      c.loop-store.stores.items c.pop.new.self.items c.loop-store.keepers.items c.take_last-keeper.new.all.items c.loop-store.noted.items
      c.take_last-notes.new.all.items c.in-Some.store c.take_last-keeper.result c.take_last-notes.result c.loop-store.invariant.shared
      c.in-Some.ensures.items c.take_last-keeper.ensures.items c.take_last-notes.ensures.items;
  room = (
      let room = c.loop-store.invariant.room in
      let len = c.put_last.ensures.len in
      let kept = c.put_last.ensures.room in
      omega (arith, room, len, kept, ap length c.in-Some.ensures.items, length-append c.pop.new.self.items (c.in-Some.store ∷ [])));
  many = (
      let many = c.loop-store.invariant.many in
      let len = c.put_last.ensures.len in
      omega (arith, many, len, ap length c.in-Some.ensures.items, length-append c.pop.new.self.items (c.in-Some.store ∷ [])));
}

pub returns : goal.returns
returns g c = record {
  many = (
      let many = c.loop-store.invariant.many in
      omega (arith, many, c.in_default.ensures.cases.0, c.loop-store.stores.ok.0));
}
