use Rattle.std.proofs.Common.{subst, sym, ◌∙◌}
use Rattle.core_model.specs.Stores.{AreStoresOf}
use Rattle.core_nodes.specs.Beginning.{MayStand}
use Rattle.core_nodes.specs.Outside.{outside}
use Rattle.unlocked_nodes.proofs.MetNodes.{back_as}
use Rattle.unlocked_nodes.proofs.MovedStores.{moves_after, moves_none, stand_stays, stores_stay}
use Rattle.unlocked_nodes.proofs.moving.move_all.Goals as goal

pub move_with-requires-clause-stores : goal.move_with-requires-clause-stores
move_with-requires-clause-stores g c =
    let tells = g.K.Keeper.TELLS in
    let s = c.args.around.now.config.now in
    let told = (g.K.Keeper.state c.stand_ins.new.keepers).told in
    subst (AreStoresOf tells s told) (sym (back_as c.args.stores c.stand_ins.new.stores _ c.in-Ok.ensures.same c.as_mut_slice.ensures.value
    c.as_mut_slice.ensures.len)) (stores_stay tells s (g.K.Keeper.state c.args.keepers.now).told told c.args.stores.items c.in-Ok.ensures.stays c.requires.stores)

pub move_with-requires-clause-stand : goal.move_with-requires-clause-stand
move_with-requires-clause-stand g c =
    let tells = g.K.Keeper.TELLS in
    let s = c.args.around.now.config.now in
    let told = (g.K.Keeper.state c.stand_ins.new.keepers).told in
    subst (λ xs. MayStand tells s told xs c.in-Ok.ins.caches.leaders.items c.in-Ok.ins.caches.followers.items)
    (c.as_mut_slice.ensures.value ∙ sym (back_as c.args.stores c.stand_ins.new.stores _ c.in-Ok.ensures.same c.as_mut_slice.ensures.value c.as_mut_slice.ensures.len))
    (stand_stays tells s (g.K.Keeper.state c.args.keepers.now).told told _ _ _ c.in-Ok.ensures.stays c.in-Ok.ensures.stand)

pub returns-in-Ok-clause-moves : goal.returns-in-Ok-clause-moves
returns-in-Ok-clause-moves g c =
    moves_after g.K.Keeper.TELLS c.args.around.now.config.now c.args.stores.items _ _ (g.K.Keeper.state c.args.keepers.now)
    (g.K.Keeper.state c.stand_ins.new.keepers) (g.L.Link.shown c.args.link.now) (outside (g.K.Keeper.state c.move_with.new.keepers) (g.L.Link.shown c.move_with.new.link))
    (back_as c.args.stores c.stand_ins.new.stores _ c.in-Ok.ensures.same c.as_mut_slice.ensures.value c.as_mut_slice.ensures.len)
    c.in-Ok.ensures.stays c.in-Ok.ensures.later c.move_with.ensures.moves

pub returns-in-Err-clause-moves : goal.returns-in-Err-clause-moves
returns-in-Err-clause-moves g c =
    moves_none g.K.Keeper.TELLS c.args.around.now.config.now c.args.stores.items _ (g.K.Keeper.state c.args.keepers.now)
    (g.K.Keeper.state c.stand_ins.new.keepers) (g.L.Link.shown c.args.link.now)
    (back_as c.args.stores c.stand_ins.new.stores _ c.in-Err.ensures.same c.as_mut_slice.ensures.value c.as_mut_slice.ensures.len) c.requires.stores
    c.in-Err.ensures.stays c.in-Err.ensures.later
