use Rattle.std.proofs.Common.{sym, subst}
use Rattle.core_model.specs.Stores.{HaveSeen}
use Rattle.core_nodes.proofs.opening.fleet_before.Goals as goal

pub begin-requires-clause-seen : goal.begin-requires-clause-seen
begin-requires-clause-seen g c = subst (HaveSeen g.K.Keeper.TELLS (g.K.Keeper.state c.args.keepers.now).told) (sym c.deref_mut.ensures.value) c.requires.seen
