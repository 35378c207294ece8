use Rattle.std.proofs.Common.{subst}
use Rattle.tao_base.specs.EdgeTypes.{InversesMatch}
use Rattle.tao_schema.specs.Schema.{types_of}
use Rattle.topology.specs.Config.{Settings}
use Rattle.unlocked_nodes.proofs.MetNodes.{back_as, lent_as, met_or_not, of_cluster}
use Rattle.unlocked_nodes.specs.Unlocked.{fleet_of, notes_of}
use Rattle.unlocked_nodes.proofs.looking.look_through.Goals as goal

pub meet_all-met-requires-clause-cluster : goal.meet_all-met-requires-clause-cluster
meet_all-met-requires-clause-cluster g c =
    of_cluster g.K.Keeper.TELLS g.J.Sharing.making g.J.Logs.log (g.K.Keeper.state c.args.keepers.now).told (fleet_of c.args.parts.now) _
    (notes_of c.args.noted.now) (lent_as c.as_mut_slice.ensures.value c.as_mut_slice-2.ensures.value c.as_mut_slice-3.ensures.value) c.requires.unlocked

pub returns-in-Ok-clause-met : goal.returns-in-Ok-clause-met
returns-in-Ok-clause-met g c =
    met_or_not g.K.Keeper.TELLS c.args.around.now.config.now g.J.Sharing.making g.J.Logs.log (g.K.Keeper.state c.args.keepers.now).told
    (g.K.Keeper.state c.look_at_tables.new.keepers).told (fleet_of c.args.parts.now) _ _ (notes_of c.args.noted.now) c.look_at_tables.result c.requires.made
    (lent_as c.as_mut_slice.ensures.value c.as_mut_slice-2.ensures.value c.as_mut_slice-3.ensures.value)
    (lent_as (back_as c.args.parts.now.leaders c.meet_all-met.new.leaders _ c.in-Ok.ensures.leaders c.as_mut_slice.ensures.value c.as_mut_slice.ensures.len)
    (back_as c.args.parts.now.followers c.meet_all-met.new.followers _ c.in-Ok.ensures.followers c.as_mut_slice-2.ensures.value c.as_mut_slice-2.ensures.len)
    (back_as c.args.parts.now.stores c.meet_all-met.new.stores _ c.in-Ok.ensures.stores c.as_mut_slice-3.ensures.value c.as_mut_slice-3.ensures.len))
    c.requires.unlocked c.in-Ok.ensures.met
    c.masters_are_regions.ensures c.look_at_tables.ensures.fit c.locks_cover.ensures
    (subst (λ (n : Settings). InversesMatch (types_of n.schema)) c.config.view_is c.inverses_match.ensures) c.look_at_tables.ensures.stays
