use Rattle.std.proofs.Common.{◌∙◌, ap, subst, sym}
use Rattle.locked_nodes.specs.core_nodes.Opening.{MayOpen}
use Rattle.tao_keeper.specs.KeeperState.{KeeperState}
use Rattle.topology.specs.Config.{Settings}
use Rattle.cluster_opening.proofs.OpenedCluster.{begun_shown, opened_shown, refused_shown, shown_so}
use Rattle.cluster_opening.specs.Opening.{HaveTheirJobs}
use Rattle.cluster_opening.proofs.opening.open_placed.Goals as goal

pub open_over-opened-requires : goal.open_over-opened-requires
open_over-opened-requires g c =
    let s = c.args.config.now in
    let shards = c.of-placed.ensures.shards ∙ ap (λ (n : Settings). n.shards) c.config.view_is in
    let same = shown_so g.K.Keeper.state c.of-placed.result.keepers s.shards 0 c.args.keepers.items shards c.of-placed.ensures.strays
    c.of-placed.ensures.kept in
    record {
      kept = λ told. subst (λ (k : KeeperState). MayOpen s c.args.line.now k.told) (sym same) (c.requires.kept told);
      jobs = λ told. subst (λ (k : KeeperState). HaveTheirJobs s k.told) (sym same) (c.requires.jobs told);
    }

pub returns-clause-opened : goal.returns-clause-opened
returns-clause-opened g c =
    let s = c.args.config.now in
    let after = c.open_over-opened.new.keepers in
    opened_shown g.K.Keeper.TELLS g.K.Keeper.state s after.keepers c.into_keepers.result.items c.open_over-opened.result (after.shards ∙ sym c.requires.shards)
    (sym c.into_keepers.ensures.kept) c.open_over-opened.ensures.opened

pub returns-clause-refused : goal.returns-clause-refused
returns-clause-refused g c =
    let s = c.args.config.now in
    let after = c.open_over-opened.new.keepers in
    let shards = c.of-placed.ensures.shards ∙ ap (λ (n : Settings). n.shards) c.config.view_is in
    let same = shown_so g.K.Keeper.state c.of-placed.result.keepers s.shards 0 c.args.keepers.items shards c.of-placed.ensures.strays
    c.of-placed.ensures.kept in
    refused_shown g.K.Keeper.TELLS g.K.Keeper.state s c.args.line.now c.of-placed.result.keepers after.keepers c.args.keepers.items
    c.into_keepers.result.items c.open_over-opened.result same (after.shards ∙ sym c.requires.shards) (sym c.into_keepers.ensures.kept)
    c.open_over-opened.ensures.refused

pub returns-clause-begun : goal.returns-clause-begun
returns-clause-begun g c =
    let s = c.args.config.now in
    let after = c.open_over-opened.new.keepers in
    let shards = c.of-placed.ensures.shards ∙ ap (λ (n : Settings). n.shards) c.config.view_is in
    let same = shown_so g.K.Keeper.state c.of-placed.result.keepers s.shards 0 c.args.keepers.items shards c.of-placed.ensures.strays
    c.of-placed.ensures.kept in
    begun_shown g.K.Keeper.TELLS g.K.Keeper.state s c.args.line.now c.of-placed.result.keepers after.keepers c.args.keepers.items
    c.into_keepers.result.items c.open_over-opened.result same (after.shards ∙ sym c.requires.shards) (sym c.into_keepers.ensures.kept)
    c.open_over-opened.ensures.begun
