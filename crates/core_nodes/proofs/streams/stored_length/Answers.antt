use Rattle.std.proofs.Common.{◌≡◌, IfOk, length, subst}
use Rattle.graph_model.specs.Told.{WhereTold}
use Rattle.tao_base.specs.declared.id.StoreName.{StoreName}
use Rattle.core_nodes.proofs.StoreLemmas.{put_back, read_store}
use Rattle.core_nodes.proofs.streams.stored_length.Goals as goal

pub length-requires : goal.length-requires
length-requires g c =
    let is = read_store g.K.Keeper.TELLS c.args.config.now (g.K.Keeper.state c.args.keepers.now).told c.args.stores.now c.requires.stores c.args.at
    c.store_place-place.result c.index-stores-place.result c.requires.here c.store_place-place.ensures in
    record { keeper = is.keeper }

pub returns : goal.returns
returns g c =
    let tables = (g.K.Keeper.state c.args.keepers.now).told in
    let is = read_store g.K.Keeper.TELLS c.args.config.now tables c.args.stores.now c.requires.stores c.args.at c.store_place-place.result
    c.index-stores-place.result c.requires.here c.store_place-place.ensures in
    record {
      length = subst (λ (at : StoreName). WhereTold g.K.Keeper.TELLS (IfOk c.length.result (λ count. count ≡ length (tables at).log))) is.found.name_is
          c.length.ensures.answer;
      few = c.length.ensures.few;
      same = put_back g.K.Keeper.TELLS c.args.config.now tables c.args.stores.now c.requires.stores c.args.at c.store_place-place.result
          c.index-stores-place.result c.length.new.self c.requires.here c.store_place-place.ensures c.length.ensures.same;
      refused = c.length.ensures.refused;
      tables = c.length.ensures.tables;
      calls = c.length.ensures.calls;
    }
