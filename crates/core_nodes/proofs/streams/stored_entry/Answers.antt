use Rattle.std.proofs.Common.{◌≡◌, IfOk, ap, subst, ◌∙◌}
use Rattle.graph_model.specs.Told.{WhereTold}
use Rattle.tao_base.specs.declared.id.StoreName.{StoreName}
use Rattle.tao_keeper.specs.Table.{live_entry}
use Rattle.topology.specs.Config.{Settings}
use Rattle.core_model.specs.Stores.{IsConfiguredStore, master_store, store_place}
use Rattle.core_nodes.proofs.StoreLemmas.{put_back, read_store}
use Rattle.core_nodes.proofs.streams.stored_entry.Goals as goal

pub entry-requires : goal.entry-requires
entry-requires g c =
    let s : Settings = c.args.config.now in
    let at = master_store s c.args.shard in
    let here : IsConfiguredStore s at = record { region = c.masters_are_regions.ensures c.args.shard; shard = c.requires.here } in
    let spot = c.store_place-place.ensures ∙ ap (store_place s) c.master_store.ensures in
    let is = read_store g.K.Keeper.TELLS s (g.K.Keeper.state c.args.keepers.now).told c.args.stores.now c.requires.stores at c.store_place-place.result
    c.index-stores-place.result here spot in
    record { keeper = is.keeper }

pub returns : goal.returns
returns g c =
    let s : Settings = c.args.config.now in
    let tables = (g.K.Keeper.state c.args.keepers.now).told in
    let at = master_store s c.args.shard in
    let here : IsConfiguredStore s at = record { region = c.masters_are_regions.ensures c.args.shard; shard = c.requires.here } in
    let spot = c.store_place-place.ensures ∙ ap (store_place s) c.master_store.ensures in
    let is = read_store g.K.Keeper.TELLS s tables c.args.stores.now c.requires.stores at c.store_place-place.result c.index-stores-place.result here spot in
    record {
      entry = subst (λ (n : StoreName). WhereTold g.K.Keeper.TELLS (IfOk c.entry.result (λ found. found ≡ live_entry (tables n) c.args.position)))
          is.found.name_is c.entry.ensures.answer;
      given = c.entry.ensures.given;
      same = put_back g.K.Keeper.TELLS s tables c.args.stores.now c.requires.stores at c.store_place-place.result c.index-stores-place.result
          c.entry.new.self here spot c.entry.ensures.same;
      refused = c.entry.ensures.refused;
      tables = c.entry.ensures.tables;
      calls = c.entry.ensures.calls;
    }
