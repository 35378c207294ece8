use Rattle.std.proofs.Common.{[], ◌∷◌, ◌≡◌, IfOk, subst}
use Rattle.graph_model.specs.Told.{WhereTold}
use Rattle.log_trim.specs.Trimming.{cut_by}
use Rattle.tao_base.specs.declared.id.StoreName.{StoreName}
use Rattle.tao_keeper.specs.Table.{Changes, after_cut}
use Rattle.core_nodes.proofs.StoreLemmas.{put_back, read_store}
use Rattle.core_nodes.proofs.trimming.cut_at.Goals as goal

pub trim-requires : goal.trim-requires
trim-requires g c =
    let is = read_store g.K.Keeper.TELLS c.args.config.now (g.K.Keeper.state c.args.keepers.now).told c.args.stores.now c.requires.stores c.args.at
    c.store_place-place.result c.index-stores-place.result c.requires.here c.store_place-place.ensures in
    record { keeper = is.keeper }

pub returns : goal.returns
returns g c =
    let tells = g.K.Keeper.TELLS in
    let old = (g.K.Keeper.state c.args.keepers.now).told in
    let new = (g.K.Keeper.state c.trim.new.keeper).told in
    let given = c.trim.ensures in
    let is = read_store tells c.args.config.now old c.args.stores.now c.requires.stores c.args.at c.store_place-place.result c.index-stores-place.result
    c.requires.here c.store_place-place.ensures in
    let named = is.found.name_is in
    record {
      cut = subst (λ (n : StoreName). WhereTold tells (IfOk c.trim.result (λ cut. cut ≡ cut_by (old n) (c.args.position ∷ [])))) named given.cut;
      changes = subst (λ (n : StoreName). WhereTold tells (Changes c.trim.result old new n (after_cut (old n) (cut_by (old n) (c.args.position ∷ [])))))
          named given.tables;
      logs = given.logs;
      same = put_back tells c.args.config.now old c.args.stores.now c.requires.stores c.args.at c.store_place-place.result c.index-stores-place.result
          c.trim.new.store c.requires.here c.store_place-place.ensures given.same;
      refused = given.refused;
      calls = given.calls;
    }
