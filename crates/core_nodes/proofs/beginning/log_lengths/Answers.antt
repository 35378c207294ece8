use Rattle.std.proofs.Common.{◌<◌, length, slice_set, ap, subst, sym, ◌∙◌, arith}
use Rattle.std.proofs.lemmas.List.{set-get_or}
use Rattle.std.proofs.lemmas.Result.{err_from_is_err_and}
use Rattle.std.specs.Prelude.{slice_index_or}
use Rattle.shard_tables.specs.StoreView.{Store}
use Rattle.core_nodes.proofs.BeginLemmas.{all_lengths, lengths_next, measured, seen_read, shard_read}
use Rattle.core_nodes.proofs.SettleLemmas.{stops_lengths}
use Rattle.core_nodes.proofs.StoreLemmas.{pushed, seen_stay}
use Rattle.core_nodes.specs.Settling.{StopsLengths}
use Rattle.core_nodes.proofs.beginning.log_lengths.Goals as goal

pub log_length-requires : goal.log_length-requires
log_length-requires g c =
    let state = g.K.Keeper.state in
    record {
      seen = seen_read g.K.Keeper.TELLS (state c.loop-place.keepers).told c.args.stores.now c.loop-place.stores c.loop-place.place
          c.index-stores-place.result
          (seen_stay g.K.Keeper.TELLS (state c.args.keepers.now).told (state c.loop-place.keepers).told c.args.stores.now c.requires.seen
          c.loop-place.invariant.stays) c.loop-place.invariant.same
          (let same = ap length c.loop-place.invariant.same in omega (arith, same));
    }

pub loop-place-preserved : goal.loop-place-preserved
loop-place-preserved g c =
    let state = g.K.Keeper.state in
    let store : Store = slice_index_or c.loop-place.stores c.loop-place.place c.index-stores-place.result in
    let within : c.loop-place.place < length c.loop-place.stores = (let same = ap length c.loop-place.invariant.same in omega (arith, same)) in
    let longer = pushed c.push.result c.is_err.result _ _ _ c.is_err.ensures.value c.if-is_err.false c.push.ensures.items in
    record {
      lengths = lengths_next g.K.Keeper.TELLS (state c.args.keepers.now).told c.args.stores.now c.loop-place.stores c.loop-place.lengths.items
          c.push.new.self.items c.loop-place.place c.in_ok-length.length c.index-stores-place.result c.loop-place.invariant.lengths
          c.loop-place.invariant.same within longer
          (λ told. c.in_ok-length.ensures.length told ∙ ap (λ t. length t.log) (c.loop-place.invariant.stays told store.name));
      same =
          ap (slice_set c.loop-place.stores c.loop-place.place) c.in_ok-length.ensures.same ∙
          (set-get_or c.loop-place.stores c.loop-place.place c.index-stores-place.result ∙ c.loop-place.invariant.same);
      stays = λ told at. c.in_ok-length.ensures.stays told at ∙ c.loop-place.invariant.stays told at;
      later = record { calls = omega arith; faults = omega arith };
    }

pub returns-in_err-length-clause-stop : goal.returns-in_err-length-clause-stop
returns-in_err-length-clause-stop g c =
    let state = g.K.Keeper.state in
    let store : Store = slice_index_or c.loop-place.stores c.loop-place.place c.index-stores-place.result in
    let here = shard_read c.args.config.now c.args.stores.now c.loop-place.stores c.loop-place.place c.index-stores-place.result c.requires.stores
    c.loop-place.invariant.same (let same = ap length c.loop-place.invariant.same in omega (arith, same)) in
    let stop = stops_lengths c.args.config.now (state c.args.keepers.now) (state c.loop-place.keepers) (state c.log_length.new.keepers) store.name.shard
    c.in_err-length.field-0.0 here c.loop-place.invariant.later c.in_err-length.ensures.stop in
    let p = err_from_is_err_and c.from_residual.result c.from_residual.ensures.1 in
    rw p.1 (subst (StopsLengths c.args.config.now (state c.args.keepers.now) (state c.log_length.new.keepers)) (sym p.2) stop)

pub returns-clause-lengths : goal.returns-clause-lengths
returns-clause-lengths g c =
    all_lengths g.K.Keeper.TELLS (g.K.Keeper.state c.args.keepers.now).told c.args.config.now c.args.stores.now c.loop-place.lengths.items
    c.loop-place.place c.requires.stores c.requires.seen (omega arith) (omega arith) c.loop-place.invariant.lengths

pub returns-clause-measured : goal.returns-clause-measured
returns-clause-measured g c =
    measured g.K.Keeper.TELLS (g.K.Keeper.state c.args.keepers.now).told c.args.config.now c.args.stores.now c.loop-place.lengths.items
    c.loop-place.place c.requires.stores c.requires.seen (omega arith) (omega arith) c.loop-place.invariant.lengths
