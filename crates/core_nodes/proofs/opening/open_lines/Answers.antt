use Rattle.std.proofs.Common.{◌≡◌, ℕ, subst, sym, arith}
use Rattle.std.specs.Prelude.{⊤}
use Rattle.std.proofs.lemmas.Result.{err_from_is_err_and}
use Rattle.core_model.specs.Stores.{store_count}
use Rattle.core_nodes.proofs.OpenLemmas.{opened_more, ready_more, refused_opening}
use Rattle.core_nodes.specs.Opening.{AreOpened, AreReady, RefusesOpening}
use Rattle.core_nodes.proofs.opening.open_lines.Goals as goal

pub returns-in_err-open_line-clause-refused : goal.returns-in_err-open_line-clause-refused
returns-in_err-open_line-clause-refused g c =
    let see = g.K.Keeper.state in
    let refused =
    refused_opening c.args.config.now c.args.line.now c.loop-place.place c.store_at.result c.store_at.ensures.here c.store_at.ensures.place ⊤
    g.K.Keeper.TELLS (see c.args.keepers.now) (see c.loop-place.keepers)
    (see c.open_line.new.keepers) c.in_err-open_line.field-0.0 (omega arith)
    c.loop-place.invariant.opened c.loop-place.invariant.ready c.loop-place.invariant.later c.in_err-open_line.ensures.opens
    c.in_err-open_line.ensures.cause in
    let p = err_from_is_err_and c.from_residual.result c.from_residual.ensures.1 in
    rw p.1 (subst (RefusesOpening g.K.Keeper.TELLS c.args.config.now c.args.line.now (see c.args.keepers.now) (see c.open_line.new.keepers))
    (sym p.2) refused)

pub loop-place-preserved : goal.loop-place-preserved
loop-place-preserved g c =
    record {
      opened = λ told.
          opened_more c.args.config.now c.args.line.now c.loop-place.place c.store_at.result c.store_at.ensures.here c.store_at.ensures.place
          (g.K.Keeper.state c.args.keepers.now).told
          (g.K.Keeper.state c.loop-place.keepers).told (g.K.Keeper.state c.open_line.new.keepers).told
          (c.loop-place.invariant.opened told) (c.in_ok-open_line.ensures.opens told).1;
      ready = λ told.
          ready_more c.args.config.now c.args.line.now c.loop-place.place c.store_at.result c.store_at.ensures.here c.store_at.ensures.place
          (g.K.Keeper.state c.args.keepers.now).told
          (g.K.Keeper.state c.loop-place.keepers).told
          (c.loop-place.invariant.opened told) (c.loop-place.invariant.ready told) (c.in_ok-open_line.ensures.opens told).0;
      later = record { calls = omega arith; faults = omega arith };
    }

pub returns-clause-opened : goal.returns-clause-opened
returns-clause-opened g c =
    let all : c.loop-place.place ≡ store_count c.args.config.now = omega arith in
    λ told. record {
      ready = subst (λ (n : ℕ). AreReady c.args.config.now c.args.line.now n (g.K.Keeper.state c.args.keepers.now).told) all
          (c.loop-place.invariant.ready told);
      opened = subst (λ (n : ℕ). AreOpened c.args.config.now c.args.line.now n (g.K.Keeper.state c.args.keepers.now).told
          (g.K.Keeper.state c.loop-place.keepers).told) all (c.loop-place.invariant.opened told);
    }
