use Rattle.std.proofs.Common.{[], ap, subst, sym}
use Rattle.std.specs.Prelude.{All}
use Rattle.std.proofs.lemmas.List.Elements.{All-from_recursion}
use Rattle.core_mail.proofs.Arrivals.{arrived_stay}
use Rattle.core_model.specs.Pens.{pens_of}
use Rattle.topology.specs.States.{NodeStates}
use Rattle.tao_core.specs.Core.{IsSessionOf}
use Rattle.tao_core.proofs.HeldNone.{no_plan, none_held}
use Rattle.tao_core.proofs.OpenedLemmas.{opened_as, opened_past, refused_as}
use Rattle.tao_core.proofs.serving.Core.open.Goals as goal

pub returns-in-Ok-open-clause-keepers : goal.returns-in-Ok-open-clause-keepers
returns-in-Ok-open-clause-keepers g c =
    let s = c.args.config.now in
    let tables = (g.K.Keeper.state c.open.new.keepers).told in
    record {
      is_consistent = record {
        masters = c.masters_are_regions.ensures;
        consistent = c.in_ok-fleet.ensures.consistent;
        states = record {
          regions = ap (λ (n : NodeStates). n.regions) c.in-Ok.ensures.made;
          masters = ap (λ (n : NodeStates). n.masters) c.in-Ok.ensures.made;
        };
        mail = c.in-Ok-open.ensures.of (pens_of c.in_ok-fleet.fleet.stores);
        arrived = λ told. (arrived_stay tables).empty c.in-Ok-open.mail c.in-Ok-open.ensures.empty;
        sessions = subst (All (IsSessionOf g.K.Keeper.TELLS s tables (pens_of c.in_ok-fleet.fleet.stores))) (sym c.new.ensures)
            (All-from_recursion (IsSessionOf g.K.Keeper.TELLS s tables (pens_of c.in_ok-fleet.fleet.stores)) [] tt);
      };
      past = opened_past g.K.Keeper.TELLS s tables c.in_ok-fleet.fleet c.in_ok-fleet.ensures.consistent c.in_ok-fleet.ensures.ends;
      authors = λ number plan at. absurd (no_plan c.new-in-Ok-open.result number plan c.new-in-Ok-open.ensures.none at);
      plans = none_held g.K.Keeper.TELLS s _ c.in_ok-fleet.fleet c.new-in-Ok-open.result c.new-in-Ok-open.ensures.none c.in_ok-fleet.ensures.empty;
    }

pub returns-in-Ok-open-clause-as_before : goal.returns-in-Ok-open-clause-as_before
returns-in-Ok-open-clause-as_before g c =
    opened_as g.K.Keeper.TELLS c.args.config.now c.args.line.now (g.K.Keeper.state c.args.keepers.now).told (g.K.Keeper.state c.open.new.keepers).told
    c.in_ok-fleet.ensures.opened

pub returns-in_default-clause-as_before : goal.returns-in_default-clause-as_before
returns-in_default-clause-as_before g c =
    opened_as g.K.Keeper.TELLS c.args.config.now c.args.line.now (g.K.Keeper.state c.args.keepers.now).told (g.K.Keeper.state c.open.new.keepers).told
    c.in_ok-fleet.ensures.opened

pub returns-in-Err-clause-as_before : goal.returns-in-Err-clause-as_before
returns-in-Err-clause-as_before g c =
    opened_as g.K.Keeper.TELLS c.args.config.now c.args.line.now (g.K.Keeper.state c.args.keepers.now).told (g.K.Keeper.state c.open.new.keepers).told
    c.in_ok-fleet.ensures.opened

pub returns-in_err-fleet-clause-as_before : goal.returns-in_err-fleet-clause-as_before
returns-in_err-fleet-clause-as_before g c =
    refused_as g.K.Keeper.TELLS c.args.config.now c.args.line.now (g.K.Keeper.state c.args.keepers.now) (g.K.Keeper.state c.open.new.keepers) _
    c.in_err-fleet.ensures.refused
