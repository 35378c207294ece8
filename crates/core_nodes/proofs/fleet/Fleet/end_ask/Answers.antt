use Rattle.std.proofs.Common.{ap, arith, ◌∙◌}
use Rattle.core_model.specs.Fleet.{Fleet}
use Rattle.core_nodes.proofs.LentLemmas.{end_lent}
use Rattle.core_nodes.proofs.ViewLemmas.{LendsFollowers, followers_rest}
use Rattle.core_nodes.proofs.fleet.Fleet.end_ask.Goals as goal

pub returns : goal.returns
returns c =
    let own = c.deref_mut.ensures.value ∙ ap (λ (f : Fleet). f.followers) c.self.view_is in
    let lends : LendsFollowers c.self.inside c.args.self.now c.deref_mut.result.now c.end_at.new.followers =
    record { view = c.self.view_is; own = own; long = omega arith } in
    let done =
    end_lent c.args.config.now c.args.follower c.args.ask c.self.inside c.args.self.now c.deref_mut.result.now c.end_at.new.followers lends
    c.requires.fleet c.end_at.ensures in
    record {
      ends = done.ends;
      rest = followers_rest c.self.inside c.args.self.now c.deref_mut.result.now c.end_at.new.followers lends;
      fleet = done.step.fleet;
      goes = done.step.goes;
    }
