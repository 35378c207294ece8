use Rattle.std.proofs.Common.{ap, arith, ◌∙◌, refl, subst, sym}
use Rattle.tao_base.specs.Queries.{query_shard}
use Rattle.core_model.specs.Fleet.{Fleet, region_of}
use Rattle.core_model.specs.Reads.{wanted}
use Rattle.core_model.specs.Stores.{AreStoresOf}
use Rattle.core_nodes.proofs.AskLemmas.{asked_leader, lent_log}
use Rattle.core_nodes.proofs.LentLemmas.{ask_lent}
use Rattle.core_nodes.proofs.ViewLemmas.{LendsBoth, both_back, both_rest}
use Rattle.std.proofs.lemmas.Result.{on_err_weaker}
use Rattle.core_nodes.proofs.fleet.Fleet.ask.Goals as goal

pub ask_at-requires-clause-logs : goal.ask_at-requires-clause-logs
ask_at-requires-clause-logs g c =
    let own = c.deref_mut.ensures.value ∙ ap (λ (f : Fleet). f.leaders) c.self.view_is in
    let stores = c.deref_mut-2.ensures.value ∙ ap (λ (f : Fleet). f.stores) c.self.view_is in
    lent_log c.args.config.now c.args.self.now (region_of c.args.leader) (query_shard c.args.read.now.query.now) c.args.leader c.deref_mut.result.now
    c.deref_mut-2.result.now
    own stores c.requires.consistent.fleet c.requires.consistent.stores.configured c.requires.consistent.stores.follow c.requires.leader

pub ask_at-requires-clause-stores : goal.ask_at-requires-clause-stores
ask_at-requires-clause-stores g c =
    let own = c.deref_mut-2.ensures.value ∙ ap (λ (f : Fleet). f.stores) c.self.view_is in
    subst (AreStoresOf g.K.Keeper.TELLS c.args.config.now (g.K.Keeper.state c.args.keepers.now).told) (sym own) c.requires.consistent.stores

pub returns : goal.returns
returns g c =
    let state = g.K.Keeper.state in
    let given = c.ask_at.ensures in
    let own = c.deref_mut.ensures.value ∙ ap (λ (f : Fleet). f.leaders) c.self.view_is in
    let stores = c.deref_mut-2.ensures.value ∙ ap (λ (f : Fleet). f.stores) c.self.view_is in
    let lends : LendsBoth c.self.inside c.args.self.now c.deref_mut.result.now c.ask_at.new.leaders c.deref_mut-2.result.now c.ask_at.new.stores =
    record { leaders = record { view = c.self.view_is; own = own; long = omega arith }; own = stores; long = omega arith; is = given.same } in
    let done =
    ask_lent g.K.Keeper.TELLS c.args.config.now c.args.config.now.schema (asked_leader c.args.leader (region_of c.args.leader))
    (wanted c.args.read.now.query.now c.args.read.now.floor) (state c.args.keepers.now) (state c.ask_at.new.keepers) c.self.inside c.args.self.now
    c.deref_mut.result.now c.ask_at.new.leaders c.deref_mut-2.result.now c.ask_at.new.stores c.ask_at.result lends refl
    c.requires.consistent given.given given.legal given.err given.tables in
    record {
      answers = done.answers;
      rest = both_rest c.self.inside c.args.self.now c.deref_mut.result.now c.ask_at.new.leaders c.deref_mut-2.result.now c.ask_at.new.stores lends;
      err = on_err_weaker c.ask_at.result
          (both_back c.self.inside c.args.self.now c.deref_mut.result.now c.ask_at.new.leaders c.deref_mut-2.result.now c.ask_at.new.stores lends)
          given.err;
      consistent = done.consistent;
      goes = done.goes;
      given = done.given;
      refused = given.refused;
      tables = given.tables;
      logs = given.logs;
      calls = given.calls;
    }
