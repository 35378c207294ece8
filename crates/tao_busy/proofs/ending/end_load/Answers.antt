use Rattle.std.proofs.Common.{ap, length, refl, subst, sym, ◌∙◌}
use Rattle.graph_model.specs.Told.{WhereTold}
use Rattle.keepers.specs.Shown.{told_in}
use Rattle.tao_busy.proofs.Ends.{settled_so, stuck_so}
use Rattle.tao_busy.specs.Load.{OwesToFullLog, SaysCame}
use Rattle.tao_busy.proofs.ending.end_load.Goals as goal

pub end_settled-requires-clause-settled : goal.end_settled-requires-clause-settled
end_settled-requires-clause-settled g c κs within = λ told.
    let left = c.settle-said.new.self in
    let said = subst (SaysCame c.settle-said.result) c.in-Settled.is c.came_of-came.ensures in
    settled_so g.M.Keeper.TELLS g.M.Keeper.state g.J.Sharing.making.settings c.args.closed.unlocked.fleet left.unlocked.fleet c.args.closed.keepers.items
    left.keepers.items _ _ c.settle-said.result said.0 said.1 c.settle-said.ensures.does told

pub stuck-requires : goal.stuck-requires
stuck-requires g c =
    let left = c.settle-said.new.self in
    let said = subst (SaysCame c.settle-said.result) c.in-Stuck.is c.came_of-came.ensures in
    (stuck_so g.M.Keeper.TELLS g.M.Keeper.state g.J.Sharing.making.settings c.args.closed.unlocked.fleet left.unlocked.fleet c.args.closed.keepers.items
    left.keepers.items _ _ c.settle-said.result c.in-Stuck.shard c.in-Stuck.why refl refl said c.settle-said.ensures.does).no_link

pub returns-in-Stuck : goal.returns-in-Stuck
returns-in-Stuck g c =
    let tells = g.M.Keeper.TELLS in
    let state = g.M.Keeper.state in
    let s = g.J.Sharing.making.settings in
    let left = c.settle-said.new.self in
    let said = subst (SaysCame c.settle-said.result) c.in-Stuck.is c.came_of-came.ensures in
    let at =
    stuck_so tells state s c.args.closed.unlocked.fleet left.unlocked.fleet c.args.closed.keepers.items left.keepers.items _ _ c.settle-said.result
    c.in-Stuck.shard c.in-Stuck.why refl refl said c.settle-said.ensures.does in
    record {
      ends = c.stuck.ensures s c.args.ran.requests.items (ap length c.keepers-in-Stuck.ensures ∙ c.settle-said.ensures.many ∙ c.requires.many) at.here
          (λ full. subst (λ ks. WhereTold tells (OwesToFullLog s (told_in state s.shards ks) c.in-Stuck.shard)) (sym c.keepers-in-Stuck.ensures)
          (at.full full));
    }
