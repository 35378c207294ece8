use Rattle.std.proofs.Common.{ap, ◌∙◌}
use Rattle.tao_busy.proofs.Loaded.{leaves_all, many_so, none_so, refuses_so}
use Rattle.tao_busy.specs.Load.{faults_in}
use Rattle.tao_busy.proofs.loading.load.Goals as goal

pub returns-in-Ok-clause-many : goal.returns-in-Ok-clause-many
returns-in-Ok-clause-many g c =
    many_so g.M.Keeper.TELLS g.M.Keeper.state c.args.asked.now c.in-Ok.opened.keepers.items c.faults_of-before.result c.load_opened.result
    c.load_opened.ensures.ends

pub returns-in-Ok-clause-leaves : goal.returns-in-Ok-clause-leaves
returns-in-Ok-clause-leaves g c =
    leaves_all g.M.Keeper.TELLS g.M.Keeper.state c.args.asked.now c.in-Ok.opened.keepers.items c.faults_of-before.result c.load_opened.result
    c.load_opened.ensures.ends

pub returns-in-Ok-clause-none : goal.returns-in-Ok-clause-none
returns-in-Ok-clause-none g c =
    none_so g.M.Keeper.TELLS g.M.Keeper.state c.args.asked.now c.in-Ok.opened.keepers.items c.faults_of-before.result c.args.keepers.items
    c.load_opened.result c.masters_are_regions.ensures c.in-Ok.ensures.begun c.load_opened.ensures.ends

pub returns-in-Ok-clause-refuses : goal.returns-in-Ok-clause-refuses
returns-in-Ok-clause-refuses g c =
    let state = g.M.Keeper.state in
    refuses_so g.M.Keeper.TELLS state c.args.asked.now c.in-Ok.opened.keepers.items c.faults_of-before.result c.args.keepers.items c.load_opened.result
    (c.faults_of-before.ensures ∙ ap (faults_in state) c.deref.ensures.value) c.in-Ok.ensures.many c.in-Ok.ensures.begun c.load_opened.ensures.ends
