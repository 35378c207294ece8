use Rattle.std.proofs.Common.{◌<◌, IfSome, Ok, refl, sym, subst, ◌∙◌}
use Rattle.std.proofs.lemmas.Result.{err_from_is_err_and}
use Rattle.core_model.specs.Consistent.{IsConsistent}
use Rattle.core_model.specs.Pens.{pens_of}
use Rattle.core_steps.specs.World.{world, world_with}
use Rattle.core_repairs.specs.Repairs.{FindsFirst, FindsOpenJob, IsNotRepaired, OnlyAsks}
use Rattle.core_steps.proofs.PostsLemmas.{can_post_on, posts_trans}
use Rattle.replies.specs.declared.refusals.Refusal.TheVariants.{Memory}
use Rattle.shard_tables.specs.Written.{StandsIn}
use Rattle.topology.specs.Config.{Settings}
use Rattle.core_repairs.proofs.RepairLemmas.{leaves_rest, not_begun, not_run, posts_asked, posts_notified}
use Rattle.core_repairs.proofs.repairs.repair_first.Goals as goal

-- only the keepers were asked

pub returns-in_err-found-clause-on : goal.returns-in_err-found-clause-on
returns-in_err-found-clause-on g c =
    let state = g.K.Keeper.state in
    let finds = c.find_job.ensures in
    posts_asked g.K.Keeper.TELLS c.args.config.now c.args.nodes.now (state c.args.keepers.now) (state c.find_job.new.keepers) c.find_job.new.fleet
    (g.L.Link.shown c.args.link.now) c.requires.ready finds.same finds.tables finds.consistent finds.later

pub returns-in_default-clause-on : goal.returns-in_default-clause-on
returns-in_default-clause-on g c =
    let state = g.K.Keeper.state in
    let finds = c.find_job.ensures in
    posts_asked g.K.Keeper.TELLS c.args.config.now c.args.nodes.now (state c.args.keepers.now) (state c.find_job.new.keepers) c.find_job.new.fleet
    (g.L.Link.shown c.args.link.now) c.requires.ready finds.same finds.tables finds.consistent finds.later

pub returns-then-far-config-clause-on : goal.returns-then-far-config-clause-on
returns-then-far-config-clause-on g c =
    let state = g.K.Keeper.state in
    let finds = c.find_job.ensures in
    posts_asked g.K.Keeper.TELLS c.args.config.now c.args.nodes.now (state c.args.keepers.now) (state c.find_job.new.keepers) c.find_job.new.fleet
    (g.L.Link.shown c.args.link.now) c.requires.ready finds.same finds.tables finds.consistent finds.later

pub returns-in_err-note-clause-on : goal.returns-in_err-note-clause-on
returns-in_err-note-clause-on g c =
    let tells = g.K.Keeper.TELLS in
    let s = c.args.config.now in
    let was = c.args.nodes.now in
    let before = g.K.Keeper.state c.args.keepers.now in
    let found = g.K.Keeper.state c.find_job.new.keepers in
    let link = g.L.Link.shown c.args.link.now in
    let finds = c.find_job.ensures in
    let same = c.note_before.ensures.same in
    posts_asked tells s was before found c.note_before.new.fleet link c.requires.ready (same ∙ finds.same) finds.tables
    (subst (IsConsistent tells s found.told) (sym same) finds.consistent) finds.later

pub returns-in_err-found-clause-repairs : goal.returns-in_err-found-clause-repairs
returns-in_err-found-clause-repairs g c =
    let tells = g.K.Keeper.TELLS in
    let s = c.args.config.now in
    let was = c.args.nodes.now in
    let link = g.L.Link.shown c.args.link.now in
    let finds = c.find_job.ensures in
    let old = world was (g.K.Keeper.state c.args.keepers.now) link in
    let new = world_with c.find_job.new.fleet was.mail was.topology (g.K.Keeper.state c.find_job.new.keepers) link in
    let asks : OnlyAsks tells old new =
    record { nodes = record { fleet = finds.same; inboxes = refl; states = refl; tables = finds.tables }; link = refl } in
    let fails = not_begun tells s c.args.shard old new c.in_err-found.field-0.0 c.in_err-found.ensures.finds.0 asks in
    let p = err_from_is_err_and c.from_residual.result c.from_residual.ensures.1 in
    rw p.1 (subst (λ r. IsNotRepaired tells s c.args.shard r old new) (sym p.2) fails)

pub returns-in_err-note-clause-repairs : goal.returns-in_err-note-clause-repairs
returns-in_err-note-clause-repairs g c =
    let tells = g.K.Keeper.TELLS in
    let s = c.args.config.now in
    let was = c.args.nodes.now in
    let link = g.L.Link.shown c.args.link.now in
    let finds = c.find_job.ensures in
    let same = c.note_before.ensures.same ∙ finds.same in
    let old = world was (g.K.Keeper.state c.args.keepers.now) link in
    let new = world_with c.note_before.new.fleet was.mail was.topology (g.K.Keeper.state c.find_job.new.keepers) link in
    let asks : OnlyAsks tells old new =
    record { nodes = record { fleet = same; inboxes = refl; states = refl; tables = finds.tables }; link = refl } in
    let fails = not_begun tells s c.args.shard old new (Memory 0) refl asks in
    let p = err_from_is_err_and c.from_residual-in_err-note.result c.from_residual-in_err-note.ensures.1 in
    rw p.1 (subst (λ r. IsNotRepaired tells s c.args.shard r old new) (sym (p.2 ∙ c.in_err-note.ensures.refused)) fails)

-- the job was merged and ended, as far as that went

pub merge_and_end-requires-clause-ready : goal.merge_and_end-requires-clause-ready
merge_and_end-requires-clause-ready g c =
    let tells = g.K.Keeper.TELLS in
    let s = c.args.config.now in
    let was = c.args.nodes.now in
    let before = g.K.Keeper.state c.args.keepers.now in
    let found = g.K.Keeper.state c.find_job.new.keepers in
    let link = g.L.Link.shown c.args.link.now in
    let finds = c.find_job.ensures in
    let same = c.note_before.ensures.same in
    can_post_on tells s (world was before link) (world_with c.note_before.new.fleet was.mail was.topology found link) c.requires.ready
    (posts_asked tells s was before found c.note_before.new.fleet link c.requires.ready (same ∙ finds.same) finds.tables
    (subst (IsConsistent tells s found.told) (sym same) finds.consistent) finds.later)

pub returns-in-Err-clause-repairs : goal.returns-in-Err-clause-repairs
returns-in-Err-clause-repairs g c =
    let tells = g.K.Keeper.TELLS in
    let state = g.K.Keeper.state in
    let shown = g.L.Link.shown in
    let s = c.args.config.now in
    let was = c.args.nodes.now in
    let found = state c.find_job.new.keepers in
    let ran = c.merge_and_end in
    let old = world was (state c.args.keepers.now) (shown c.args.link.now) in
    let new = world ran.new.nodes (state ran.new.keepers) (shown ran.new.link) in
    let finds : FindsOpenJob tells s c.args.shard c.in-Some.job old.keepers found =
    subst (λ f. FindsFirst tells s c.args.shard (Ok f) old.keepers found) c.in-Some.is c.in_ok-found.ensures.finds in
    let rest = leaves_rest was ran.new.nodes c.note_before.new.fleet old.keepers new.keepers old.link new.link
    (c.note_before.ensures.same ∙ c.find_job.ensures.same) ran.ensures.rest in
    not_run tells s c.args.shard old new c.in-Some.job found finds rest c.in-Err.refusal c.refused_for.result c.faults-keeper_faults.result
    c.faults-link_faults.result c.refused_for.ensures c.faults-keeper_faults.ensures c.faults-link_faults.ensures c.in-Err.ensures.runs
    c.find_job.ensures.later

pub returns-in-Err-clause-on : goal.returns-in-Err-clause-on
returns-in-Err-clause-on g c =
    let tells = g.K.Keeper.TELLS in
    let s = c.args.config.now in
    let was = c.args.nodes.now in
    let before = g.K.Keeper.state c.args.keepers.now in
    let found = g.K.Keeper.state c.find_job.new.keepers in
    let link = g.L.Link.shown c.args.link.now in
    let finds = c.find_job.ensures in
    let same = c.note_before.ensures.same in
    let ran = c.merge_and_end in
    posts_trans tells s (world was before link) (world_with c.note_before.new.fleet was.mail was.topology found link)
    (world ran.new.nodes (g.K.Keeper.state ran.new.keepers) (g.L.Link.shown ran.new.link))
    (posts_asked tells s was before found c.note_before.new.fleet link c.requires.ready (same ∙ finds.same) finds.tables
    (subst (IsConsistent tells s found.told) (sym same) finds.consistent) finds.later) ran.ensures.on

pub returns-clause-on : goal.returns-clause-on
returns-clause-on g c =
    let tells = g.K.Keeper.TELLS in
    let s = c.args.config.now in
    let was = c.args.nodes.now in
    let before = g.K.Keeper.state c.args.keepers.now in
    let found = g.K.Keeper.state c.find_job.new.keepers in
    let link = g.L.Link.shown c.args.link.now in
    let finds = c.find_job.ensures in
    let same = c.note_before.ensures.same in
    let old = world was before link in
    let asked = world_with c.note_before.new.fleet was.mail was.topology found link in
    let ran = c.merge_and_end in
    let merged = world ran.new.nodes (g.K.Keeper.state ran.new.keepers) (g.L.Link.shown ran.new.link) in
    let new = world c.notify_of_repair.new.nodes merged.keepers merged.link in
    let on = posts_trans tells s old asked merged
    (posts_asked tells s was before found c.note_before.new.fleet link c.requires.ready (same ∙ finds.same) finds.tables
    (subst (IsConsistent tells s found.told) (sym same) finds.consistent) finds.later) ran.ensures.on in
    let far = c.far_shard-far.result in
    let wrote = c.in-Ok.wrote in
    let notifies = c.notify_of_repair.ensures in
    posts_trans tells s old merged new on
    (posts_notified tells s ran.new.nodes c.notify_of_repair.new.nodes merged.keepers merged.link far wrote (can_post_on tells s old merged c.requires.ready on)
    c.masters_are_regions.ensures (subst (λ (n : Settings). far < n.shards) c.config.view_is c.if-far-config.false)
    (subst (λ n. IfSome wrote (StandsIn (pens_of merged.fleet.stores n))) (sym c.far_shard-far.ensures) c.in-Ok.ensures.stands)
    notifies.notifies notifies.inboxes notifies.rest)
