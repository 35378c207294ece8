use Rattle.std.proofs.Common.{Some, ap, sym, ◌∙◌}
use Rattle.core_model.specs.Asked.{lent_job}
use Rattle.core_model.specs.Jobs.{far_shard}
use Rattle.core_steps.specs.OtherEnds.{job_way, master_leader, sent_job}
use Rattle.core_steps.specs.World.{world}
use Rattle.core_steps.proofs.LinkLemmas.{back_on, crossed_on, link_trans, not_crossed_on}
use Rattle.core_steps.proofs.MergeLemmas.{merges_along, merges_by}
use Rattle.core_steps.proofs.NotifyLemmas.{chosen_leads}
use Rattle.core_steps.proofs.PostsLemmas.{posts_carried, posts_none}
use Rattle.core_steps.proofs.nodes.Nodes.merge_over.Goals as goal

pub returns-in_default-clause-on : goal.returns-in_default-clause-on
returns-in_default-clause-on g c =
    posts_none g.K.Keeper.TELLS c.args.config.now
    (world c.args.self.now (g.K.Keeper.state c.args.keepers.now) (g.L.Link.shown c.args.link.now)) c.requires.ready

pub returns-in-Err-clause-on : goal.returns-in-Err-clause-on
returns-in-Err-clause-on g c =
    let before = g.L.Link.shown c.args.link.now in
    let there = g.L.Link.shown c.carry_between.new.link in
    posts_carried g.K.Keeper.TELLS c.args.config.now c.args.self.now (g.K.Keeper.state c.args.keepers.now) before there c.requires.ready
    (not_crossed_on c.args.sender.leader c.in-Some.merging before there c.in-Err.ensures.fails)

pub merge_at-merged-requires-clause-leader : goal.merge_at-merged-requires-clause-leader
merge_at-merged-requires-clause-leader g c =
    let s = c.args.config.now in
    let states = c.args.self.now.topology in
    let by = c.args.sender.by in
    let chosen = c.in-Some.ensures ∙ ap (master_leader s states by) c.far_shard.ensures in
    (chosen_leads s states by (far_shard c.args.job.now.job.now) c.in-Some.merging c.requires.ready.states (sym chosen)).leads

pub returns-clause-on : goal.returns-clause-on
returns-clause-on g c =
    let shown = g.L.Link.shown in
    let before = shown c.args.link.now in
    let there = shown c.carry_between.new.link in
    let after = shown c.carry_between-back.new.link in
    let leader = c.args.sender.leader in
    let merging = c.in-Some.merging in
    c.merge_at-merged.ensures.on before after
    (link_trans before there after (crossed_on leader merging before there c.in_default-carry_between.ensures.crosses)
    (back_on merging leader there after c.carry_between-back.result c.carry_between-back.ensures.crosses c.carry_between-back.ensures.fails))

pub returns-clause-merges : goal.returns-clause-merges
returns-clause-merges g c =
    let tells = g.K.Keeper.TELLS in
    let state = g.K.Keeper.state in
    let shown = g.L.Link.shown in
    let s = c.args.config.now in
    let sent = sent_job c.args.sender (lent_job c.args.job.now) in
    let merging = c.in-Some.merging in
    let merged = c.merge_at-merged in
    let back = c.carry_between-back in
    let before = shown c.args.link.now in
    let after = shown back.new.link in
    let old = world c.args.self.now (state c.args.keepers.now) before in
    let new = world merged.new.self (state merged.new.keepers) after in
    let chosen = c.in-Some.ensures ∙ ap (master_leader s c.args.self.now.topology c.args.sender.by) c.far_shard.ensures in
    merges_by tells s sent (Some merging) c.merge_answer.result old new chosen
    (merges_along tells s (job_way sent merging) old new (shown c.carry_between.new.link) c.in_default-carry_between.ensures.crosses
    c.merge_answer.result merged.result back.result c.merge_answer.ensures (merged.ensures.takes c.args.sender before after)
    merged.ensures.refused (merged.ensures.rests before after) back.ensures.crosses back.ensures.fails)
