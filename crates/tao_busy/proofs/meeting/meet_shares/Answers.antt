use Rattle.std.proofs.Common.{◌≡◌, Some, ap, arith, false, length, rules, subst, ◌∙◌}
use Rattle.std.proofs.lemmas.List.Elements.{All-pop}
use Rattle.graph_model.specs.Told.{WhereTold}
use Rattle.keepers.specs.Shown.{told_in}
use Rattle.load_audit.specs.Audits.{logs_in}
use Rattle.load_shares.specs.Seen.{AllBegin}
use Rattle.load_shares.specs.Turns.{missing_of_first}
use Rattle.shared_tiers.specs.locked_nodes.Cluster.{on_cluster}
use Rattle.tao_busy.proofs.Meets.{Covers, covered, front_shares, last_share, next_share, none_more}
use Rattle.tao_busy.proofs.meeting.meet_shares.Goals as goal

pub meet_passes-requires-clause-passes : goal.meet_passes-requires-clause-passes
meet_passes-requires-clause-passes g c =
    (last_share (on_cluster g.K.Keeper.TELLS g.K.Keeper.state g.J.Sharing.making g.J.Logs.log) (length c.args.shares.items) c.args.requests.now
    c.shares.left.items c.pop.new.self.items c.in-Some.share c.in-Some.ensures.items c.shares.invariant.each).passes

pub shares-preserved : goal.shares-preserved
shares-preserved g c =
    let m = g.J.Sharing.making in
    let state = g.K.Keeper.state in
    let on = on_cluster g.K.Keeper.TELLS state m g.J.Logs.log in
    let threads = length c.args.shares.items in
    let requests = c.args.requests.now in
    let logs = logs_in m.settings (told_in state m.settings.shards c.args.closed.now.keepers.items) in
    let well =
    All-pop (λ share. share.tally.short ≡ false) c.shares.left.items c.pop.new.self.items (Some c.in-Some.share) c.in-Some.ensures.items
    c.shares.invariant.well in
    let share =
    last_share on threads requests c.shares.left.items c.pop.new.self.items c.in-Some.share c.in-Some.ensures.items c.shares.invariant.each in
    let begun : WhereTold g.K.Keeper.TELLS (AllBegin logs c.in-Some.share.passes.items) =
    λ told. subst (λ ks. AllBegin (logs_in m.settings (told_in state m.settings.shards ks)) c.in-Some.share.passes.items)
    (ap (λ v. v.items) c.shares.invariant.keepers) (c.in_ok-meet_passes.ensures.begin told) in
    record {
      counts = λ told. next_share on threads requests c.shares.left.items c.pop.new.self.items c.in-Some.share c.in-Some.ensures.items
          c.shares.invariant.each logs (missing_of_first logs threads requests threads) c.shares.refused c.saturating_add-refused.result
          (c.shares.invariant.counts told)
          (share.few well.1 told logs (begun told)) c.saturating_add-refused.ensures;
      none = λ told way. none_more c.shares.refused c.in-Some.share.tally.refused c.saturating_add-refused.result (c.shares.invariant.none told way)
          (share.none told logs (begun told) way well.1) c.saturating_add-refused.ensures;
      each = front_shares on threads requests c.shares.left.items c.pop.new.self.items c.in-Some.share c.in-Some.ensures.items c.shares.invariant.each;
      well = well.0;
      unlocked = c.meet_passes.ensures.unlocked ∙ c.shares.invariant.unlocked;
      keepers = c.meet_passes.ensures.keepers ∙ c.shares.invariant.keepers;
    }

pub returns-clause-few : goal.returns-clause-few
returns-clause-few g c = λ told.
    let m = g.J.Sharing.making in
    let threads = length c.args.shares.items in
    let logs = logs_in m.settings (told_in g.K.Keeper.state m.settings.shards c.args.closed.now.keepers.items) in
    let none : length c.shares.left.items ≡ 0 = omega (arith, c.in_default.ensures.cases.0) in
    covered logs threads c.shares.refused c.args.requests.now c.requires.some (search rules)
    (subst (λ n. Covers (missing_of_first logs threads c.args.requests.now threads) c.shares.refused (missing_of_first logs threads c.args.requests.now n)) none
    (c.shares.invariant.counts told))

pub returns-clause-none : goal.returns-clause-none
returns-clause-none g c = λ told way. c.shares.invariant.none told way
