use Rattle.std.proofs.Common.{Some, ap, subst, sym, ◌∙◌}
use Rattle.std.proofs.lemmas.List.Elements.{All-pop}
use Rattle.keepers.specs.Shown.{told_in}
use Rattle.load_audit.specs.Audits.{logs_in}
use Rattle.load_shares.specs.Seen.{AllBegin, BeginLogs}
use Rattle.shared_tiers.specs.locked_nodes.Passes.{IsPassOf}
use Rattle.tao_busy.proofs.Meets.{begin_last}
use Rattle.tao_busy.proofs.meeting.meet_passes.Goals as goal

pub passes-preserved : goal.passes-preserved
passes-preserved g c =
    let m = g.J.Sharing.making in
    let state = g.K.Keeper.state in
    let logs = logs_in m.settings (told_in state m.settings.shards c.args.closed.now.keepers.items) in
    record {
      begin = λ told all. c.passes.invariant.begin told (subst (AllBegin logs) (sym c.in-Some.ensures.items)
          (begin_last logs c.pop.new.self.items c.in-Some.pass
          (subst (λ ks. BeginLogs (logs_in m.settings (told_in state m.settings.shards ks)) c.in-Some.pass.notes)
          (ap (λ v. v.items) c.passes.invariant.keepers) (c.in_ok-meet_pass.ensures.begins told)) all));
      each = (All-pop (IsPassOf m g.J.Logs.log) c.passes.left.items c.pop.new.self.items (Some c.in-Some.pass) c.in-Some.ensures.items
          c.passes.invariant.each).0;
      unlocked = c.meet_pass.ensures.unlocked ∙ c.passes.invariant.unlocked;
      keepers = c.meet_pass.ensures.keepers ∙ c.passes.invariant.keepers;
    }
