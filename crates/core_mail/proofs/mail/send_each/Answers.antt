use Rattle.std.proofs.Common.{◌≡◌, ℕ, ◌+◌, ◌<◌, ◌≤◌, true, List, ap, sym, subst, ◌∙◌, arith}
use Rattle.maint_msg.specs.Inbox.{IsSent}
use Rattle.node_name.specs.declared.NodeName.{NodeName}
use Rattle.topology.specs.Choices.{serving_follower}
use Rattle.topology.specs.Counts.{NodeCounts, tier_count}
use Rattle.topology.specs.States.{is_up}
use Rattle.core_model.specs.Fleet.{ChangesNode, HasNode, node_names}
use Rattle.core_model.specs.Messages.{notified_of}
use Rattle.core_mail.specs.Inboxes.{entry_message}
use Rattle.core_mail.proofs.InboxLemmas.{names_kept}
use Rattle.core_mail.proofs.Notifying.{SendsRest, all_notified, one_down, one_notified, notified_from, notified_there}
use Rattle.core_mail.proofs.mail.send_each.Goals.{then-is_up, else-is_up}
use Rattle.core_mail.proofs.mail.send_each.Goals as goal

pub send_at-requires-clause-there : goal.send_at-requires-clause-there
send_at-requires-clause-there c =
    let states = c.args.topology.now in
    let called : c.serving_follower-follower.result ≡ serving_follower states.regions c.args.at.region c.loop-tier.tier c.args.at.shard =
    c.serving_follower-follower.ensures ∙ ap (λ (rs : List NodeCounts). serving_follower rs c.args.at.region c.loop-tier.tier c.args.at.shard)
    (sym c.requires.own) in
    subst (λ name. HasNode name c.loop-tier.inboxes) (sym called)
    (notified_there c.args.around.now.config.now states c.args.at.region c.loop-tier.tier c.args.at.shard c.loop-tier.inboxes c.requires.own
    c.loop-tier.invariant.names
    (subst (λ name. is_up states name ≡ true) called (sym c.is_up.ensures ∙ c.if-is_up.true)))

pub loop-tier-preserved : goal.loop-tier-preserved
loop-tier-preserved c =
    let states = c.args.topology.now in
    let tier = c.loop-tier.tier in
    let start = c.args.inboxes.now in
    let m = entry_message c.args.at.shard c.args.entry.now c.args.note.now in
    let name = c.serving_follower-follower.result in
    let all = notified_of states c.args.at.region c.args.at.shard in
    let left : ℕ → List NodeName = notified_from states c.args.at.region c.args.at.shard in
    let many : c.tier_count-tier-end.result ≡ tier_count states.regions c.args.at.region =
    c.tier_count-tier-end.ensures ∙ ap (λ (rs : List NodeCounts). tier_count rs c.args.at.region) (sym c.requires.own) in
    let within : tier < tier_count states.regions c.args.at.region = omega (arith, c.loop-tier-test.true, many) in
    let called : name ≡ serving_follower states.regions c.args.at.region tier c.args.at.shard =
    c.serving_follower-follower.ensures ∙ ap (λ (rs : List NodeCounts). serving_follower rs c.args.at.region tier c.args.at.shard) (sym c.requires.own) in
    elim c.if-is_up.branch [
      | then-is_up w ↦ (
          let change : ChangesNode name (IsSent m) c.loop-tier.inboxes w.send_at.new.inboxes =
          subst (λ note. ChangesNode name (IsSent (entry_message c.args.at.shard c.args.entry.now note)) c.loop-tier.inboxes w.send_at.new.inboxes)
          c.loop-tier.invariant.same w.send_at.ensures.sends in
          record {
            sends =
                subst (SendsRest all (left (tier + 1)) m start) (sym w.inboxes-is)
                (one_notified states c.args.at.region c.args.at.shard m tier start c.loop-tier.inboxes w.send_at.new.inboxes name within called
                (sym c.is_up.ensures ∙ w.if-is_up.true) change c.loop-tier.invariant.sends);
            names = ap node_names w.inboxes-is ∙ (names_kept (IsSent m) name c.loop-tier.inboxes w.send_at.new.inboxes change ∙ c.loop-tier.invariant.names);
            same = w.note-is ∙ (w.send_at.ensures.note ∙ c.loop-tier.invariant.same);
          })
      | else-is_up w ↦ record {
        sends =
            subst (SendsRest all (left (tier + 1)) m start) (sym w.inboxes-is)
            (one_down states c.args.at.region c.args.at.shard m tier start c.loop-tier.inboxes name within called (sym c.is_up.ensures ∙ w.if-is_up.false)
            c.loop-tier.invariant.sends);
        names = ap node_names w.inboxes-is ∙ c.loop-tier.invariant.names;
        same = w.note-is ∙ c.loop-tier.invariant.same;
      }
    ]

pub returns-clause-sends : goal.returns-clause-sends
returns-clause-sends c =
    let states = c.args.topology.now in
    let many : c.tier_count-tier-end.result ≡ tier_count states.regions c.args.at.region =
    c.tier_count-tier-end.ensures ∙ ap (λ (rs : List NodeCounts). tier_count rs c.args.at.region) (sym c.requires.own) in
    let past : tier_count states.regions c.args.at.region ≤ c.loop-tier.tier = omega (arith, c.loop-tier-test.false, many) in
    all_notified states c.args.at.region c.args.at.shard (entry_message c.args.at.shard c.args.entry.now c.args.note.now) c.loop-tier.tier c.args.inboxes.now
    c.loop-tier.inboxes past c.loop-tier.invariant.sends
