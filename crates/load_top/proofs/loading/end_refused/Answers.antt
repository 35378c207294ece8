use Rattle.std.proofs.Common.{true, subst}
use Rattle.std.specs.Io.KnownBytes.{Appends}
use Rattle.keepers.specs.Steady.{shown_steady}
use Rattle.load_top.proofs.StuckLoads.{full_log}
use Rattle.new_stores.proofs.EmptyStores.{none_rose, open_refused, shown_so, told_none}
use Rattle.load_top.proofs.EndingLemmas.{ends_so, part_none}
use Rattle.load_top.specs.Lines.{bad_line}
use Rattle.load_top.specs.declared.ended.Came.TheVariants.{Stuck}
use Rattle.tao_busy.specs.Load.{RefusesLoad, requests_asked}
use Rattle.load_top.proofs.loading.end_refused.Goals as goal

pub unreachable-requires-in-KeeperFault-why : goal.unreachable-requires-in-KeeperFault-why
unreachable-requires-in-KeeperFault-why g c =
    let new = c.requires.refused in
    let refused = subst (λ w. RefusesLoad true shown_steady c.args.asked.now new.old w) c.in-Open.is new.refused in
    none_rose new.old c.in-Open.fail.keepers.items (refused.own c.in-KeeperFault-why.is)

pub unreachable-requires-in-Disagree : goal.unreachable-requires-in-Disagree
unreachable-requires-in-Disagree g c =
    let new = c.requires.refused in
    let s = c.args.asked.now.config.now in
    let refused = subst (λ w. RefusesLoad true shown_steady c.args.asked.now new.old w) c.in-Open.is new.refused in
    let memory = open_refused s c.args.asked.now.line.now (shown_so s 0 new.old) (shown_so s refused.refused.strays c.in-Open.fail.keepers.items)
    c.in-Open.fail.why (told_none s.shards new.old new.none)
    (λ is. none_rose new.old c.in-Open.fail.keepers.items (refused.own is)) refused.refused.refused in
    cc (memory, c.in-Disagree.is)

pub unreachable-requires-in-KeeperFault : goal.unreachable-requires-in-KeeperFault
unreachable-requires-in-KeeperFault g c =
    let new = c.requires.refused in
    let refused = subst (λ w. RefusesLoad true shown_steady c.args.asked.now new.old w) c.in-KeeperFault.is new.refused in
    none_rose new.old c.in-KeeperFault.keepers.items refused.1

pub returns-in-Stuck-clause-ok : goal.returns-in-Stuck-clause-ok
returns-in-Stuck-clause-ok g c =
    let new = c.requires.refused in
    let s = c.args.asked.now.config.now in
    let refused = subst (λ w. RefusesLoad true shown_steady c.args.asked.now new.old w) c.in-Stuck.is new.refused in
    ends_so c.end_bad.result s (requests_asked c.args.asked.now) Stuck c.in-Stuck.keepers.items
    (Appends (g.S.Sink.taken c.args.output.now) (g.S.Sink.taken c.end_bad.new.output)) bad_line refused.0
    (λ written. (full_log s new.old c.in-Stuck.keepers.items c.in-Stuck.shard c.in-Stuck.why refused.1 refused.2, written))
    c.end_bad.ensures.came c.end_bad.ensures.back c.end_bad.ensures.ok

pub returns-in-OutOfMemory-clause-part : goal.returns-in-OutOfMemory-clause-part
returns-in-OutOfMemory-clause-part g c = part_none (g.S.Sink.taken c.args.output.now)

pub returns-in-OutOfMemory-why-clause-part : goal.returns-in-OutOfMemory-why-clause-part
returns-in-OutOfMemory-why-clause-part g c = part_none (g.S.Sink.taken c.args.output.now)
