use Rattle.std.proofs.Common.{subst, sym}
use Rattle.served_shards.specs.Begun.{AreNotesOf}
use Rattle.core_nodes.specs.Emptying.{CacheIs}
use Rattle.core_nodes.proofs.FailLemmas.{down_done, down_logs}
use Rattle.core_nodes.proofs.fleet.Fleet.go_down.Goals as goal

pub empty-requires-clause-logs : goal.empty-requires-clause-logs
empty-requires-clause-logs c =
    subst (CacheIs c.args.node (λ n. AreNotesOf n.served c.in_ok-lows.field-0.notes.items)) (sym c.stand.ensures.same)
    (down_logs c.args.config.now c.args.self.now c.requires.fleet c.in_ok-lows.field-0 c.args.node c.in_ok-lows.ensures.stands)

pub returns : goal.returns
returns c =
    let done = down_done c.args.config.now c.args.self.now c.stand.new.self c.empty.new.self c.args.node c.in_ok-lows.field-0 c.deref.result.now
    c.stand.ensures.same c.deref.ensures.value c.requires.fleet c.in_ok-lows.ensures.stands c.empty.ensures in
    record { begins = done.empties; same = tt; fleet = done.fleet; goes = done.goes }
