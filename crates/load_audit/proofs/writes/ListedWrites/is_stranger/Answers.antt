use Rattle.std.proofs.Common.{subst}
use Rattle.load_audit.specs.Numbered.{IsFoundBy}
use Rattle.load_audit.proofs.PlaceLemmas.{strange_of_none, strange_unless}
use Rattle.load_audit.proofs.writes.ListedWrites.is_stranger.Goals as goal

pub returns-in-Some : goal.returns-in-Some
returns-in-Some c = λ session origin.
    strange_unless c.args.self.now c.args.entry.now session c.args.seq origin c.in-Some.write
    (subst (IsFoundBy c.args.seq c.args.self.now) c.in-Some.is c.in_ok-found.ensures) c.is_of-known.result c.is_of-known.ensures

pub returns-in-None : goal.returns-in-None
returns-in-None c = λ session origin.
    strange_of_none c.args.self.now c.args.entry.now session c.args.seq origin
    (subst (IsFoundBy c.args.seq c.args.self.now) c.in-None.is c.in_ok-found.ensures)
