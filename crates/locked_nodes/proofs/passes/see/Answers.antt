use Rattle.locked_nodes.proofs.Seeing.{note_there, saw, seen_floors}
use Rattle.session_pass.specs.Passes.{after_meeting}
use Rattle.locked_nodes.proofs.passes.see.Goals as goal

pub see-requires : goal.see-requires
see-requires g c = note_there g.J.Sharing.making g.J.Logs.log c.args.pass.now c.args.shard c.args.note c.requires.pass c.requires.here c.requires.log

pub returns : goal.returns
returns g c =
    let done = saw g.J.Sharing.making g.J.Logs.log c.args.shard c.args.note c.args.pass.now c.see.new.self c.requires.pass c.requires.here c.requires.log
    c.see.ensures.seen c.see.ensures.meets in
    record {
      pass = done.pass;
      on = done.on;
      sees = done.sees;
      floors = seen_floors c.args.pass.now c.see.new.self (after_meeting c.args.shard c.args.note c.args.pass.now.notes) c.see.ensures.seen;
    }
