use Rattle.scripts.proofs.play.run_kept.Goals as goal

pub run-requires : goal.run-requires
run-requires g c = record { kept = λ told line begins. c.requires told line }

pub returns : goal.returns
returns g c = λ told line. c.run.ensures.still told line (c.requires told line)
