use Rattle.tao.proofs.run.over.Goals as goal

pub run-requires : goal.run-requires
run-requires g c = record { kept = λ told line begins. c.requires told line }
