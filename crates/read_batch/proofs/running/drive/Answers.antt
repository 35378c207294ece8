use Rattle.locked_nodes.proofs.Seeing.{goes_trans}
use Rattle.read_batch.proofs.Stepping.{driven}
use Rattle.read_batch.proofs.running.drive.Goals as goal

pub returns-clause-on : goal.returns-clause-on
returns-clause-on g c = goes_trans _ _ _ c.poll_alone.ensures.follows.goes c.finish.ensures.follows.goes

pub returns-clause-gives : goal.returns-clause-gives
returns-clause-gives g c =
    driven _ _ _ _ _ c.poll_alone.ensures.follows c.finish.ensures.follows c.finish.ensures.done c.taken.ensures
