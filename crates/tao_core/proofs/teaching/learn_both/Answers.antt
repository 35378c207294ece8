use Rattle.tao_core.proofs.LearningBoth.{learns_then}
use Rattle.tao_core.proofs.teaching.learn_both.Goals as goal

pub learn_through-requires-2 : goal.learn_through-requires-2
learn_through-requires-2 c =
    learns_then c.args.session c.args.learnt c.args.sessions.now c.requires c.learn_through.new.sessions
    c.learn_through.ensures.learns c.learn_through.ensures.more
