use Rattle.std.proofs.Common.{◌≤◌, ◌+◌, ℕ, List, drop, length}
use Rattle.tao_base.specs.declared.id.Key.{Key}
use Rattle.session_pass.specs.Floors.{LearnsTouches}
use Rattle.session_pass.proofs.floors.Floors.learn_touches.Given as goal

abbrev pub invariant-loop-touch : goal.invariant-loop-touch
invariant-loop-touch l = record {
  room : length (drop l.touch-index l.touches) ≤ l.self.spare;
  spent : l.initial.self.spare + length (drop l.touch-index l.touches) ≤ l.self.spare + length l.touches;
  rest : (new : List (Key × ℕ)) → LearnsTouches l.shard (drop l.touch-index l.touches) l.self.floors new
      → LearnsTouches l.shard l.touches l.initial.self.floors new;
}
