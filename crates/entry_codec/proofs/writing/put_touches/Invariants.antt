-- the touches so far
use Rattle.entry_codec.specs.Values.{TouchFits}
use Rattle.std.proofs.Common.{◌≡◌, All, take, ◌++◌, flat_map}
use Rattle.tao_base.specs.Spelling.{touch_bytes}
use Rattle.entry_codec.proofs.writing.put_touches.Given as goal

abbrev pub invariant-loop-touch : goal.invariant-loop-touch
invariant-loop-touch l = (l.out.items ≡ l.fn.out.items ++ flat_map touch_bytes (take l.touch-index l.touches)) × All TouchFits (take l.touch-index l.touches)
