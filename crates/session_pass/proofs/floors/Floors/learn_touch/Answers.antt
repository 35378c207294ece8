use Rattle.std.proofs.Common.{◌≡◌, rules}
use Rattle.tao_base.specs.Keys.{key_shard}
use Rattle.session_pass.proofs.EntryLemmas.{learns_one}
use Rattle.session_pass.proofs.floors.Floors.learn_touch.Goals as goal

pub returns-then-shard-clause-learns : goal.returns-then-shard-clause-learns
returns-then-shard-clause-learns c =
    let here : key_shard c.args.touch.now.key ≡ c.args.shard = search rules in
    rw c.learn.ensures.floors (learns_one c.args.shard c.args.touch.now c.args.self.now.floors here)
