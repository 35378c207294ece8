use Rattle.std.proofs.Common.{◌∙◌, ap, arith, length, ◌≡◌}
use Rattle.std.proofs.lemmas.List.{with_items_is}
use Rattle.std.specs.Prelude.{List, map}
use Rattle.served_shards.specs.Begun.{restarted}
use Rattle.served_shards.specs.Fields.{served_of}
use Rattle.served_shards.specs.declared.shards.Shard.{Shard}
use Rattle.served_shards.proofs.served.ServedShards.restart.Goals as goal

pub returns-clause-served : goal.returns-clause-served
returns-clause-served c =
    let long : length c.restart.new.shards ≡ c.self.inside.shards.len = omega arith in
    let back = with_items_is c.self.inside.shards c.restart.new.shards long in
    rw (← c.self.view_is) (ap (map served_of) back ∙ (c.restart.ensures.served
    ∙ ap (λ (l : List Shard). restarted (map served_of l) c.args.lows.now c.args.notes.items) c.as_mut_slice.ensures.value))
