use Rattle.std.proofs.Common.{◌≡◌, ◌+◌, ◌++◌, drop, ◌<◌, subst, sym, arith, length}
use Rattle.std.specs.Prelude.{List, map}
use Rattle.served_shards.proofs.Rounds.{begun_step, head_is, reached_some, reached_step, sound_step}
use Rattle.served_shards.specs.Begun.{begun_at}
use Rattle.served_shards.specs.Fields.{served_of}
use Rattle.served_shards.specs.Meetings.{AreSeenSound}
use Rattle.served_shards.specs.declared.shards.Shard.{Shard}
use Rattle.served_shards.proofs.shards.begin.Goals as goal

pub loop-place-preserved : goal.loop-place-preserved
loop-place-preserved c =
    let i = c.loop-place.place in
    let in_served : i < length c.args.served.now = c.loop-place-test.true in
    let in_lows : i < length c.args.lows.now = let each = c.requires.each in omega arith in
    let some = reached_some c.args.lows.now c.loop-place.notes.items i in_lows c.loop-place.invariant.reached in
    let first = head_is c.loop-place.notes.items c.remove.new.self.items c.remove.result some c.remove.ensures.value c.remove.ensures.items in
    let is = c.in_ok-shard.ensures.begun in
    let pushed = c.in_ok-push.ensures.items in
    let shards = c.loop-place.shards.items in
    record {
      begun = subst (λ (l : List Shard). map served_of l ++ begun_at (drop (i + 1) c.args.served.now)
          (drop (i + 1) c.args.lows.now) c.remove.new.self.items ≡ begun_at c.args.served.now c.args.lows.now c.args.notes.items) (sym pushed)
          (begun_step shards c.in_ok-shard.shard c.args.served.now c.args.lows.now c.loop-place.notes.items c.remove.new.self.items i c.remove.result in_served
          in_lows first is
          (begun_at c.args.served.now c.args.lows.now c.args.notes.items) c.loop-place.invariant.begun);
      sound = subst (λ (l : List Shard). AreSeenSound (map served_of l)) (sym pushed)
          (sound_step shards c.in_ok-shard.shard c.args.served.now c.args.lows.now c.loop-place.notes.items c.remove.new.self.items i c.remove.result in_served
          in_lows first is
          c.begin_one.ensures.sound c.loop-place.invariant.sound);
      reached = reached_step shards c.in_ok-shard.shard c.args.served.now c.args.lows.now c.loop-place.notes.items c.remove.new.self.items i c.remove.result
          in_served in_lows first is c.loop-place.invariant.reached;
    }
