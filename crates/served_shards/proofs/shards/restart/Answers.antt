use Rattle.std.proofs.Common.{◌<◌, arith, length}
use Rattle.std.specs.Prelude.{map}
use Rattle.served_shards.proofs.Rounds.{anew_step, head_is, length-served, logs_some, logs_step, lows_some, lows_step, meets_step, rest_step, same_log}
use Rattle.served_shards.specs.Begun.{restarted}
use Rattle.served_shards.specs.Fields.{served_of}
use Rattle.served_shards.specs.Meetings.{MeetEach}
use Rattle.served_shards.proofs.shards.restart.Goals as goal

pub remove-requires : goal.remove-requires
remove-requires c =
    let lt : c.loop-place.place < length (map served_of c.args.shards.now) = let same = length-served c.args.shards.now in let on = c.loop-place-test.true in
    omega arith in
    let some = logs_some (map served_of c.args.shards.now) c.loop-place.notes.items c.loop-place.place
    (served_of c.index-shards-place.result) lt c.loop-place.invariant.logs in
    omega arith

pub bounds-lows-place : goal.bounds-lows-place
bounds-lows-place c =
    let lt : c.loop-place.place < length (map served_of c.args.shards.now) = let same = length-served c.args.shards.now in let on = c.loop-place-test.true in
    omega arith in
    let some = logs_some (map served_of c.args.shards.now) c.loop-place.notes.items c.loop-place.place
    (served_of c.index-shards-place.result) lt c.loop-place.invariant.logs in
    lows_some c.args.lows.now c.loop-place.notes.items c.loop-place.place some c.loop-place.invariant.reached

pub restart_one-requires : goal.restart_one-requires
restart_one-requires c =
    let i = c.loop-place.place in
    let shards = c.loop-place.shards in
    let olds = c.args.shards.now in
    let d = c.index-shards-place.result in
    let in_olds : c.loop-place.place < length c.args.shards.now = c.loop-place-test.true in
    let in_shards : c.loop-place.place < length c.loop-place.shards = let same = c.loop-place.auto.shards in omega arith in
    let lt : c.loop-place.place < length (map served_of c.args.shards.now) = let same = length-served c.args.shards.now in omega arith in
    let some = logs_some (map served_of olds) c.loop-place.notes.items i (served_of d) lt c.loop-place.invariant.logs in
    let in_lows = lows_some c.args.lows.now c.loop-place.notes.items i some c.loop-place.invariant.reached in
    let first = head_is c.loop-place.notes.items c.remove.new.self.items c.remove.result some c.remove.ensures.value c.remove.ensures.items in
    same_log shards olds d d c.args.lows.now c.loop-place.notes.items c.remove.new.self.items i c.remove.result in_shards in_olds in_lows first
    c.loop-place.invariant.rest c.loop-place.invariant.logs

pub loop-place-preserved : goal.loop-place-preserved
loop-place-preserved c =
    let i = c.loop-place.place in
    let shards = c.loop-place.shards in
    let olds = c.args.shards.now in
    let d = c.index-shards-place.result in
    let new = c.restart_one.new.shard in
    let lows = c.args.lows.now in
    let notes = c.loop-place.notes.items in
    let left = c.remove.new.self.items in
    let note = c.remove.result in
    let in_olds : c.loop-place.place < length c.args.shards.now = c.loop-place-test.true in
    let in_shards : c.loop-place.place < length c.loop-place.shards = let same = c.loop-place.auto.shards in omega arith in
    let lt : c.loop-place.place < length (map served_of c.args.shards.now) = let same = length-served c.args.shards.now in omega arith in
    let some = logs_some (map served_of olds) notes i (served_of d) lt c.loop-place.invariant.logs in
    let in_lows = lows_some lows notes i some c.loop-place.invariant.reached in
    let first = head_is notes left note some c.remove.ensures.value c.remove.ensures.items in
    let same = c.loop-place.invariant.rest in
    record {
      rest = rest_step shards olds new d lows notes left i note in_shards in_olds in_lows first same;
      begun = anew_step shards olds new d lows notes left i note in_shards in_olds in_lows first same
          (restarted (map served_of olds) lows c.args.notes.items) c.restart_one.ensures.served c.loop-place.invariant.begun;
      logs = logs_step shards olds new d lows notes left i note in_shards in_olds in_lows first same c.loop-place.invariant.logs;
      reached = lows_step shards olds new d lows notes left i note in_shards in_olds in_lows first same c.loop-place.invariant.reached;
      meets = meets_step shards olds new d lows notes left i note in_shards in_olds in_lows first same
          (MeetEach (map served_of olds) c.args.notes.items) c.restart_one.ensures.meets c.loop-place.invariant.meets;
    }
