use Rattle.std.proofs.Common.{[], rules, ap, arith}
use Rattle.cache_items.proofs.Rows.{counted_step, rest_step, rows_all, rows_step}
use Rattle.cache_items.specs.Delivered.{dropped_lists}
use Rattle.cache_items.specs.Node.{Node, drop_count, dropped}
use Rattle.cache_items.proofs.holdings.Holdings.drop_named.Goals as goal

pub returns-clause-lists : goal.returns-clause-lists
returns-clause-lists c = rows_all c.loop-touched.rows (dropped_lists c.args.self.now.items c.args.keys.now) (c.loop-touched.invariant.rows [] tt)

pub loop-touched-preserved : goal.loop-touched-preserved
loop-touched-preserved c =
    let left = ap (λ (n : Node). n.items) c.drop_stale-count.ensures.node in
    let items = c.loop-touched.self.items in
    let keys = c.args.keys.now in
    let i = c.loop-touched.touched-index in
    let k = c.touched-item.result in
    record {
      few = (let one = c.drop_stale-count.ensures.one in let few = c.loop-touched.invariant.few in omega arith);
      counted = counted_step items c.drop_stale-count.new.self.items keys i k c.loop-touched-test.true c.touched-item.is left c.loop-touched.count
          c.drop_stale-count.result (drop_count c.args.self.now.items keys)
          c.drop_stale-count.ensures.stale c.loop-touched.invariant.counted;
      rest = rest_step items c.drop_stale-count.new.self.items keys i k c.loop-touched-test.true c.touched-item.is left
          (dropped c.args.self.now.items keys) c.loop-touched.invariant.rest;
      others = search rules;
      rows = rows_step items c.drop_stale-count.new.self.items keys i k c.loop-touched-test.true c.touched-item.is left c.loop-touched.rows
          c.drop_stale-count.new.rows (dropped_lists c.args.self.now.items keys)
          c.drop_stale-count.ensures.rows c.loop-touched.invariant.rows;
    }
