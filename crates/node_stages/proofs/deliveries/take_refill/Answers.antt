use Rattle.node_stages.proofs.Queueing.{takes_oldest}
use Rattle.node_stages.proofs.deliveries.take_refill.Goals as goal

pub returns : goal.returns
returns c =
    let taken = c.next_refill-refill.ensures in
    record {
      does = takes_oldest c.next_refill-refill.result c.args.follower.now c.next_refill-refill.new.self taken.oldest taken.node taken.none.0;
      apart = c.followers_are_true.ensures.apart;
      asks = c.followers_are_true.ensures.asks;
      truth = c.followers_are_true-2.ensures.truth;
    }
