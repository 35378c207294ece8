-- Each line keeps the headline.
use Rattle.headline_kept.proofs.Acknowledged.{writes_stand}
use Rattle.headline_kept.proofs.Failing.{lines_fail_rightly}
use Rattle.headline_kept.proofs.ItemLines.{items_are_kept}
use Rattle.headline_kept.specs.Headline.{LinesKeepHeadline}

pub headline_kept : LinesKeepHeadline
headline_kept = record {
  kept = λ tells old new request reply is. record {
    items = items_are_kept.items tells old new request reply is;
    fails = lines_fail_rightly.fails tells old new request reply is;
    stands = writes_stand.stands tells old new request reply is;
  };
}
