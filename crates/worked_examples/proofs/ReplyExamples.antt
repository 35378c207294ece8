-- Examples of replies compute.
use Rattle.std.proofs.Common.{refl}
use Rattle.std.specs.Fmt.{digits}
use Rattle.json.specs.Print.{escape_byte}
use Rattle.worked_examples.specs.Replies.{CallsByExample, NodesByExample, RefusalsByExample}

pub examples_of_calls : CallsByExample
unfolding escape_byte digits
examples_of_calls = record {
  bad_stores = refl;
  written = refl;
  next = refl;
  scheduled = refl;
  not_kept = refl;
  streamed = refl;
  trimmed = refl;
  repaired = refl;
  settled = refl;
}

pub examples_of_nodes : NodesByExample
unfolding escape_byte digits
examples_of_nodes = record {
  suspected = refl;
  mended = refl;
  delivered = refl;
  lost = refl;
  refilled = refl;
  evicted = refl;
  shown = refl;
  inbox = refl;
}

pub examples_of_refusals : RefusalsByExample
unfolding escape_byte digits
examples_of_refusals = record {
  no_plan = refl;
  memory = refl;
  no_refill = refl;
  is_master = refl;
  no_entry = refl;
  node_down = refl;
  too_old = refl;
  link_fault = refl;
  unsettled = refl;
}
