-- Examples of who serves compute.
use Rattle.std.proofs.Common.{refl}
use Rattle.worked_examples.specs.Serving.{ChoicesByExample}

pub examples_of_choices : ChoicesByExample
examples_of_choices = record {
  master = refl;
  own_follower = refl;
  follower_in_turn = refl;
  leader_in_turn = refl;
  down = refl;
  next_tier = refl;
  no_follower = refl;
  other_shard = refl;
  first_tier = refl;
  next_leader = refl;
  trusting_tier = refl;
  preferred = refl;
  no_leader = refl;
  store = refl;
  unknown = refl;
}
