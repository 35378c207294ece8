use Rattle.std.proofs.Common.{◌≡◌, ◌-◌, ◌≤◌, length, take, drop}
use Rattle.serde_json.specs.Data.{Data, put}
use Rattle.json_fields.specs.Members.{members_before}
use Rattle.json_fields.specs.View.{members_view}
use Rattle.json_fields.proofs.members.place_of.Given as goal

abbrev pub invariant-loop-place : goal.invariant-loop-place
invariant-loop-place l =
    (l.place ≤ length l.members)
    × ((d : Data) → put l.name d (members_view l.members) ≡ members_before (take l.place l.members) (put l.name d (members_view (drop l.place l.members))))

abbrev pub decreases-loop-place : goal.decreases-loop-place
decreases-loop-place l = length l.members - l.place
