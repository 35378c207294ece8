-- What contracts see of a pass.
use Rattle.session_pass.specs.Passes.{SeenPass}
use Rattle.session_pass.specs.declared.pass.Pass.TheInside.{Inside}

-- the pass of a session, as contracts see it
abbrev pub pass_seen : Inside → SeenPass
pass_seen p = record { session = p.session; region = p.region; tier = p.tier; floors = p.floors.floors; notes = p.notes.items; spare = p.floors.spare }
