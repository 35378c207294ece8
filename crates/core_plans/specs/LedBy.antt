-- By what the stages of plans are done, and who leads a commit.
use Rattle.std.specs.Prelude.{Bool, Option}
use Rattle.node_name.specs.declared.NodeName.{NodeName}
use Rattle.topology.specs.Config.{Settings}
use Rattle.core_plans.specs.declared.leaders.Leaders.{Leaders}

-- a configuration, over keepers that tell their tables or not
pub record Rules : Type 0 where
  pub tells : Bool
  pub settings : Settings

-- the rules of a configuration, over keepers that tell their tables or not
abbrev pub rules_of : Bool → Settings → Rules
rules_of tells s = record { tells = tells; settings = s }

-- the leader that commits a write, and the one of its own region that a write of another region than the master's passes, by a configuration, over
-- keepers that tell their tables or not
pub record LedBy : Type 0 where
  pub tells : Bool
  pub settings : Settings
  pub leader : NodeName
  pub passed : Option NodeName

-- these leaders, by those rules
abbrev pub led_by : Rules → Leaders → LedBy
led_by rules leaders = record { tells = rules.tells; settings = rules.settings; leader = leaders.leader; passed = leaders.passed }
