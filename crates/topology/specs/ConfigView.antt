-- The settings of a configuration.
use Rattle.topology.specs.Config.{Settings}
use Rattle.topology.specs.declared.config.Config.TheInside.{Inside}

-- what contracts see of a configuration's fields
abbrev pub settings_of : Inside → Settings
settings_of c = record { schema = c.schema; shards = c.shards; regions = c.regions; masters = c.masters; log_max = c.log_max; cache_items = c.cache_items }
