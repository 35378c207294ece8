use Rattle.std.proofs.Common.{◌≡◌, ◌++◌, drop, option_map}
use Rattle.config_json.specs.Regions.{places_of}
use Rattle.config_json.proofs.regions.places_of.Given as goal

abbrev pub invariant-loop-name : goal.invariant-loop-name
invariant-loop-name l = option_map (λ others. l.places.items ++ others) (places_of l.regions (drop l.name-index l.names)) ≡ places_of l.regions l.names
