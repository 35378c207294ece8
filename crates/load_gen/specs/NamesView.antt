-- What contracts see of names.
use Rattle.load_gen.specs.Names.{NameLists}
use Rattle.load_gen.specs.declared.names.Names.TheInside.{Inside}

-- what contracts see of the fields of names
abbrev pub lists_of : Inside → NameLists
lists_of n = record {
  shards = n.shards;
  regions = n.regions.items;
  tiers = n.tiers.items;
  nodes = n.nodes.items;
  objects = n.objects.items;
  assocs = n.assocs.items;
}
