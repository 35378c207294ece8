-- The regions. Their tiers keep rules of their own.
use Rattle.std.specs.Prelude.{ℕ, Bool, ◌&&◌, List, length, map, bytes_eq, Option}
use Rattle.std.specs.List.{list_all, position_from}
use Rattle.topology.specs.Named.{are_different, in_range}
use Rattle.topology.specs.declared.regions.Region.{Region}

-- whether the region has one to four leaders
abbrev pub is_region : Region → Bool
is_region region = in_range 1 4 region.leaders

-- whether there are one to four regions, each with one to four leaders, and no two of one name
abbrev pub are_regions : List Region → Bool
are_regions regions = in_range 1 4 (length regions) && list_all is_region regions && are_different (map (λ region. region.name) regions)

-- the first place, from 0, of a region of that name
abbrev pub region_at : List Region → List ℕ → Option ℕ
region_at regions name = position_from (λ region. bytes_eq name region.name) 0 regions
