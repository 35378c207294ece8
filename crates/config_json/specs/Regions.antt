-- The regions with their tiers, and the masters.
use Rattle.std.specs.Prelude.{ℕ, List, [], ◌∷◌, length, Option, Some, codes, is_some, if◌then◌else◌}
use Rattle.std.specs.Bool.{then_some}
use Rattle.serde_json.specs.Data.{Data}
use Rattle.serde_json.specs.Find.{get, as_str}
use Rattle.outcomes.specs.Options.{◌>>=◌}
use Rattle.json_fields.specs.Fields.{name_at, number_or, has_only}
use Rattle.topology.specs.Named.{in_range}
use Rattle.topology.specs.Regions.{are_regions, region_at}
use Rattle.topology.specs.Tiers.{are_tiers}
use Rattle.topology.specs.declared.regions.Region.{Region}
use Rattle.topology.specs.declared.tiers.Tier.{Tier}
use Rattle.json_fields.specs.Items.{each_at}

-- a tier has a name, and 1 to 4 followers, 1 where none are given
abbrev pub tier_of : Data → Option Tier
tier_of d = do
  name ← name_at (codes "name") d
  followers ← number_or (codes "followers") 1 1 4 d
  then_some (has_only (codes "name" ∷ codes "followers" ∷ []) d) (record { name = name; followers = followers })

-- 1 to 4 tiers, whose names differ and aren't `leader` or `store`
abbrev pub tiers_at : Data → Option (List Tier)
tiers_at d = do
  tiers ← each_at tier_of (codes "tiers") d
  then_some (are_tiers tiers) tiers

-- a region has a name, 1 to 4 leaders, 1 where none are given, and tiers
abbrev pub region_of : Data → Option Region
region_of d = do
  name ← name_at (codes "name") d
  leaders ← number_or (codes "leaders") 1 1 4 d
  tiers ← tiers_at d
  then_some (has_only (codes "name" ∷ codes "leaders" ∷ codes "tiers" ∷ []) d) (record { name = name; leaders = leaders; tiers = tiers })

-- 1 to 4 regions, whose names differ
abbrev pub regions_at : Data → Option (List Region)
regions_at d = do
  regions ← each_at region_of (codes "regions") d
  then_some (are_regions regions) regions

-- the places of the regions of these names
abbrev pub places_of : List Region → List (List ℕ) → Option (List ℕ)
places_of regions [] = Some []
places_of regions (name ∷ names) = do
  place ← region_at regions name
  places ← places_of regions names
  Some (place ∷ places)

-- 1 to 64 names of regions
abbrev pub named_masters : List Region → Data → Option (List ℕ)
named_masters regions d = do
  names ← each_at as_str (codes "masters") d
  places ← places_of regions names
  then_some (in_range 1 64 (length places)) places

-- the masters that are named; the first region alone where none are given
abbrev pub masters_at : List Region → Data → Option (List ℕ)
masters_at regions d = if is_some (get (codes "masters") d) then named_masters regions d else Some (0 ∷ [])
