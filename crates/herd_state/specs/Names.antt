-- The names of herds.
use Rattle.std.specs.Prelude.{Bool, ◌==◌, ◌&&◌}
use Rattle.herd_state.specs.declared.name.HerdName.{HerdName}
use Rattle.tao_base.specs.Keys.{same_key}

-- whether two names are of one key in one tier
abbrev pub same_name : HerdName → HerdName → Bool
same_name name other = name.region == other.region && (name.tier == other.tier && same_key name.key other.key)
