-- The requests about the health of nodes: the fields of each, in their order.
use Rattle.std.specs.Prelude.{[], ◌∷◌, codes, Result, Ok}
use Rattle.serde_json.specs.Data.{Data}
use Rattle.request_json.specs.declared.refusal.LineRefusal.{LineRefusal}
use Rattle.requests.specs.declared.health.HealthRequest.{HealthRequest}
use Rattle.requests.specs.declared.health.HealthRequest.TheVariants as request
use Rattle.requests.specs.declared.health.LeaderName.{LeaderName}
use Rattle.words.specs.declared.HealthWord.{HealthWord}
use Rattle.words.specs.declared.HealthWord.TheVariants.{Down, Up, Suspect, Trust}
use Rattle.request_json.specs.Fields.{text_field, only_fields, node_of, read_as}
use Rattle.outcomes.specs.Results.{◌>>=◌}

-- the names of a leader and of the tier that suspects or trusts it
abbrev pub leader_of : Data → Result LeaderName LineRefusal
leader_of d = do
  region ← text_field (codes "region") d
  tier ← text_field (codes "tier") d
  node ← text_field (codes "node") d
  known ← only_fields (codes "do" ∷ codes "region" ∷ codes "tier" ∷ codes "node" ∷ []) d
  Ok (record { region = region; tier = tier; node = node })

-- what changes the health of a node: each word has its row
abbrev pub health_of : HealthWord → Data → Result HealthRequest LineRefusal
health_of Down d = read_as request.Down (node_of d)
health_of Up d = read_as request.Up (node_of d)
health_of Suspect d = read_as request.Suspect (leader_of d)
health_of Trust d = read_as request.Trust (leader_of d)
