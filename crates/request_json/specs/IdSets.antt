-- Ids, each once, in rising order.
use Rattle.std.specs.Prelude.{ℕ, List, [], ◌∷◌, ◌==◌, nat_lt, if◌then◌else◌}

-- an id at its place among rising ids, where it isn't there yet
abbrev pub put_id : ℕ → List ℕ → List ℕ
put_id id [] = id ∷ []
put_id id (next ∷ ids) = if nat_lt id next then id ∷ next ∷ ids else (if id == next then next ∷ ids else next ∷ put_id id ids)

-- the set of some ids
abbrev pub id_set : List ℕ → List ℕ
id_set [] = []
id_set (id ∷ ids) = put_id id (id_set ids)
