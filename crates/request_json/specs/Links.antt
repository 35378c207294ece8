-- The requests about links: the fields of each, in their order.
use Rattle.std.specs.Prelude.{[], ◌∷◌, codes, Result, Ok}
use Rattle.serde_json.specs.Data.{Data}
use Rattle.request_json.specs.declared.refusal.LineRefusal.{LineRefusal}
use Rattle.requests.specs.declared.links.LinkName.{LinkName}
use Rattle.requests.specs.declared.links.LinkRequest.{LinkRequest}
use Rattle.requests.specs.declared.links.LinkRequest.TheVariants as request
use Rattle.words.specs.declared.LinkWord.{LinkWord}
use Rattle.words.specs.declared.LinkWord.TheVariants.{Cut, Mend}
use Rattle.request_json.specs.Fields.{text_field, only_fields, read_as}
use Rattle.outcomes.specs.Results.{◌>>=◌}

-- the names of two nodes: the one that the link leads from, and the one that it leads to
abbrev pub ends_of : Data → Result LinkName LineRefusal
ends_of d = do
  from ← text_field (codes "from") d
  to ← text_field (codes "to") d
  known ← only_fields (codes "do" ∷ codes "from" ∷ codes "to" ∷ []) d
  Ok (record { from = from; to = to })

-- what is asked of a link: each word has its row
abbrev pub link_of : LinkWord → Data → Result LinkRequest LineRefusal
link_of Cut d = read_as request.Cut (ends_of d)
link_of Mend d = read_as request.Mend (ends_of d)
