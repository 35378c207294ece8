-- What is asked of links: the node that the link leads from first.
use Rattle.std.specs.Prelude.{Result, Ok}
use Rattle.topology.specs.Config.{Settings}
use Rattle.replies.specs.declared.refusals.NameRefused.{NameRefused}
use Rattle.requests.specs.declared.links.LinkName.{LinkName}
use Rattle.requests.specs.declared.links.LinkRequest.{LinkRequest}
use Rattle.requests.specs.declared.links.LinkRequest.TheVariants as request
use Rattle.request_check.specs.declared.links.CheckedLink.{CheckedLink}
use Rattle.request_check.specs.declared.links.CheckedLink.TheVariants as checked
use Rattle.request_check.specs.declared.links.LinkPlace.{LinkPlace}
use Rattle.request_check.specs.declared.kind.NodeKind.TheVariants.{Any}
use Rattle.request_check.specs.Names.{node_named, placed_as}
use Rattle.outcomes.specs.Results.{◌>>=◌}

-- the link from one node to another, stores too, looked up by name: the node that it leads from first
abbrev pub link_place : Settings → LinkName → Result LinkPlace NameRefused
link_place s link = do
  from ← node_named s Any link.from
  to ← node_named s Any link.to
  Ok (record { from = from; to = to })

-- what is asked of a link, with its nodes looked up by name: each word has its row
abbrev pub checked_link : Settings → LinkRequest → Result CheckedLink NameRefused
checked_link s (request.Cut link) = placed_as checked.Cut (link_place s link)
checked_link s (request.Mend link) = placed_as checked.Mend (link_place s link)
