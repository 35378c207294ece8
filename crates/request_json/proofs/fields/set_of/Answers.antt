use Rattle.request_json.proofs.SetOfIds.{set_is}
use Rattle.request_json.proofs.fields.set_of.Goals as goal

pub returns : goal.returns
returns c = set_is _ _ c.of.ensures.rising c.of.ensures.members
