use Rattle.std.proofs.Common.{◌≡◌, Ok, Err, IfSome, subst}
use Rattle.cluster_closing.specs.locked_nodes.Cluster.{on_cluster}
use Rattle.request_check.specs.Refusal.{for_name, replied, reply_unless_memory}
use Rattle.request_check.specs.Requests.{IsPlaced, checked_of}
use Rattle.shared_tiers.proofs.CallLemmas.{is_call, own_found, own_refused}
use Rattle.shared_tiers.specs.Calls.{calling}
use Rattle.shared_tiers.proofs.cluster.Cluster.call_own.Goals as goal

pub call_found-requires-clause-call : goal.call_found-requires-clause-call
call_found-requires-clause-call g c = is_call c.config.result.now c.args.request.now c.in-Ok.checked c.requires.call c.in-Ok.ensures.checked

pub call_found-requires-clause-placed : goal.call_found-requires-clause-placed
call_found-requires-clause-placed g c = subst (λ s. IsPlaced s c.in-Ok.checked) c.config.ensures c.in-Ok.ensures.placed

pub returns-in-Ok-clause-replies : goal.returns-in-Ok-clause-replies
returns-in-Ok-clause-replies g c =
    own_found (on_cluster g.K.Keeper.TELLS g.K.Keeper.state g.J.Sharing.making g.J.Logs.log)
    (calling c.args.pass.now (g.L.Link.shown c.args.link.now)) (calling c.call_found.new.pass (g.L.Link.shown c.call_found.new.link))
    c.args.request.now c.in-Ok.checked c.call_found.result
    (subst (λ s. replied (for_name (checked_of s c.args.request.now)) ≡ Ok c.in-Ok.checked) c.config.ensures c.in-Ok.ensures.checked)
    c.call_found.ensures.replies

pub returns-in-Err-clause-replies : goal.returns-in-Err-clause-replies
returns-in-Err-clause-replies g c =
    own_refused (on_cluster g.K.Keeper.TELLS g.K.Keeper.state g.J.Sharing.making g.J.Logs.log)
    (calling c.args.pass.now (g.L.Link.shown c.args.link.now)) c.args.request.now c.in-Err.refusal c.into_reply.result c.into_reply.ensures
    (subst (λ s. IfSome (reply_unless_memory c.in-Err.refusal) (λ said. replied (for_name (checked_of s c.args.request.now)) ≡ Err said))
    c.config.ensures c.in-Err.ensures.checked)
