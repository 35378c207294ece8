use Rattle.cluster_talks.proofs.ReadsLemmas.{only_memory}
use Rattle.cluster_talks.proofs.host.Host.call_each.Goals as goal

pub no_room-requires : goal.no_room-requires
no_room-requires g c =
    only_memory c.args.session c.args.requests c.into_vec.result.items c.in-Err.refusal c.into_vec.ensures c.requires.batch c.in-Err.ensures.refused
