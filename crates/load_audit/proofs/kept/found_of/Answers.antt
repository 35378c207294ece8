use Rattle.std.proofs.Common.{◌≡◌, Some, subst, sym}
use Rattle.std.specs.Prelude.{slice_get}
use Rattle.core_model.specs.Stores.{region_store}
use Rattle.keepers.specs.Shown.{told_in}
use Rattle.tao_keeper.specs.Table.{Table}
use Rattle.load_audit.specs.Auditing.{AuditsLog}
use Rattle.load_audit.specs.Kept.{keepers_in}
use Rattle.load_audit.proofs.KeptLemmas.{told_at}
use Rattle.load_audit.proofs.PlaceLemmas.{looked_up}
use Rattle.load_audit.proofs.kept.found_of.Goals as goal

pub returns-in-Some-clause-audits : goal.returns-in-Some-clause-audits
returns-in-Some-clause-audits g c = λ writes audited told.
    let state = g.M.Keeper.state in
    let shards = c.args.config.now.shards in
    let all = c.args.all.now in
    let kept = c.in-Some.kept.now in
    let at = region_store c.master_of.result c.args.shard in
    let stands = subst (λ place. slice_get all place ≡ Some kept) c.store_place.ensures
    (looked_up all c.store_place.result kept c.in-Some.ensures.lookup.0 c.in-Some.ensures.lookup.1) in
    subst (λ (region : _). AuditsLog writes c.args.shard (told_in state shards (keepers_in all) (region_store region c.args.shard)).log c.found_at.result)
    c.master_of.ensures
    (subst (λ (t : Table). AuditsLog writes c.args.shard t.log c.found_at.result) (sym (told_at state shards all at kept stands))
    (c.found_at.ensures.audits writes (audited _ kept stands) told))

pub returns-in-Some-clause-fault : goal.returns-in-Some-clause-fault
returns-in-Some-clause-fault g c = λ is. record {
  place = c.store_place.result;
  kept = c.in-Some.kept.now;
  stands = looked_up c.args.all.now c.store_place.result c.in-Some.kept.now c.in-Some.ensures.lookup.0 c.in-Some.ensures.lookup.1;
  failed = c.found_at.ensures.fault is;
}
