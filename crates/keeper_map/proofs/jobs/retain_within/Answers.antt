use Rattle.std.proofs.Common.{◌∙◌, ap, rules}
use Rattle.std.proofs.lemmas.Map.Entries.{lookup-filter-keys}
use Rattle.std.proofs.lemmas.Map.Made.{filter_same_pairs}
use Rattle.std.specs.BTreeMap.{is_at}
use Rattle.std.specs.Map.{lookup}
use Rattle.std.specs.Ordering.{nat_cmp}
use Rattle.std.specs.Prelude.{nat_le}
use Rattle.keeper_map.proofs.JobLemmas.{same_within}
use Rattle.keeper_map.proofs.jobs.retain_within.Goals as goal

pub returns : goal.returns
returns c = λ position.
    ap (λ es. lookup (is_at (nat_cmp position)) es)
    (filter_same_pairs _ (λ e. nat_le e.0 c.args.last) _ (λ k v b w f' t. search rules) _ _ c.retain.ensures.filtered)
    ∙ lookup-filter-keys (is_at (nat_cmp position)) (λ k. nat_le k c.args.last) (nat_le position c.args.last)
    (λ k here. same_within position k c.args.last here) c.args.jobs.now.entries
