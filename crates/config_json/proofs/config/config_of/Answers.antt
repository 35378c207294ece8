use Rattle.std.proofs.Common.{◌∙◌, IsTrue, codes, refl, subst, sym}
use Rattle.json_fields.specs.View.{view}
use Rattle.topology.specs.Regions.{are_regions}
use Rattle.config_json.proofs.KeptRules.{said_of, number_at_range, number_or_range, masters_within}
use Rattle.config_json.proofs.config.config_of.Goals as goal

pub invariant_of-result : goal.invariant_of-result
invariant_of-result c =
    let d = view c.args.value.now in
    record {
      shards = number_at_range (codes "shards") 1 64 c.in_ok-shards.shards d
          (sym c.short_at.ensures ∙ said_of (codes "shards") c.short_at.result c.in_ok-shards.shards c.in_ok-shards.ensures.ok);
      masters = masters_within c.in_ok-regions.regions d c.in_ok-masters.masters
          (subst (λ regions. IsTrue (are_regions regions)) c.regions.view_is c.regions.invariant)
          (sym c.in_ok-masters_at.ensures ∙ said_of (codes "masters") c.in_ok-masters_at.field-0 c.in_ok-masters.masters c.in_ok-masters.ensures.ok);
      log_max = number_or_range (codes "log_max") 16384 1 65536 c.in_ok-log_max.log_max d refl
          (sym c.number_or.ensures ∙ said_of (codes "log_max") c.number_or.result c.in_ok-log_max.log_max c.in_ok-log_max.ensures.ok);
      cache_items = number_or_range (codes "cache_items") 1024 1 65536 c.in_ok-cache_items.cache_items d refl
          (sym c.number_or-2.ensures ∙ said_of (codes "cache_items") c.number_or-2.result c.in_ok-cache_items.cache_items c.in_ok-cache_items.ensures.ok);
    }
