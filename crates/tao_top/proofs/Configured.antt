-- What a configuration has that was taken from a line.
use Rattle.std.proofs.Common.{◌≡◌, ◌<◌, ◌%◌, ℕ, List, [], All, IsTrue, Option, None, Some}
use Rattle.std.proofs.Common.{Result, Ok, Err, length, refl, subst, sym, inl, inr, arith}
use Rattle.std.proofs.lemmas.Bool.{and_parts, cases_lt}
use Rattle.std.proofs.lemmas.Bool.Decides.{nat_tests}
use Rattle.std.proofs.lemmas.Option.{option_and_then_some, unwrap_or-slice_get}
use Rattle.std.proofs.Math.ListN.{get_or, get_or-eq_default}
use Rattle.std.specs.Prelude.{◌&&◌, IfOk, codes, map}
use Rattle.std.specs.Bool.{then_some}
use Rattle.std.specs.List.{list_all}
use Rattle.config_json.proofs.KeptRules.{masters_within, number_at_range, passed, said_of}
use Rattle.config_json.specs.Config.{config_in, config_of, field_names, in_field, unless_strange}
use Rattle.config_json.specs.Object.{line_object}
use Rattle.config_json.specs.Regions.{masters_at, region_of, regions_at}
use Rattle.config_json.specs.Types.{assocs_at, objects_at}
use Rattle.config_json.specs.declared.refusal.ConfigRefusal.{ConfigRefusal}
use Rattle.core_model.specs.Stores.{HaveMasterRegions}
use Rattle.json_fields.specs.Fields.{number_or, strange_at}
use Rattle.json_fields.specs.Items.{each_at}
use Rattle.outcomes.specs.Results.{◌>>=◌}
use Rattle.serde_json.specs.Data.{Data}
use Rattle.topology.specs.Config.{Settings}
use Rattle.topology.specs.Named.{are_different, in_range}
use Rattle.topology.specs.Regions.{are_regions, is_region}
use Rattle.topology.specs.declared.regions.Region.{Region}

-- there is a shard, and a region; each shard's master is a region, and each region has a leader
pub record IsTaken (s : Settings) : Type 0 where
  pub shards : 0 < s.shards
  pub some : 0 < length s.regions
  pub leads : IsTrue (list_all is_region s.regions)
  pub masters : HaveMasterRegions s

-- ---- what is read

then_so : {A B : Type 0} (Q : B → Type 0) (found : Result A ConfigRefusal) (next : A → Result B ConfigRefusal)
    → ((a : A) → found ≡ Ok a → IfOk (next a) Q) → IfOk (found >>= next) Q
then_so Q (Ok a) next there = there a refl
then_so Q (Err refused) next there = tt

taken_unless : (strange : Option (List ℕ)) (s : Settings) → IsTaken s → IfOk (unless_strange strange s) IsTaken
taken_unless None s is = is
taken_unless (Some field) s is = tt

in_range_some : (n : ℕ) → IsTrue (in_range 1 64 n) → 0 < n
in_range_some n kept = grind (arith, nat_tests)

region_some : (n : ℕ) → IsTrue (in_range 1 4 n) → 0 < n
region_some n kept = grind (arith, nat_tests)

-- the regions that were read keep their rules
regions_so : (d : Data) (regions : List Region) → regions_at d ≡ Some regions → IsTrue (are_regions regions)
regions_so d regions is =
    option_and_then_some (λ rs. then_some (are_regions rs) rs) (each_at region_of (codes "regions") d) regions is
    (λ rs found kept.
    let p = passed (are_regions rs) rs regions kept in
    subst (λ xs. IsTrue (are_regions xs)) p.1 p.0)

-- each master is a region, also where a shard has none of the list
masters_so : (regions : List Region) (masters : List ℕ) (place : ℕ) → 0 < length regions → All (λ region. region < length regions) masters
    → get_or masters place 0 < length regions
masters_so regions masters place some all = elim (cases_lt place (length masters)) [
  | inl here ↦ all place 0 here
  | inr past ↦ subst (λ n. n < length regions) (sym (get_or-eq_default masters 0 past)) some
]

config_taken : (d : Data) → IfOk (config_of d) IsTaken
config_taken d =
    then_so IsTaken _ _ (λ shards shards_is.
    then_so IsTaken _ _ (λ regions regions_is.
    then_so IsTaken _ _ (λ masters masters_is.
    then_so IsTaken (in_field (codes "objects") (objects_at d)) _ (λ objects objects_is.
    then_so IsTaken (in_field (codes "assocs") (assocs_at d)) _ (λ assocs assocs_is.
    then_so IsTaken (in_field (codes "log_max") (number_or (codes "log_max") 16384 1 65536 d)) _ (λ log_max log_max_is.
    then_so IsTaken (in_field (codes "cache_items") (number_or (codes "cache_items") 1024 1 65536 d)) _ (λ cache_items cache_items_is.
    let kept = regions_so d regions (said_of (codes "regions") (regions_at d) regions regions_is) in
    let rules =
    and_parts (in_range 1 4 (length regions) && list_all is_region regions) (are_different (map (λ (r : Region). r.name) regions)) kept in
    let count = and_parts (in_range 1 4 (length regions)) (list_all is_region regions) rules.0 in
    let some = region_some (length regions) count.0 in
    let all = masters_within regions d masters kept (said_of (codes "masters") (masters_at regions d) masters masters_is) in
    taken_unless (strange_at field_names d) _ (record {
      shards = in_range_some shards (number_at_range (codes "shards") 1 64 shards d (said_of (codes "shards") _ shards shards_is));
      some = some;
      leads = count.1;
      masters = λ shard. subst (λ n. n < length regions) (sym (unwrap_or-slice_get masters (shard % length masters) 0))
          (masters_so regions masters (shard % length masters) some all);
    }))))))))

pub taken_rules : (line : List ℕ) (s : Settings) → config_in line ≡ Ok s → IsTaken s
taken_rules line s is = subst (λ r. IfOk r IsTaken) is (then_so IsTaken (in_field [] (line_object line)) config_of (λ d found. config_taken d))
