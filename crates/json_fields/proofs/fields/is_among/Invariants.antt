use Rattle.std.proofs.Common.{◌≡◌, drop, map, bytes_eq}
use Rattle.std.specs.List.{list_any}
use Rattle.json_fields.proofs.fields.is_among.Given as goal

abbrev pub invariant-loop-name : goal.invariant-loop-name
invariant-loop-name l = list_any (λ name. bytes_eq name l.key) (map (λ n. n.now) (drop l.name-index l.names)) ≡ list_any (λ name. bytes_eq name l.key)
    (map (λ n. n.now) l.names)
