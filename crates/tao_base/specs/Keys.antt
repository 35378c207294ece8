-- Keys: which are the same, their order, and the shard that each lies on.
use Rattle.std.specs.Prelude.{ℕ, Bool, false, ◌==◌, ◌&&◌}
use Rattle.std.specs.Ordering.{nat_cmp, ordering_then}
use Rattle.std.specs.declared.cmp.Ordering.{Ordering}
use Rattle.std.specs.declared.cmp.Ordering.TheVariants.{Less, Greater}
use Rattle.tao_base.specs.Ids.{shard_of}
use Rattle.tao_base.specs.declared.id.Key.{Key}
use Rattle.tao_base.specs.declared.id.Key.TheVariants.{Obj, List as Assocs}

-- whether two keys are those of one object, or of one id's list of one type
abbrev pub same_key : Key → Key → Bool
same_key (Obj id) (Obj other) = id == other
same_key (Obj id) (Assocs other atype) = false
same_key (Assocs id1 atype) (Obj other) = false
same_key (Assocs id1 atype) (Assocs other type2) = id1 == other && atype.0 == type2.0

-- objects before lists, by the id, then the type
abbrev pub key_cmp : Key → Key → Ordering
key_cmp (Obj id) (Obj other) = nat_cmp id other
key_cmp (Obj id) (Assocs other atype) = Less
key_cmp (Assocs id1 atype) (Obj other) = Greater
key_cmp (Assocs id1 atype) (Assocs other type2) = ordering_then (nat_cmp id1 other) (nat_cmp atype.0 type2.0)

-- the shard of a key: that of its id
abbrev pub key_shard : Key → ℕ
key_shard (Obj id) = shard_of id
key_shard (Assocs id1 atype) = shard_of id1
