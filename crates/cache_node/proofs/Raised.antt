-- Asks that are raised to the versions of some keys.
use Rattle.std.proofs.Common.{◌≡◌, ℕ, ◌≤◌, true, false, cond, List, [], ◌∷◌, map, Some, refl, sym, ◌∙◌, ap, subst, arith, inl, inr}
use Rattle.std.proofs.lemmas.Bool.{both_ways, cases_Bool}
use Rattle.std.specs.List.{AllByRecursion}
use Rattle.std.specs.Prelude.{max}
use Rattle.tao_base.specs.declared.id.Key.{Key}
use Rattle.graph_model.proofs.Keys.{same_key-same}
use Rattle.tao_base.specs.Keys.{key_shard, same_key}
use Rattle.graph_model.specs.Log.{version}
use Rattle.ask_table.specs.declared.ask.Ask.{Ask}
use Rattle.ask_table.specs.Asks.{Asks, with_floor}
use Rattle.ask_table.specs.Open.{raised_ask}
use Rattle.cache_items.specs.maint_msg.declared.key_versions.KeyVersion.{KeyVersion}
use Rattle.lru.proofs.Splits.{all_map}
use Rattle.graph_model.proofs.Later.{all_map as all_weaker}
use Rattle.cache_node.proofs.Truth.{asks_are_true}
use Rattle.cache_items.specs.Node.{Node, raised_all}
use Rattle.served_shards.specs.Served.{ServedShard, served_at}
use Rattle.cache_node.specs.True.{AreTold, IsServed, IsTrueAsk, IsTrueAskOf, IsTrueNode, IsTrueOfLogs, touched, version_among}

-- a raise keeps the key and the mark, and raises the floor to the version where the ask is on the key
pub record Raise (key : Key) (v : ℕ) (a after : Ask) : Type 0 where
  pub key_is : after.key ≡ a.key
  pub mark_is : after.mark ≡ a.mark
  pub rises : a.floor ≤ after.floor
  pub reaches : same_key a.key key ≡ true → v ≤ after.floor
  pub least : (bound : ℕ) → a.floor ≤ bound → (same_key a.key key ≡ true → v ≤ bound) → after.floor ≤ bound

pub raise_is : (key : Key) (v : ℕ) (a : Ask) → Raise key v a (raised_ask key v a)
raise_is key v a = elim (same_key a.key key) as (λ b. same_key a.key key ≡ b → Raise key v a (cond b (record a { floor = max a.floor v }) a)) [
  | true ↦ λ on. record {
    key_is = refl;
    mark_is = refl;
    rises = omega arith;
    reaches = λ same. omega arith;
    least = λ bound le up. let high = up on in omega arith;
  }
  | false ↦ λ off. record {
    key_is = refl;
    mark_is = refl;
    rises = omega arith;
    reaches = λ same. absurd (both_ways (same_key a.key key) off same);
    least = λ bound le up. le;
  }
] refl

raise_true : (s : ServedShard) (key : Key) (v : ℕ) (a after : Ask) → Raise key v a after → (same_key a.key key ≡ true → v ≤ version s.view.entries a.key)
    → IsTrueAsk s a → IsTrueAsk s after
raise_true s key v a after raise high is = record {
  begun = let begun = is.begun in let same = raise.mark_is in omega arith;
  known = subst (λ k. after.floor ≤ version s.view.entries k) (sym raise.key_is) (raise.least (version s.view.entries a.key) is.known high);
  since = λ p x on above at.
      let mark = raise.mark_is in
      let there : touched s.view.entries p a.key ≡ Some x = subst (λ k. touched s.view.entries p k ≡ Some x) raise.key_is at in
      let le = is.since p x on (omega arith) there in
      let rises = raise.rises in omega arith;
}

-- the asks on a key were raised to a version that the key has reached
pub raised_is_true : (n : Node) (key : Key) (v : ℕ) → IsTrueNode n
    → ((s : ServedShard) → AreTold n.served → IsTrueOfLogs n → served_at (key_shard key) n.served ≡ Some s → v ≤ version s.view.entries key)
    → IsTrueNode (record n { asks = with_floor key v n.asks })
raised_is_true n key v is high = asks_are_true n (with_floor key v n.asks) is
    (all_map (raised_ask key v) (λ a. IsServed n.served (key_shard a.key)) n.asks.asks
    (all_weaker (λ a. IsServed n.served (key_shard a.key)) (λ a. IsServed n.served (key_shard (raised_ask key v a).key))
    (λ a h. subst (λ k. IsServed n.served (key_shard k)) (sym (raise_is key v a).key_is) h) n.asks.asks is.asks_here))
    (λ told was. all_map (raised_ask key v) (IsTrueAskOf n.served) n.asks.asks
    (all_weaker (IsTrueAskOf n.served) (λ a. IsTrueAskOf n.served (raised_ask key v a)) (λ a h s at.
    let raise = raise_is key v a in
    let there : served_at (key_shard a.key) n.served ≡ Some s = subst (λ k. served_at (key_shard k) n.served ≡ Some s) raise.key_is at in
    raise_true s key v a (raised_ask key v a) raise (λ same.
    let k : a.key ≡ key = same_key-same a.key key same in
    subst (λ k. v ≤ version s.view.entries k) (sym k) (high s told was (subst (λ k. served_at (key_shard k) n.served ≡ Some s) k there)))
    (h s there)) n.asks.asks was.asks))

-- an ask raised by each of the keys
abbrev pub raised_by : List KeyVersion → Ask → Ask
raised_by [] a = a
raised_by (k ∷ ks) a = raised_by ks (raised_ask k.key k.version a)

-- all asks are raised by each of the keys
pub raised_all_is : (ks : List KeyVersion) (t : Asks) → (raised_all ks t).asks ≡ map (raised_by ks) t.asks
raised_all_is [] t = same t.asks
  where
    same : (l : List Ask) → l ≡ map (raised_by []) l
    same [] = refl
    same (a ∷ l) = ap (λ xs. a ∷ xs) (same l)
raised_all_is (k ∷ ks) t = raised_all_is ks (with_floor k.key k.version t) ∙ twice t.asks
  where
    twice : (l : List Ask) → map (raised_by ks) (map (raised_ask k.key k.version) l) ≡ map (raised_by (k ∷ ks)) l
    twice [] = refl
    twice (a ∷ l) = ap (λ xs. raised_by ks (raised_ask k.key k.version a) ∷ xs) (twice l)

-- raises keep the key, and the floor is at least each version that is named for it
pub record Raises (ks : List KeyVersion) (a after : Ask) : Type 0 where
  pub key_is : after.key ≡ a.key
  pub rises : a.floor ≤ after.floor
  pub reaches : (v : ℕ) → version_among ks a.key ≡ Some v → v ≤ after.floor

pub raises_are : (ks : List KeyVersion) (a : Ask) → Raises ks a (raised_by ks a)
raises_are [] a = record { key_is = refl; rises = omega arith; reaches = λ v none. absurd (cc) }
raises_are (k ∷ ks) a =
    let one = raise_is k.key k.version a in
    let rest = raises_are ks (raised_ask k.key k.version a) in
    record {
      key_is = rest.key_is ∙ one.key_is;
      rises = let low = one.rises in let high = rest.rises in omega arith;
      reaches = λ v at. elim (cases_Bool (same_key a.key k.key)) [
        | inl same ↦ (
            let e : Some k.version ≡ Some v = rw same at at in
            let i : k.version ≡ v = cc in
            let low = one.reaches same in let high = rest.rises in omega arith)
        | inr other ↦ rest.reaches v (rw one.key_is (rw other at at))
      ];
    }

-- each ask has at least the versions that the keys name
pub floors_reach : (ks : List KeyVersion) (t : Asks) → AllByRecursion (λ a. (v : ℕ) → version_among ks a.key ≡ Some v → v ≤ a.floor) (raised_all ks t).asks
floors_reach ks t =
    subst (AllByRecursion (λ a. (v : ℕ) → version_among ks a.key ≡ Some v → v ≤ a.floor)) (sym (raised_all_is ks t)) (each t.asks)
  where
    each : (l : List Ask) → AllByRecursion (λ a. (v : ℕ) → version_among ks a.key ≡ Some v → v ≤ a.floor) (map (raised_by ks) l)
    each [] = tt
    each (a ∷ l) = (let raises = raises_are ks a in λ v at. raises.reaches v (subst (λ k. version_among ks k ≡ Some v) raises.key_is at), each l)
