-- Entries whose touches write records of edges.
use Rattle.std.proofs.Common.{◌≡◌, ℕ, ◌+◌, ◌<◌, ◌≢◌, true, List, [], ◌∷◌, ◌++◌, length, map, refl, ap, ◌∙◌, subst, arith}
use Rattle.std.proofs.lemmas.List.{length-map, map-append}
use Rattle.std.proofs.lemmas.Option.{same_Some}
use Rattle.std.specs.Prelude.{All, AllPairs, Contains, Option, Some, IfSome, IsTrue, filter_map}
use Rattle.tao_base.specs.EdgeTypes.{EdgeTypes}
use Rattle.tao_base.specs.Ids.{shard_of}
use Rattle.tao_base.specs.Stamps.{stamp_of}
use Rattle.tao_base.specs.declared.id.Key.TheVariants.{List as Assocs}
use Rattle.tao_base.specs.declared.edge.EdgeState.{EdgeState}
use Rattle.tao_base.specs.declared.edge.EdgeState.TheVariants.{Live, Cut}
use Rattle.tao_base.specs.declared.entry.Entry.{Entry}
use Rattle.tao_base.specs.declared.entry.Kind.{Kind}
use Rattle.tao_base.specs.declared.entry.Origin.{Origin}
use Rattle.tao_base.specs.declared.entry.Touch.{Touch}
use Rattle.graph_model.proofs.Members.{IsIn, PairsByRecursion, if_some, if_some_at, All-from_in, AllPairs-from_recursion, contains_from_in}
use Rattle.graph_model.proofs.Members.{in_map_parts, pairs_map}
use Rattle.graph_model.proofs.Sound.{sound_of_grows}
use Rattle.write_model.proofs.Touches.{touch_follows}
use Rattle.tao_base.specs.Keys.{key_shard}
use Rattle.write_model.specs.MergeLaws.{IsCutThenLive}
use Rattle.graph_model.specs.Records.{is_news}
use Rattle.graph_model.specs.Soundness.{AreInOrder, AreOpposite, CanFollow, EdgeUpdate, IsOneEnd, IsSoundOf, KeepsEnds, TouchFollows, is_client}
use Rattle.graph_model.specs.Soundness.{other_end, update_at, IsNewOrigin}
use Rattle.write_model.specs.WriteLaws.{StaysSound}
use Rattle.write_model.specs.Writes.{edge_touch, next_entry}

-- a cut and then a set between the same ids
pub record CutBefore (u v : EdgeUpdate) : Type 0 where
  pub states : IsCutThenLive u.3 v.3
  pub id1 : u.0 ≡ v.0
  pub id2 : u.2 ≡ v.2

abbrev pub AreApart : EdgeUpdate → EdgeUpdate → Type 0
AreApart u v = Assocs u.0 u.1 ≢ Assocs v.0 v.1

abbrev pub update_of : Touch → Option EdgeUpdate
update_of t = update_at t.key t.change

abbrev pub entry_of : List Entry → Kind → Origin → List Touch → Entry
entry_of log kind origin touches = record { position = length log + 1; kind = kind; origin = origin; touches = touches }

pub update_of-touch : (log : List Entry) (u : EdgeUpdate) → update_of (edge_touch log u) ≡ Some u
update_of-touch log (id1, atype, id2, Live time payload stamp) = refl
update_of-touch log (id1, atype, id2, Cut stamp) = refl

pub updates-touches : (log : List Entry) (us : List EdgeUpdate) → filter_map update_of (map (edge_touch log) us) ≡ us
updates-touches log [] = refl
updates-touches log (u ∷ us) = rw (update_of-touch log u) (ap (λ vs. u ∷ vs) (updates-touches log us))

opposite : (log : List Entry) (u v : EdgeUpdate) → v.0 ≡ u.2 → v.2 ≡ u.0 → AreOpposite (edge_touch log u) (edge_touch log v)
opposite log u v a b = rw (update_of-touch log u, update_of-touch log v) (a, b)

-- what the records of an entry are: those at id1, and then those at id2
pub record AreWritten (types : EdgeTypes) (shard : ℕ) (log : List Entry) (origin : Origin) (us : List EdgeUpdate) : Type 0 where
  pub first : List EdgeUpdate
  pub second : List EdgeUpdate
  pub joined : us ≡ first ++ second
  pub some : 0 < length first
  pub first_end : PairsByRecursion CutBefore first
  pub second_end : PairsByRecursion CutBefore second
  pub opposite : (u v : EdgeUpdate) → IsIn u first → IsIn v second → (v.0 ≡ u.2) × (v.2 ≡ u.0)
  pub apart : PairsByRecursion AreApart us
  pub news : (u : EdgeUpdate) → IsIn u us → is_news log u ≡ true
  pub own : IsTrue (is_client origin) → (u : EdgeUpdate) → IsIn u us → (stamp_of u.3).shard ≡ shard_of u.0
  pub here : (u : EdgeUpdate) → IsIn u us → shard_of u.0 ≡ shard
  pub both : (u : EdgeUpdate) → IsIn u us → shard_of u.2 ≡ shard → IfSome (other_end types u) (λ v. IsIn v us)

pub one_cut : (x y z : EdgeState) → IsCutThenLive x y → IsCutThenLive y z → ⊥
one_cut (Live time payload stamp) y z h k = h
one_cut (Cut stamp) (Live time payload later) z h k = k
one_cut (Cut stamp) (Cut later) z h k = h

two_touches : (log : List Entry) (u v : EdgeUpdate) → CutBefore u v → IsOneEnd (edge_touch log u ∷ edge_touch log v ∷ [])
two_touches log (a, s, b, Cut stamp) (c, t, d, Live time payload later) h = (h.id1, h.id2)
two_touches log (a, s, b, Cut stamp) (c, t, d, Cut later) h = absurd h.states
two_touches log (a, s, b, Live time payload stamp) v h = absurd h.states

one_end : (log : List Entry) (us : List EdgeUpdate) → PairsByRecursion CutBefore us → IsOneEnd (map (edge_touch log) us)
one_end log [] p = tt
one_end log (u ∷ []) p = tt
one_end log (u ∷ v ∷ []) p = two_touches log u v p.0.0
one_end log (u ∷ v ∷ w ∷ us) p = absurd (one_cut u.3 v.3 w.3 p.0.0.states p.1.0.0.states)

in_order : (types : EdgeTypes) (shard : ℕ) (log : List Entry) (origin : Origin) (us : List EdgeUpdate) → AreWritten types shard log origin us
    → AreInOrder (map (edge_touch log) us)
in_order types shard log origin us w = record {
  first = map (edge_touch log) w.first;
  second = map (edge_touch log) w.second;
  joined = ap (map (edge_touch log)) w.joined ∙ map-append (edge_touch log) w.first w.second;
  some = rw (length-map w.first (edge_touch log)) w.some;
  first_end = one_end log w.first w.first_end;
  second_end = one_end log w.second w.second_end;
  opposite = All-from_in (λ s. All (AreOpposite s) (map (edge_touch log) w.second)) (map (edge_touch log) w.first) (λ s h.
      All-from_in (AreOpposite s) (map (edge_touch log) w.second) (λ t k.
      let u = in_map_parts (edge_touch log) w.first s h in
      let v = in_map_parts (edge_touch log) w.second t k in
      let o = w.opposite u.0 v.0 u.1 v.1 in
      subst (λ x. AreOpposite x t) u.2 (subst (λ x. AreOpposite (edge_touch log u.0) x) v.2 (opposite log u.0 v.0 o.0 o.1))));
}

pub keys_apart : (log : List Entry) (us : List EdgeUpdate) → PairsByRecursion AreApart us → AllPairs (λ s t. s.key ≢ t.key) (map (edge_touch log) us)
keys_apart log us p = AllPairs-from_recursion (λ s t. s.key ≢ t.key) (map (edge_touch log) us) (pairs_map (λ s t. s.key ≢ t.key) (edge_touch log) us p)

-- the entry of a kind and an origin that writes the records
abbrev pub written_entry : List Entry → Kind → Origin → List EdgeUpdate → Entry
written_entry log kind origin us = entry_of log kind origin (map (edge_touch log) us)

pub written_follows : (types : EdgeTypes) (shard : ℕ) (log : List Entry) (kind : Kind) (origin : Origin) (us : List EdgeUpdate)
    → AreWritten types shard log origin us → IsNewOrigin log origin → CanFollow log (written_entry log kind origin us)
written_follows types shard log kind origin us w new = record {
  position_is = refl;
  ordered = ∣ in_order types shard log origin us w ∣₁;
  once = keys_apart log us w.apart;
  touches = All-from_in (TouchFollows log origin) (map (edge_touch log) us) (λ t h.
      let u = in_map_parts (edge_touch log) us t h in
      subst (TouchFollows log origin) u.2 (touch_follows log origin u.0.0 u.0.1 u.0.2 u.0.3 (w.news u.0 u.1) (λ c. w.own c u.0 u.1)));
  new_origin = new;
}

pub written_keeps_ends : (types : EdgeTypes) (shard : ℕ) (log : List Entry) (kind : Kind) (origin : Origin) (us : List EdgeUpdate)
    → AreWritten types shard log origin us → KeepsEnds types shard (written_entry log kind origin us)
written_keeps_ends types shard log kind origin us w = record {
  here = All-from_in (λ t. key_shard t.key ≡ shard) (map (edge_touch log) us) (λ t h.
      let u = in_map_parts (edge_touch log) us t h in
      subst (λ x. key_shard x.key ≡ shard) u.2 (w.here u.0 u.1));
  both = rw (updates-touches log us) (All-from_in (λ u. shard_of u.2 ≡ shard → IfSome (other_end types u) (λ v. ∥ Contains us v ∥₁)) us
      (λ u h near. if_some (λ v. ∥ Contains us v ∥₁) (other_end types u) (λ v e.
      ∣ contains_from_in us v (if_some_at (λ x. IsIn x us) (other_end types u) v (w.both u h near) e) ∣₁)));
}

-- an entry with touches
pub given_entry : (log : List Entry) (kind : Kind) (origin : Origin) (touches : List Touch) (e : Entry) → next_entry log kind origin touches ≡ Some e
    → (0 < length touches) × (entry_of log kind origin touches ≡ e)
given_entry log kind origin [] e h = absurd (cc)
given_entry log kind origin (t ∷ ts) e h = (omega arith, same_Some (entry_of log kind origin (t ∷ ts)) e h)

pub stays_sound : (types : EdgeTypes) (shard : ℕ) (log : List Entry) (e : Entry) → IsSoundOf types shard log → CanFollow log e → KeepsEnds types shard e
    → StaysSound types shard log e
stays_sound types shard log e sound follows ends = record {
  follows = follows;
  ends = ends;
  sound = (sound_of_grows shard log e).grows types sound follows ends;
}

-- an entry that writes such records keeps the log sound
pub written_stays : (types : EdgeTypes) (shard : ℕ) (log : List Entry) (kind : Kind) (origin : Origin) (us : List EdgeUpdate) (e : Entry)
    → IsSoundOf types shard log → IsNewOrigin log origin → AreWritten types shard log origin us → next_entry log kind origin (map (edge_touch log) us) ≡ Some e
    → StaysSound types shard log e
written_stays types shard log kind origin us e sound new w h =
    subst (StaysSound types shard log) (given_entry log kind origin (map (edge_touch log) us) e h).1
    (stays_sound types shard log (written_entry log kind origin us) sound (written_follows types shard log kind origin us w new)
    (written_keeps_ends types shard log kind origin us w))
