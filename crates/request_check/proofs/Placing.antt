-- Each region, tier and shard that a checked call or request names is configured.
use Rattle.std.proofs.Common.{◌≡◌, ◌≢◌, ℕ, ◌<◌, length, Bool, true, false, not, List, Option, None, Some, Result, Ok, Err, IfOk, IfSome, refl, ap, inl, inr}
use Rattle.std.specs.Prelude.{◌==◌, nat_lt}
use Rattle.std.proofs.lemmas.Bool.{cases_Bool, eq-eqb, ltb-true}
use Rattle.outcomes.specs.Results.{◌>>=◌, needed, refused_unless}
use Rattle.tao_base.specs.EdgeTypes.{EdgeTypes}
use Rattle.tao_base.specs.Ids.{shard_of}
use Rattle.tao_base.specs.Queries.{query_key}
use Rattle.tao_base.specs.declared.id.AType.{AType}
use Rattle.tao_schema.specs.Schema.{types_of}
use Rattle.topology.specs.Config.{Settings}
use Rattle.topology.specs.Lookup.{tier_in}
use Rattle.topology.specs.Regions.{region_at}
use Rattle.topology.proofs.Found.{region_configured, tier_configured}
use Rattle.replies.specs.declared.refusals.NameRefused.{NameRefused}
use Rattle.replies.specs.declared.refusals.NameRefused.TheVariants.{NoShard, NoTier, SameType}
use Rattle.requests.specs.declared.calls.Call.{Call}
use Rattle.requests.specs.declared.calls.Call.TheVariants as call
use Rattle.requests.specs.declared.calls.EdgeName.{EdgeName}
use Rattle.requests.specs.declared.calls.ListName.{ListName}
use Rattle.requests.specs.declared.calls.QueryText.{QueryText}
use Rattle.requests.specs.declared.calls.QueryText.TheVariants.{ObjGet, AssocGet, AssocCount, AssocRange, AssocTimeRange}
use Rattle.requests.specs.declared.calls.ReadCall.{ReadCall}
use Rattle.requests.specs.declared.calls.WriteCall.{WriteCall}
use Rattle.requests.specs.declared.calls.WriteText.{WriteText}
use Rattle.requests.specs.declared.calls.WriteText.TheVariants.{ObjAdd, ObjUpdate, ObjDelete, AssocAdd, AssocDelete, AssocChangeType}
use Rattle.request_check.specs.Calls.{checked_call, checked_query, checked_read_call, checked_write, checked_write_call}
use Rattle.request_check.specs.Calls.{configured_ends, edge_type, has_type, is_type, bounded_ids, list_type}
use Rattle.request_check.specs.Names.{atype_named, configured_id, configured_shard, otype_named, region_named, tier_named, tier_text}
use Rattle.request_check.specs.Placed.{IsPlacedCall, IsPlacedKey, IsPlacedTier, IsPlacedWrite}
use Rattle.request_check.proofs.PlacedNodes.{needed_holds}

-- ---- one step after another

-- what holds of what is found, where the next step keeps it
pub andthen : {A B : Type 0} (P : A → Type 0) (Q : B → Type 0) (found : Result A NameRefused) (next : A → Result B NameRefused)
    → IfOk found P → ((a : A) → P a → IfOk (next a) Q) → IfOk (found >>= next) Q
andthen P Q (Ok a) next here there = there a here
andthen P Q (Err refused) next here there = tt

-- what holds of the next step alone
pub whatever : {A B : Type 0} (Q : B → Type 0) (found : Result A NameRefused) (next : A → Result B NameRefused) → ((a : A) → IfOk (next a) Q)
    → IfOk (found >>= next) Q
whatever Q (Ok a) next there = there a
whatever Q (Err refused) next there = tt

-- what holds already
always : {A : Type 0} {P : Type 0} (found : Result A NameRefused) → P → IfOk found (λ a. P)
always (Ok a) p = p
always (Err refused) p = tt

passes : {P : Type 0} (refused : NameRefused) (test : Bool) → (test ≡ true → P) → IfOk (refused_unless refused test) (λ u. P)
passes refused true p = p refl
passes refused false p = tt

-- an edge has another type
changes : (types : EdgeTypes) (edge : EdgeName) (atype newtype : AType) → not (has_type types edge atype newtype) ≡ true
    → (atype ≢ newtype) × (edge.list.id1 ≡ edge.id2 → types.inverse atype ≢ Some newtype)
changes types edge atype newtype h = elim (cases_Bool (atype.0 == newtype.0)) [
  | inl same ↦ (let e = rw same at h in absurd (cc))
  | inr differ ↦ (
    λ same. (let e : (atype.0 == newtype.0) ≡ true = eq-eqb atype.0 newtype.0 (ap (λ t. t.0) same) in absurd (cc)),
    λ loop inverse.
        let first : (edge.list.id1 == edge.id2) ≡ true = eq-eqb edge.list.id1 edge.id2 loop in
        let second : is_type newtype (types.inverse atype) ≡ true = rw inverse (eq-eqb newtype.0 newtype.0 refl) in
        let e = rw (differ, first, second) at h in absurd (cc),
  )
]

module _ (s : Settings) where
  -- ---- shards

  pub shard_placed : (shard : ℕ) → IfOk (configured_shard s shard) (λ u. shard < s.shards)
  shard_placed shard = passes (NoShard shard) (nat_lt shard s.shards) (ltb-true shard s.shards)

  pub id_placed : (id : ℕ) → IfOk (configured_id s id) (λ u. shard_of id < s.shards)
  id_placed id = shard_placed (shard_of id)

  ends_placed : (edge : EdgeName) → IfOk (configured_ends s edge) (λ u. shard_of edge.list.id1 < s.shards)
  ends_placed edge = andthen _ _ (configured_id s edge.list.id1) _ (id_placed edge.list.id1) (λ u here. always (configured_id s edge.id2) here)

  edge_placed : (edge : EdgeName) → IfOk (edge_type s edge) (λ t. shard_of edge.list.id1 < s.shards)
  edge_placed edge = whatever _ (atype_named s edge.list.atype) _ (λ t. andthen _ _ (configured_ends s edge) _ (ends_placed edge) (λ u here. here))

  pub list_placed : (list : ListName) → IfOk (list_type s list) (λ t. shard_of list.id1 < s.shards)
  list_placed list = whatever _ (atype_named s list.atype) _ (λ t. andthen _ _ (configured_id s list.id1) _ (id_placed list.id1) (λ u here. here))

  -- ---- calls

  write_placed : (text : WriteText) → IfOk (checked_write s text) (IsPlacedWrite s)
  write_placed (ObjAdd shard name payload) =
      whatever _ (otype_named s name) _ (λ t. andthen _ _ (configured_shard s shard) _ (shard_placed shard)
      (λ u here. record { configured = here; changes = tt }))
  write_placed (ObjUpdate id payload) = andthen _ _ (configured_id s id) _ (id_placed id) (λ u here. record { configured = here; changes = tt })
  write_placed (ObjDelete id) = andthen _ _ (configured_id s id) _ (id_placed id) (λ u here. record { configured = here; changes = tt })
  write_placed (AssocAdd edge time payload) = andthen _ _ (edge_type s edge) _ (edge_placed edge) (λ t here. record { configured = here; changes = tt })
  write_placed (AssocDelete edge) = andthen _ _ (edge_type s edge) _ (edge_placed edge) (λ t here. record { configured = here; changes = tt })
  write_placed (AssocChangeType edge name) =
      whatever _ (atype_named s edge.list.atype) _ (λ t. whatever _ (atype_named s name) _ (λ n. andthen _ _ (configured_ends s edge) _ (ends_placed edge)
      (λ u here. andthen _ _ (refused_unless (SameType name) (not (has_type (types_of s.schema) edge t n))) _
      (passes (SameType name) (not (has_type (types_of s.schema) edge t n)) (changes (types_of s.schema) edge t n))
      (λ v other. record { configured = here; changes = other }))))

  query_placed : (text : QueryText) → IfOk (checked_query s text) (λ q. IsPlacedKey s (query_key q))
  query_placed (ObjGet id) = andthen _ _ (configured_id s id) _ (id_placed id) (λ u here. here)
  query_placed (AssocGet list ids high low) = andthen _ _ (list_type s list) _ (list_placed list)
      (λ t here. andthen _ _ (bounded_ids s t ids) _ (always (bounded_ids s t ids) here) (λ u there. there))
  query_placed (AssocCount list) = andthen _ _ (list_type s list) _ (list_placed list) (λ t here. here)
  query_placed (AssocRange list pos limit) = andthen _ _ (list_type s list) _ (list_placed list) (λ t here. here)
  query_placed (AssocTimeRange list high low limit) = andthen _ _ (list_type s list) _ (list_placed list) (λ t here. here)

  write_call_placed : (text : WriteCall) → IfOk (checked_write_call s text) (λ w. IsPlacedWrite s w.write)
  write_call_placed text = andthen _ _ (checked_write s text.write) _ (write_placed text.write) (λ w here. here)

  pub read_call_placed : (text : ReadCall) → IfOk (checked_read_call s text) (λ r. IsPlacedKey s (query_key r.query))
  read_call_placed text = andthen _ _ (checked_query s text.query) _ (query_placed text.query) (λ q here. here)

  pub call_placed : (text : Call) → IfOk (checked_call s text) (IsPlacedCall s)
  call_placed (call.Write text) = andthen _ _ (checked_write_call s text) _ (write_call_placed text) (λ w here. here)
  call_placed (call.Read text) = andthen _ _ (checked_read_call s text) _ (read_call_placed text) (λ r here. here)

  -- ---- places

  pub region_placed : (name : List ℕ) → IfOk (region_named s name) (λ region. region < length s.regions)
  region_placed name = needed_holds _ (NoTier name) (region_at s.regions name) (region_configured s.regions name)

  pub tier_placed : (region tier : List ℕ) → IfOk (tier_named s region tier) (λ place. IsPlacedTier s place.region place.tier)
  tier_placed region tier = andthen _ _ (region_named s region) _ (region_placed region) (λ place here.
      andthen _ _ (needed (NoTier (tier_text region tier)) (tier_in s.regions place tier)) _
      (needed_holds _ (NoTier (tier_text region tier)) (tier_in s.regions place tier) (tier_configured s.regions place tier))
      (λ found there. record { configured = here; within = there }))
