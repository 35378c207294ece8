-- What is known of a cluster that was made, and what its keepers show together.
use Rattle.std.proofs.Common.{◌≡◌, ℕ, ◌<◌, Bool, IfErr, IfOk, List, Result, Ok, Err, Some, refl, ap, sym, subst, ◌∙◌, ◌⊎◌, inl, inr, arith}
use Rattle.std.proofs.lemmas.Option.{slice_get_cases}
use Rattle.std.specs.Prelude.{slice_get, unwrap_or}
use Rattle.locked_nodes.specs.core_nodes.Opening.{IsOpened, RefusesOpening}
use Rattle.graph_model.specs.Told.{WhereTold}
use Rattle.keepers.specs.Shown.{kept, shards_of, shown_by, strays_of, told_in}
use Rattle.keepers.specs.declared.keepers.Keepers.{Keepers}
use Rattle.replies.specs.declared.opening.OpenRefusal.{OpenRefusal}
use Rattle.replies.specs.declared.opening.OpenRefusal.TheVariants as refusal
use Rattle.shard_tables.specs.StoreView.{Store}
use Rattle.shared_stores.specs.Making.{Making}
use Rattle.tao_keeper.specs.KeeperState.{KeeperState}
use Rattle.tao_keeper.specs.Table.{Tables}
use Rattle.topology.specs.Config.{Settings}
use Rattle.locked_nodes.specs.Nodes.{AreCutsOf}
use Rattle.cluster_opening.specs.Opening.{AreCuts, IsOpenedOver, RefusesOver, making_of, shown_in}
use Rattle.cluster_opening.specs.declared.opening.OpenedFleet.{OpenedFleet}

pub cuts_of_making : (tells : Bool) (s : Settings) (tables : Tables) (stores : List Store) (cuts : List ℕ) (m : Making) → m ≡ making_of s stores cuts
    → AreCuts tells s tables cuts → AreCutsOf m cuts
cuts_of_making tells s tables stores cuts m m_is are = subst (λ k. AreCutsOf k cuts) (sym m_is) (record { long = are.long; each = each })
  where
    each : (shard : ℕ) → shard < s.shards → slice_get cuts shard ≡ Some (unwrap_or (slice_get cuts shard) 0)
    each shard lt = elim (slice_get_cases cuts shard).1 [
      | inl e ↦ e.2 ∙ ap Some (sym (ap (λ o. unwrap_or o 0) e.2))
      | inr e ↦ absurd (let past = e.0 in let long = are.long in omega (arith, lt, past, long))
    ]

-- what keepers show together, by their shards and their number of strays
pub shown_so : {M : Type 0} (state : M → KeeperState) (all : Keepers M) (shards strays : ℕ) (keepers : List M) → shards_of all ≡ shards → strays_of all ≡ strays
    → kept all ≡ keepers → shown_by state all ≡ shown_in state shards strays keepers
shown_so state all shards strays keepers shards_are strays_are keepers_are =
    ap (λ n. shown_in state n (strays_of all) (kept all)) shards_are ∙ ap (λ n. shown_in state shards n (kept all)) strays_are
    ∙ ap (shown_in state shards strays) keepers_are

module _ {M : Type 0} (tells : Bool) (state : M → KeeperState) (s : Settings) where
  -- what was opened over keepers that are known together is so over each of them
  pub opened_shown : {E : Type 0} (after : Keepers M) (keepers : List M) (r : Result OpenedFleet E) → shards_of after ≡ s.shards → kept after ≡ keepers
      → IfOk r (λ begun. IsOpenedOver tells s (shown_by state after).told begun.fleet begun.cuts.items)
      → IfOk r (λ begun. IsOpenedOver tells s (told_in state s.shards keepers) begun.fleet begun.cuts.items)
  opened_shown after keepers (Ok begun) shards kept_are is =
      subst (λ (k : KeeperState). IsOpenedOver tells s k.told begun.fleet begun.cuts.items)
      (shown_so state after s.shards (strays_of after) keepers shards refl kept_are) is
  opened_shown after keepers (Err e) shards kept_are is = tt

  -- and so where they refused it
  pub refused_shown : {T : Type 0} (line : List ℕ) (before after : Keepers M) (old keepers : List M) (r : Result T OpenRefusal)
      → shown_by state before ≡ shown_in state s.shards 0 old → shards_of after ≡ s.shards → kept after ≡ keepers
      → IfErr r (RefusesOpening tells s line (shown_by state before) (shown_by state after))
      → IfErr r (RefusesOver tells s line (shown_in state s.shards 0 old) (λ strays. shown_in state s.shards strays keepers))
  refused_shown line before after old keepers (Ok t) was shards kept_are is = tt
  refused_shown line before after old keepers (Err why) was shards kept_are is = record {
    strays = strays_of after;
    refused = subst (λ (k : KeeperState). RefusesOpening tells s line k (shown_in state s.shards (strays_of after) keepers) why) was
        (subst (λ (k : KeeperState). RefusesOpening tells s line (shown_by state before) k why)
        (shown_so state after s.shards (strays_of after) keepers shards refl kept_are) is);
  }

  -- and that every store takes the line
  pub begun_shown : {T E : Type 0} (line : List ℕ) (before after : Keepers M) (old keepers : List M) (r : Result T E)
      → shown_by state before ≡ shown_in state s.shards 0 old → shards_of after ≡ s.shards → kept after ≡ keepers
      → WhereTold tells (IfOk r (λ _. IsOpened s line (shown_by state before).told (shown_by state after).told))
      → WhereTold tells (IfOk r (λ _. IsOpened s line (told_in state s.shards old) (told_in state s.shards keepers)))
  begun_shown line before after old keepers (Ok t) was shards kept_are is = λ told.
      subst (λ (k : KeeperState). IsOpened s line k.told (told_in state s.shards keepers)) was
      (subst (λ (k : KeeperState). IsOpened s line (shown_by state before).told k.told)
      (shown_so state after s.shards (strays_of after) keepers shards refl kept_are) (is told))
  begun_shown line before after old keepers (Err e) was shards kept_are is = λ told. tt

-- an opening that is refused for a keeper's fault may be said to be refused for want of memory
pub less_cause : (tells : Bool) (s : Settings) (line : List ℕ) (old : KeeperState) (after : ℕ → KeeperState) (why said : OpenRefusal)
    → (said ≡ why) ⊎ ((why ≡ refusal.KeeperFault) × (said ≡ refusal.OutOfMemory)) → RefusesOver tells s line old after why
    → RefusesOver tells s line old after said
less_cause tells s line old after why said is refuses = elim is [
  | inl same ↦ subst (RefusesOver tells s line old after) (sym same) refuses
  | inr less ↦ record {
    strays = refuses.strays;
    refused = subst (RefusesOpening tells s line old (after refuses.strays)) (sym less.1)
        (subst (RefusesOpening tells s line old (after refuses.strays)) less.0 refuses.refused).1;
  }
]
