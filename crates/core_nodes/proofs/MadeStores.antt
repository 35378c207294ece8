-- The stores of one shard more.
use Rattle.std.proofs.Common.{◌≡◌, ℕ, suc, ◌+◌, ◌<◌, Bool, true, false, List, [], ◌∷◌, ◌++◌, map, refl, sym, ap, ◌∙◌, subst, inl, inr, arith}
use Rattle.std.proofs.lemmas.Bool.{eq-eqb}
use Rattle.std.proofs.lemmas.List.{map-append}
use Rattle.std.proofs.lemmas.List.Elements.{All-append, All-cons, All-nil, All-weaker, Contains-append_left, Contains-append_right}
use Rattle.std.specs.Prelude.{◌==◌, All}
use Rattle.graph_model.proofs.Members.{All-in, IsIn}
use Rattle.graph_model.specs.Told.{WhereTold}
use Rattle.region_stream.specs.Opening.{IsOpenedMaster, slave_of}
use Rattle.shard_log.proofs.Beginnings.{begins-self}
use Rattle.shard_log.proofs.GrowthLemmas.{grows-self}
use Rattle.shard_log.specs.View.{Grows, as_note}
use Rattle.shard_tables.specs.StoreView.{Store}
use Rattle.shard_tables.specs.Stores.{IsStoreOf, note_of, seen_by}
use Rattle.shard_tables.specs.declared.store.StoreRole.TheVariants.{Master, Slave}
use Rattle.tao_base.specs.declared.id.StoreName.{StoreName}
use Rattle.tao_keeper.specs.Table.{Stays, Tables}
use Rattle.topology.specs.Config.{Settings}
use Rattle.core_model.specs.Stores.{HaveMasterRegions, IsConfiguredStore, IsStoreAt, master_of, master_store, role_in, store_place}
use Rattle.core_nodes.specs.Opening.{AreMade, IsMade, made_names, slave_names}
use Rattle.core_nodes.proofs.MadeNames.{in_image, slave_in}
use Rattle.core_nodes.proofs.StoreLemmas.{seen_here}

-- none is made yet
pub made_none : (tells : Bool) (s : Settings) (tables : Tables) → AreMade tells s tables 0 []
made_none tells s tables = record { names = refl; each = All-nil (IsMade tells s tables []) }

-- the tables stay
pub made_stays : (tells : Bool) (s : Settings) (old new : Tables) (count : ℕ) (xs : List Store) → WhereTold tells (Stays old new)
    → AreMade tells s old count xs → AreMade tells s new count xs
made_stays tells s old new count xs stays made = record {
  names = made.names;
  each = All-weaker (IsMade tells s old xs) (IsMade tells s new xs)
      (λ x is. record { is = is.is; kept = seen_here tells old new x is.kept (λ told. stays told x.name); follows = is.follows }) xs made.each;
}

-- what is made stays so among others
made_among : (tells : Bool) (s : Settings) (tables : Tables) (xs ys : List Store) → All (IsMade tells s tables xs) xs
    → All (IsMade tells s tables (xs ++ ys)) xs
made_among tells s tables xs ys made =
    All-weaker (IsMade tells s tables xs) (IsMade tells s tables (xs ++ ys))
    (λ x is. record {
      is = is.is;
      kept = is.kept;
      follows = record {
        master = is.follows.master;
        there = Contains-append_left xs ys is.follows.master is.follows.there;
        name_is = is.follows.name_is;
        grows = is.follows.grows;
      };
    }) xs made

names_of_slaves : (master : Store) (names : List StoreName) → map (λ (x : Store). x.name) (map (slave_of master) names) ≡ names
names_of_slaves master [] = refl
names_of_slaves master (at ∷ names) = ap (λ l. at ∷ l) (names_of_slaves master names)

module _ (tells : Bool) (s : Settings) (tables : Tables) (shard : ℕ) (regions : HaveMasterRegions s) (within : shard < s.shards) (master : Store)
    (opened : IsOpenedMaster tells tables (master_store s shard) s.log_max master)
    (kept : All (IsStoreOf tells tables) (map (slave_of master) (slave_names s shard))) where
  abbrev own : List Store
  own = master ∷ map (slave_of master) (slave_names s shard)

  master_role : role_in s (master_store s shard) ≡ Master
  master_role = by_test (eq-eqb (master_of s shard) (master_of s shard) refl)
    where
      by_test : (master_of s shard == master_of s shard) ≡ true → role_in s (master_store s shard) ≡ Master
      by_test same = rw same refl

  master_stands : IsStoreAt s (store_place s master.name) master
  master_stands = record {
    place_is = refl;
    here = subst (IsConfiguredStore s) (sym opened.name_is) (record { region = regions shard; shard = within });
    limit_is = opened.limit_is;
    epoch_is = opened.epoch_is;
    role_is = opened.role_is ∙ sym master_role ∙ ap (role_in s) (sym opened.name_is);
  }

  master_made : (xs : List Store) → IsMade tells s tables (xs ++ own) master
  master_made xs = record {
    is = master_stands;
    kept = opened.kept;
    follows = record {
      master = master;
      there = Contains-append_right xs own master (0, omega arith, refl);
      name_is = opened.name_is ∙ ap (λ (n : StoreName). master_store s n.shard) (sym opened.name_is);
      grows = grows-self master.view;
    };
  }

  note_grows : Grows (note_of master) master.view
  note_grows =
      let whole : Grows (as_note master.view) master.view = record { log_is = refl; begins = begins-self master.view.entries } in
      subst (λ r. Grows (seen_by r master.view) master.view) (sym opened.role_is) whole

  slave_made : (xs : List Store) (at : StoreName) → IsIn at (slave_names s shard) → IsMade tells s tables (xs ++ own) (slave_of master at)
  slave_made xs at h =
      let is = slave_in s shard at h in
      let role : role_in s at ≡ Slave = (let isnt : (at.region == master_of s at.shard) ≡ false =
      ap (λ n. at.region == master_of s n) is.shard_is ∙ is.apart in rw isnt refl) in
      record {
        is = record {
          place_is = refl;
          here = record { region = is.region; shard = omega (arith, within, is.shard_is) };
          limit_is = opened.limit_is;
          epoch_is = refl;
          role_is = sym role;
        };
        kept = All-in (IsStoreOf tells tables) (map (slave_of master) (slave_names s shard)) (slave_of master at) kept
            (in_image (slave_of master) (slave_names s shard) at h);
        follows = record {
          master = master;
          there = Contains-append_right xs own master (0, omega arith, refl);
          name_is = opened.name_is ∙ ap (master_store s) (sym is.shard_is);
          grows = note_grows;
        };
      }

  slaves_made : (xs : List Store) (names : List StoreName) → ((at : StoreName) → IsIn at names → IsIn at (slave_names s shard))
      → All (IsMade tells s tables (xs ++ own)) (map (slave_of master) names)
  slaves_made xs [] so = All-nil (IsMade tells s tables (xs ++ own))
  slaves_made xs (at ∷ names) so =
      All-cons (IsMade tells s tables (xs ++ own)) (slave_of master at) (map (slave_of master) names) (slave_made xs at (so at (inl refl)))
      (slaves_made xs names (λ n h. so n (inr h)))

  -- they are added to those of the shards before
  pub made_more : (xs ys slaves : List Store) → AreMade tells s tables shard xs → ys ≡ xs ++ master ∷ slaves
      → slaves ≡ map (slave_of master) (slave_names s shard) → AreMade tells s tables (shard + 1) ys
  made_more xs ys slaves made added slaves_are =
      let all : AreMade tells s tables (suc shard) (xs ++ own) = record {
        names = map-append (λ (x : Store). x.name) xs own
            ∙ ap (λ l. l ++ map (λ (x : Store). x.name) own) made.names
            ∙ ap (λ l. made_names s shard ++ l) (ap (λ n. n ∷ map (λ (x : Store). x.name) (map (slave_of master) (slave_names s shard))) opened.name_is
            ∙ ap (λ l. master_store s shard ∷ l) (names_of_slaves master (slave_names s shard)));
        each = All-append (IsMade tells s tables (xs ++ own)) xs own (made_among tells s tables xs own made.each)
            (All-cons (IsMade tells s tables (xs ++ own)) master (map (slave_of master) (slave_names s shard)) (master_made xs)
            (slaves_made xs (slave_names s shard) (λ at h. h)));
      } in
      let next : suc shard ≡ shard + 1 = omega arith in
      let are : ys ≡ xs ++ own = added ∙ ap (λ zs. xs ++ master ∷ zs) slaves_are in
      subst (AreMade tells s tables (shard + 1)) (sym are) (subst (λ n. AreMade tells s tables n (xs ++ own)) next all)
