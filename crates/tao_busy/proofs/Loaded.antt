-- What a load comes to, over stores that were opened and over keepers that were given.
use Rattle.std.proofs.Common.{◌≡◌, ℕ, Bool, List, Result, Ok, Err, Vec, length, sym, ap, subst, ◌∙◌, arith, mul_comm}
use Rattle.std.specs.Prelude.{IfErr, IfOk, unwrap_or}
use Rattle.std.proofs.lemmas.Nat.{mul-add-lt}
use Rattle.core_model.specs.Stores.{HaveMasterRegions, master_store, store_count}
use Rattle.core_model.specs.shard_tables.StoreView.{Store}
use Rattle.graph_model.specs.Told.{WhereTold}
use Rattle.keepers.specs.Shown.{told_in}
use Rattle.load_audit.specs.Listed.{IsWorkload}
use Rattle.replies.specs.declared.opening.OpenRefusal.{OpenRefusal}
use Rattle.replies.specs.declared.opening.OpenRefusal.TheVariants as refusal
use Rattle.requests.specs.declared.request.Request.{Request}
use Rattle.shared_stores.specs.Making.{Making}
use Rattle.shared_tiers.specs.cluster_opening.Opening.{AreCuts, making_of, shown_in}
use Rattle.shared_tiers.specs.cluster_opening.locked_nodes.core_nodes.Opening.{IsFirst, IsOpened, IsOpenedInPart, RefusesOpening}
use Rattle.tao_base.specs.declared.id.StoreName.{StoreName}
use Rattle.tao_keeper.specs.KeeperState.{KeeperState}
use Rattle.tao_keeper.specs.Table.{Table, Tables}
use Rattle.topology.specs.Config.{Settings}
use Rattle.tao_busy.specs.Ending.{ComesToEnd, CountsNone, EndsLoad, load_start, start_over}
use Rattle.tao_busy.specs.Load.{LeavesLoad, RefusesLoad, RefusesRun, faults_in, requests_asked}
use Rattle.tao_busy.specs.Refusing.{HaveNoCuts, cuts_in}
use Rattle.tao_busy.specs.declared.asked.BusyRefusal.{BusyRefusal}
use Rattle.tao_busy.specs.declared.asked.BusyRefusal.TheVariants.{KeeperFault, Open, OutOfMemory, Stranger, Stuck}
use Rattle.tao_busy.specs.declared.asked.LoadAsked.{LoadAsked}
use Rattle.tao_busy.specs.declared.asked.LoadSummary.{LoadSummary}

-- the requests of a load are a workload's
pub listed_so : (s : Settings) (asked : LoadAsked) (requests : List Request) → asked.config.now ≡ s → requests ≡ requests_asked asked → IsWorkload s requests
listed_so s asked requests made is =
    subst (λ (x : Settings). IsWorkload x requests) made (record { seed = asked.seed; calls = asked.calls; is = is })

-- ---- stores of which no cluster was made

-- stores that were opened are opened in part
in_part : (s : Settings) (line : List ℕ) (old new : Tables) → IsOpened s line old new → IsOpenedInPart s line old new
in_part s line old new is = record { count = store_count s; some = omega arith; opened = is.opened }

-- want of memory, where the keepers come back as they were once the stores were opened
refused_so : {M : Type 0} (tells : Bool) (state : M → KeeperState) (s : Settings) (line : List ℕ) (old opened now : List M) (why : OpenRefusal)
    → why ≡ refusal.OutOfMemory → now ≡ opened → WhereTold tells (IsOpened s line (told_in state s.shards old) (told_in state s.shards opened))
    → RefusesOpening tells s line (shown_in state s.shards 0 old) (shown_in state s.shards 0 now) why
refused_so {M} tells state s line old opened now why is back begun =
    subst (λ (w : OpenRefusal). RefusesOpening tells s line (shown_in state s.shards 0 old) (shown_in state s.shards 0 now) w) (sym is)
    (subst (λ (ks : List M). WhereTold tells (IsOpenedInPart s line (told_in state s.shards old) (told_in state s.shards ks))) (sym back)
    (λ told. in_part s line (told_in state s.shards old) (told_in state s.shards opened) (begun told)))

no_fault : (why : OpenRefusal) → why ≡ refusal.OutOfMemory → why ≡ refusal.KeeperFault → ⊥
no_fault why short fault = other (sym short ∙ fault)
  where
    other : refusal.OutOfMemory ≡ refusal.KeeperFault → ⊥
    other is = absurd (cc)

-- ---- cuts

-- no entry of a log is old where none was before its store was opened
uncut_opened : (s : Settings) (line : List ℕ) (old new : Tables) → HaveMasterRegions s → IsOpened s line old new → HaveNoCuts s (cuts_in s old)
    → HaveNoCuts s (cuts_in s new)
uncut_opened s line old new regions is none shard inside =
    let at : StoreName = master_store s shard in
    let most = mul-add-lt at.region s.shards shard (length s.regions) (regions shard) inside in
    let first : IsFirst s (store_count s) at = record {
      here = record { region = regions shard; shard = inside };
      before = omega (arith, most, mul_comm (length s.regions) s.shards);
    } in
    ap (λ (t : Table). t.cut) (is.opened.stores at first) ∙ none shard inside

-- nor in what a cluster was made with that is made of opened stores
pub uncut_made : {M : Type 0} (tells : Bool) (state : M → KeeperState) (opened : List M) (s : Settings) (stores : List Store) (cuts : List ℕ) (m : Making)
    → m ≡ making_of s stores cuts → AreCuts tells s (told_in state s.shards opened) cuts
    → WhereTold tells (HaveNoCuts m.settings (cuts_in m.settings (told_in state m.settings.shards opened)) → HaveNoCuts m.settings m.cut)
uncut_made tells state opened s stores cuts m is are =
    subst (λ (made : Making). WhereTold tells (HaveNoCuts made.settings (cuts_in made.settings (told_in state made.settings.shards opened))
    → HaveNoCuts made.settings made.cut)) (sym is)
    (λ told none shard inside. ap (λ o. unwrap_or o 0) (are.each told shard inside) ∙ none shard inside)

-- ---- how it ends

-- why there is no summary, of the same requests
run_over : {M : Type 0} (tells : Bool) (state : M → KeeperState) (asked : LoadAsked) (before : ℕ) (s : Settings) (requests : List Request)
    → s ≡ asked.config.now → requests ≡ requests_asked asked → (refusal : BusyRefusal M) → RefusesRun tells state s requests before refusal
    → RefusesRun tells state asked.config.now (requests_asked asked) before refusal
run_over tells state asked before s requests configured listed refusal refuses =
    subst (λ (t : Settings). RefusesRun tells state t (requests_asked asked) before refusal) configured
    (subst (λ rs. RefusesRun tells state s rs before refusal) listed refuses)

module _ {M A : Type 0} (tells : Bool) (state : M → KeeperState) (asked : LoadAsked) (opened : List M) (before : ℕ) where
  -- what a load over a cluster comes to, where no entry was old when the cluster was made if none was in the opened stores
  pub ends_over : (s : Settings) (requests : List Request) (cut : ℕ → ℕ) → s ≡ asked.config.now → requests ≡ requests_asked asked
      → WhereTold tells (HaveNoCuts s (cuts_in s (told_in state s.shards opened)) → HaveNoCuts s cut) → (result : Result (LoadSummary × Vec M A) (BusyRefusal M))
      → ComesToEnd tells state s requests (load_start before cut) result → EndsLoad tells state asked opened before result
  ends_over s requests cut configured listed uncut (Ok left) ends =
      subst (λ (t : Settings). ComesToEnd tells state t (requests_asked asked) (start_over state t opened before) (Ok left)) configured
      (subst (λ rs. ComesToEnd tells state s rs (start_over state s opened before) (Ok left)) listed
      (ends.0, λ told clear. ends.1 told (record { steady = clear.steady; uncut = uncut told clear.uncut; room = clear.room })))
  ends_over s requests cut configured listed uncut (Err (Open fail)) ends = absurd ends
  ends_over s requests cut configured listed uncut (Err (OutOfMemory keepers)) ends = run_over tells state asked before s requests configured listed (OutOfMemory keepers) ends
  ends_over s requests cut configured listed uncut (Err (Stuck shard why keepers)) ends = run_over tells state asked before s requests configured listed (Stuck shard why keepers) ends
  ends_over s requests cut configured listed uncut (Err (KeeperFault keepers)) ends = run_over tells state asked before s requests configured listed (KeeperFault keepers) ends
  ends_over s requests cut configured listed uncut (Err (Stranger shard position keepers)) ends =
      run_over tells state asked before s requests configured listed (Stranger shard position keepers) ends

  -- with a summary there is a keeper for each store
  pub many_so : (result : Result (LoadSummary × Vec M A) (BusyRefusal M)) → EndsLoad tells state asked opened before result
      → IfOk result (λ left. length left.1.items ≡ store_count asked.config.now)
  many_so (Ok left) ends = ends.0.many
  many_so (Err refusal) ends = tt

  pub leaves_all : (result : Result (LoadSummary × Vec M A) (BusyRefusal M)) → EndsLoad tells state asked opened before result
      → WhereTold tells (IfOk result (λ left. LeavesLoad asked.config.now (requests_asked asked) (told_in state asked.config.now.shards left.1.items) left.0))
  leaves_all (Ok left) ends = ends.0.leaves
  leaves_all (Err refusal) ends = λ told. tt

  -- no call was refused where nothing was in its way, and no entry was old before the stores were opened
  pub none_so : (old : List M) (result : Result (LoadSummary × Vec M A) (BusyRefusal M)) → HaveMasterRegions asked.config.now
      → WhereTold tells (IsOpened asked.config.now asked.line.now (told_in state asked.config.now.shards old) (told_in state asked.config.now.shards opened))
      → EndsLoad tells state asked opened before result
      → IfOk result (λ left. CountsNone tells state asked.config.now (cuts_in asked.config.now (told_in state asked.config.now.shards old)) left.0 left.1.items)
  none_so old (Ok left) regions begun ends = λ told clear.
      ends.1 told (record {
        steady = clear.steady;
        uncut = uncut_opened asked.config.now asked.line.now (told_in state asked.config.now.shards old) (told_in state asked.config.now.shards opened) regions
            (begun told) clear.uncut;
        room = clear.room;
      })
  none_so old (Err refusal) regions begun ends = tt

-- ---- why there is no summary

module _ {M A : Type 0} (tells : Bool) (state : M → KeeperState) (asked : LoadAsked) (opened : List M) (before : ℕ) where
  -- why there is none over stores that were opened is why there is none over the keepers that were given
  pub refuses_so : (old : List M) (result : Result (LoadSummary × Vec M A) (BusyRefusal M)) → before ≡ faults_in state old
      → length opened ≡ store_count asked.config.now
      → WhereTold tells (IsOpened asked.config.now asked.line.now (told_in state asked.config.now.shards old) (told_in state asked.config.now.shards opened))
      → EndsLoad tells state asked opened before result → IfErr result (RefusesLoad tells state asked old)
  refuses_so old (Ok left) counts many begun ends = tt
  refuses_so old (Err (Open fail)) counts many begun ends = record {
    many = ap length ends.1 ∙ many;
    refused = record {
      strays = 0;
      refused = refused_so tells state asked.config.now asked.line.now old opened fail.keepers.items fail.why ends.0 ends.1 begun;
    };
    own = λ is. absurd (no_fault fail.why ends.0 is);
  }
  refuses_so old (Err (OutOfMemory keepers)) counts many begun ends = ends
  refuses_so old (Err (Stuck shard why keepers)) counts many begun ends =
      subst (λ n. RefusesRun tells state asked.config.now (requests_asked asked) n (Stuck shard why keepers)) counts ends
  refuses_so old (Err (KeeperFault keepers)) counts many begun ends =
      subst (λ n. RefusesRun tells state asked.config.now (requests_asked asked) n (KeeperFault keepers)) counts ends
  refuses_so old (Err (Stranger shard position keepers)) counts many begun ends = ends
