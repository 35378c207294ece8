-- Keepers that are one for a while.
use Rattle.std.proofs.Common.{◌≡◌, ℕ, List, Result, Ok, Err, refl, sym, subst, inl, inr}
use Rattle.std.specs.Prelude.{◌⊎◌, Bool, Vec}
use Rattle.core_model.specs.Fleet.{Fleet}
use Rattle.core_nodes.specs.Outside.{outside}
use Rattle.core_nodes.specs.declared.settling.SettleStop.{SettleStop}
use Rattle.core_nodes.specs.declared.settling.SettleStop.TheVariants as stop
use Rattle.unlocked_nodes.specs.core_repairs.Stops.{unsettled_as}
use Rattle.keepers.specs.Shown.{kept, shards_of, shown_by, strays_of}
use Rattle.keepers.specs.declared.keepers.Keepers.{Keepers}
use Rattle.cluster_opening.specs.Opening.{shown_in}
use Rattle.replies.specs.declared.reply.Reply.{Reply}
use Rattle.replies.specs.declared.reply.Reply.TheVariants.{Settled}
use Rattle.tao_keeper.specs.KeeperState.{KeeperState}
use Rattle.tao_link.specs.Shown.{LinkShown}
use Rattle.topology.specs.Config.{Settings}
use Rattle.topology.specs.States.{all_up}
use Rattle.unlocked_nodes.specs.Settling.{ClosedNow, ComesTo, closed_now}
use Rattle.cluster_closing.specs.Closing.{AnswersClosed, ComesOver, HasRisen, IsSaid, RoseIfSaid, StopsOver}

-- what the keepers show together
pub shown_so : {M : Type 0} (state : M → KeeperState) (all : Keepers M) (shards strays : ℕ) (keepers : List M) → shards_of all ≡ shards → strays_of all ≡ strays
    → kept all ≡ keepers → shown_by state all ≡ shown_in state shards strays keepers
shown_so state all shards strays keepers long more same i = shown_in state (long i) (more i) (same i)

-- what came of it, where a keeper's fault is said only as their counts rose
pub comes_said : (A : Type 0) (tells : Bool) (s : Settings) (before now : ℕ) (given said : SettleStop) (old new : ClosedNow) → HasRisen before now given said
    → ComesTo {A = A} tells s (Err given) old new → ComesTo {A = A} tells s (Err said) old new
comes_said A tells s before now given said old new risen comes = by risen.said_is
  where
    by : (said ≡ given) ⊎ (said ≡ stop.OutOfMemory) → ComesTo {A = A} tells s (Err said) old new
    by (inl same) = subst (λ g. ComesTo {A = A} tells s (Err g) old new) (sym same) comes
    by (inr none) = subst (λ g. ComesTo {A = A} tells s (Err g) old new) (sym none) (record { goes = comes.goes; cause = tt; nodes = comes.nodes })

pub comes_over : {A : Type 0} (tells : Bool) (s : Settings) (old : ClosedNow) (after : ℕ → ClosedNow) (strays before now : ℕ)
    (outcome said : Result (Vec ℕ A) SettleStop) → before ≡ old.outside.keepers.faults → now ≡ (after 0).outside.keepers.faults
    → IsSaid before now outcome said → ComesTo tells s outcome old (after strays) → ComesOver tells s said old after
comes_over tells s old after strays before now (Ok logs) said was is told comes =
    subst (λ r. ComesOver tells s r old after) (sym told) (record { strays = strays; comes = comes; rose = tt })
comes_over {A} tells s old after strays before now (Err given) said was is told comes =
    subst (λ r. ComesOver tells s r old after) (sym told.1) (record {
      strays = strays;
      comes = comes_said A tells s before now given told.0 old (after strays) told.2 comes;
      rose = subst (λ n. RoseIfSaid n (after 0).outside.keepers.faults told.0) was (subst (λ n. RoseIfSaid before n told.0) is told.2.rose);
    })

pub comes_shown : {A : Type 0} (tells : Bool) (s : Settings) (r : Result (Vec ℕ A) SettleStop) (f g : Fleet) (one two before after : KeeperState)
    (link later : LinkShown) → one ≡ before → two ≡ after → ComesTo tells s r (closed_now f (outside one link)) (closed_now g (outside two later))
    → ComesTo tells s r (closed_now f (outside before link)) (closed_now g (outside after later))
comes_shown tells s r f g one two before after link later from to comes =
    subst (λ (k : KeeperState). ComesTo tells s r (closed_now f (outside k link)) (closed_now g (outside after later))) from
    (subst (λ (k : KeeperState). ComesTo tells s r (closed_now f (outside one link)) (closed_now g (outside k later))) to comes)

-- what came of it, of what was put back in its place
pub over_so : {A M : Type 0} (tells : Bool) (state : M → KeeperState) (shards : ℕ) (s t : Settings) (r : Result (Vec ℕ A) SettleStop) (f was g left : Fleet)
    (old own new kept_now : List M) (link later : LinkShown) → t ≡ s → f ≡ was → left ≡ g → old ≡ own → kept_now ≡ new
    → ComesOver tells t r (closed_now f (outside (shown_in state shards 0 old) link)) (λ strays. closed_now g (outside (shown_in state shards strays new) later))
    → ComesOver tells s r (closed_now was (outside (shown_in state shards 0 own) link))
    (λ strays. closed_now left (outside (shown_in state shards strays kept_now) later))
over_so {A} {M} tells state shards s t r f was g left old own new kept_now link later made first last from to over =
    subst (λ (x : Settings). ComesOver tells x r (closed_now was (outside (shown_in state shards 0 own) link))
    (λ strays. closed_now left (outside (shown_in state shards strays kept_now) later))) made
    (subst (λ (x : Fleet). ComesOver tells t r (closed_now x (outside (shown_in state shards 0 own) link))
    (λ strays. closed_now left (outside (shown_in state shards strays kept_now) later))) first
    (subst (λ (x : Fleet). ComesOver tells t r (closed_now f (outside (shown_in state shards 0 own) link))
    (λ strays. closed_now x (outside (shown_in state shards strays kept_now) later))) (sym last)
    (subst (λ (x : List M). ComesOver tells t r (closed_now f (outside (shown_in state shards 0 x) link))
    (λ strays. closed_now g (outside (shown_in state shards strays kept_now) later))) from
    (subst (λ (x : List M). ComesOver tells t r (closed_now f (outside (shown_in state shards 0 old) link))
    (λ strays. closed_now g (outside (shown_in state shards strays x) later))) (sym to) over))))

-- ---- the reply

pub answers_logs : {A : Type 0} (tells : Bool) (s : Settings) (old : ClosedNow) (after : ℕ → ClosedNow) (r : Result (Vec ℕ A) SettleStop) (logs : Vec ℕ A)
    (said : List ℕ) → said ≡ logs.items → r ≡ Ok logs → ComesOver tells s r old after → AnswersClosed tells s old (Settled said) after
answers_logs tells s old after r logs said same is over =
    let done = subst (λ x. ComesOver tells s x old after) is over in
    subst (λ (l : List ℕ). AnswersClosed tells s old (Settled l) after) (sym same) (done.strays, done.comes)

stops_over : {A : Type 0} (tells : Bool) (s : Settings) (old : ClosedNow) (after : ℕ → ClosedNow) (given : SettleStop) → ComesOver {A = A} tells s (Err given) old after
    → StopsOver tells s old (unsettled_as (all_up s) given) after
stops_over tells s old after given over =
    record { given = given; strays = over.strays; reply_is = refl; stops = over.comes; rose = over.rose }

answers_so : {A : Type 0} (tells : Bool) (s : Settings) (old : ClosedNow) (after : ℕ → ClosedNow) (given : SettleStop) → ComesOver {A = A} tells s (Err given) old after
    → AnswersClosed tells s old (unsettled_as (all_up s) given) after
answers_so tells s old after (stop.Unsettled shard why) over = stops_over tells s old after (stop.Unsettled shard why) over
answers_so tells s old after (stop.NoServer shard) over = stops_over tells s old after (stop.NoServer shard) over
answers_so tells s old after stop.OutOfMemory over = stops_over tells s old after stop.OutOfMemory over

pub answers_stop : {A : Type 0} (tells : Bool) (s : Settings) (old : ClosedNow) (after : ℕ → ClosedNow) (r : Result (Vec ℕ A) SettleStop) (given : SettleStop)
    (reply : Reply) → reply ≡ unsettled_as (all_up s) given → r ≡ Err given → ComesOver tells s r old after → AnswersClosed tells s old reply after
answers_stop tells s old after r given reply same is over =
    subst (λ (x : Reply). AnswersClosed tells s old x after) (sym same)
    (answers_so tells s old after given (subst (λ x. ComesOver tells s x old after) is over))
