-- The calls of a batch, one after another.
use Rattle.std.proofs.Common.{◌≡◌, ℕ, zero, suc, ◌+◌, ◌-◌, ◌≤◌, ◌<◌, List, [], ◌∷◌, ◌++◌, drop, length, refl, sym, ap, subst, ◌∙◌, arith}
use Rattle.std.proofs.Common.{append-nil, append_assoc, drop-drop, length-append, length-drop}
use Rattle.std.specs.Prelude.{get_or}
use Rattle.std.proofs.lemmas.List.{drop_all, drop_more}
use Rattle.futures.specs.Poll.{IfReady}
use Rattle.futures.specs.declared.task.Poll.{Poll}
use Rattle.futures.specs.declared.task.Poll.TheVariants.{Ready}
use Rattle.locked_nodes.proofs.Seeing.{goes_self, goes_trans}
use Rattle.replies.specs.declared.reply.Reply.{Reply}
use Rattle.requests.specs.declared.request.Request.{Request}
use Rattle.shared_tiers.specs.Calls.{Calling}
use Rattle.shared_tiers.specs.locked_nodes.Cluster.{OnCluster}
use Rattle.shared_tiers.specs.locked_nodes.Passes.{PassGoesOn}
use Rattle.read_batch.specs.Answering.{AnswersEach, MakesCall, RepliesToEach}
use Rattle.read_batch.specs.Polls.{AlwaysAnswersAll, CountsPending, PendsFor}
use Rattle.read_batch.specs.UnderWay.{CallsNext, Follows, GivesAll, MayGive, StepsBatch, UnderWay, left}

-- ---- steps for a list

module _ {S A B : Type 0} (Step : S → S → A → B → Type 0) where
  -- one more step
  pub each_more : (old mid new : S) (xs : List A) (ys : List B) (x : A) (y : B) → AnswersEach Step old mid xs ys → Step mid new x y
      → AnswersEach Step old new (xs ++ x ∷ []) (ys ++ y ∷ [])
  each_more old mid new [] [] x y same step = (new, subst (λ s. Step s new x y) same step, refl)
  each_more old mid new (a ∷ xs) (b ∷ ys) x y each step = (each.0, each.1, each_more each.0 mid new xs ys x y each.2 step)
  each_more old mid new [] (b ∷ ys) x y each step = absurd each
  each_more old mid new (a ∷ xs) [] x y each step = absurd each

  -- there is one for each
  pub each_long : (old new : S) (xs : List A) (ys : List B) → AnswersEach Step old new xs ys → length ys ≡ length xs
  each_long old new [] [] each = refl
  each_long old new (a ∷ xs) (b ∷ ys) each = let more = each_long each.0 new xs ys each.2 in omega (arith, more)
  each_long old new [] (b ∷ ys) each = absurd each
  each_long old new (a ∷ xs) [] each = absurd each

-- what holds where a poll is ready
pub when_ready : {A : Type 0} (polled : Poll A) (given : A) (P : Type 0) → polled ≡ Ready given → IfReady polled (λ _. P) → P
when_ready polled given P is so = subst (λ p. IfReady p (λ _. P)) is so

zero_if_few : (n : ℕ) → ¬ (1 < n) → 0 ≡ n - 1
zero_if_few n few = omega (arith, few)

one_more : (polls before after : ℕ) → 1 < before → after ≡ before - 1 → polls ≡ after - 1 → suc polls ≡ before - 1
one_more polls before after more less is = omega (arith, more, less, is)

module _ {M : Type 0} (on : OnCluster M) where
  -- a pass goes on over all calls
  pub goes_each : (old new : Calling) (xs : List Request) (ys : List Reply) → RepliesToEach on old new xs ys → PassGoesOn old.pass new.pass
  goes_each old new [] [] same = subst (λ (c : Calling). PassGoesOn old.pass c.pass) (sym same) (goes_self old.pass)
  goes_each old new (x ∷ xs) (y ∷ ys) each = goes_trans old.pass each.0.pass new.pass each.1.goes (goes_each each.0 new xs ys each.2)
  goes_each old new [] (y ∷ ys) each = absurd each
  goes_each old new (x ∷ xs) [] each = absurd each

  -- ---- one call

  -- the next call was made
  pub steps_next : (old new : UnderWay) (asked : Request) (said : Reply) → length old.replies < length old.requests
      → asked ≡ get_or old.requests (length old.replies) asked → MakesCall on old.at new.at asked said
      → new ≡ record old { at = new.at; replies = old.replies ++ said ∷ []; room = new.room } → StepsBatch on old new
  steps_next old new asked said inside at makes after = record {
    calls = subst (λ rs. CallsNext on rs old new) (sym next) (said, makes, after);
  } where
    next : left old ≡ asked ∷ drop (length old.replies + 1) old.requests
    next = drop_more old.requests (length old.replies) asked inside ∙ ap (λ r. r ∷ drop (length old.replies + 1) old.requests) (sym at)

  -- none was left
  pub steps_none : (old new : UnderWay) → length old.requests ≤ length old.replies → new ≡ old → StepsBatch on old new
  steps_none old new long same = record {
    calls = subst (λ rs. CallsNext on rs old new) (sym (drop_all (length old.replies) old.requests long)) same;
  }

  -- ---- what is left

  left_next : (old new : UnderWay) (said : Reply) (r : Request) (rs : List Request) → left old ≡ r ∷ rs
      → new ≡ record old { at = new.at; replies = old.replies ++ said ∷ []; room = new.room } → left new ≡ rs
  left_next old new said r rs is after =
      ap left after ∙ ap (λ n. drop n old.requests) (length-append old.replies (said ∷ [])) ∙ sym (drop-drop 1 (length old.replies) old.requests)
      ∙ ap (drop 1) is

  -- one less is left
  fewer : (old new : UnderWay) (rs : List Request) → left old ≡ rs → CallsNext on rs old new → length (left new) ≡ length (left old) - 1
  fewer old new [] is same = ap (λ (b : UnderWay). length (left b)) same ∙ ap length is ∙ sym (ap (λ (xs : List Request). length xs - 1) is)
  fewer old new (r ∷ rs) is called =
      let now = ap length (left_next old new called.0 r rs is called.2) in
      let was = ap length is in
      omega (arith, now, was)

  pub steps_fewer : (old new : UnderWay) → StepsBatch on old new → length (left new) ≡ length (left old) - 1
  steps_fewer old new steps = fewer old new (left old) refl steps.calls

  -- ---- when a poll is pending

  pub pends_more : (old new : UnderWay) → StepsBatch on old new → length new.replies < length new.requests → 1 < length (left old)
  pends_more old new steps more = omega (arith, steps_fewer old new steps, length-drop (length new.replies) new.requests, more)

  pub pends_no_more : (old new : UnderWay) → StepsBatch on old new → length new.requests ≤ length new.replies → ¬ (1 < length (left old))
  pends_no_more old new steps all more = omega (arith, steps_fewer old new steps, length-drop (length new.replies) new.requests, all, more)

  pub none_left : (b : UnderWay) → length b.requests ≤ length b.replies → left b ≡ []
  none_left b all = drop_all (length b.replies) b.requests all

  -- ---- what is given

  given_before : (old new : UnderWay) (end : Calling) (given : List Reply) (rs : List Request) → left old ≡ rs → CallsNext on rs old new
      → GivesAll on new end given → GivesAll on old end given
  given_before old new end given [] is same gives = subst (λ (b : UnderWay). GivesAll on b end given) same gives
  given_before old new end given (r ∷ rs) is called gives = record {
    rest = called.0 ∷ gives.rest;
    all = gives.all ∙ ap (λ (b : UnderWay). b.replies ++ gives.rest) called.2 ∙ append_assoc old.replies (called.0 ∷ []) gives.rest;
    each = subst (λ xs. RepliesToEach on old.at end xs (called.0 ∷ gives.rest)) (sym is) (
      new.at,
      called.1,
      subst (λ xs. RepliesToEach on new.at end xs gives.rest) (left_next old new called.0 r rs is called.2) gives.each,
    );
  }

  goes_next : (old new : UnderWay) (rs : List Request) → CallsNext on rs old new → PassGoesOn old.at.pass new.at.pass
  goes_next old new [] same = subst (λ (b : UnderWay). PassGoesOn old.at.pass b.at.pass) (sym same) (goes_self old.at.pass)
  goes_next old new (r ∷ rs) called = called.1.goes

  -- a call is made
  pub steps_follow : (old new : UnderWay) → StepsBatch on old new → Follows on old new
  steps_follow old new steps = record {
    goes = goes_next old new (left old) steps.calls;
    gives = λ end given gives. given_before old new end given (left old) refl steps.calls gives;
  }

  pub follows_self : (b : UnderWay) → Follows on b b
  follows_self b = record { goes = goes_self b.at.pass; gives = λ end given gives. gives }

  pub follows_trans : (old mid new : UnderWay) → Follows on old mid → Follows on mid new → Follows on old new
  follows_trans old mid new first next = record {
    goes = goes_trans old.at.pass mid.at.pass new.at.pass first.goes next.goes;
    gives = λ end given gives. first.gives end given (next.gives end given gives);
  }

  pub follows_step : (old mid new : UnderWay) → Follows on old mid → StepsBatch on mid new → Follows on old new
  follows_step old mid new first steps = follows_trans old mid new first (steps_follow mid new steps)

  -- with none left the replies so far are given
  done : (b : UnderWay) → left b ≡ [] → GivesAll on b b.at b.replies
  done b none = record {
    rest = [];
    all = sym (append-nil b.replies);
    each = subst (λ xs. RepliesToEach on b.at b.at xs []) (sym none) refl;
  }

  pub gives_done : (old new : UnderWay) (given : List Reply) → Follows on old new → left new ≡ [] → given ≡ new.replies
      → GivesAll on old new.at given
  gives_done old new given follows none is =
      subst (λ xs. GivesAll on old new.at xs) (sym is) (follows.gives new.at new.replies (done new none))

  -- a call is made, with which the batch is done
  pub ends_done : (old new : UnderWay) (given : List Reply) → StepsBatch on old new → left new ≡ [] → given ≡ new.replies → GivesAll on old new.at given
  ends_done old new given steps none is = gives_done old new given (steps_follow old new steps) none is

  pub may_done : (old new : UnderWay) (given : List Reply) → StepsBatch on old new → left new ≡ [] → given ≡ new.replies → MayGive on old given
  may_done old new given steps none is = record { end = new.at; gives = ends_done old new given steps none is }

  pub goes_step : (old new : UnderWay) → StepsBatch on old new → PassGoesOn old.at.pass new.at.pass
  goes_step old new steps = (steps_follow old new steps).goes

  pub may_before : (old new : UnderWay) (given : List Reply) → StepsBatch on old new → MayGive on new given → MayGive on old given
  may_before old new given steps may = record { end = may.end; gives = (steps_follow old new steps).gives may.end given may.gives }

  -- a batch that is begun gives a reply to each request
  pub all_given : (b : UnderWay) (end : Calling) (given : List Reply) → b.replies ≡ [] → GivesAll on b end given
      → RepliesToEach on b.at end b.requests given
  all_given b end given none gives =
      let is : given ≡ gives.rest = gives.all ∙ ap (λ xs. xs ++ gives.rest) none in
      subst (λ ys. RepliesToEach on b.at end b.requests ys) (sym is)
      (subst (λ (xs : List Reply). RepliesToEach on b.at end (drop (length xs) b.requests) gives.rest) none gives.each)

  -- what a batch gives that is run to its end in two parts
  pub driven : (old mid new : UnderWay) (given : List Reply) → Follows on old mid → Follows on mid new → left new ≡ [] → given ≡ new.replies
      → GivesAll on old new.at given
  driven old mid new given first next none is = gives_done old new given (follows_trans old mid new first next) none is

  -- one that was begun with these requests, from there
  pub all_replied : (b : UnderWay) (from end : Calling) (requests : List Request) (given : List Reply) → b.at ≡ from → b.requests ≡ requests
      → b.replies ≡ [] → GivesAll on b end given → RepliesToEach on from end requests given
  all_replied b from end requests given begins asks none gives =
      subst (λ c. RepliesToEach on c end requests given) begins
      (subst (λ rs. RepliesToEach on b.at end rs given) asks (all_given b end given none gives))

  -- ---- over all calls and polls

  pub answers_all : AlwaysAnswersAll on
  answers_all = record {
    always = λ old new requests replies each. record {
      many = each_long (MakesCall on) old new requests replies each;
      goes = goes_each old new requests replies each;
    };
  }

  polls_counted : (polls : ℕ) (old new : UnderWay) → PendsFor on polls old new → ¬ (1 < length (left new)) → polls ≡ length (left old) - 1
  polls_counted zero old new same ends =
      let last : ¬ (1 < length (left old)) = subst (λ (b : UnderWay). ¬ (1 < length (left b))) same ends in
      zero_if_few (length (left old)) last
  polls_counted (suc polls) old new pends ends =
      one_more polls (length (left old)) (length (left pends.0)) pends.1 (steps_fewer old pends.0 pends.2) (polls_counted polls pends.0 new pends.3 ends)

  pub counts_pending : CountsPending on
  counts_pending = record { count = polls_counted }
