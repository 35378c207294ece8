-- What is due, met in order: one list after another.
use Rattle.std.proofs.Common.{◌≡◌, ℕ, zero, suc, ◌+◌, ◌<◌, ◌≤◌, ◌++◌, Bool, true, false, List, [], ◌∷◌, filter, Ok, Err, Result, refl, ap, sym}
use Rattle.std.proofs.Common.{◌∙◌, subst, inl, inr, arith}
use Rattle.std.proofs.lemmas.Bool.{cases_Bool}
use Rattle.std.proofs.lemmas.List.{append-nil, append_assoc}
use Rattle.std.specs.List.{range_with_len}
use Rattle.std.specs.Prelude.{⊤}
use Rattle.graph_model.proofs.Members.{IsIn}
use Rattle.tao_link.specs.Shown.{LinkShown, after_carry}
use Rattle.core_nodes.specs.Dues.{Due, StopsAtFirst, MeetsDues, after_carries}
use Rattle.core_nodes.specs.declared.settling.SettleStop.{SettleStop}

-- ---- numbers and filters

pub range_more : (first count : ℕ) → range_with_len first (suc count) ≡ range_with_len first count ++ (first + count) ∷ []
range_more first zero = ap (λ n. n ∷ []) (let e : first ≡ first + zero = omega arith in e)
range_more first (suc count) =
    let last : first + 1 + count ≡ first + suc count = omega arith in
    ap (λ ns. first ∷ ns) (range_more (first + 1) count ∙ ap (λ n. range_with_len (first + 1) count ++ n ∷ []) last)

-- the numbers below one of them, it, and those above
pub record Cut (first count at : ℕ) : Type 0 where
  pub above : List ℕ
  pub is : range_with_len first count ≡ range_with_len first at ++ (first + at) ∷ above
  pub are_above : (n : ℕ) → IsIn n above → first + at < n

pub cut_at : (first count at : ℕ) → at < count → Cut first count at
cut_at first zero at lt = absurd (omega (arith, lt))
cut_at first (suc count) zero lt = record {
  above = range_with_len (first + 1) count;
  is = ap (λ n. n ∷ range_with_len (first + 1) count) (let e : first ≡ first + zero = omega arith in e);
  are_above = λ n h. (let least = range_above (first + 1) count n h in omega arith);
}
  where
    range_above : (low count n : ℕ) → IsIn n (range_with_len low count) → low ≤ n
    range_above low zero n h = absurd h
    range_above low (suc count) n (inl e) = omega (arith, e)
    range_above low (suc count) n (inr h) = (let rest = range_above (low + 1) count n h in omega arith)
cut_at first (suc count) (suc at) lt =
    let rest = cut_at (first + 1) count at (omega (arith, lt)) in
    let here : first + 1 + at ≡ first + suc at = omega arith in
    record {
      above = rest.above;
      is = ap (λ ns. first ∷ ns) (rest.is ∙ ap (λ n. range_with_len (first + 1) at ++ n ∷ rest.above) here);
      are_above = λ n h. (let over = rest.are_above n h in omega arith);
    }

-- two tests that agree on each element
pub filter_alike : {X : Type 0} (p q : X → Bool) (xs : List X) → ((x : X) → IsIn x xs → p x ≡ q x) → filter p xs ≡ filter q xs
filter_alike p q [] alike = refl
filter_alike p q (x ∷ xs) alike =
    let rest = filter_alike p q xs (λ y h. alike y (inr h)) in
    elim (cases_Bool (q x)) [
      | inl passes ↦ rw (alike x (inl refl) ∙ passes, passes) (ap (λ ys. x ∷ ys) rest)
      | inr fails ↦ rw (alike x (inl refl) ∙ fails, fails) rest
    ]

-- a test of one element
pub filter_one : {X : Type 0} (p : X → Bool) (x : X) → p x ≡ true → filter p (x ∷ []) ≡ x ∷ []
filter_one p x passes = rw passes refl

pub filter_none : {X : Type 0} (p : X → Bool) (x : X) → p x ≡ false → filter p (x ∷ []) ≡ []
filter_none p x fails = rw fails refl

-- ---- carries

pub after_more : (dues more : List Due) (link : LinkShown) → after_carries (dues ++ more) link ≡ after_carries more (after_carries dues link)
after_more [] more link = refl
after_more (due ∷ dues) more link = after_more dues more (after_carry link)

-- what more is due behind what stopped it is left too
pub ends_before : (left more : List Due) (stop : SettleStop) (old new : LinkShown) → StopsAtFirst (Err stop) left old new → StopsAtFirst (Err stop) (left ++
    more) old new
ends_before [] more stop old new ends = absurd ends
ends_before (due ∷ left) more stop old new ends = ends

-- ---- what is met

-- all was met
pub record AllMet (dues : List Due) (old new : LinkShown) (Leaves : List Due → List Due → Type 0) : Type 0 where
  pub link : new ≡ after_carries dues old
  pub leaves : Leaves dues []

pub all_met : (dues : List Due) (done : ⊤) (old new : LinkShown) (Leaves : List Due → List Due → Type 0) → MeetsDues dues (Ok done) old new Leaves
    → AllMet dues old new Leaves
all_met dues done old new Leaves meets =
    let none = meets.link.0 in
    let is : meets.met ≡ dues = sym (meets.dues_are ∙ ap (λ ds. meets.met ++ ds) none ∙ append-nil meets.met) in
    record {
      link = subst (λ ds. new ≡ after_carries ds old) is meets.link.1;
      leaves = subst (λ ds. Leaves ds []) is (subst (Leaves meets.met) none meets.leaves);
    }

pub meets_all : (dues : List Due) (done : ⊤) (old new : LinkShown) (Leaves : List Due → List Due → Type 0) → new ≡ after_carries dues old
    → Leaves dues [] → MeetsDues dues (Ok done) old new Leaves
meets_all dues done old new Leaves link leaves = record { met = dues; left = []; dues_are = sym (append-nil dues); link = (refl, link); leaves = leaves }

-- nothing was due
pub meets_none : (done : ⊤) (link : LinkShown) (Leaves : List Due → List Due → Type 0) → Leaves [] [] → MeetsDues [] (Ok done) link link Leaves
meets_none done link Leaves leaves = record { met = []; left = []; dues_are = refl; link = (refl, refl); leaves = leaves }

-- once all of the first were met, more are
pub meets_then : (first more : List Due) (r : Result ⊤ SettleStop) (start now new : LinkShown) (More Leaves : List Due → List Due → Type 0)
    → now ≡ after_carries first start → MeetsDues more r now new More → ((met left : List Due) → More met left → Leaves (first ++ met) left)
    → MeetsDues (first ++ more) r start new Leaves
meets_then first more r start now new More Leaves so meets then_leaves = record {
  met = first ++ meets.met;
  left = meets.left;
  dues_are = ap (λ ds. first ++ ds) meets.dues_are ∙ sym (append_assoc first meets.met meets.left);
  link = subst (λ l. StopsAtFirst r meets.left l new) (ap (after_carries meets.met) so ∙ sym (after_more first meets.met start)) meets.link;
  leaves = then_leaves meets.met meets.left meets.leaves;
}

-- where it stopped before more
pub meets_less : (dues more : List Due) (stop : SettleStop) (old new : LinkShown) (Less Leaves : List Due → List Due → Type 0)
    → MeetsDues dues (Err stop) old new Less → ((met left : List Due) → Less met left → Leaves met (left ++ more))
    → MeetsDues (dues ++ more) (Err stop) old new Leaves
meets_less dues more stop old new Less Leaves meets so = record {
  met = meets.met;
  left = meets.left ++ more;
  dues_are = ap (λ ds. ds ++ more) meets.dues_are ∙ append_assoc meets.met meets.left more;
  link = ends_before meets.left more stop (after_carries meets.met old) new meets.link;
  leaves = so meets.met meets.left meets.leaves;
}

-- what it leaves may be said otherwise
pub meets_as : (dues : List Due) (r : Result ⊤ SettleStop) (old new : LinkShown) (Less Leaves : List Due → List Due → Type 0)
    → MeetsDues dues r old new Less → ((met left : List Due) → Less met left → Leaves met left) → MeetsDues dues r old new Leaves
meets_as dues r old new Less Leaves meets so = record {
  met = meets.met;
  left = meets.left;
  dues_are = meets.dues_are;
  link = meets.link;
  leaves = so meets.met meets.left meets.leaves;
}
