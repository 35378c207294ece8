-- The requests of a workload, made one after another.
use Rattle.std.proofs.Common.{◌≡◌, ℕ, ◌+◌, ◌<◌, ◌≤◌, suc, Bool, true, false, List, [], ◌∷◌, ◌++◌, append_assoc, length, map, Option, Some, None, Result, Ok, Err}
use Rattle.std.proofs.Common.{OnErr, OnOk, refl, sym, ap, ◌∙◌, subst, arith}
use Rattle.std.specs.Prelude.{◌&&◌, if◌then◌else◌}
use Rattle.std.proofs.lemmas.List.{append-nil}
use Rattle.std.proofs.KnownBytes.{Appends-nil, Appends-trans}
use Rattle.std.specs.Io.KnownBytes.{Appends}
use Rattle.core_nodes.specs.Outside.{Outside}
use Rattle.load_gen.specs.Requests.{first_of}
use Rattle.load_gen.specs.Summary.{calls_in, is_call, is_refusal, refusals_in}
use Rattle.replies.specs.declared.reply.Reply.{Reply}
use Rattle.requests.specs.declared.request.Request.{Request}
use Rattle.tao_core.specs.Core.{CoreState}
use Rattle.first_line.specs.Interrupts.{AppendsPart}
use Rattle.tao_top.proofs.GoingOn.{Runs-map, appends_then_part, still_refl}
use Rattle.tao_top.specs.Making.{CountsCalls, Made, MadeAll, MadeInPart, Workload, refused_in, summed_of, under_way}
use Rattle.tao_top.specs.Served.{IsStill, serves, summed, summed_at}
use Rattle.tao_top.specs.Step.{ReplyLine, Runs, State, Step, line_at, reply_line, request_made}

-- ---- what comes next

-- a first request that came was first
pub first_came : (old new : List Request) (request : Request) → (Some request, new) ≡ first_of old → old ≡ request ∷ new
first_came [] new request is = absurd (cc (ap (λ p. p.0) is))
first_came (first ∷ others) new request is =
    let same : request ≡ first = cc (ap (λ p. p.0) is) in
    let rest : new ≡ others = ap (λ p. p.1) is in
    sym (ap (λ r. r ∷ others) same) ∙ ap (λ rs. request ∷ rs) (sym rest)

-- none came of none
pub none_came : (old new : List Request) → (None, new) ≡ first_of old → (old ≡ []) × (new ≡ [])
none_came [] new is = (refl, ap (λ p. p.1) is)
none_came (first ∷ others) new is = absurd (cc (ap (λ p. p.0) is))

-- ---- what is counted

-- a call that was refused is a call
refusal_counts : (call refused : Bool) (rest : ℕ) → (if call && refused then 1 else 0) + rest ≤ (if call then 1 else 0) + rest
refusal_counts true true rest = omega arith
refusal_counts true false rest = omega arith
refusal_counts false refused rest = omega arith

pub refusals_few : (request : Request) (requests : List Request) (reply : Reply) → refusals_in request reply + calls_in requests ≤ calls_in (request ∷ requests)
refusals_few request requests reply = refusal_counts (is_call request) (is_refusal reply) (calls_in requests)

-- after a call and its reply no more were refused, and are left, than there are
pub counts_on : (left new : List Request) (request : Request) (reply : Reply) (calls refused : ℕ) → (Some request, new) ≡ first_of left
    → refused + calls_in left ≤ calls → (refused + refusals_in request reply) + calls_in new ≤ calls
counts_on left new request reply calls refused came counts =
    let few = refusals_few request new reply in
    let same = ap calls_in (first_came left new request came) in
    omega (arith, few, same, counts)

-- ---- what is printed

-- of some requests, and then of others
summed_append : (tells : Bool) (a b : State) (calls refused : ℕ) (xs ys : List Request) (rs qs : List ReplyLine) → Runs tells a (map request_made xs) rs b
    → summed calls refused (map request_made (xs ++ ys)) (rs ++ qs)
    ≡ summed calls refused (map request_made xs) rs ++ summed calls (refused + refused_in xs rs) (map request_made ys) qs
summed_append tells a b calls refused [] ys [] qs run = ap (λ n. summed calls n (map request_made ys) qs) (omega arith)
summed_append tells a b calls refused [] ys (r ∷ rs) qs run = absurd run
summed_append tells a b calls refused (x ∷ xs) ys [] qs run = absurd run
summed_append tells a b calls refused (x ∷ xs) ys (r ∷ rs) qs run =
    let one = refusals_in x r.reply in
    let head = summed_at calls refused x r.text in
    let first = summed calls (refused + one) (map request_made xs) rs in
    let more = summed_append tells run.0 b calls (refused + one) xs ys rs qs run.2 in
    let count : (refused + one) + refused_in xs rs ≡ refused + (one + refused_in xs rs) = omega arith in
    ap (λ t. head ++ t) (more ∙ ap (λ n. first ++ summed calls n (map request_made ys) qs) count)
    ∙ sym (append_assoc head first (summed calls (refused + (one + refused_in xs rs)) (map request_made ys) qs))

refused_append : (tells : Bool) (a b : State) (xs ys : List Request) (rs qs : List ReplyLine) → Runs tells a (map request_made xs) rs b
    → refused_in (xs ++ ys) (rs ++ qs) ≡ refused_in xs rs + refused_in ys qs
refused_append tells a b [] ys [] qs run = omega arith
refused_append tells a b [] ys (r ∷ rs) qs run = absurd run
refused_append tells a b (x ∷ xs) ys [] qs run = absurd run
refused_append tells a b (x ∷ xs) ys (r ∷ rs) qs run =
    let more = refused_append tells run.0 b xs ys rs qs run.2 in
    omega (arith, more)

-- ---- what was made

module _ (tells : Bool) where
  -- nothing yet
  pub made_none : (s : State) (workload : Workload) (written : Option (List ℕ)) → Made tells s s workload workload (Appends written written)
  made_none s workload written = record {
    requests = [];
    replies = [];
    came = refl;
    run = refl;
    calls = refl;
    refused = omega arith;
    written = Appends-nil written;
  }

  -- some requests, and then others
  module _ (a b : State) (x y : Workload) (before mid after : Option (List ℕ)) (first : Made tells a b x y (Appends before mid)) where
    -- what is printed of the others is as if they had been the first
    counted_on : (requests : List Request) (replies : List ReplyLine)
        → summed_of y requests replies ≡ summed x.calls (x.refused + refused_in first.requests first.replies) (map request_made requests) replies
    counted_on requests replies =
        ap (λ n. summed n y.refused (map request_made requests) replies) first.calls ∙ ap (λ n. summed x.calls n (map request_made requests) replies) first.refused

    both_printed : (requests : List Request) (replies : List ReplyLine)
        → summed_of x first.requests first.replies ++ summed_of y requests replies ≡ summed_of x (first.requests ++ requests) (first.replies ++ replies)
    both_printed requests replies =
        ap (λ t. summed_of x first.requests first.replies ++ t) (counted_on requests replies)
        ∙ sym (summed_append tells a b x.calls x.refused first.requests requests first.replies replies first.run)

    pub made_then : (c : State) (z : Workload) → Made tells b c y z (Appends mid after) → Made tells a c x z (Appends before after)
    made_then c z q = record {
      requests = first.requests ++ q.requests;
      replies = first.replies ++ q.replies;
      came = first.came ∙ ap (λ rs. first.requests ++ rs) q.came ∙ sym (append_assoc first.requests q.requests z.left);
      run = Runs-map request_made tells a b c first.requests q.requests first.replies q.replies first.run q.run;
      calls = q.calls ∙ first.calls;
      refused =
          let count = refused_append tells a b first.requests q.requests first.replies q.replies first.run in
          let one = first.refused in
          let two = q.refused in
          omega (arith, count, one, two);
      written = subst (Appends before after) (both_printed q.requests q.replies) (Appends-trans before mid after _ _ first.written q.written);
    }

    pub made_then_part : (now : Outside) → MadeInPart tells b now y (AppendsPart mid after) → MadeInPart tells a now x (AppendsPart before after)
    made_then_part now q = record {
      last = q.last;
      requests = first.requests ++ q.requests;
      more = q.more;
      replies = first.replies ++ q.replies;
      came = first.came ∙ ap (λ rs. first.requests ++ rs) q.came ∙ sym (append_assoc first.requests q.requests q.more);
      run = Runs-map request_made tells a b q.last first.requests q.requests first.replies q.replies first.run q.run;
      written = subst (AppendsPart before after) (both_printed q.requests q.replies) (appends_then_part before mid after _ _ first.written q.written);
      still = q.still;
    }

  -- all that were left
  pub made_all : (a b : State) (x y : Workload) (before after : Option (List ℕ)) → Made tells a b x y (Appends before after) → y.left ≡ []
      → MadeAll tells a b x (Appends before after)
  made_all a b x y before after p none =
      let all : x.left ≡ p.requests = p.came ∙ ap (λ rs. p.requests ++ rs) none ∙ append-nil p.requests in
      record {
        replies = p.replies;
        run = subst (λ rs. Runs tells a (map request_made rs) p.replies b) (sym all) p.run;
        written = subst (λ rs. Appends before after (summed_of x rs p.replies)) (sym all) p.written;
      }

  -- as a result has it, of a workload that is this one
  pub made_all_of : {T E : Type 0} (result : Result T E) (a b : State) (x y z : Workload) (before after : Option (List ℕ)) → x ≡ z
      → OnOk result (Made tells a b x y (Appends before after)) → OnOk result (y.left ≡ []) → OnOk result (MadeAll tells a b z (Appends before after))
  made_all_of (Ok t) a b x y z before after is made none =
      subst (λ w. MadeAll tells a b w (Appends before after)) is (made_all a b x y before after made none)
  made_all_of (Err e) a b x y z before after is made none = tt

  -- no request more was made
  pub made_part_none : (s : State) (now : Outside) (workload : Workload) (written : Option (List ℕ)) → IsStill tells s now
      → MadeInPart tells s now workload (AppendsPart written written)
  made_part_none s now workload written still = record {
    last = s;
    requests = [];
    more = workload.left;
    replies = [];
    came = refl;
    run = refl;
    written = (0, Appends-nil written);
    still = still;
  }

  -- one request was made and has its reply
  module _ (core next : CoreState) (old new : Outside) (request : Request) (left : List Request) (calls refused : ℕ) (reply : Reply)
      (step : Step tells (serves core old) (request_made request) reply (serves next new)) (before after : Option (List ℕ)) where
    abbrev line : ReplyLine
    line = line_at (serves next new).stage reply

    abbrev printed_one : List ℕ
    printed_one = summed_at calls refused request (reply_line (serves next new).stage reply)

    pub made_one : Appends before after printed_one
        → Made tells (serves core old) (serves next new) (under_way (request ∷ left) calls refused)
        (under_way left calls (refused + refusals_in request reply)) (Appends before after)
    made_one written = record {
      requests = request ∷ [];
      replies = line ∷ [];
      came = refl;
      run = (serves next new, (reply, step, refl), refl);
      calls = refl;
      refused = omega arith;
      written = subst (Appends before after) (sym (append-nil printed_one)) written;
    }

    pub made_part_one : AppendsPart before after printed_one
        → MadeInPart tells (serves core old) new (under_way (request ∷ left) calls refused) (AppendsPart before after)
    made_part_one written = record {
      last = serves next new;
      requests = request ∷ [];
      more = left;
      replies = line ∷ [];
      came = refl;
      run = (serves next new, (reply, step, refl), refl);
      written = subst (AppendsPart before after) (sym (append-nil printed_one)) written;
      still = still_refl tells new (serves next new) refl;
    }

  -- none came
  pub made_none_left : (s : State) (left new : List Request) (calls refused : ℕ) (written : Option (List ℕ)) → (None, new) ≡ first_of left
      → Made tells s s (under_way left calls refused) (under_way new calls refused) (Appends written written)
  made_none_left s left new calls refused written came =
      let none = none_came left new came in
      subst (λ rs. Made tells s s (under_way left calls refused) (under_way rs calls refused) (Appends written written)) (none.0 ∙ sym none.1)
      (made_none s (under_way left calls refused) written)

  -- the first one came
  module _ (core next : CoreState) (old new : Outside) (request : Request) (left rest : List Request) (calls refused : ℕ) (reply : Reply)
      (step : Step tells (serves core old) (request_made request) reply (serves next new)) (came : (Some request, rest) ≡ first_of left) where
    pub made_one_of : (count : ℕ) → count ≡ refusals_in request reply → (before after : Option (List ℕ))
        → Appends before after (summed_at calls refused request (reply_line (serves next new).stage reply))
        → Made tells (serves core old) (serves next new) (under_way left calls refused) (under_way rest calls (refused + count)) (Appends before after)
    made_one_of count is before after written =
        subst (λ rs. Made tells (serves core old) (serves next new) (under_way rs calls refused) (under_way rest calls (refused + count)) (Appends before after))
        (sym (first_came left rest request came))
        (subst (λ n. Made tells (serves core old) (serves next new) (under_way (request ∷ rest) calls refused) (under_way rest calls (refused + n))
        (Appends before after)) (sym is)
        (made_one core next old new request rest calls refused reply step before after written))

    pub made_part_one_of : (before after : Option (List ℕ))
        → AppendsPart before after (summed_at calls refused request (reply_line (serves next new).stage reply))
        → MadeInPart tells (serves core old) new (under_way left calls refused) (AppendsPart before after)
    made_part_one_of before after written =
        subst (λ rs. MadeInPart tells (serves core old) new (under_way rs calls refused) (AppendsPart before after)) (sym (first_came left rest request came))
        (made_part_one core next old new request rest calls refused reply step before after written)
