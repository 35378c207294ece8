-- The calls of a thread so far.
use Rattle.std.proofs.Common.{◌≡◌, ℕ, ◌+◌, ◌≤◌, ◌<◌, Bool, List, [], ◌∷◌, drop, length, sym, ap, subst, ◌∙◌, arith}
use Rattle.std.specs.Prelude.{◌||◌, All, get_or}
use Rattle.std.proofs.lemmas.Bool.{or_parts}
use Rattle.std.proofs.lemmas.List.{drop_more}
use Rattle.std.proofs.lemmas.List.Elements.{All-from_recursion}
use Rattle.graph_model.specs.Told.{WhereTold}
use Rattle.load_audit.specs.Listed.{missing_adds}
use Rattle.load_shares.proofs.Shared.{one_more}
use Rattle.load_shares.specs.Seen.{AllBegin, SeeOn}
use Rattle.load_shares.specs.Turns.{one_call, share_of, taken_of}
use Rattle.load_shares.specs.Workloads.{IsConfiguredRequest}
use Rattle.load_shares.specs.declared.tallies.Tally.{Tally}
use Rattle.requests.specs.declared.request.Request.{Request}
use Rattle.session_pass.specs.Passes.{SeenPass}
use Rattle.tao_base.specs.declared.entry.Entry.{Entry}
use Rattle.shared_tiers.specs.locked_nodes.Cluster.{OnCluster}
use Rattle.tao_busy.specs.Counting.{MissesFew}
use Rattle.tao_busy.specs.Refusing.{EachLog, HasOwnEntries, HaveClearWay, RefusesNoneOf}

-- of the thread's calls among the requests no more additions are missed than were refused and are still to come
abbrev pub MissesSoFar : Bool → ℕ → ℕ → List Request → ℕ → ℕ → ℕ → List SeenPass → Type 0
MissesSoFar tells threads place requests index number refused passes =
    WhereTold tells ((logs : List (List Entry)) → AllBegin logs passes
    → missing_adds logs (share_of threads place 0 requests) ≤ refused + missing_adds logs (share_of threads place number (drop index requests)))

pub misses_first : (tells : Bool) (threads place : ℕ) (requests : List Request) (passes : List SeenPass)
    → MissesSoFar tells threads place requests 0 0 0 passes
misses_first tells threads place requests passes told logs begin = omega arith

pub misses_next : (tells : Bool) (threads place : ℕ) (requests : List Request) (index number refused came : ℕ) (request : Request) (old new : List SeenPass)
    → index < length requests → request ≡ get_or requests index request
    → MissesSoFar tells threads place requests index number refused old → SeeOn old new
    → MissesFew tells (taken_of threads place (number + one_call request) request) came new
    → MissesSoFar tells threads place requests (index + 1) (number + one_call request) (refused + came) new
misses_next tells threads place requests index number refused came request old new inside at so on few told logs begin =
    one_more logs threads place number refused came (missing_adds logs (share_of threads place 0 requests)) request (drop (index + 1) requests)
    (subst (λ rs. missing_adds logs (share_of threads place 0 requests) ≤ refused + missing_adds logs (share_of threads place number rs)) next
    (so told logs (on logs begin))) (few told logs begin)
  where
    next : drop index requests ≡ request ∷ drop (index + 1) requests
    next = drop_more requests index request inside ∙ ap (λ r. r ∷ drop (index + 1) requests) (sym at)

-- the same, as the loop counts
pub misses_step : (tells : Bool) (threads place : ℕ) (requests : List Request) (index number refused came step now : ℕ) (request : Request)
    (old new : List SeenPass) → index < length requests → request ≡ get_or requests index request → step ≡ one_call request → now ≡ refused + came
    → MissesSoFar tells threads place requests index number refused old → SeeOn old new
    → MissesFew tells (taken_of threads place (number + step) request) came new
    → MissesSoFar tells threads place requests (index + 1) (number + step) now new
misses_step tells threads place requests index number refused came step now request old new inside at counts adds so on few =
    subst (λ n. MissesSoFar tells threads place requests (index + 1) (number + step) n new) (sym adds)
    (subst (λ n. MissesSoFar tells threads place requests (index + 1) (number + n) (refused + came) new) (sym counts)
    (misses_next tells threads place requests index number refused came request old new inside at so on
    (subst (λ n. MissesFew tells (taken_of threads place (number + n) request) came new) counts few)))

pub misses_last : (tells : Bool) (threads place : ℕ) (requests : List Request) (index number refused : ℕ) (passes : List SeenPass)
    → drop index requests ≡ [] → MissesSoFar tells threads place requests index number refused passes
    → MissesFew tells (share_of threads place 0 requests) refused passes
misses_last tells threads place requests index number refused passes none so told logs begin =
    let all = subst (λ rs. missing_adds logs (share_of threads place 0 requests) ≤ refused + missing_adds logs (share_of threads place number rs)) none
    (so told logs begin) in
    omega (arith, all)

-- ---- what was refused of them

module _ {M : Type 0} (on : OnCluster M) (requests : List Request) (index : ℕ) (request : Request) (inside : index < length requests)
    (at : request ≡ get_or requests index request)
  where
    alone : (P : Request → Type 0) → All P requests → All P (request ∷ [])
    alone P all = All-from_recursion P (request ∷ []) (subst P (sym at) (all index request inside), tt)

    -- nothing is in the way of one of the requests
    way_of : (logs : List (List Entry)) → HaveClearWay on logs requests → HaveClearWay on logs (request ∷ [])
    way_of logs way = record {
      steady = way.steady;
      uncut = way.uncut;
      limit = way.limit;
      room = way.room;
      configured = alone (IsConfiguredRequest on.making.settings) way.configured;
      own = alone (λ one. EachLog (HasOwnEntries on.making.settings one) logs) way.own;
    }

    pub none_next : (tally came now : Tally) (old new : List SeenPass) → now.refused ≡ tally.refused + came.refused → now.short ≡ (tally.short || came.short)
        → SeeOn old new → RefusesNoneOf on requests tally old → RefusesNoneOf on (request ∷ []) came new → RefusesNoneOf on requests now new
    none_next tally came now old new adds shorts on_so before one told logs begin way well =
        let parts = or_parts tally.short came.short (sym shorts ∙ well) in
        let first = before told logs (on_so logs begin) way parts.0 in
        let next = one told logs begin (way_of logs way) parts.1 in
        omega (arith, adds, first, next)
