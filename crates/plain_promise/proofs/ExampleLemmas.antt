-- The worked run is one of the promise, and the eight replies are none.
use Rattle.std.proofs.Common.{◌≡◌, ◌<◌, ◌≤◌, ◌∷◌, [], ℕ, zero, suc, Bool, true, false, List, Option, Some, None, length, ap, sym, refl, subst, arith, ◌∙◌}
use Rattle.std.proofs.Common.{append-nil, inl, inr}
use Rattle.std.proofs.lemmas.Bool.{cases_Bool}
use Rattle.std.specs.Prelude.{◌==◌, Contains, filter_map, not, slice_index_or}
use Rattle.std.proofs.lemmas.List.{take_all}
use Rattle.std.proofs.lemmas.List.Elements.{Contains-get_or}
use Rattle.graph_model.specs.Legal.{floor}
use Rattle.graph_model.specs.Log.{entry_at}
use Rattle.graph_model.specs.Soundness.{EdgeUpdate, other_end, updates_of}
use Rattle.plain_promise.specs.Example.{EightAreRefused, SixLinesRun, added_at_1, adds, at_first, both_ends, list_from_store, list_kept}
use Rattle.plain_promise.specs.Example.{once_read, once_seen, once_settled, once_written, other_reads, read_again, reads_list, with_log}
use Rattle.plain_promise.specs.Promise.{AnswersSameAgain, AreSameReplies, EachGrows, HasEachOnce, IsWellKept, KeepsPromise, Logs, Plain, RunsPlainly, Said}
use Rattle.plain_promise.specs.Promise.{SeenVersion, begun_now, floor_at_start, gained, last_seen, seen_by}
use Rattle.replies.specs.declared.calls.CallReply.TheVariants as called
use Rattle.replies.specs.declared.calls.ReadReply.{ReadReply}
use Rattle.replies.specs.declared.reply.Reply.TheVariants.{Audited, Called, Opened, Settled}
use Rattle.request_check.specs.declared.checked.Checked.TheVariants as asks
use Rattle.request_check.specs.declared.stores.CheckedStore.TheVariants.{Audit, Settle}
use Rattle.request_check.specs.declared.checked.CheckedCall.TheVariants.{Read}
use Rattle.request_check.specs.declared.checked.CheckedRead.{CheckedRead}
use Rattle.tao_base.specs.Queries.{query_key}
use Rattle.tao_base.specs.declared.entry.Entry.{Entry}
use Rattle.tao_base.specs.declared.entry.Kind.TheVariants.{AssocAdd as AssocAdded, Merge as Merged}
use Rattle.tao_base.specs.declared.entry.Change.TheVariants.{SetEdge}
use Rattle.tao_base.specs.declared.entry.Origin.TheVariants.{Client, Merge}
use Rattle.tao_base.specs.declared.id.Key.TheVariants.{List as Assocs}
use Rattle.tao_base.specs.declared.query.Answer.TheVariants.{Edges as EdgesAre}
use Rattle.write_model.proofs.Growing.{entry_at-within}
use Rattle.write_model.specs.Examples.{edge, far, far_follow, first_add, followed_by, likes, one_type}
use Rattle.write_model.specs.Merges.{AreThere, Stores, job_of, log_of}
use Rattle.write_model.specs.Writes.{is_near, when}

-- ---- logs of one entry at most

is_some_place : (log : List Entry) (p : ℕ) (e : Entry) → entry_at log p ≡ Some e → 1 ≤ p
is_some_place log zero e h = absurd (cc (h))
is_some_place log (suc n) e h = omega arith

short_once : (log : List Entry) → length log ≤ 1 → HasEachOnce log
short_once log short = record {
  once = λ first second d e p q same.
      let a = entry_at-within log first d p in
      let b = entry_at-within log second e q in
      let c = is_some_place log first d p in
      let f = is_some_place log second e q in
      omega (arith, short, a, b, c, f);
}

short_at : (log : List Entry) (shard : ℕ) → length log ≤ 1 → length (log_of (log ∷ []) shard) ≤ 1
short_at log zero short = short
short_at log (suc n) short = omega arith

-- no type has an inverse, so nothing is owed
nothing_when : (b : Bool) (found : Option EdgeUpdate) → found ≡ None → when b found ≡ None
nothing_when true found none = none
nothing_when false found none = refl

nothing_owed : (us : List EdgeUpdate) → filter_map (λ u. when (not (is_near u)) (other_end one_type u)) us ≡ []
nothing_owed [] = refl
nothing_owed (u ∷ us) = rw (nothing_when (not (is_near u)) (other_end one_type u) refl) (nothing_owed us)

there_none : (logs : Logs) (us : List EdgeUpdate) → us ≡ [] → AreThere (log_of logs) us
there_none logs us none = subst (AreThere (log_of logs)) (sym none) (λ k d lt. absurd (let below : k < 0 = lt in omega (arith, below)))

well_kept : (log : List Entry) → length log ≤ 1 → IsWellKept one_type (with_log log)
well_kept log short = record {
  once = λ shard. short_once (log_of (log ∷ []) shard) (short_at log shard short);
  owed = λ shard position e stands closed. there_none (log ∷ []) (job_of one_type e) (nothing_owed (updates_of e));
}

grows_none : (logs : Logs) → EachGrows logs logs
grows_none logs shard = sym (take_all (length (log_of logs shard)) (log_of logs shard) (omega arith))

-- ---- the six lines

one_long : length first_add ≤ 1
one_long = (let n : length first_add ≡ 1 = refl in omega (arith, n))

one_short : 0 < length first_add
one_short = (let n : length first_add ≡ 1 = refl in omega (arith, n))

abbrev first_entry : Entry
first_entry = record {
  position = 1;
  kind = AssocAdded;
  origin = Client 1 1;
  touches = record { key = Assocs 1 likes; change = SetEdge (edge 2 5 1) None; version = 1 } ∷ [];
}

opened : KeepsPromise one_type at_first (asks.Open 1 0 0) (Opened 1) at_first
opened = record {
  says = tt;
  changes = refl;
  grows = grows_none ([] ∷ []);
  well_kept = well_kept [] (omega arith);
  learnt = λ session. ([], refl);
  seen = λ session. refl;
  held = λ plan. refl;
  settled = refl;
}

grows_first : EachGrows ([] ∷ []) (first_add ∷ [])
grows_first zero = refl
grows_first (suc n) = refl

first_there : Contains first_add first_entry
first_there = Contains-get_or first_add 0 first_entry one_short

added_is : KeepsPromise one_type at_first adds (Called (called.Write added_at_1)) once_written
added_is = record {
  says = record {
    done = inl (
      first_entry,
      record {
        stands = record { stands = refl; origin_is = refl; fits = record { kind_is = refl; named = (record { number = 1; shard = 0 }, None, refl, refl) } };
        position_is = refl;
        id_is = tt;
        other_ends = λ is. absurd (cc (is));
      },
      first_there,
    );
    learns = λ e there. subst (λ es. Contains es e) (append-nil first_add) there;
  };
  changes = inr (first_entry, 0, inl (record { between = first_add ∷ []; commits = record { is = refl; gained = (omega arith, refl) }; merges = inl refl }));
  grows = grows_first;
  well_kept = well_kept first_add one_long;
  learnt = λ session. (once_written.learnt session, refl);
  seen = λ session. refl;
  held = λ plan. refl;
  settled = refl;
}

-- once the edge is written, with what each session has seen
abbrev seeing : (ℕ → List SeenVersion) → Plain
seeing seen = record once_written { seen = seen }

-- a read of session 1, which shows it one more version
reads_so : (seen now : ℕ → List SeenVersion) (reply : ReadReply) → last_seen (seen 1) (query_key reads_list.query) ≤ 1
    → reply.answer ≡ EdgesAre (edge 2 5 1 ∷ []) → reply.version ≡ 1
    → ((session : ℕ) → now session ≡ seen_by (Read reads_list) (called.Read reply) session (seen session))
    → KeepsPromise one_type (seeing seen) (asks.Call (Read reads_list)) (Called (called.Read reply)) (seeing now)
reads_so seen now reply most answer version shows = record {
  says = record {
    legal = record {
      n = 1;
      answers = answer;
      version_is = version;
      reached = (let least : floor first_add (query_key reads_list.query) ≡ 1 = refl in omega (arith, least, version, most));
    };
    whole = λ critical. absurd (cc (critical));
    last = λ logs settled same. absurd (cc (settled));
  };
  changes = refl;
  grows = grows_none (first_add ∷ []);
  well_kept = well_kept first_add one_long;
  learnt = λ session. ([], sym (append-nil (once_written.learnt session)));
  seen = shows;
  held = λ plan. refl;
  settled = refl;
}

again_seen : (session : ℕ) → read_again.seen session ≡ seen_by (Read reads_list) (called.Read list_kept) session (once_read.seen session)
again_seen session = elim (cases_Bool (session == 1)) [ inl is ↦ rw is refl | inr isnt ↦ rw isnt refl ]

audited : KeepsPromise one_type read_again (asks.Store (Audit reads_list)) (Audited (EdgesAre (edge 2 5 1 ∷ [])) 1) read_again
audited = record {
  says = record { reply_is = refl };
  changes = refl;
  grows = grows_none (first_add ∷ []);
  well_kept = well_kept first_add one_long;
  learnt = λ session. ([], sym (append-nil (once_written.learnt session)));
  seen = λ session. refl;
  held = λ plan. refl;
  settled = refl;
}

settled_is : KeepsPromise one_type read_again (asks.Store Settle) (Settled (1 ∷ [])) once_settled
settled_is = record {
  says = record { none = λ shard position. refl; paired = λ id1 atype inverse id2 has. absurd (cc (has)); lengths_are = refl };
  changes = record {
    jobs = [];
    open_jobs = λ k d lt. absurd (let below : k < 0 = lt in omega (arith, below));
    in_order = λ i j d one two. absurd (omega (arith, two));
    merges = refl;
  };
  grows = grows_none (first_add ∷ []);
  well_kept = well_kept first_add one_long;
  learnt = λ session. ([], sym (append-nil (once_written.learnt session)));
  seen = λ session. refl;
  held = λ plan. refl;
  settled = refl;
}

-- a line that is no read, or is followed by another line, says nothing of the next
not_again : (first second : Said) → ((call : CheckedRead) → first.asked ≡ Some (asks.Call (Read call)) → second.asked ≡ first.asked → ⊥)
    → AnswersSameAgain first second
not_again first second never = record { same = λ call a b at again critical one two kept. absurd (never call at again) }

kept_so : (a b : ReadReply) → Called (called.Read list_from_store) ≡ Called (called.Read a) → Called (called.Read list_kept) ≡ Called (called.Read b)
    → AreSameReplies a b
kept_so a b one two =
    let first : list_from_store ≡ a = cc (one) in
    let second : list_kept ≡ b = cc (two) in
    subst (λ x. AreSameReplies x b) first (subst (AreSameReplies list_from_store) second (record { answer = refl; version = refl; hops = refl; store = refl }))

-- the lines from the last one on, the two last ones, and so on
from_settle : RunsPlainly one_type read_again (record { asked = Some (asks.Store Settle); reply = Settled (1 ∷ []) } ∷ []) once_settled
from_settle = (once_settled, settled_is, tt, refl)

pub six_lines_run : SixLinesRun
six_lines_run = record {
  run = (
    at_first,
    opened,
    not_again _ _ (λ call at again. absurd (cc (at))),
    (
      once_written,
      added_is,
      not_again _ _ (λ call at again. absurd (cc (at))),
      (
        once_read,
        reads_so once_written.seen once_read.seen list_from_store (omega arith) refl refl (λ session. refl),
        record { same = λ call a b at again critical one two kept. kept_so a b one two },
        (
          read_again,
          reads_so once_read.seen read_again.seen list_kept (omega arith) refl refl again_seen,
          not_again _ _ (λ call at again. absurd (cc (again))),
          (
            read_again,
            audited,
            not_again _ _ (λ call at again. absurd (cc (at))),
            from_settle,
          ),
        ),
      ),
    ),
  );
}

-- ---- eight replies that are refused

abbrev merged_entry : Entry
merged_entry = record {
  position = 1;
  kind = Merged;
  origin = Merge 0 1;
  touches = record { key = Assocs far followed_by; change = SetEdge (edge 1 7 1) None; version = 1 } ∷ [];
}

merged_within : 1 < length (gained ([] ∷ [] ∷ []) both_ends)
merged_within = (let n : length (gained ([] ∷ [] ∷ []) both_ends) ≡ 2 = refl in omega (arith, n))

-- the log of the entry has no merge
far_alone : Contains far_follow merged_entry → ⊥
far_alone there = by there.0 there.1 there.2
  where
    by : (k : ℕ) → k < length far_follow → slice_index_or far_follow k merged_entry ≡ merged_entry → ⊥
    by zero within is = (let same : Client 1 1 ≡ Merge 0 1 = ap (λ (e : Entry). e.origin) is in absurd (cc (same)))
    by (suc n) within is = absurd (let one : length far_follow ≡ 1 = refl in omega (arith, one, within))

pub eight_are_refused : EightAreRefused
eight_are_refused = record {
  below_floor = λ new says.
      let reached : floor_at_start (begun_now once_written (Read reads_list)) (query_key reads_list.query) ≤ 0 = says.says.legal.reached in
      let least : floor_at_start (begun_now once_written (Read reads_list)) (query_key reads_list.query) ≡ 1 = refl in
      absurd (omega (arith, reached, least));
  gone_back = λ new says.
      let reached : floor_at_start (begun_now once_seen (Read other_reads)) (query_key other_reads.query) ≤ 0 = says.says.legal.reached in
      let least : floor_at_start (begun_now once_seen (Read other_reads)) (query_key other_reads.query) ≡ 1 = refl in
      absurd (omega (arith, reached, least));
  not_standing = λ new stores says. elim says.says.done [
    | inl stood ↦ (
        let at : stood.0.position ≡ 1 = sym stood.1.position_is in
        let stands = subst (λ s. entry_at (log_of s.logs 0) stood.0.position ≡ Some stood.0) stores stood.1.stands.stands in
        let none : None ≡ Some stood.0 = subst (λ n. entry_at [] n ≡ Some stood.0) at stands in
        absurd (cc (none)))
    | inr nothing ↦ (let place : 1 ≡ 0 = nothing.position_is in absurd (cc (place)))
  ];
  not_there = λ new stores says.
      let entry = says.says.0 in
      let stands = subst (λ s. entry_at (log_of s.logs 0) entry.position ≡ Some entry) stores says.says.1.stands in
      let none : None ≡ Some entry = subst (λ n. entry_at [] n ≡ Some entry) says.says.2 stands in
      absurd (cc (none));
  not_said = λ new stores says. (let same : first_add ≡ [] = ap (λ l. log_of l 0) (ap (λ (s : Stores). s.logs) (sym stores) ∙ says.says) in absurd (cc (same)));
  job_open = λ new us stores says.
      let none : Some us ≡ None = subst (λ s. s.job 0 0 ≡ None) stores (says.says.none 0 0) in
      absurd (cc (none));
  front_audited = λ new says. (let same = says.says.reply_is in absurd (cc (same)));
  end_unlearnt = λ new logs learnt says.
      let there = says.says.learns merged_entry (subst (λ l. Contains (gained ([] ∷ [] ∷ []) l) merged_entry) (sym logs) (1, merged_within, refl)) in
      far_alone (subst (λ es. Contains es merged_entry) learnt there);
}
