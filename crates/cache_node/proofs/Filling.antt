-- A node that takes a fill stays true of its logs.
use Rattle.std.proofs.Common.{◌≡◌, ℕ, ◌≤◌, Bool, true, List, [], ◌∷◌, take, Option, Some, None, refl, sym, ap, subst, inl, inr, arith}
use Rattle.std.proofs.lemmas.Bool.{cases_Bool, cases_lt, ltb-false}
use Rattle.std.proofs.lemmas.List.{take-take}
use Rattle.std.specs.List.{IsDistinct}
use Rattle.std.specs.Map.{keys_of as keys_held}
use Rattle.std.specs.Prelude.{IfSome, find, nat_lt, not}
use Rattle.tao_base.specs.declared.entry.Entry.{Entry}
use Rattle.tao_base.specs.declared.id.Key.{Key}
use Rattle.tao_base.specs.declared.id.Key.TheVariants.{Obj, List as Assocs}
use Rattle.graph_model.proofs.Exact.{version_take}
use Rattle.graph_model.proofs.Later.{all_filter}
use Rattle.graph_model.proofs.Members.{IsIn, all_in}
use Rattle.tao_base.specs.Keys.{key_shard, same_key}
use Rattle.graph_model.specs.Log.{version}
use Rattle.shard_log.specs.View.{View, longer_view}
use Rattle.low_water.proofs.AddedMarks.{top_is}
use Rattle.low_water.specs.Marks.{is_marked, top_of}
use Rattle.ask_table.specs.declared.ask.Ask.{Ask}
use Rattle.ask_table.specs.Asks.{Asks, without_ask}
use Rattle.ask_table.specs.Open.{is_numbered}
use Rattle.cache_items.proofs.sealed_item_lemmas.FillLemmas.{fill_stays}
use Rattle.cache_items.specs.sealed_item.Fills.{IsExactContent, IsFill, IsSealed, SealedItem}
use Rattle.cache_items.specs.sealed_item.declared.content.Content.{Content}
use Rattle.cache_items.specs.sealed_item.declared.content.Content.TheVariants.{Object as ObjectIs, List as ListIs}
use Rattle.cache_node.proofs.Keys.{held_kept}
use Rattle.cache_node.proofs.Marked.{version_is}
use Rattle.cache_node.proofs.Raised.{raised_is_true}
use Rattle.cache_node.proofs.ServedAt.{changed_here, changed_served, told_before}
use Rattle.cache_node.proofs.Truth.{added_is_true, asks_are_true, seeing_keeps, met_is_true, touched_back}
use Rattle.cache_items.specs.declared.look.Kept.{Kept}
use Rattle.cache_items.specs.declared.look.Kept.TheVariants.{Yes, Asks as NoAsk, Lost, Mark, Floor, Memory}
use Rattle.cache_items.specs.Kept.{GivesKept, admits, ask_at, is_yes, item_of, kept_items, kept_of, own_kept_of, took, with_item}
use Rattle.served_shards.specs.Meetings.{Meets, MeetsAt}
use Rattle.cache_items.specs.Node.{Node, with_ended_ask, met}
use Rattle.served_shards.specs.Served.{ServedShard, seeing, served_at, top_at}
use Rattle.cache_node.specs.True.{AreTold, IsServed, IsTrueAsk, IsTrueAskOf, IsTrueNode, IsTrueOfLogs, IsTrueServed, touched}

-- an exact content's version is one that the key has reached
pub content_reached : (log : List Entry) (key : Key) (at : ℕ) (content : Content) → IsExactContent log key at content → at ≤ version log key
content_reached log (Obj id) at (ObjectIs found) exact = exact.reached
content_reached log (Obj id) at (ListIs prefix) exact = absurd exact
content_reached log (Assocs id1 atype) at (ListIs prefix) exact = exact.reached
content_reached log (Assocs id1 atype) at (ObjectIs found) exact = absurd exact

-- the fill is one of what was seen, and has at least the version of each touch of its key at a marked position
pub record CanKeep (fill : SealedItem) (s : ServedShard) : Type 0 where
  pub is : IsFill s.view.entries fill.key fill.version fill.as_of fill.content
  pub reaches : (p v : ℕ) → is_marked s.marks p ≡ true → touched s.view.entries p fill.key ≡ Some v → v ≤ fill.version

-- a fill was kept
pub kept_is_true : (fill : SealedItem) (n : Node) → IsDistinct same_key (keys_held n.items) → IsTrueNode n → IsServed n.served (key_shard fill.key)
    → ((s : ServedShard) → AreTold n.served → IsTrueOfLogs n → served_at (key_shard fill.key) n.served ≡ Some s → CanKeep fill s)
    → IsTrueNode (with_item fill.key (item_of fill) n)
kept_is_true fill n distinct is served can =
    let items = kept_items n.items n.most fill.key (item_of fill) in
    let added = added_is_true n items fill.key (item_of fill) is (λ q item h. held_kept n.items n.most fill.key (item_of fill) q item distinct h) served
    (λ s told was at. let keep = can s told was at in record { exact = keep.is.exact; reaches = keep.reaches }) in
    raised_is_true (record n { items = items }) fill.key fill.version added
    (λ s told was at. content_reached s.view.entries fill.key fill.version fill.content (can s told (is.told told) at).is.exact)

-- the ask ended
pub ended_is_true : (ask : Option ℕ) (n : Node) → IsTrueNode n → IsTrueNode (with_ended_ask ask n)
ended_is_true None n is = is
ended_is_true (Some ask) n is = asks_are_true n (without_ask ask n.asks) is
    (all_filter (λ a. IsServed n.served (key_shard a.key)) (λ a. not (is_numbered ask a)) n.asks.asks is.asks_here)
    (λ told was. all_filter (IsTrueAskOf n.served) (λ a. not (is_numbered ask a)) n.asks.asks was.asks)

-- the fill was taken, kept or not
pub took_is_true : (fill : SealedItem) (kept : Kept) (n : Node) → IsDistinct same_key (keys_held n.items) → IsTrueNode n
    → IsServed n.served (key_shard fill.key)
    → MeetsAt (key_shard fill.key) fill.note n.served
    → (is_yes kept ≡ true → (s : ServedShard) → AreTold n.served → served_at (key_shard fill.key) n.served ≡ Some s → CanKeep fill (seeing fill.note s))
    → IsTrueNode (took fill kept n)
took_is_true fill kept n distinct is served meets can =
    let m : Node = met (key_shard fill.key) fill.note n in
    let met_true = met_is_true n (key_shard fill.key) fill.note is meets in
    elim (cases_Bool (is_yes kept)) [
      | inr no_keep ↦ rw no_keep met_true
      | inl keep ↦ rw keep (kept_is_true fill m distinct met_true
          (changed_served (key_shard fill.key) (key_shard fill.key) (seeing fill.note) n.served (seeing_keeps fill.note) served)
          (λ after told was at.
          let c = changed_here (key_shard fill.key) (seeing fill.note) n.served after (seeing_keeps fill.note) at in
          subst (CanKeep fill) (sym c.is) (can keep c.before
          (told_before (key_shard fill.key) (seeing fill.note) n.served (seeing_keeps fill.note) told) c.was)))
    ]

versions_rise : (p q : ℕ) (log : List Entry) (key : Key) → p ≤ q → version (take p log) key ≤ version (take q log) key
versions_rise p q log key le = let same = ap (λ l. version l key) (take-take p q log le) in let cut = version_take p (take q log) key in omega arith

-- a fill that an ask admits has at least the version of each touch at a marked position
pub ask_reaches : (fill : SealedItem) (s : ServedShard) (a : Ask) → Meets s fill.note → s.view.log.told ≡ true → IsTrueServed s → IsTrueAsk s a
    → a.key ≡ fill.key
    → a.mark ≤ fill.as_of → a.floor ≤ fill.version → IsSealed fill → CanKeep fill (seeing fill.note s)
ask_reaches fill s a meets told served true_ask key mark floor sealed =
    let w : View = longer_view s.view fill.note in
    let is : IsFill w.entries fill.key fill.version fill.as_of fill.content = fill_stays fill w meets.from_note sealed told in
    record {
      is = is;
      reaches = λ p v on at. elim (cases_lt a.mark p) [
        | inl since ↦ (
            let before : touched s.view.entries p fill.key ≡ Some v = touched_back s.view w p fill.key v meets.grows (served.within p on) at in
            let low = true_ask.since p v on since (subst (λ k. touched s.view.entries p k ≡ Some v) (sym key) before) in
            omega arith)
        | inr before ↦ (
            let e = version_is w.entries p fill.key v (meets.sound told) at in
            let up = versions_rise p fill.as_of w.entries fill.key (omega arith) in
            let low = is.since.since in
            omega arith)
      ];
    }

-- a fill as of each marked position has at least the version of each touch there
pub top_reaches : (fill : SealedItem) (s : ServedShard) → Meets s fill.note → s.view.log.told ≡ true → top_of s.marks ≤ fill.as_of → IsSealed fill
    → CanKeep fill (seeing fill.note s)
top_reaches fill s meets told top sealed =
    let w : View = longer_view s.view fill.note in
    let is : IsFill w.entries fill.key fill.version fill.as_of fill.content = fill_stays fill w meets.from_note sealed told in
    record {
      is = is;
      reaches = λ p v on at.
          let e = version_is w.entries p fill.key v (meets.sound told) at in
          let below = (top_is s.marks).greatest p on in
          let up = versions_rise p fill.as_of w.entries fill.key (omega arith) in
          let low = is.since.since in
          omega arith;
    }

-- a fill is kept only where it is to be
kept_yes : (due kept : Kept) → GivesKept due kept → is_yes kept ≡ true → due ≡ Yes
kept_yes Yes kept is yes_is = refl
kept_yes NoAsk kept is yes_is = absurd (let no_keep : is_yes NoAsk ≡ true = rw is at yes_is in cc)
kept_yes Lost kept is yes_is = absurd (let no_keep : is_yes Lost ≡ true = rw is at yes_is in cc)
kept_yes (Mark have need) kept is yes_is = absurd (let no_keep : is_yes (Mark have need) ≡ true = rw is at yes_is in cc)
kept_yes (Floor have need) kept is yes_is = absurd (let no_keep : is_yes (Floor have need) ≡ true = rw is at yes_is in cc)
kept_yes Memory kept is yes_is = absurd (let no_keep : is_yes Memory ≡ true = rw is at yes_is in cc)

admits_yes : (mark floor at as_of : ℕ) → admits mark floor at as_of ≡ Yes → (mark ≤ as_of) × (floor ≤ at)
admits_yes mark floor at as_of is = elim (cases_Bool (nat_lt as_of mark)) [
  | inl below ↦ absurd (let e : Mark as_of mark ≡ Yes = rw below at is in cc)
  | inr high ↦ elim (cases_Bool (nat_lt at floor)) [
    | inl low ↦ absurd (let e : Floor at floor ≡ Yes = rw low at (rw high at is) in cc)
    | inr enough ↦ (ltb-false as_of mark high, ltb-false at floor enough)
  ]
]

-- the ask that admits a fill
record Admitted (ask : Option ℕ) (t : Asks) (at as_of : ℕ) : Type 0 where
  pub number : ℕ
  pub given : ask ≡ Some number
  pub found : Ask
  pub is : ask_at number t ≡ Some found
  pub mark : found.mark ≤ as_of
  pub floor : found.floor ≤ at

admitted_by : (ask : Option ℕ) (t : Asks) (at as_of : ℕ) → kept_of ask t at as_of ≡ Yes → Admitted ask t at as_of
admitted_by None t at as_of is = absurd (cc)
admitted_by (Some number) t at as_of is = by_found (ask_at number t) refl
  where
    by_found : (o : Option Ask) → ask_at number t ≡ o → Admitted (Some number) t at as_of
    by_found None none = absurd (let e : Lost ≡ Yes = rw none at is in cc)
    by_found (Some a) some =
        let e : admits a.mark a.floor at as_of ≡ Yes = rw some at is in
        let parts = admits_yes a.mark a.floor at as_of e in
        record { number = number; given = refl; found = a; is = some; mark = parts.0; floor = parts.1 }

find_in : {X : Type 0} (test : X → Bool) (xs : List X) (x : X) → find test xs ≡ Some x → IsIn x xs
find_in test [] x is = absurd (cc)
find_in test (y ∷ ys) x is = elim (cases_Bool (test y)) [
  | inl on ↦ (let e : Some y ≡ Some x = rw on at is in inl (cc))
  | inr off ↦ inr (find_in test ys x (rw off at is))
]

own_yes : (top as_of : ℕ) → own_kept_of top as_of ≡ Yes → top ≤ as_of
own_yes top as_of is = elim (cases_Bool (nat_lt as_of top)) [
  | inl below ↦ absurd (let e : Mark as_of top ≡ Yes = rw below at is in cc)
  | inr high ↦ ltb-false as_of top high
]

-- a fill that was taken for an ask
pub took_fill_is_true : (fill : SealedItem) (kept : Kept) (ask : Option ℕ) (n : Node) → IsDistinct same_key (keys_held n.items) → IsTrueNode n
    → IsServed n.served (key_shard fill.key)
    → MeetsAt (key_shard fill.key) fill.note n.served → IsSealed fill → IfSome ask (λ number. IfSome (ask_at number n.asks) (λ a. a.key ≡ fill.key))
    → GivesKept (kept_of ask n.asks fill.version fill.as_of) kept → IsTrueNode (took fill kept (with_ended_ask ask n))
took_fill_is_true fill kept ask n distinct is served meets sealed on_key due =
    took_is_true fill kept (with_ended_ask ask n) (same_items ask) (ended_is_true ask n is) (same_served ask served) (same_meets ask)
    (λ keep s told at.
    let admitted = admitted_by ask n.asks fill.version fill.as_of (kept_yes (kept_of ask n.asks fill.version fill.as_of) kept due keep) in
    let logs = is.told (same_told ask told) in
    let there : served_at (key_shard fill.key) n.served ≡ Some s = same_at ask s at in
    let key : admitted.found.key ≡ fill.key = key_of_found admitted.number admitted.found admitted.given admitted.is in
    let true_ask =
    all_in (IsTrueAskOf n.served) n.asks.asks admitted.found logs.asks (find_in (is_numbered admitted.number) n.asks.asks admitted.found admitted.is) s
    (subst (λ k. served_at (key_shard k) n.served ≡ Some s) (sym key) there) in
    ask_reaches fill s admitted.found (meets.meets s there) (same_told ask told (key_shard fill.key) s there)
    (logs.served (key_shard fill.key) s there) true_ask key admitted.mark admitted.floor sealed)
  where
    same_items : (ask : Option ℕ) → IsDistinct same_key (keys_held (with_ended_ask ask n).items)
    same_items None = distinct
    same_items (Some number) = distinct

    same_served : (ask : Option ℕ) → IsServed n.served (key_shard fill.key) → IsServed (with_ended_ask ask n).served (key_shard fill.key)
    same_served None h = h
    same_served (Some number) h = h

    same_meets : (ask : Option ℕ) → MeetsAt (key_shard fill.key) fill.note (with_ended_ask ask n).served
    same_meets None = meets
    same_meets (Some number) = meets

    same_told : (ask : Option ℕ) → AreTold (with_ended_ask ask n).served → AreTold n.served
    same_told None told = told
    same_told (Some number) told = told

    same_at : (ask : Option ℕ) (s : ServedShard) → served_at (key_shard fill.key) (with_ended_ask ask n).served ≡ Some s
        → served_at (key_shard fill.key) n.served ≡ Some s
    same_at None s at = at
    same_at (Some number) s at = at

    key_of_found : (number : ℕ) (a : Ask) → ask ≡ Some number → ask_at number n.asks ≡ Some a → a.key ≡ fill.key
    key_of_found number a given found = rw found at (rw given at on_key)

-- a fill that a leader took for itself
pub took_own_is_true : (fill : SealedItem) (kept : Kept) (n : Node) → IsDistinct same_key (keys_held n.items) → IsTrueNode n
    → IsServed n.served (key_shard fill.key)
    → MeetsAt (key_shard fill.key) fill.note n.served → IsSealed fill → GivesKept (own_kept_of (top_at (key_shard fill.key) n.served) fill.as_of) kept
    → IsTrueNode (took fill kept n)
took_own_is_true fill kept n distinct is served meets sealed due =
    took_is_true fill kept n distinct is served meets
    (λ keep s told at.
    let top : top_at (key_shard fill.key) n.served ≡ top_of s.marks = rw at refl in
    let le =
    own_yes (top_at (key_shard fill.key) n.served) fill.as_of (kept_yes (own_kept_of (top_at (key_shard fill.key) n.served) fill.as_of) kept due keep) in
    top_reaches fill s (meets.meets s at) (told (key_shard fill.key) s at) (omega arith) sealed)
