-- Why a follower doesn't keep a fill is so in what it had seen.
use Rattle.std.proofs.Common.{◌≡◌, ◌≢◌, ℕ, ◌≤◌, Bool, true, false, List, [], ◌∷◌, length, Option, Some, None, IfSome, refl, ap, sym, subst, ◌∙◌, inl, inr, ◌⊎◌, arith}
use Rattle.std.specs.List.{AllByRecursion, find, list_any}
use Rattle.std.specs.Option.{option_map}
use Rattle.std.specs.Prelude.{◌||◌, ◌==◌, if◌then◌else◌, nat_lt, IsSomeAnd}
use Rattle.std.proofs.lemmas.Bool.{le-leb, ltb-true}
use Rattle.ask_table.specs.Open.{is_numbered}
use Rattle.ask_table.specs.declared.ask.Ask.{Ask}
use Rattle.cache_items.specs.Kept.{GivesKept, admits_found, ask_at, kept_of}
use Rattle.cache_items.specs.Node.{Node}
use Rattle.cache_items.specs.declared.look.Kept.{Kept}
use Rattle.cache_items.specs.declared.look.Kept.TheVariants.{Yes, Lost, Mark, Floor, Memory}
use Rattle.cache_node.specs.True.{IsTrueAsk, IsTrueAskOf, IsTrueNode, IsTrueServed}
use Rattle.graph_model.specs.Log.{version}
use Rattle.graph_model.specs.Told.{WhereTold}
use Rattle.low_water.specs.Marks.{Marks, is_marked}
use Rattle.served_shards.specs.Served.{ServedShard, served_at, view_at}
use Rattle.shard_log.specs.View.{View}
use Rattle.tao_base.specs.Keys.{key_shard}
use Rattle.tao_base.specs.declared.id.Key.{Key}
use Rattle.shared_nodes.proofs.Turns.{served_told}
use Rattle.shared_nodes.specs.Nodes.{IsKeptAsSeen}

-- ---- an open ask

one_some : {X : Type 0} (x y : X) → Some x ≡ Some y → x ≡ y
one_some x y h = cc

found_by : {X : Type 0} (f : X → Bool) (P : X → Type 0) (x y : X) (rest : List X) (here : Bool) → (if here then Some y else find f rest) ≡ Some x
    → P y → (find f rest ≡ Some x → P x) → P x
found_by f P x y rest true is own more = subst P (one_some y x is) own
found_by f P x y rest false is own more = more is

-- what is so of all is so of the one that is found
found_all : {X : Type 0} (f : X → Bool) (P : X → Type 0) (xs : List X) (x : X) → find f xs ≡ Some x → AllByRecursion P xs → P x
found_all f P [] x is all = absurd (cc)
found_all f P (y ∷ ys) x is all = found_by f P x y ys (f y) is all.0 (λ more. found_all f P ys x more all.1)

low_marked : (m : Marks) → is_marked m m.low ≡ true
low_marked m = ap (λ b. b || list_any (λ x. m.low == x) m.ahead) (le-leb m.low m.low (omega arith))

-- its mark is at most what was seen, and the key had reached its floor there
abbrev pub IsAskSeen : View → Key → Ask → Type 0
IsAskSeen view key a = WhereTold view.log.told ((a.mark ≤ length view.entries) × (a.floor ≤ version view.entries key))

ask_within : (s : ServedShard) (a : Ask) → IsTrueServed s → IsTrueAsk s a → (a.mark ≤ length s.view.entries) × (a.floor ≤ version s.view.entries a.key)
ask_within s a served is =
    let low : s.marks.low ≤ length s.view.entries = served.within s.marks.low (low_marked s.marks) in
    let begun : a.mark ≤ s.marks.low = is.begun in
    (omega arith, is.known)

seen_at : (key : Key) (node : Node) (a : Ask) (note : View) (found : Option ServedShard) → served_at (key_shard key) node.served ≡ found
    → option_map (λ (t : ServedShard). t.view) found ≡ Some note → IsTrueNode node → a.key ≡ key
    → ((told : (shard : ℕ) (s : ServedShard) → served_at shard node.served ≡ Some s → s.view.log.told ≡ true) → IsTrueAskOf node.served a)
    → IsAskSeen note key a
seen_at key node a note None at is truth own asks told = absurd (let e : None ≡ Some note = is in cc)
seen_at key node a note (Some s) at is truth own asks told =
    let one : s.view ≡ note = one_some s.view note is in
    let all = served_told (key_shard key) node.served s at truth.alike (ap (λ (v : View). v.log.told) one ∙ told) in
    let here : served_at (key_shard a.key) node.served ≡ Some s = ap (λ k. served_at (key_shard k) node.served) own ∙ at in
    let within = ask_within s a ((truth.told all).served (key_shard key) s at) (asks all s here) in
    subst (λ (v : View). (a.mark ≤ length v.entries) × (a.floor ≤ version v.entries key)) one
    (within.0, subst (λ k. a.floor ≤ version s.view.entries k) own within.1)

pub ask_seen : (key : Key) (node : Node) (number : ℕ) (a : Ask) (note : View) → IsTrueNode node → ask_at number node.asks ≡ Some a → a.key ≡ key
    → view_at (key_shard key) node.served ≡ Some note → IsAskSeen note key a
ask_seen key node number a note truth found own at =
    seen_at key node a note (served_at (key_shard key) node.served) refl at truth own
    (λ told. found_all (is_numbered number) (IsTrueAskOf node.served) node.asks.asks a found (truth.told told).asks)

-- ---- the reason

lost : (view : View) (key : Key) (kept : Kept) → kept ≢ Lost → kept ≡ Lost → IsKeptAsSeen view key kept
lost view key kept unlost is = absurd (unlost is)

admitted : (view : View) (key : Key) (kept : Kept) → (kept ≡ Yes) ⊎ (kept ≡ Memory) → IsKeptAsSeen view key kept
admitted view key kept (inl is) = subst (IsKeptAsSeen view key) (sym is) tt
admitted view key kept (inr is) = subst (IsKeptAsSeen view key) (sym is) tt

by_rule : (view : View) (key : Key) (mark floor at as_of : ℕ) (kept : Kept) (under low : Bool) → nat_lt as_of mark ≡ under
    → nat_lt at floor ≡ low → GivesKept (if under then Mark as_of mark else (if low then Floor at floor else Yes)) kept
    → WhereTold view.log.told ((mark ≤ length view.entries) × (floor ≤ version view.entries key)) → IsKeptAsSeen view key kept
by_rule view key mark floor at as_of kept true low first second gives seen =
    subst (IsKeptAsSeen view key) (sym gives) (ltb-true as_of mark first, λ told. (seen told).0)
by_rule view key mark floor at as_of kept false true first second gives seen =
    subst (IsKeptAsSeen view key) (sym gives) (ltb-true at floor second, λ told. (seen told).1)
by_rule view key mark floor at as_of kept false false first second gives seen = admitted view key kept gives

by_found : (view : View) (key : Key) (found : Option Ask) (at as_of : ℕ) (kept : Kept) → kept ≢ Lost → GivesKept (admits_found found at as_of) kept
    → IfSome found (IsAskSeen view key) → IsKeptAsSeen view key kept
by_found view key None at as_of kept unlost gives seen = lost view key kept unlost gives
by_found view key (Some a) at as_of kept unlost gives seen =
    by_rule view key a.mark a.floor at as_of kept (nat_lt as_of a.mark) (nat_lt at a.floor) refl refl gives seen

found_seen : (key : Key) (node : Node) (number : ℕ) (note : View) (found : Option Ask) → ask_at number node.asks ≡ found → IsTrueNode node
    → IsSomeAnd found (λ a. a.key ≡ key) → view_at (key_shard key) node.served ≡ Some note → IfSome found (IsAskSeen note key)
found_seen key node number note None found truth own at = tt
found_seen key node number note (Some a) found truth own at = ask_seen key node number a note truth found own at

-- why a fill isn't kept is so in the note of what the follower had seen
pub reason_seen : (key : Key) (node : Node) (ask : Option ℕ) (note : View) (at as_of : ℕ) (kept : Kept) → IsTrueNode node
    → view_at (key_shard key) node.served ≡ Some note → IfSome ask (λ number. IsSomeAnd (ask_at number node.asks) (λ a. a.key ≡ key)) → kept ≢ Lost
    → GivesKept (kept_of ask node.asks at as_of) kept → IsKeptAsSeen note key kept
reason_seen key node None note at as_of kept truth seen own unlost gives = subst (IsKeptAsSeen note key) (sym gives) tt
reason_seen key node (Some number) note at as_of kept truth seen own unlost gives =
    by_found note key (ask_at number node.asks) at as_of kept unlost gives
    (found_seen key node number note (ask_at number node.asks) refl truth own seen)
