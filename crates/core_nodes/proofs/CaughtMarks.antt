-- The marks of a node that processes entries.
use Rattle.std.proofs.Common.{◌≡◌, ℕ, zero, suc, ◌+◌, ◌≤◌, true, false, List, [], ◌∷◌, drop, length, Some, refl, ap, sym, ◌∙◌, subst, arith}
use Rattle.std.proofs.lemmas.Bool.{eq-eqb, or_right}
use Rattle.std.proofs.lemmas.List.{length-drop, length-take}
use Rattle.std.proofs.lemmas.Option.{slice_get_within}
use Rattle.std.specs.List.{list_any}
use Rattle.std.specs.Option.{option_map}
use Rattle.std.specs.Prelude.{◌==◌, nat_le, slice_get}
use Rattle.cache_items.specs.Node.{Node, caught_up, met, processed}
use Rattle.cache_node.proofs.Marked.{low_is_marked}
use Rattle.cache_node.proofs.Reaching.{catching_up_reaches}
use Rattle.cache_node.proofs.ServedAt.{changed_elsewhere, changed_there}
use Rattle.cache_node.specs.Laws.{CaughtUp, FollowFrom}
use Rattle.graph_model.specs.Soundness.{IsSound}
use Rattle.low_water.proofs.AddedMarks.{mark_adds}
use Rattle.low_water.specs.Marks.{IsWindow, Marks, is_marked, marks}
use Rattle.maint_msg.specs.KeyVersions.{keys_of}
use Rattle.served_shards.specs.Served.{ServedShard, changed_at, marking, seeing, served_at}
use Rattle.shard_log.specs.View.{View}
use Rattle.tao_base.specs.Ids.{IsRising}
use Rattle.tao_base.specs.declared.entry.Entry.{Entry}
use Rattle.core_model.specs.Messages.{Processes}

-- ---- the other shards

elsewhere_stays : (shard other : ℕ) (es : List Entry) (n : Node) → (other == shard) ≡ false
    → served_at other (caught_up shard es n).served ≡ served_at other n.served
elsewhere_stays shard other [] n apart = refl
elsewhere_stays shard other (e ∷ es) n apart =
    elsewhere_stays shard other es (processed shard e.position (keys_of e) n) apart
    ∙ changed_elsewhere shard other (marking e.position) (λ t. refl) apart n.served

pub processes_elsewhere : (shard other : ℕ) (es : List Entry) (note : View) (old new : Node) → Processes shard es note old new → (other == shard) ≡ false
    → served_at other new.served ≡ served_at other old.served
processes_elsewhere shard other es note old new does apart =
    ap (λ (n : Node). served_at other n.served) does ∙ elsewhere_stays shard other es (met shard note old) apart
    ∙ changed_elsewhere shard other (seeing note) (λ t. refl) apart old.served

-- ---- the shard itself

-- what the node then has of it
pub record StillServes (shard : ℕ) (s : ServedShard) (served : List ServedShard) : Type 0 where
  pub after : ServedShard
  pub at : served_at shard served ≡ Some after
  pub window : IsWindow s.marks → IsWindow after.marks

there_stands : (shard : ℕ) (es : List Entry) (n : Node) (s : ServedShard) → served_at shard n.served ≡ Some s
    → StillServes shard s (caught_up shard es n).served
there_stands shard [] n s at = record { after = s; at = at; window = λ w. w }
there_stands shard (e ∷ es) n s at =
    let adds = mark_adds s.marks e.position in
    let there : served_at shard (changed_at shard (marking e.position) n.served) ≡ Some (marking e.position s) =
    changed_there shard (marking e.position) (λ t. refl) n.served ∙ ap (option_map (marking e.position)) at in
    let rest = there_stands shard es (processed shard e.position (keys_of e) n) (marking e.position s) there in
    record { after = rest.after; at = rest.at; window = λ w. rest.window (adds.window w) }

met_there : (shard : ℕ) (note : View) (n : Node) (s : ServedShard) → served_at shard n.served ≡ Some s
    → served_at shard (met shard note n).served ≡ Some (seeing note s)
met_there shard note n s at = changed_there shard (seeing note) (λ t. refl) n.served ∙ ap (option_map (seeing note)) at

pub processes_there : (shard : ℕ) (es : List Entry) (note : View) (old new : Node) (s : ServedShard) → Processes shard es note old new
    → served_at shard old.served ≡ Some s → StillServes shard s new.served
processes_there shard es note old new s does at =
    let rises = there_stands shard es (met shard note old) (seeing note s) (met_there shard note old s at) in
    record { after = rises.after; at = ap (λ (n : Node). served_at shard n.served) does ∙ rises.at; window = rises.window }

-- ---- up to the end of the log

-- the first of the entries from a place on
pub first_after : (log : List Entry) (low : ℕ) (e : Entry) (es : List Entry) → e ∷ es ≡ drop low log → (slice_get log low ≡ Some e) × (es ≡ drop (suc low) log)
first_after [] zero e es is = absurd (cc)
first_after [] (suc low) e es is = absurd (cc)
first_after (x ∷ log) zero e es is = (cc, cc)
first_after (x ∷ log) (suc low) e es is = first_after log low e es is

-- the rest of a sound log follows the mark
pub rest_follows : (log : List Entry) (low : ℕ) (es : List Entry) → IsSound log → es ≡ drop low log → FollowFrom low es
rest_follows log low [] sound is = tt
rest_follows log low (e ∷ es) sound is =
    let first = first_after log low e es is in
    let within = slice_get_within log low e first.0 in
    let cut = length-take low log in
    let position : e.position ≡ low + 1 = (let at = (sound low e first.0).position_is in omega arith) in
    let next : suc low ≡ low + 1 = omega arith in
    (position, subst (λ n. FollowFrom n es) next (rest_follows log (suc low) es sound first.1))

-- a node that processed the rest of the log has a mark at its end
pub reaches_end : (shard : ℕ) (log es : List Entry) (note : View) (old new : Node) (s : ServedShard) → Processes shard es note old new
    → served_at shard old.served ≡ Some s → IsWindow s.marks → IsSound log → es ≡ drop s.marks.low log
    → (after : ServedShard) × (served_at shard new.served ≡ Some after) × (length log ≤ after.marks.low) × IsWindow after.marks
reaches_end shard log es note old new s does at window sound is =
    let mid : Node = met shard note old in
    let reached : CaughtUp shard es (seeing note s) (caught_up shard es mid).served =
    catching_up_reaches.caught_up shard es mid (seeing note s) (met_there shard note old s at) window (rest_follows log s.marks.low es sound is) in
    let low = reached.low in
    let count = ap length is ∙ length-drop s.marks.low log in
    let rises = processes_there shard es note old new s does at in
    let there : served_at shard new.served ≡ Some reached.reached = ap (λ (n : Node). served_at shard n.served) does ∙ reached.at in
    let one : Some rises.after ≡ Some reached.reached = sym rises.at ∙ there in
    let after : rises.after ≡ reached.reached = cc in
    (reached.reached, there, omega arith, subst (λ (t : ServedShard). IsWindow t.marks) after (rises.window window))

-- a mark that is not below the end of a log is there, and nothing is marked ahead, where nothing is marked past the end
pub at_end : (count : ℕ) (m : Marks) → IsWindow m → ((p : ℕ) → is_marked m p ≡ true → p ≤ count) → count ≤ m.low → m ≡ marks count []
at_end count m window within reached =
    let most : m.low ≤ count = within m.low (low_is_marked m) in
    let low : m.low ≡ count = omega arith in
    ap (λ n. marks n m.ahead) low ∙ ap (marks count) (none_ahead m.ahead refl)
  where
    none_ahead : (ahead : List ℕ) → m.ahead ≡ ahead → m.ahead ≡ []
    none_ahead [] is_ahead = is_ahead
    none_ahead (q ∷ qs) is_ahead =
        let rising : IsRising ((m.low + 1) ∷ q ∷ qs) = subst (λ xs. IsRising ((m.low + 1) ∷ xs)) is_ahead window.rising in
        let first : list_any (λ x. q == x) (q ∷ qs) ≡ true = rw (eq-eqb q q refl) refl in
        let on : is_marked m q ≡ true =
        or_right (nat_le q m.low) (list_any (λ x. q == x) m.ahead) (subst (λ xs. list_any (λ x. q == x) xs ≡ true) (sym is_ahead) first) in
        let far = within q on in
        let next = rising.0 in
        absurd (omega arith)
