-- Notes that meet the masters' stores.
use Rattle.std.proofs.Common.{◌≡◌, Bool, true, false, Option, None, ℕ, zero, suc, ◌+◌, ◌<◌, List, [], ◌∷◌, Result, Ok, Err, length, refl, ap, sym, subst, ◌∙◌, inl, inr, arith}
use Rattle.std.proofs.lemmas.Bool.{cases_lt}
use Rattle.std.proofs.lemmas.List.{length-map, set-get_or}
use Rattle.std.proofs.lemmas.Option.{slice_get-get_or}
use Rattle.std.specs.Option.{option_map}
use Rattle.std.specs.Prelude.{IsTrue, OnOk, Some, Vec, slice_get, slice_index_or, slice_set}
use Rattle.cache_items.specs.Node.{Node}
use Rattle.cache_node.specs.True.{IsServed}
use Rattle.core_model.proofs.NodesSeen.{right-at}
use Rattle.core_model.proofs.Turns.{right_turn_of}
use Rattle.core_model.specs.Consistent.{AreSeen}
use Rattle.core_model.specs.Fleet.{regions_of, serves_in_turn}
use Rattle.core_model.specs.Pens.{AreFirstNotes, IsSeen, Pens, pens_of}
use Rattle.core_model.specs.Stores.{AreStores, HaveMasterRegions, master_store, store_count, store_place}
use Rattle.core_nodes.proofs.BeginLemmas.{pen_at}
use Rattle.core_nodes.proofs.ServedRising.{Rises, each_served, range_rises}
use Rattle.node_name.specs.declared.NodeName.{NodeName}
use Rattle.served_shards.specs.Served.{ServedShard, served_at, view_at}
use Rattle.shard_log.specs.View.{Begins, Grows, LogName, View}
use Rattle.shard_tables.specs.Slaves.{met_entries}
use Rattle.shard_tables.specs.StoreView.{Store}
use Rattle.shard_tables.specs.Stores.{seen_by}
use Rattle.shard_tables.specs.declared.store.StoreRole.{StoreRole}
use Rattle.shard_tables.specs.declared.store.StoreRole.TheVariants.{Master, Slave}
use Rattle.topology.specs.Config.{Settings}
use Rattle.unlocked_nodes.specs.Looking.{AreOfLog, HasMetAt, HaveMet, MeetsMaster, NodeIsOfLogs}
use Rattle.unlocked_nodes.specs.Unlocked.{notes_of}

pub one_some : {X : Type 0} {x y : X} → Some x ≡ Some y → x ≡ y
one_some e = cc

module _ (s : Settings) (regions : HaveMasterRegions s) (stores : List Store) (are : AreStores s (store_count s) stores) (shard : ℕ) (here : shard < s.shards) where
  -- the master's store is of the log that its pen is of
  pub one_log_at : (log : LogName) → (pens_of stores shard).log ≡ log → AreOfLog s shard stores log
  one_log_at log one store stands name =
      let pen = pen_at s regions stores are shard here (store_place s (master_store s shard)) store refl stands in
      ap (λ (v : View). v.log) (sym pen.view_is) ∙ one

  seen_so : (old new : View) → MeetsMaster s shard stores old new → Grows old new → IsSeen (pens_of stores) shard old
  seen_so old new meets grows =
      let pen = pen_at s regions stores are shard here (store_place s (master_store s shard)) meets.store refl meets.stands in
      let whole : new.entries ≡ meets.store.view.entries =
      meets.has_met.entries_are ∙ ap (λ (r : StoreRole). met_entries r old.entries meets.store.view.entries) meets.role_is in
      record {
        log_is = ap (λ (v : View). v.log) pen.view_is ∙ sym meets.has_met.grows.log_is ∙ grows.log_is;
        begins = subst (Begins old.entries) (whole ∙ ap (λ (v : View). v.entries) (sym pen.view_is)) grows.begins;
      }

  -- a note that met it begins the shard's log
  pub met_seen : {T E : Type 0} (r : Result T E) (old new : View) → OnOk r (MeetsMaster s shard stores old new) → Grows old new
      → OnOk r (IsSeen (pens_of stores) shard old)
  met_seen (Ok done) old new meets grows = seen_so old new meets grows
  met_seen (Err e) old new meets grows = tt

-- a test that passes
pub is_so : (b : Bool) → b ≡ true → IsTrue b
is_so b e = e

-- one more number below a bound
pub one_more : (P : ℕ → Type 0) (n : ℕ) → ((k : ℕ) → k < n → P k) → P n → (k : ℕ) → k < n + 1 → P k
one_more P n each last k lt = elim (cases_lt k n) [
  | inl less ↦ each k less
  | inr past ↦ subst P (let e : n ≡ k = omega (arith, lt, past) in e) last
]

-- what was seen of all shards below begins their logs: so it is with all that the node has seen
pub all_seen : (s : Settings) (pens : Pens) (name : NodeName) (node : Node) → NodeIsOfLogs s pens name node
    → ((shard : ℕ) → shard < s.shards → HasMetAt pens shard node) → AreSeen pens node.served
all_seen s pens name node right each =
    each_served (λ shard t. IsSeen pens shard t.view) node.served
    (subst Rises (sym right.shards) (range_rises (serves_in_turn (regions_of s) name) 0 s.shards)) (λ shard t found.
    let served : IsServed node.served shard = rw found refl in
    let turn = right_turn_of s (λ k view. (pens k).log ≡ view.log) name node shard right served in
    each shard turn.0 t found)

-- lists that are equal at each place are the same
pub same_places : {X : Type 0} (xs ys : List X) → length xs ≡ length ys → ((place : ℕ) → place < length ys → slice_get xs place ≡ slice_get ys place) → xs ≡ ys
same_places [] [] long each = refl
same_places [] (y ∷ ys) long each = absurd (omega (arith, long))
same_places (x ∷ xs) [] long each = absurd (omega (arith, long))
same_places (x ∷ xs) (y ∷ ys) long each =
    let first : Some x ≡ Some y = each 0 (omega arith) in
    let same : x ≡ y = one first in
    let rest = same_places xs ys (omega (arith, long)) (λ place lt. each (suc place) (omega (arith, lt))) in
    λ i. same i ∷ rest i
  where
    one : {Z : Type 0} {a b : Z} → Some a ≡ Some b → a ≡ b
    one e = cc

-- ---- the notes of stores

-- the store at the place, where it is a master, has notes of all shards' logs, which begin these
abbrev pub MeetsAt : ℕ → List Store → List (List View) → ℕ → Type 0
MeetsAt count stores noted place = (store : Store) (notes : List View) → slice_get stores place ≡ Some store → slice_get noted place ≡ Some notes
    → store.role ≡ Master → AreFirstNotes (pens_of stores) count notes

-- what a vector among them has changes no list of notes, where it has the same elements
pub same_notes : {A : Type 0} (noted : List (Vec View A)) (place : ℕ) (old new : Vec View A) → slice_get noted place ≡ Some old → new.items ≡ old.items
    → notes_of (slice_set noted place new) ≡ notes_of noted
same_notes [] place old new at same = refl
same_notes (x ∷ xs) zero old new at same = let is : x ≡ old = one_some at in λ i. (same ∙ ap (λ v. v.items) (sym is)) i ∷ notes_of xs
same_notes (x ∷ xs) (suc place) old new at same = ap (λ l. x.items ∷ l) (same_notes xs place old new at same)

-- what stands at a place
pub notes_at : {A : Type 0} (noted : List (Vec View A)) (place : ℕ) (notes : Vec View A) → slice_get noted place ≡ Some notes
    → slice_get (notes_of noted) place ≡ Some notes.items
notes_at [] place notes at = absurd (cc)
notes_at (x ∷ xs) zero notes at = ap (λ v. Some v.items) (one_some at)
notes_at (x ∷ xs) (suc place) notes at = notes_at xs place notes at

-- ---- what a node has seen of a shard's log

module _ (s : Settings) (pens : Pens) (name : NodeName) (node : Node) (right : NodeIsOfLogs s pens name node) (shard : ℕ) where
  -- of one that it doesn't serve nothing
  pub not_there : (turn : Bool) → turn ≡ serves_in_turn (regions_of s) name shard → turn ≡ false → HasMetAt pens shard node
  not_there turn is not t found =
      let served : IsServed node.served shard = rw found refl in
      let own = right_turn_of s (λ k view. (pens k).log ≡ view.log) name node shard right served in
      absurd (clash (serves_in_turn (regions_of s) name shard) own.1 (sym is ∙ not))
    where
      clash : (b : Bool) → IsTrue b → b ≡ false → ⊥
      clash b passes e = absurd (cc)

  pub log_there : (note : View) → view_at shard node.served ≡ Some note → (pens shard).log ≡ note.log
  log_there note at = by (served_at shard node.served) refl at
    where
      by : (o : Option ServedShard) → served_at shard node.served ≡ o → option_map (λ (t : ServedShard). t.view) o ≡ Some note → (pens shard).log ≡ note.log
      by None is h = absurd (cc)
      by (Some t) is h =
          right-at (λ k view. (pens k).log ≡ view.log) shard node.served t right.seen is ∙ ap (λ (v : View). v.log) (one_some h)

-- what the note has met, the node has
pub met_there : {T E : Type 0} (pens : Pens) (shard : ℕ) (node : Node) (note : View) → view_at shard node.served ≡ Some note → (r : Result T E)
    → OnOk r (IsSeen pens shard note) → OnOk r (HasMetAt pens shard node)
met_there pens shard node note at (Ok done) seen = λ t found.
    subst (IsSeen pens shard) (sym (one_some (sym (ap (λ o. option_map (λ (x : ServedShard). x.view) o) found) ∙ at))) seen
met_there pens shard node note at (Err e) seen = tt

-- ---- one after another

-- what is read of a list that is still the one that it was
pub read_same : {X : Type 0} (start now : List X) (place : ℕ) (d : X) → now ≡ start → place < length start
    → slice_get start place ≡ Some (slice_index_or now place d)
read_same start now place d same lt =
    subst (λ xs. slice_get start place ≡ Some (slice_index_or xs place d)) (sym same) (slice_get-get_or start place d lt)

-- what is put back as it was
pub put_back : {X : Type 0} (start now : List X) (place : ℕ) (d x : X) → now ≡ start → x ≡ slice_index_or now place d → slice_set now place x ≡ start
put_back start now place d x same is = ap (slice_set now place) is ∙ (set-get_or now place d ∙ same)

-- one more of a list is such
pub one_more_of : {X : Type 0} (P : X → Type 0) (xs : List X) (n : ℕ) (x : X) → ((k : ℕ) (y : X) → k < n → slice_get xs k ≡ Some y → P y)
    → slice_get xs n ≡ Some x → P x → (k : ℕ) (y : X) → k < n + 1 → slice_get xs k ≡ Some y → P y
one_more_of P xs n x each there last k y lt at = elim (cases_lt k n) [
  | inl less ↦ each k y less at
  | inr past ↦ (
      let here : k ≡ n = omega (arith, lt, past) in
      subst P (one_some (sym there ∙ (ap (slice_get xs) (sym here) ∙ at))) last)
]

-- what a note has seen that has seen all that the store has, the store has seen
pub seen_note : (role : StoreRole) (view pen : View) → Grows (seen_by role view) pen → Grows view pen
seen_note Master view pen g = record { log_is = g.log_is; begins = g.begins }
seen_note Slave view pen g = g

-- one more note, of the shard at whose place it stands
pub one_more_at : (P : ℕ → View → Type 0) (xs : List View) (n place : ℕ) (x : View) → place ≡ n
    → ((k : ℕ) (y : View) → k < n → slice_get xs k ≡ Some y → P k y) → slice_get xs place ≡ Some x → P n x → (k : ℕ) (y : View) → k < n + 1
    → slice_get xs k ≡ Some y → P k y
one_more_at P xs n place x is each there last k y lt at = elim (cases_lt k n) [
  | inl less ↦ each k y less at
  | inr past ↦ (
      let here : n ≡ k = omega (arith, lt, past) in
      subst (λ i. P i y) here (subst (P n) (one_some (sym there ∙ (ap (slice_get xs) (is ∙ here) ∙ at))) last))
]

-- as many notes as there were
pub many_notes : {A : Type 0} (now start : List (Vec View A)) → notes_of now ≡ notes_of start → length now ≡ length start
many_notes now start same = sym (length-map now (λ v. v.items)) ∙ (ap length same ∙ length-map start (λ v. v.items))

-- the notes of the store at the place
pub meets_here : {A : Type 0} (count : ℕ) (stores : List Store) (start now : List (Vec View A)) (place : ℕ) (store : Store) (notes : Vec View A) (role : StoreRole)
    → slice_get stores place ≡ Some store → slice_get now place ≡ Some notes → notes_of now ≡ notes_of start → role ≡ store.role
    → (role ≡ Master → AreFirstNotes (pens_of stores) count notes.items) → MeetsAt count stores (notes_of start) place
meets_here count stores start now place store notes role there stands same role_is met = λ x seen at has master.
    let is : x ≡ store = one_some (sym at ∙ there) in
    let own : notes.items ≡ seen = one_some (sym (notes_at now place notes stands) ∙ (ap (λ l. slice_get l place) same ∙ has)) in
    subst (λ l. AreFirstNotes (pens_of stores) count l) own (met (role_is ∙ (ap (λ (y : Store). y.role) (sym is) ∙ master)))

-- what is said over stores that stay is said of what they were
pub first_over : (count : ℕ) (now start : List Store) (role : StoreRole) (notes : List View) → now ≡ start
    → (role ≡ Master → AreFirstNotes (pens_of now) count notes) → role ≡ Master → AreFirstNotes (pens_of start) count notes
first_over count now start role notes same first is = subst (λ (xs : List Store). AreFirstNotes (pens_of xs) count notes) same (first is)

-- what follows from what an Ok says
pub on_ok : {T E : Type 0} (P Q : Type 0) (r : Result T E) → (P → Q) → OnOk r P → OnOk r Q
on_ok P Q (Ok done) so is = so is
on_ok P Q (Err e) so is = tt

-- ---- over stores that are as they were

pub long_over : {A : Type 0} (noted : List (Vec View A)) (now start : List Store) → now ≡ start → length (notes_of noted) ≡ length start
    → length noted ≡ length now
long_over noted now start same long = sym (length-map noted (λ v. v.items)) ∙ (long ∙ ap length (sym same))

pub notes_over : (count : ℕ) (now start : List Store) (noted : List (List View)) → now ≡ start → HaveMet count now noted → HaveMet count start noted
notes_over count now start noted same met = subst (λ (xs : List Store). HaveMet count xs noted) same met
