-- What the touches of an entry owe to another shard is its job.
use Rattle.std.proofs.Common.{◌≡◌, ℕ, ◌<◌, List, [], ◌∷◌, length, refl, sym, ap, ◌∙◌, subst, arith}
use Rattle.std.specs.List.{cons_option}
use Rattle.std.specs.Prelude.{Option, Some, None, filter_map, not}
use Rattle.tao_base.specs.EdgeTypes.{EdgeTypes}
use Rattle.tao_base.specs.declared.entry.Entry.{Entry}
use Rattle.tao_base.specs.declared.entry.Touch.{Touch}
use Rattle.tao_base.specs.Stamps.{stamp_of}
use Rattle.tao_base.specs.declared.edge.EdgeState.TheVariants.{Cut}
use Rattle.tao_base.specs.declared.entry.Change.{Change}
use Rattle.tao_base.specs.declared.entry.Change.TheVariants.{PutObject, DropObject, SetEdge, CutEdge}
use Rattle.tao_base.specs.declared.id.Key.{Key}
use Rattle.tao_base.specs.declared.id.Key.TheVariants.{Obj, List as Assocs}
use Rattle.write_model.proofs.BothEnds.{other_end_is, when_some}
use Rattle.graph_model.proofs.Members.{All-from_in, All-in, in_filter_map_parts}
use Rattle.graph_model.specs.Edges.{number_of, state_left, state_of}
use Rattle.write_model.specs.Writes.{is_near}
use Rattle.graph_model.specs.Soundness.{EdgeUpdate, other_end, update_at}
use Rattle.tao_keeper.specs.Given.{HaveSmallRecords, HaveSmallStamps}
use Rattle.tao_keeper.specs.Table.{job_from}
use Rattle.tao_keeper.specs.declared.keeper.TheConstants.{STAMP_LIMIT}
use Rattle.write_touches.specs.FarJobs.{far_record, job_for, owed_record}

pub owed_is_job : (types : EdgeTypes) (touches : List Touch) → filter_map (owed_record types) touches ≡ filter_map (far_record types)
    (filter_map (λ t. update_at t.key t.change) touches)
owed_is_job types [] = refl
owed_is_job types (t ∷ ts) = by (owed_is_job types ts) (update_at t.key t.change) refl
  where
    by : filter_map (owed_record types) ts ≡ filter_map (far_record types) (filter_map (λ x. update_at x.key x.change) ts) → (o : Option EdgeUpdate)
        → update_at t.key t.change ≡ o
        → filter_map (owed_record types) (t ∷ ts) ≡ filter_map (far_record types) (filter_map (λ x. update_at x.key x.change) (t ∷ ts))
    by same None e = rw e same
    by same (Some u) e = rw e (ap (cons_option (far_record types u)) same)

pub job_is : (types : EdgeTypes) (e : Entry) (us : List EdgeUpdate) → us ≡ filter_map (owed_record types) e.touches → job_from e.position us ≡ job_for types e
job_is types e us is = ap (job_from e.position) (is ∙ owed_is_job types e.touches)

pub empty_job : (types : EdgeTypes) (e : Entry) (us : List EdgeUpdate) → us ≡ filter_map (owed_record types) e.touches → length us ≡ 0 → None ≡ job_for types e
empty_job types e [] is none = job_is types e [] is
empty_job types e (u ∷ us) is none = absurd (omega (arith, none))

pub some_job : (types : EdgeTypes) (e : Entry) (us : List EdgeUpdate) → us ≡ filter_map (owed_record types) e.touches → 0 < length us
    → Some (record { position = e.position; edges = us }) ≡ job_for types e
some_job types e [] is some = absurd (omega (arith, some))
some_job types e (u ∷ us) is some = job_is types e (u ∷ us) is

-- what is owed has the stamps of the touches
small_far : (types : EdgeTypes) (w u : EdgeUpdate) (limit : ℕ) → far_record types w ≡ Some u → (stamp_of w.3).number < limit → (stamp_of u.3).number < limit
small_far types w u limit h small =
    let other = other_end_is types w u (when_some (not (is_near w)) (other_end types w) u h).1 in
    subst (λ s. (stamp_of s).number < limit) (sym other.state) small

small_one : (types : EdgeTypes) (key : Key) (change : Change) (version : ℕ) (u : EdgeUpdate) (limit : ℕ)
    → owed_record types (record { key = key; change = change; version = version }) ≡ Some u
    → number_of (state_left change) < limit → (stamp_of u.3).number < limit
small_one types (Obj id) change version u limit h small = absurd (cc)
small_one types (Assocs id1 atype) (PutObject object) version u limit h small = absurd (cc)
small_one types (Assocs id1 atype) DropObject version u limit h small = absurd (cc)
small_one types (Assocs id1 atype) (SetEdge edge was) version u limit h small = small_far types (id1, atype, edge.id2, state_of edge) u limit h small
small_one types (Assocs id1 atype) (CutEdge id2 stamp was) version u limit h small = small_far types (id1, atype, id2, Cut stamp) u limit h small

pub small_job : (types : EdgeTypes) (touches : List Touch) (us : List EdgeUpdate) → us ≡ filter_map (owed_record types) touches → HaveSmallStamps touches
    → HaveSmallRecords us
small_job types touches us is small =
    subst HaveSmallRecords (sym is) (All-from_in (λ u. (stamp_of u.3).number < STAMP_LIMIT) (filter_map (owed_record types) touches) (λ u h.
    let made = in_filter_map_parts (owed_record types) touches u h in
    small_one types made.0.key made.0.change made.0.version u STAMP_LIMIT made.2
    (All-in (λ t. number_of (state_left t.change) < STAMP_LIMIT) touches made.0 small made.1)))
