-- A record that is later than the log's makes a touch that follows the log.
use Rattle.std.proofs.Common.{◌≡◌, ℕ, ◌+◌, true, refl, arith, List}
use Rattle.std.proofs.lemmas.Bool.Decides.{nat_tests}
use Rattle.std.specs.Prelude.{Option, Some, None, IsTrue, IfSome, max}
use Rattle.tao_base.specs.Ids.{shard_of}
use Rattle.tao_base.specs.Stamps.{stamp_of, is_earlier}
use Rattle.tao_base.specs.declared.id.Id.{Id}
use Rattle.tao_base.specs.declared.id.AType.{AType}
use Rattle.tao_base.specs.declared.edge.EdgeState.{EdgeState}
use Rattle.tao_base.specs.declared.edge.EdgeState.TheVariants.{Live, Cut}
use Rattle.tao_base.specs.declared.entry.Entry.{Entry}
use Rattle.tao_base.specs.declared.entry.Origin.{Origin}
use Rattle.graph_model.specs.Edges.{edge_record, number_of}
use Rattle.write_model.specs.WriteLaws.{LaterTouches}
use Rattle.graph_model.specs.Records.{is_news}
use Rattle.graph_model.specs.Soundness.{TouchFollows, is_client}
use Rattle.write_model.specs.Writes.{edge_touch, epoch_base, next_stamp}

-- later than the record that is there, if there is one
rises : (found : Option EdgeState) (log : List Entry) (id1 : Id) (atype : AType) (id2 : Id) (state : EdgeState) → edge_record log id1 atype id2 ≡ found
    → is_news log (id1, atype, id2, state) ≡ true → IfSome found (λ old. is_earlier (stamp_of old) (stamp_of state) ≡ true)
rises None log id1 atype id2 state e h = tt
rises (Some old) log id1 atype id2 state e h = rw e at h

pub touch_follows : (log : List Entry) (origin : Origin) (id1 : Id) (atype : AType) (id2 : Id) (state : EdgeState) → is_news log (id1, atype, id2, state) ≡ true
    → (IsTrue (is_client origin) → (stamp_of state).shard ≡ shard_of id1) → TouchFollows log origin (edge_touch log (id1, atype, id2, state))
touch_follows log origin id1 atype id2 (Live time payload stamp) news own =
    record {
      version_is = refl;
      was_is = refl;
      stamp_rises = rises (edge_record log id1 atype id2) log id1 atype id2 (Live time payload stamp) refl news;
      own_stamp = own;
    }
touch_follows log origin id1 atype id2 (Cut stamp) news own =
    record { version_is = refl; was_is = refl; stamp_rises = rises (edge_record log id1 atype id2) log id1 atype id2 (Cut stamp) refl news; own_stamp = own }

-- the next stamp is later than the record
later_number : (found : Option EdgeState) (base shard : ℕ)
    → IfSome found (λ old. is_earlier (stamp_of old) (record { number = max (number_of found) base + 1; shard = shard }) ≡ true)
later_number None base shard = tt
later_number (Some old) base shard = grind (arith, nat_tests)

news_from : (found : Option EdgeState) (log : List Entry) (id1 : Id) (atype : AType) (id2 : Id) (state : EdgeState) → edge_record log id1 atype id2 ≡ found
    → IfSome found (λ old. is_earlier (stamp_of old) (stamp_of state) ≡ true) → is_news log (id1, atype, id2, state) ≡ true
news_from None log id1 atype id2 state e h = rw e refl
news_from (Some old) log id1 atype id2 state e h = rw e h

pub next_is_news : (epoch : ℕ) (log : List Entry) (id1 : Id) (atype : AType) (id2 : Id) (state : EdgeState)
    → stamp_of state ≡ next_stamp epoch log id1 atype id2 → is_news log (id1, atype, id2, state) ≡ true
next_is_news epoch log id1 atype id2 state h =
    news_from (edge_record log id1 atype id2) log id1 atype id2 state refl
    (rw h (later_number (edge_record log id1 atype id2) (epoch_base epoch) (shard_of id1)))

pub later_touches : (log : List Entry) (origin : Origin) (id1 : Id) (atype : AType) (id2 : Id) (state : EdgeState) → LaterTouches log origin id1 atype id2 state
later_touches log origin id1 atype id2 state = record {
  follows = touch_follows log origin id1 atype id2 state;
  next = λ epoch. next_is_news epoch log id1 atype id2 state;
}
