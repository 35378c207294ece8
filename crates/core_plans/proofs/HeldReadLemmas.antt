-- A held read goes on, and ends legally.
use Rattle.std.proofs.Common.{◌≡◌, ℕ, zero, suc, [], ◌∷◌, ◌≤◌, false, true, Bool, List, Option, Some, None, refl, ap, sym, subst}
use Rattle.std.specs.Prelude.{⊤, Err, IfSome, Ok, slice_get}
use Rattle.cache_items.specs.declared.look.Look.{Look}
use Rattle.cache_items.specs.declared.look.Look.TheVariants.{Hit, Miss}
use Rattle.core_model.specs.Consistent.{GoesOn}
use Rattle.core_model.specs.Fleet.{Fleet, HasAsk, IsFirstAt, IsNodeAt, node_names}
use Rattle.core_model.specs.Pens.{Pens, pens_of}
use Rattle.core_model.specs.Reads.{IsGivenAnswer, Wanted, given_of}
use Rattle.core_model.specs.Stores.{master_store}
use Rattle.core_model.specs.declared.named.Named.{Named}
use Rattle.core_steps.specs.Reads.{AnswersAgain, IsLegalNow}
use Rattle.core_steps.specs.World.{World}
use Rattle.graph_model.specs.Log.{version}
use Rattle.graph_model.specs.Told.{WhereTold}
use Rattle.node_name.specs.declared.NodeName.{NodeName}
use Rattle.read_plan.specs.Ends.{EndsAt}
use Rattle.read_plan.specs.Readings.{NeverAsks, Reading, taken}
use Rattle.read_plan.specs.Standings.{after_ask, after_look, after_master, fill_of, stage_of, standing_after}
use Rattle.read_plan.specs.declared.end.ReadEnd.TheVariants as ended
use Rattle.read_plan.specs.declared.stages.ReadResult.{ReadResult}
use Rattle.read_plan.specs.declared.stages.ReadResult.TheVariants as came
use Rattle.read_plan.specs.declared.stages.ReadStage.TheVariants as stage
use Rattle.read_plan.specs.declared.standing.Given.TheVariants.{Fill, HandedOut, Past}
use Rattle.read_plan.specs.declared.standing.Standing.{Standing}
use Rattle.read_plan.specs.declared.standing.Standing.TheVariants.{Looking, Asking, Mastering, Keeping, Ended}
use Rattle.replies.specs.Kinds.{query_word}
use Rattle.replies.specs.declared.calls.CallReply.TheVariants as called
use Rattle.replies.specs.declared.calls.ReadReply.{ReadReply}
use Rattle.replies.specs.declared.nodes.KeptOrNot.{KeptOrNot}
use Rattle.replies.specs.declared.nodes.KeptOrNot.TheVariants.{Kept}
use Rattle.replies.specs.declared.reply.Reply.TheVariants.{Called}
use Rattle.sealed_item.specs.Fills.{SealedItem}
use Rattle.shard_log.specs.View.{View}
use Rattle.shard_tables.specs.declared.leader_answer.LeaderAnswer.{LeaderAnswer}
use Rattle.shard_tables.specs.declared.leader_answer.LeaderAnswer.TheVariants as leader
use Rattle.shard_tables.specs.declared.read_out.ReadOut.{ReadOut}
use Rattle.shard_tables.specs.declared.read_out.ReadOut.TheVariants as store
use Rattle.tao_base.specs.EdgeTypes.{EdgeTypes}
use Rattle.tao_base.specs.Queries.{query_key, query_shard}
use Rattle.tao_base.specs.declared.id.Key.{Key}
use Rattle.tao_base.specs.declared.query.Answer.{Answer}
use Rattle.tao_keeper.specs.Table.{Stays, Table, Tables}
use Rattle.tao_schema.specs.Schema.{types_of}
use Rattle.topology.specs.Config.{Settings}
use Rattle.core_plans.specs.HeldReads.{EndsLegally, IsReadUnderWay, StandsSo, wanted_by}

-- ---- where a read stands

pub looking : (at : Standing) → stage_of at ≡ stage.Look → at ≡ Looking
looking Looking is = refl
looking Asking is = absurd (cc)
looking Mastering is = absurd (cc)
looking (Keeping given) is = absurd (cc)
looking (Ended end) is = absurd (cc)

pub asking : (at : Standing) → stage_of at ≡ stage.Ask → at ≡ Asking
asking Looking is = absurd (cc)
asking Asking is = refl
asking Mastering is = absurd (cc)
asking (Keeping given) is = absurd (cc)
asking (Ended end) is = absurd (cc)

pub mastering : (at : Standing) → stage_of at ≡ stage.Master → at ≡ Mastering
mastering Looking is = absurd (cc)
mastering Asking is = absurd (cc)
mastering Mastering is = refl
mastering (Keeping given) is = absurd (cc)
mastering (Ended end) is = absurd (cc)

-- the fill that is there was given
pub filled : (at : Standing) (fill : SealedItem) → fill_of at ≡ Some fill → at ≡ Keeping (Fill fill)
filled (Keeping (Fill f)) fill is = (let same : f ≡ fill = cc in ap (λ x. Keeping (Fill x)) same)
filled (Keeping (HandedOut v)) fill is = absurd (cc)
filled (Keeping (Past answer v total seen)) fill is = absurd (cc)
filled Looking fill is = absurd (cc)
filled Asking fill is = absurd (cc)
filled Mastering fill is = absurd (cc)
filled (Ended end) fill is = absurd (cc)

-- an answer past the bound, with its note
pub record IsPast (at : Standing) : Type 0 where
  pub answer : Answer
  pub version : ℕ
  pub total : ℕ
  pub note : View
  pub is : at ≡ Keeping (Past answer version total (Some note))

-- where there is none, an answer past the bound was
pub past : (types : EdgeTypes) (pens : Pens) (read : Wanted) (at : Standing) → fill_of at ≡ None → stage_of at ≡ stage.Keep → StandsSo types pens read at
    → IsPast at
past types pens read (Keeping (Fill f)) none is stands = absurd (cc)
past types pens read (Keeping (HandedOut v)) none is stands = absurd stands
past types pens read (Keeping (Past answer v total None)) none is stands = absurd stands
past types pens read (Keeping (Past answer v total (Some note))) none is stands =
    record { answer = answer; version = v; total = total; note = note; is = refl }
past types pens read Looking none is stands = absurd (cc)
past types pens read Asking none is stands = absurd (cc)
past types pens read Mastering none is stands = absurd (cc)
past types pens read (Ended end) none is stands = absurd (cc)

-- ---- what was given is there

pub looked_stands : (types : EdgeTypes) (pens : Pens) (read : Wanted) (critical : Bool) (look : Look) → StandsSo types pens read (after_look critical look)
looked_stands types pens read true look = tt
looked_stands types pens read false (Hit answer version) = tt
looked_stands types pens read false Miss = tt

pub asked_stands : (types : EdgeTypes) (pens : Pens) (read : Wanted) (given : LeaderAnswer) → IsGivenAnswer types pens read given
    → StandsSo types pens read (after_ask given)
asked_stands types pens read (leader.Filled fill) is = is
asked_stands types pens read (leader.Past answer version total note) is = is
asked_stands types pens read (leader.Behind version) is = tt

pub mastered_stands : (types : EdgeTypes) (pens : Pens) (read : Wanted) (out : ReadOut) → IsGivenAnswer types pens read (given_of out)
    → StandsSo types pens read (after_master out)
mastered_stands types pens read (store.Filled fill) is = is
mastered_stands types pens read (store.Past answer version total note) is = is

-- ---- a critical read asks no leader

pub never_so : (critical : Bool) (bound : ℕ) (at : Standing) (outcome : ReadResult) → NeverAsks critical at
    → NeverAsks critical (standing_after critical bound at outcome)
never_so false bound at outcome never = tt
never_so true bound at (came.Look (Ok look)) never = tt
never_so true bound at (came.Look (Err reply)) never = tt
never_so true bound at (came.Ask (Ok (leader.Filled fill))) never = tt
never_so true bound at (came.Ask (Ok (leader.Past answer version total note))) never = tt
never_so true bound at (came.Ask (Ok (leader.Behind version))) never = tt
never_so true bound at (came.Ask (Err reply)) never = tt
never_so true bound at (came.Master (Ok (store.Filled fill))) never = tt
never_so true bound at (came.Master (Ok (store.Past answer version total note))) never = tt
never_so true bound at (came.Master (Err reply)) never = tt
never_so true bound (Keeping (Fill fill)) (came.Keep (Ok (Some found))) never = tt
never_so true bound (Keeping (Fill fill)) (came.Keep (Ok None)) never = tt
never_so true bound (Keeping (HandedOut version)) (came.Keep (Ok (Some found))) never = tt
never_so true bound (Keeping (HandedOut version)) (came.Keep (Ok None)) never = tt
never_so true bound (Keeping (Past answer version total seen)) (came.Keep (Ok (Some found))) never = tt
never_so true bound (Keeping (Past answer version total seen)) (came.Keep (Ok None)) never = tt
never_so true bound Looking (came.Keep (Ok found)) never = tt
never_so true bound Asking (came.Keep (Ok found)) never = absurd never
never_so true bound Mastering (came.Keep (Ok found)) never = tt
never_so true bound (Ended end) (came.Keep (Ok found)) never = tt
never_so true bound at (came.Keep (Err reply)) never = tt

pub not_both : (critical : Bool) → critical ≡ false → critical ≡ true → ⊥
not_both true plain is = absurd (cc)
not_both false plain is = absurd (cc)

-- so one that asks isn't critical
pub asks_plain : (critical : Bool) (at : Standing) → at ≡ Asking → NeverAsks critical at → critical ≡ true → ⊥
asks_plain true at asks never is = subst (NeverAsks true) asks never
asks_plain false at asks never is = absurd (cc)

-- ---- its ask goes on

name_at : {N : Type 0} (nodes : List (Named N)) (name : NodeName) (place : ℕ) → IsNodeAt name nodes place → slice_get (node_names nodes) place ≡ Some name
name_at [] name place is = absurd is
name_at (n ∷ ns) name zero is = ap (λ x. Some x) is
name_at (n ∷ ns) name (suc place) is = name_at ns name place is

node_at : {N : Type 0} (nodes : List (Named N)) (name : NodeName) (place : ℕ) → slice_get (node_names nodes) place ≡ Some name → IsNodeAt name nodes place
node_at [] name place is = absurd (cc)
node_at (n ∷ ns) name zero is = (let same : n.name ≡ name = cc in same)
node_at (n ∷ ns) name (suc place) is = node_at ns name place is

-- the nodes of the same names
named_there : {N : Type 0} (old new : List (Named N)) (name : NodeName) (place : ℕ) → node_names new ≡ node_names old → IsNodeAt name new place
    → IsNodeAt name old place
named_there old new name place same is = node_at old name place (subst (λ ns. slice_get ns place ≡ Some name) same (name_at new name place is))

first_there : {N : Type 0} (old new : List (Named N)) (name : NodeName) (place : ℕ) → node_names new ≡ node_names old → IsFirstAt name new place
    → IsFirstAt name old place
first_there old new name place same first = record {
  here = named_there old new name place same first.here;
  before = λ other lt is. first.before other lt (named_there new old name other (sym same) is);
}

pub has_ask_on : (name : NodeName) (number : ℕ) (key : Key) (f g : Fleet) → GoesOn f g → HasAsk name number key f.followers → HasAsk name number key g.followers
has_ask_on name number key f g goes has place to first at =
    let on = goes.asks place name to at in
    on.2 number key (has place on.0 (first_there f.followers g.followers name place goes.followers first) on.1)

pub asks_on : (name : NodeName) (ask : Option ℕ) (key : Key) (f g : Fleet) → GoesOn f g → IfSome ask (λ number. HasAsk name number key f.followers)
    → IfSome ask (λ number. HasAsk name number key g.followers)
asks_on name None key f g goes has = tt
asks_on name (Some number) key f g goes has = has_ask_on name number key f g goes has

-- ---- a read goes on

pub goes_so : (tells : Bool) (s : Settings) (tables later : Tables) (f g : Fleet) (p : Reading) (outcome : ReadResult) (hops : ℕ) (store : Bool)
    → IsReadUnderWay tells s tables f p → WhereTold tells (Stays tables later) → GoesOn f g
    → StandsSo (types_of s.schema) (pens_of g.stores) (wanted_by p) (standing_after p.critical p.bound p.at outcome)
    → IsReadUnderWay tells s later g (taken outcome hops store p)
goes_so tells s tables later f g p outcome hops store is stays goes stands = record {
  follower = is.follower;
  region = is.region;
  never_asks = never_so p.critical p.bound p.at outcome is.never_asks;
  bound = is.bound;
  reached = λ told.
      subst (λ (t : Table). p.floor ≤ version t.log (query_key p.query)) (sym (stays told (master_store s (query_shard p.query)))) (is.reached told);
  ask = asks_on p.follower p.ask (query_key p.query) f g goes is.ask;
  stands = stands;
}

-- ---- how it ends

abbrev pub answered : Reading → Answer → ℕ → KeptOrNot → ReadReply
answered q answer version kept =
    record { word = query_word q.query; answer = answer; version = version; hops = q.hops; store = q.store; kept = kept }

-- the reply is legal, and what is kept answers again
abbrev pub AnswersLegally : Bool → Settings → Reading → World → ReadReply → Type 0
AnswersLegally tells s q new reply = IsLegalNow tells s (wanted_by q) reply new.keepers
    × WhereTold tells (reply.kept ≡ Kept → AnswersAgain (types_of s.schema) q.follower q.query reply new.fleet.followers)

abbrev pub MayEnd : Bool → Settings → Reading → World → Standing → Type 0
MayEnd tells s q new (Ended (ended.Answered answer version kept)) = AnswersLegally tells s q new (answered q answer version kept)
MayEnd tells s q new (Ended (ended.Refused refused)) = (reply : ReadReply) → refused ≡ Called (called.Read reply) → ⊥
MayEnd tells s q new Looking = ⊤
MayEnd tells s q new Asking = ⊤
MayEnd tells s q new Mastering = ⊤
MayEnd tells s q new (Keeping given) = ⊤

legal_at : (tells : Bool) (s : Settings) (q : Reading) (new : World) (at : Standing) → MayEnd tells s q new at → (reply : ReadReply)
    → EndsAt at q (Called (called.Read reply)) → AnswersLegally tells s q new reply
legal_at tells s q new (Ended (ended.Answered answer version kept)) may reply is =
    (let same : reply ≡ answered q answer version kept = cc in subst (AnswersLegally tells s q new) (sym same) may)
legal_at tells s q new (Ended (ended.Refused refused)) may reply is = absurd (may reply (sym is))
legal_at tells s q new Looking may reply is = absurd is
legal_at tells s q new Asking may reply is = absurd is
legal_at tells s q new Mastering may reply is = absurd is
legal_at tells s q new (Keeping given) may reply is = absurd is

pub legally : (tells : Bool) (s : Settings) (q : Reading) (new : World) (at : Standing) → q.at ≡ at → MayEnd tells s q new at → EndsLegally tells s q new
legally tells s q new at is may reply ends = legal_at tells s q new at may reply (subst (λ a. EndsAt a q (Called (called.Read reply))) is ends)
