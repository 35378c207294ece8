-- What a session learns of its read: that it may learn which version that answers, and that it is one of the core then.
use Rattle.std.proofs.Common.{◌≡◌, ◌≤◌, ◌<◌, ◌∙◌, ℕ, Bool, true, List, Option, Some, None, ap, refl, subst, sym}
use Rattle.std.proofs.lemmas.Option.{IfSome_then}
use Rattle.std.specs.Option.{option_map}
use Rattle.std.specs.Prelude.{⊤, IfSome}
use Rattle.core_model.proofs.Places.{one_some}
use Rattle.core_model.specs.Pens.{Pens, Rise, pens_of}
use Rattle.core_model.specs.Stores.{AreStoresOf, HaveMasterRegions, master_log}
use Rattle.core_nodes.proofs.CommitLemmas.{note_seen}
use Rattle.core_plans.specs.Held.{StepsHeld}
use Rattle.core_plans.specs.HeldReads.{EndsLegally}
use Rattle.core_plans.specs.LedBy.{Rules}
use Rattle.core_plans.specs.declared.held.HeldPlan.{HeldPlan}
use Rattle.core_plans.specs.declared.held.HeldPlan.TheVariants.{Read, Write}
use Rattle.core_sessions.specs.Sessions.{Session, is_open, session_at, sessions_of}
use Rattle.core_steps.proofs.ReadLemmas.{log_is}
use Rattle.core_steps.specs.World.{World}
use Rattle.graph_model.proofs.Exact.{version_take}
use Rattle.graph_model.proofs.Members.{if_some, if_some_at}
use Rattle.graph_model.specs.Log.{version}
use Rattle.graph_model.specs.Told.{WhereTold}
use Rattle.read_plan.specs.Ends.{EndsWith}
use Rattle.read_plan.specs.Readings.{Reading}
use Rattle.replies.specs.declared.calls.CallReply.TheVariants as called
use Rattle.replies.specs.declared.calls.ReadReply.{ReadReply}
use Rattle.replies.specs.declared.reply.Reply.{Reply}
use Rattle.replies.specs.declared.reply.Reply.TheVariants.{Called}
use Rattle.session_pass.specs.Passes.{IsNoteOf, ReachesIn, SeenPass}
use Rattle.shard_log.specs.View.{as_note}
use Rattle.shard_tables.specs.StoreView.{Store}
use Rattle.tao_base.specs.Keys.{key_shard}
use Rattle.tao_base.specs.Queries.{query_key, query_shard}
use Rattle.tao_base.specs.declared.id.Key.{Key}
use Rattle.tao_keeper.specs.Table.{Tables}
use Rattle.topology.specs.Config.{Settings}
use Rattle.tao_core.specs.Calls.{LearnsAnswer, LearnsVersion, answered_version}
use Rattle.tao_core.specs.Core.{IsOfSession, IsSessionOf}
use Rattle.tao_core.specs.HeldCalls.{HasRoomFor, IsReaderOf, IsReaderOn, MayHear, MayHearOf, MayLearn}
use Rattle.tao_core.specs.declared.teaching.Reader.{Reader}
use Rattle.tao_core.proofs.Found.{session_is}
use Rattle.tao_core.proofs.Learning.{set_open, version_sessions}
use Rattle.tao_core.proofs.LearningBoth.{AreOurs, own_note}

-- ---- the version of an answer has come to the log

-- where a read ends with an answer, its key has come to the version
abbrev pub ReachesEnd : Bool → Settings → Tables → HeldPlan → Type 0
ReachesEnd tells s tables (Read p) = (reply : ReadReply) → EndsWith p (Called (called.Read reply))
    → WhereTold tells (reply.version ≤ version (master_log s tables (query_shard p.query)) (query_key p.query))
ReachesEnd tells s tables (Write p) = ⊤

-- since the answer is legal
pub legal_reaches : (tells : Bool) (s : Settings) (q : Reading) (new : World) → EndsLegally tells s q new → ReachesEnd tells s new.keepers.told (Read q)
legal_reaches tells s q new legal reply ends told =
    let is = (legal reply ends).0 told in
    let log = master_log s new.keepers.told (query_shard q.query) in
    subst (λ v. v ≤ version log (query_key q.query)) (sym is.version_is) (version_take is.n log (query_key q.query))

pub step_reaches : (rules : Rules) (before after : HeldPlan) (old new : World) → StepsHeld rules before old after new
    → ReachesEnd rules.tells rules.settings new.keepers.told after
step_reaches rules (Read p) (Read q) old new steps = legal_reaches rules.tells rules.settings q new steps.steps.legal
step_reaches rules (Read p) (Write q) old new steps = tt
step_reaches rules (Write p) (Read q) old new steps = absurd steps
step_reaches rules (Write p) (Write q) old new steps = tt

-- ---- each session that is open stays so

version_open : (pens : Pens) (reader : Option ℕ) (key : Key) (at : ℕ) (old new : List Session) → LearnsVersion pens reader key at old new → (n : ℕ)
    → is_open new n ≡ is_open old n
version_open pens None key at old new learns n = ap (λ xs. is_open xs n) learns
version_open pens (Some number) key at old new learns n = set_open learns.to old new learns.is n

pub answer_open : (pens : Pens) (p : Reading) (reply : Reply) (old new : List Session) → LearnsAnswer pens p reply old new → (n : ℕ)
    → is_open new n ≡ is_open old n
answer_open pens p (Called (called.Read reply)) old new learns n = version_open pens p.reader (query_key p.query) reply.version old new learns n
answer_open pens p reply old new learns n = ap (λ xs. is_open xs n) learns

-- a read of no session teaches nothing
pub nobody_learns : (pens : Pens) (p : Reading) (reply : Reply) (sessions : List Session) → p.reader ≡ None → LearnsAnswer pens p reply sessions sessions
nobody_learns pens p (Called (called.Read reply)) sessions none =
    subst (λ n. LearnsVersion pens n (query_key p.query) reply.version sessions sessions) (sym none) refl
nobody_learns pens p reply sessions none = refl

-- ---- who is ready

-- who is ready stays so while logs grow
pub reader_later : (pens later : Pens) (shard : ℕ) (number : Option ℕ) (reader : Option Reader) (passes : List SeenPass) → Rise pens later
    → IsReaderOf pens shard number reader passes → IsReaderOf later shard number reader passes
reader_later pens later shard number reader passes rise is = record {
  reader_is = is.reader_is;
  on = IfSome_then reader is.on (λ r on. record { room = on.room; one_log = (rise shard).log_is ∙ on.one_log });
}

-- who is ready may learn it, and is one of the core then

module _ (tells : Bool) (s : Settings) (tables : Tables) (stores : List Store) (masters : HaveMasterRegions s)
    (are : AreStoresOf tells s tables stores) where
  version_ours : (reader : Option ℕ) (key : Key) (at : ℕ) (old new : List Session) → key_shard key < s.shards
      → (tells ≡ true → at ≤ version (master_log s tables (key_shard key)) key) → LearnsVersion (pens_of stores) reader key at old new
      → AreOurs tells s tables stores old → AreOurs tells s tables stores new
  version_ours None key at old new here come learns all = subst (AreOurs tells s tables stores) (sym learns) all
  version_ours (Some number) key at old new here come learns all =
      version_sessions tells s tables stores masters are number key at (as_note (pens_of stores (key_shard key))) here
      (note_seen (pens_of stores (key_shard key))) come old new learns all

  pub answer_ours : (p : Reading) (reply : Reply) (old new : List Session) → query_shard p.query < s.shards → ReachesEnd tells s tables (Read p)
      → EndsWith p reply → LearnsAnswer (pens_of stores) p reply old new → AreOurs tells s tables stores old → AreOurs tells s tables stores new
  answer_ours p (Called (called.Read reply)) old new here reaches ends learns all =
      version_ours p.reader (query_key p.query) reply.version old new here (reaches reply ends) learns all
  answer_ours p reply old new here reaches ends learns all = subst (AreOurs tells s tables stores) (sym learns) all

  -- what has come to the log has come to what its pen has seen
  reached_in : (key : Key) (at : ℕ) → key_shard key < s.shards → WhereTold tells (at ≤ version (master_log s tables (key_shard key)) key)
      → ReachesIn (as_note (pens_of stores (key_shard key))) key at
  reached_in key at here come own =
      let log = log_is tells s tables stores (key_shard key) masters are here in
      let told : tells ≡ true = sym log.told_is ∙ own in
      subst (λ es. at ≤ version es key) (sym (log.entries_is told)) (come told)

  may_hear : (shard : ℕ) (reader : Reader) (passes : List SeenPass) → shard < s.shards → is_open (sessions_of passes) reader.session ≡ true
      → IsReaderOn (pens_of stores) shard reader passes → AreOurs tells s tables stores (sessions_of passes) → MayHear (pens_of stores) shard reader passes
  may_hear shard reader passes here found on all = record {
    reader_is = found;
    on = on;
    may = if_some (λ (o : Session). IsNoteOf shard (as_note (pens_of stores shard)) o.notes) (session_at (sessions_of passes) reader.session)
        (λ session at. own_note (pens_of stores) s.shards shard (as_note (pens_of stores shard)) session.notes here
        (session_is (IsSessionOf tells s tables (pens_of stores)) (sessions_of passes) reader.session session all at).notes
        (note_seen (pens_of stores shard)));
  }

  -- who is ready is open, as the read's session is
  reader_open : (sessions : List Session) (p : Reading) (reader : Reader) → IsOfSession sessions (Read p) → p.reader ≡ Some reader.session
      → is_open sessions reader.session ≡ true
  reader_open sessions p reader found is = if_some_at (λ n. is_open sessions n ≡ true) p.reader reader.session found is

  may_hear_if : (p : Reading) (reader : Option Reader) (passes : List SeenPass) → query_shard p.query < s.shards
      → IsOfSession (sessions_of passes) (Read p) → IsReaderOf (pens_of stores) (query_shard p.query) p.reader reader passes → AreOurs tells s tables stores (sessions_of passes)
      → IfSome reader (λ r. MayHear (pens_of stores) (query_shard p.query) r passes)
  may_hear_if p None passes here found is all = tt
  may_hear_if p (Some reader) passes here found is all =
      may_hear (query_shard p.query) reader passes here (reader_open (sessions_of passes) p reader found is.reader_is) is.on all

  pub may_hear_of : (p : Reading) (reader : Option Reader) (passes : List SeenPass) → query_shard p.query < s.shards
      → IsOfSession (sessions_of passes) (Read p) → HasRoomFor (pens_of stores) (Read p) reader passes → ReachesEnd tells s tables (Read p)
      → AreOurs tells s tables stores (sessions_of passes) → MayLearn (pens_of stores) (Read p) reader passes
  may_hear_of p reader passes here found room reaches all = λ reply ends. record {
    reader_is = (room reply ends).reader_is;
    may = may_hear_if p reader passes here found (room reply ends) all;
    reached = reached_in (query_key p.query) reply.version here (reaches reply ends);
  }

-- ---- what a reply says

-- a reply that answers with a version is that of a read
answered_is : (reply : Reply) (at : ℕ) → answered_version reply ≡ Some at → (answer : ReadReply) × (reply ≡ Called (called.Read answer)) × (answer.version ≡ at)
answered_is (Called (called.Read answer)) at is = (answer, refl, one_some answer.version at is)
answered_is reply at is = absurd (cc)

module _ (pens : Pens) (p : Reading) (reader : Option Reader) (passes : List SeenPass) (reply : Reply) (may : MayLearn pens (Read p) reader passes)
    (ends : EndsWith p reply) (at : ℕ) (is : answered_version reply ≡ Some at) where
  pub hears_of : MayHearOf pens p reader passes at
  hears_of =
      let one = answered_is reply at is in
      subst (MayHearOf pens p reader passes) one.2 (may one.0 (subst (EndsWith p) one.1 ends))

  pub learns_answer : (new : List Session) → LearnsVersion pens (option_map (λ (r : Reader). r.session) reader) (query_key p.query) at (sessions_of passes) new
      → LearnsAnswer pens p reply (sessions_of passes) new
  learns_answer new learns =
      let one = answered_is reply at is in
      let own : p.reader ≡ option_map (λ (r : Reader). r.session) reader = hears_of.reader_is in
      subst (λ r. LearnsAnswer pens p r (sessions_of passes) new) (sym one.1)
      (subst (λ n. LearnsVersion pens n (query_key p.query) one.0.version (sessions_of passes) new) (sym own)
      (subst (λ v. LearnsVersion pens (option_map (λ (r : Reader). r.session) reader) (query_key p.query) v (sessions_of passes) new) (sym one.2) learns))

-- a reply with no version teaches nothing
pub learns_nothing : (pens : Pens) (p : Reading) (reply : Reply) (sessions : List Session) → answered_version reply ≡ None
    → LearnsAnswer pens p reply sessions sessions
learns_nothing pens p (Called (called.Read answer)) sessions none = absurd (cc)
learns_nothing pens p reply sessions none = refl
