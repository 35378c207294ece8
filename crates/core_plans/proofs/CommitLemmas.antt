-- What a commit of a held write comes to, by the way to the leader that it passes, where it passes one.
use Rattle.std.proofs.Common.{◌≡◌, ◌∙◌, Bool, Option, Some, None, ap, refl, subst, sym}
use Rattle.std.specs.Option.{option_map}
use Rattle.std.specs.Prelude.{Contains, IfSome, unwrap_or}
use Rattle.core_model.specs.Fleet.{leader_names}
use Rattle.core_model.specs.Jobs.{CanBeMerged}
use Rattle.core_steps.proofs.PostsLemmas.{posts_carried, posts_trans}
use Rattle.core_steps.specs.Posting.{CanPost, PostsOn}
use Rattle.core_steps.specs.Relays.{link_past}
use Rattle.core_steps.specs.World.{World, world}
use Rattle.core_model.specs.Asked.{client_call}
use Rattle.core_steps.specs.Writes.{CanBeApplied, IsCommitted, SentWrite, sent_write}
use Rattle.core_steps.specs.declared.nodes.Nodes.{Nodes}
use Rattle.core_steps.specs.core_nodes.Settling.{IsLaterLink}
use Rattle.node_name.specs.declared.NodeName.{NodeName}
use Rattle.shard_log.specs.View.{View, as_note}
use Rattle.shard_tables.specs.declared.writes.Wrote.{Wrote}
use Rattle.tao_base.specs.declared.entry.Origin.{Origin}
use Rattle.tao_base.specs.declared.write.Write.{Write}
use Rattle.tao_keeper.specs.KeeperState.{KeeperState}
use Rattle.tao_link.specs.Shown.{LinkShown}
use Rattle.tao_schema.specs.Schema.{types_of}
use Rattle.topology.specs.Config.{Settings}
use Rattle.write_plan.specs.Committing.{has_inverse, kind_said}
use Rattle.write_plan.specs.Plans.{Writing}
use Rattle.write_plan.specs.declared.committed.Committed.{Committed}
use Rattle.write_plan.specs.declared.results.CommitAnswer.{CommitAnswer}
use Rattle.core_plans.specs.HeldWrites.{AnswersCommit, LeadWrite, call_of_plan, come_past, job_by, sent_by, with_notes}
use Rattle.core_plans.specs.LedBy.{LedBy, led_by, rules_of}
use Rattle.core_plans.specs.declared.leaders.Leaders.{Leaders}

-- ---- the way there

-- what a plan says of itself
pub record IsOfWriting (p : Writing) (follower : NodeName) (origin : Origin) (write : Write) : Type 0 where
  pub follower_is : follower ≡ p.follower
  pub origin_is : origin ≡ p.origin
  pub write_is : write ≡ p.write

-- the write as the plan's functions give it, at the leader that it passes, where it passes one
abbrev pub sent_so : LedBy → NodeName → Origin → Write → SentWrite
sent_so led follower origin write = sent_write (record { follower = unwrap_or led.passed follower; leader = led.leader }) (client_call origin write)

module _ (led : LedBy) (p : Writing) (follower : NodeName) (origin : Origin) (write : Write) (of : IsOfWriting p follower origin write)
    (nodes mid : Nodes) (keepers : KeeperState) (from past : LinkShown) (same : mid ≡ nodes) (past_is : past ≡ link_past led.passed from) where
  -- is what is sent of the plan, from where the world is then
  pub sent_there : (P : SentWrite → World → Type 0) → P (sent_so led follower origin write) (world mid keepers past)
      → P (sent_by led p) (come_past led (world nodes keepers from))
  sent_there P is =
      subst (λ f. P (sent_write (record { follower = unwrap_or led.passed f; leader = led.leader }) (call_of_plan p))
      (come_past led (world nodes keepers from))) of.follower_is
      (subst (λ o. P (sent_so led follower o p.write) (come_past led (world nodes keepers from))) of.origin_is
      (subst (λ w. P (sent_so led follower origin w) (come_past led (world nodes keepers from))) of.write_is
      (subst (λ link. P (sent_so led follower origin write) (world nodes keepers link)) past_is
      (subst (λ (n : Nodes). P (sent_so led follower origin write) (world n keepers past)) same is))))

-- the way there carries no more than the link shows, and then a commit goes on from there
pub posts_there : (tells : Bool) (s : Settings) (nodes mid : Nodes) (keepers : KeeperState) (from past : LinkShown) (new : World) → mid ≡ nodes
    → CanPost tells s (world nodes keepers from) → IsLaterLink from past → PostsOn tells s (world mid keepers past) new
    → PostsOn tells s (world nodes keepers from) new
posts_there tells s nodes mid keepers from past new same ready later on =
    posts_trans tells s (world nodes keepers from) (world nodes keepers past) new (posts_carried tells s nodes keepers from past ready later)
    (subst (λ (n : Nodes). PostsOn tells s (world n keepers past) new) same on)

-- from there a commit can be made
pub ready_there : (tells : Bool) (s : Settings) (nodes mid : Nodes) (keepers : KeeperState) (from past : LinkShown) → mid ≡ nodes
    → CanPost tells s (world nodes keepers from) → CanPost tells s (world mid keepers past)
ready_there tells s nodes mid keepers from past same ready = subst (λ (n : Nodes). CanPost tells s (world n keepers past)) (sym same) (record {
  consistent = ready.consistent;
  inboxes = ready.inboxes;
  arrived = ready.arrived;
  states = ready.states;
})

-- ---- the notes

-- a note that was taken for the way back is of the log that is there later
pub one_log : (passed : Option NodeName) (taken : Option View) (was now : View) → taken ≡ option_map (λ _. as_note was) passed → now.log ≡ was.log
    → IfSome taken (λ (n : View). now.log ≡ n.log)
one_log passed taken was now is log = subst (λ o. IfSome o (λ (n : View). now.log ≡ n.log)) (sym is) (by passed)
  where
    by : (at : Option NodeName) → IfSome (option_map (λ _. as_note was) at) (λ (n : View). now.log ≡ n.log)
    by None = tt
    by (Some leader) = log

-- renewed it has seen what the log is then
pub renewed_so : (passed : Option NodeName) (taken : Option View) (was now : View) → taken ≡ option_map (λ _. was) passed
    → option_map (λ _. now) taken ≡ option_map (λ _. now) passed
renewed_so passed taken was now is = ap (option_map (λ _. now)) is ∙ by passed
  where
    by : (at : Option NodeName) → option_map {T = View} (λ _. now) (option_map (λ _. was) at) ≡ option_map (λ _. now) at
    by None = refl
    by (Some leader) = refl

-- ---- the answer

-- what the leader wrote, as the plan takes it, and the notes for the way back
pub record IsMadeOf (s : Settings) (leaders : Leaders) (p : Writing) (wrote : Wrote) (answer : CommitAnswer) : Type 0 where
  pub wrote_is : answer.committed.wrote ≡ wrote
  pub leader_is : answer.committed.leader ≡ leaders.leader
  pub passed_is : answer.committed.passed ≡ leaders.passed
  pub kind_is : kind_said p.write wrote.entry ≡ Some answer.committed.kind
  pub paired_is : answer.committed.paired ≡ has_inverse (types_of s.schema) p.write
  pub relay_is : answer.relay ≡ option_map (λ _. wrote.note) leaders.passed
  pub spare_is : answer.spare ≡ wrote.note

-- an answer with its notes
abbrev pub made_of : Committed → Option View → View → CommitAnswer
made_of c relay spare = record { committed = c; relay = relay; spare = spare }

notes_made : (c : Committed) (relay : Option View) (spare note : View) (passed : Option NodeName) → c.wrote.note ≡ note → c.passed ≡ passed
    → relay ≡ option_map (λ _. note) passed → spare ≡ note
    → made_of c relay spare ≡ with_notes c
notes_made c relay spare note passed note_is passed_is relay_is spare_is =
    let third = relay_is ∙ ap (λ n. option_map (λ _. n) passed) (sym note_is) ∙ ap (option_map (λ _. c.wrote.note)) (sym passed_is) in
    ap (λ r. made_of c r spare) third ∙ ap (made_of c (option_map (λ _. c.wrote.note) c.passed)) (spare_is ∙ sym note_is)

module _ (tells : Bool) (s : Settings) (leaders : Leaders) (p : Writing) (old new : World) (lead : LeadWrite s leaders p) (wrote : Wrote) where
  -- the answer to a commit is right
  pub answers : (c : Committed) (relay : Option View) (spare : View)
      → IsMadeOf s leaders p wrote (made_of c relay spare)
      → IsCommitted tells s (sent_by (led_by (rules_of tells s) leaders) p) wrote (come_past (led_by (rules_of tells s) leaders) old) new
      → CanBeApplied (call_of_plan p) wrote new.fleet.stores
      → IfSome wrote.job (λ j. CanBeMerged tells s new.keepers.told (job_by p j))
      → AnswersCommit (led_by (rules_of tells s) leaders) p (made_of c relay spare) old new
  answers c relay spare made commits apply job = record {
    leader = made.leader_is;
    passed = made.passed_is;
    commits = (let led = led_by (rules_of tells s) leaders in
        subst (λ w. IsCommitted tells s (sent_by led p) w (come_past led old) new) (sym made.wrote_is) commits);
    is = record {
      apply = subst (λ w. CanBeApplied (call_of_plan p) w new.fleet.stores) (sym made.wrote_is) apply;
      kind = subst (λ (w : Wrote). kind_said p.write w.entry ≡ Some c.kind) (sym made.wrote_is) made.kind_is;
      passed = subst (λ o. IfSome o (Contains (leader_names s))) (sym made.passed_is) lead.passed;
      paired = made.paired_is;
    };
    notes = notes_made c relay spare wrote.note leaders.passed (ap (λ (w : Wrote). w.note) made.wrote_is) made.passed_is made.relay_is made.spare_is;
    job = subst (λ (w : Wrote). IfSome w.job (λ j. CanBeMerged tells s new.keepers.told (job_by p j))) (sym made.wrote_is) job;
  }
