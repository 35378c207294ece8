-- A connection is talked over, from line to line and from part to part.
use Rattle.std.proofs.Common.{◌≡◌, ℕ, ◌+◌, Bool, false, List, [], ◌∷◌, ◌++◌, Option, Some, None, Result, Ok, Err, OnErr, OnOk, inl, inr, refl, sym, ap, ◌∙◌, subst, take, length, length-append, arith}
use Rattle.std.proofs.lemmas.List.{append-nil, nil_from_length}
use Rattle.std.proofs.lemmas.Grind.{flat_map-append}
use Rattle.std.proofs.Math.Seq.{take-append-add}
use Rattle.std.proofs.KnownBytes.{Appends-kept, Appends-nil, Appends-trans}
use Rattle.std.specs.Io.KnownBytes.{Appends, IsAtEnd, Keeps, prepend_known}
use Rattle.cluster_talks.proofs.StepLemmas.{goes_self}
use Rattle.cluster_talks.specs.TalkStates.{TalkState, talk_state}
use Rattle.cluster_talks.specs.TalkSteps.{RepliesToTalk, TalkStep}
use Rattle.cluster_talks.specs.TalkTexts.{talk_line, talk_lines_of, too_long_line, too_long_reply}
use Rattle.cluster_talks.specs.Talked.{IsTalkStatus, SaysReply, SaysReplyInPart, TalkRuns, Talked, TalkedAll, TalkedInPart, TalksInPart, TalksWhole, wire}
use Rattle.cluster_talks.specs.declared.reply.TalkReply.{TalkReply}
use Rattle.counts.specs.Count.{Rose}
use Rattle.first_line.proofs.FirstLemmas.{no_json, whole_part}
use Rattle.first_line.specs.Interrupts.{AppendsPart, Faults, InterruptHasCause, interrupt_code}
use Rattle.first_line.specs.declared.Interrupt.{Interrupt}
use Rattle.first_line.specs.declared.Interrupt.TheVariants.{InputTooLong, Memory, Sink, Source}
use Rattle.replies.specs.declared.reply.Reply.{Reply}
use Rattle.cluster_talks.specs.declared.reply.TalkReply.TheVariants.{One}
use Rattle.session_pass.specs.Passes.{SeenPass}
use Rattle.tao_link.specs.Shown.{LinkShown}
use Rattle.shared_tiers.specs.Calls.{Calling, calling}
use Rattle.shared_tiers.specs.locked_nodes.Cluster.{OnCluster}
use Rattle.talk_lines.specs.Talk.{talk_in}
use Rattle.tao_io.proofs.GivenLines.{GivesLines-nil, GivesLines-trans}
use Rattle.tao_io.specs.Lines.{GivesLines, IsTooLong, NextLineIs}
use Rattle.tao_io.specs.declared.lines.NextLine.{NextLine}
use Rattle.tao_io.specs.declared.lines.NextLine.TheVariants.{Line, TooLong}
use Rattle.topology.specs.Config.{Settings}
use Rattle.request_json.specs.declared.refusal.LineRefusal.TheVariants.{BadLine}

-- what holds, holds where there was an error
pub OnErr-any : {T E : Type 0} (result : Result T E) (P : Type 0) → P → OnErr result P
OnErr-any (Ok x) P p = tt
OnErr-any (Err e) P p = p

texts-append : (s : Settings) (rs qs : List TalkReply) → talk_lines_of s (rs ++ qs) ≡ talk_lines_of s rs ++ talk_lines_of s qs
texts-append s rs qs = flat_map-append (talk_line s) rs qs

-- some bytes, and then a front of others
appends_then_part : (before mid after : Option (List ℕ)) (xs ys : List ℕ) → Appends before mid xs → AppendsPart mid after ys
    → AppendsPart before after (xs ++ ys)
appends_then_part before mid after xs ys first second = (
  length xs + second.0,
  subst (Appends before after) (sym (take-append-add xs ys second.0)) (Appends-trans before mid after xs (take second.0 ys) first second.1),
)

-- ---- what was read

module _ (next : NextLine) (left rest : Option (List ℕ)) (line : List ℕ) (is : NextLineIs next left rest line) where
  pub line_of_Line : next ≡ Line → GivesLines left rest (line ∷ [])
  line_of_Line h = (subst (λ n. NextLineIs n left rest line) h is).1

  pub line_of_TooLong : next ≡ TooLong → (whole : List ℕ) × IsTooLong whole × GivesLines left rest (whole ∷ [])
  line_of_TooLong h = subst (λ n. NextLineIs n left rest line) h is

module _ {M : Type 0} (on : OnCluster M) where
  runs-append : (a b c : TalkState) (ls ms : List (List ℕ)) (rs qs : List TalkReply) → TalkRuns on a ls rs b → TalkRuns on b ms qs c
      → TalkRuns on a (ls ++ ms) (rs ++ qs) c
  runs-append a b c [] ms [] qs first second = subst (λ s. TalkRuns on s ms qs c) first second
  runs-append a b c [] ms (r ∷ rs) qs first second = absurd first
  runs-append a b c (l ∷ ls) ms [] qs first second = absurd first
  runs-append a b c (l ∷ ls) ms (r ∷ rs) qs first second = (first.0, first.1, runs-append first.0 b c ls ms rs qs first.2 second)

  -- ---- what was talked

  -- nothing yet
  pub talked_none : (s : TalkState) (left before : Option (List ℕ)) → Talked on s s (wire left before) (wire left before)
  talked_none s left before = record { lines = []; said = []; read = GivesLines-nil left; run = refl; written = Appends-nil before }

  -- what was written was shown
  pub talked_shown : (s : TalkState) (left before after : Option (List ℕ)) → Keeps before after → Talked on s s (wire left before) (wire left after)
  talked_shown s left before after kept =
      record { lines = []; said = []; read = GivesLines-nil left; run = refl; written = Appends-kept before before after [] (Appends-nil before) kept }

  pub talked_trans : (a b c : TalkState) (left rest last before mid after : Option (List ℕ)) → Talked on a b (wire left before) (wire rest mid)
      → Talked on b c (wire rest mid) (wire last after) → Talked on a c (wire left before) (wire last after)
  talked_trans a b c left rest last before mid after p q = record {
    lines = p.lines ++ q.lines;
    said = p.said ++ q.said;
    read = GivesLines-trans left rest last p.lines q.lines p.read q.read;
    run = runs-append a b c p.lines q.lines p.said q.said p.run q.run;
    written = subst (Appends before after) (sym (texts-append on.making.settings p.said q.said)) (Appends-trans before mid after _ _ p.written q.written);
  }

  -- a line came, and its reply was written
  pub talked_one : (a b : TalkState) (left rest before after : Option (List ℕ)) (line : List ℕ) → GivesLines left rest (line ∷ [])
      → SaysReply on a line b (Appends before after) → Talked on a b (wire left before) (wire rest after)
  talked_one a b left rest before after line read says = record {
    lines = line ∷ [];
    said = says.said ∷ [];
    read = read;
    run = (b, says.step, refl);
    written = subst (Appends before after) (sym (append-nil (talk_line on.making.settings says.said))) says.written;
  }

  pub talked_all : (a b : TalkState) (left rest before after : Option (List ℕ)) → Talked on a b (wire left before) (wire rest after) → IsAtEnd rest
      → TalkedAll on a b (wire left before) after
  talked_all a b left rest before after p end = record { rest = rest; end = end; talked = p }

  -- no line more was read
  pub part_none : (s : TalkState) (left before after : Option (List ℕ)) → Appends before after [] → TalkedInPart on s s (wire left before) after
  part_none s left before after written =
      record { rest = left; lines = []; said = []; read = GivesLines-nil left; run = refl; written = (0, written) }

  pub part_unread : (s : TalkState) (left before : Option (List ℕ)) → TalkedInPart on s s (wire left before) before
  part_unread s left before = part_none s left before before (Appends-nil before)

  pub part_shown : (s : TalkState) (left before after : Option (List ℕ)) → Keeps before after → TalkedInPart on s s (wire left before) after
  part_shown s left before after kept = part_none s left before after (Appends-kept before before after [] (Appends-nil before) kept)

  -- a line came, and of its reply a front was written
  part_one : (a b : TalkState) (left rest before after : Option (List ℕ)) (line : List ℕ) → GivesLines left rest (line ∷ [])
      → SaysReply on a line b (AppendsPart before after) → TalkedInPart on a b (wire left before) after
  part_one a b left rest before after line read says = record {
    rest = rest;
    lines = line ∷ [];
    said = says.said ∷ [];
    read = read;
    run = (b, says.step, refl);
    written = subst (AppendsPart before after) (sym (append-nil (talk_line on.making.settings says.said))) says.written;
  }

  -- a line came, and had no reply, or one of which a front was written
  pub part_answered : (a b : TalkState) (left rest before after : Option (List ℕ)) (line same : List ℕ) → GivesLines left rest (line ∷ []) → same ≡ line
      → SaysReplyInPart on a same b before after → TalkedInPart on a b (wire left before) after
  part_answered a b left rest before after line same read is (inl nothing) = record {
    rest = left;
    lines = [];
    said = [];
    read = GivesLines-nil left;
    run = nothing.0;
    written = (0, nothing.1);
  }
  part_answered a b left rest before after line same read is (inr says) =
      part_one a b left rest before after line read (subst (λ l. SaysReply on a l b (AppendsPart before after)) is says)

  -- a line came, and its reply was written
  pub talked_answered : (a b : TalkState) (left rest before after : Option (List ℕ)) (line same : List ℕ) → GivesLines left rest (line ∷ []) → same ≡ line
      → SaysReply on a same b (Appends before after) → Talked on a b (wire left before) (wire rest after)
  talked_answered a b left rest before after line same read is says =
      talked_one a b left rest before after line read (subst (λ l. SaysReply on a l b (Appends before after)) is says)

  pub talked_then_part : (a b c : TalkState) (left rest before mid after : Option (List ℕ)) → Talked on a b (wire left before) (wire rest mid)
      → TalkedInPart on b c (wire rest mid) after → TalkedInPart on a c (wire left before) after
  talked_then_part a b c left rest before mid after p q = record {
    rest = q.rest;
    lines = p.lines ++ q.lines;
    said = p.said ++ q.said;
    read = GivesLines-trans left rest q.rest p.lines q.lines p.read q.read;
    run = runs-append a b c p.lines q.lines p.said q.said p.run q.run;
    written = subst (AppendsPart before after) (sym (texts-append on.making.settings p.said q.said)) (appends_then_part before mid after _ _ p.written q.written);
  }

  -- all is a part
  pub all_in_part : (a b : TalkState) (left before after : Option (List ℕ)) → TalkedAll on a b (wire left before) after
      → TalkedInPart on a b (wire left before) after
  all_in_part a b left before after p = record {
    rest = p.rest;
    lines = p.talked.lines;
    said = p.talked.said;
    read = p.talked.read;
    run = p.talked.run;
    written = whole_part before after _ p.talked.written;
  }

  -- ---- a line that is too long

  long_step : (s : TalkState) (line : List ℕ) → IsTooLong line → TalkStep on s line too_long_reply s
  long_step s line long = record {
    replied = subst (λ asked. RepliesToTalk on s s asked too_long_reply) (sym (no_talk line long)) (record { said_is = refl; same = refl });
    goes = goes_self s;
  }
    where
      no_talk : (whole : List ℕ) → IsTooLong whole → talk_in whole ≡ Err (BadLine [])
      no_talk whole over = rw (no_json whole over) refl

  pub talked_refused : (s : TalkState) (left rest before after : Option (List ℕ)) → (whole : List ℕ) × IsTooLong whole × GivesLines left rest (whole ∷ [])
      → Appends before after (too_long_line on.making.settings) → Talked on s s (wire left before) (wire rest after)
  talked_refused s left rest before after long written =
      talked_one s s left rest before after long.0 long.2 (record { said = too_long_reply; step = long_step s long.0 long.1; written = written })

  pub part_refused : (s : TalkState) (left rest before after : Option (List ℕ)) → (whole : List ℕ) × IsTooLong whole × GivesLines left rest (whole ∷ [])
      → AppendsPart before after (too_long_line on.making.settings) → TalkedInPart on s s (wire left before) after
  part_refused s left rest before after long written =
      part_one s s left rest before after long.0 long.2 (record { said = too_long_reply; step = long_step s long.0 long.1; written = written })

  -- ---- a whole connection

  module _ (old new : Calling) (opened : Bool) (known left before after : Option (List ℕ)) (is : known ≡ left) where
    pub talks_whole : {T E : Type 0} (result : Result T E) → OnOk result (TalkedAll on (talk_state false old) (talk_state opened new) (wire known before) after)
        → OnOk result (TalksWhole on old new (wire left before) after)
    talks_whole (Ok x) all = (opened, subst (λ l. TalkedAll on (talk_state false old) (talk_state opened new) (wire l before) after) is all)
    talks_whole (Err e) all = tt

    pub talks_part : {T E : Type 0} (result : Result T E)
        → OnErr result (TalkedInPart on (talk_state false old) (talk_state opened new) (wire known before) after)
        → OnErr result (TalksInPart on old new (wire left before) after)
    talks_part (Ok x) part = tt
    talks_part (Err e) part = (opened, subst (λ l. TalkedInPart on (talk_state false old) (talk_state opened new) (wire l before) after) is part)

  pub talks_unread : {T E : Type 0} (result : Result T E) (old : Calling) (left before : Option (List ℕ))
      → OnErr result (TalksInPart on old old (wire left before) before)
  talks_unread result old left before = OnErr-any result _ (false, part_unread (talk_state false old) left before)

  pub whole_in_part : (old new : Calling) (left before after : Option (List ℕ)) → TalksWhole on old new (wire left before) after
      → TalksInPart on old new (wire left before) after
  whole_in_part old new left before after whole =
      (whole.0, all_in_part (talk_state false old) (talk_state whole.0 new) left before after whole.1)

-- nothing is left where nothing is to come
pub end_of_source : (ahead : List ℕ) (left : Option (List ℕ)) → IsAtEnd (prepend_known ahead left) → IsAtEnd left
end_of_source ahead None end = tt
end_of_source ahead (Some bytes) end = let long : length bytes ≡ 0 = omega (arith, length-append ahead bytes, ap length end) in nil_from_length bytes long

pub ended_source : {T E : Type 0} (result : Result T E) (ahead : List ℕ) (left : Option (List ℕ)) → OnOk result (IsAtEnd (prepend_known ahead left))
    → OnOk result (IsAtEnd left)
ended_source (Ok x) ahead left end = end_of_source ahead left end
ended_source (Err e) ahead left end = tt

-- ---- the status

pub known_status : (i : Interrupt) → IsTalkStatus (interrupt_code i)
known_status Source = (1, omega arith, refl)
known_status Sink = (2, omega arith, refl)
known_status Memory = (3, omega arith, refl)
known_status InputTooLong = (4, omega arith, refl)

pub never_done : (i : Interrupt) → interrupt_code i ≡ 0 → ⊥
never_done Source is = omega arith
never_done Sink is = omega arith
never_done Memory is = omega arith
never_done InputTooLong is = omega arith

pub source_failed : (old new : Faults) (i : Interrupt) → InterruptHasCause old new i → interrupt_code i ≡ 4 → Rose old.source new.source
source_failed old new Source cause is = cause
source_failed old new Sink cause is = absurd (omega arith)
source_failed old new Memory cause is = absurd (omega arith)
source_failed old new InputTooLong cause is = absurd (omega arith)

pub sink_failed : (old new : Faults) (i : Interrupt) → InterruptHasCause old new i → interrupt_code i ≡ 5 → Rose old.sink new.sink
sink_failed old new Source cause is = absurd (omega arith)
sink_failed old new Sink cause is = cause
sink_failed old new Memory cause is = absurd (omega arith)
sink_failed old new InputTooLong cause is = absurd (omega arith)

pub too_long_is : (i : Interrupt) → interrupt_code i ≡ 9 → i ≡ InputTooLong
too_long_is Source is = absurd (omega arith)
too_long_is Sink is = absurd (omega arith)
too_long_is Memory is = absurd (omega arith)
too_long_is InputTooLong is = refl

-- ---- what was said

-- the line of the refusal of a line that is too long
pub long_line_is : (s t : Settings) (reply : Reply) → s ≡ t → One reply ≡ too_long_reply → talk_line s (One reply) ≡ too_long_line t
long_line_is s t reply is said = ap (λ k. talk_line k (One reply)) is ∙ ap (λ k. talk_line t k) said

module _ {M : Type 0} (on : OnCluster M) (old new : TalkState) (line : List ℕ) (said : TalkReply) (s : Settings) (is : s ≡ on.making.settings)
    (step : TalkStep on old line said new) (before after : Option (List ℕ)) where
  pub says_ok : {T E : Type 0} (result : Result T E) → OnOk result (Appends before after (talk_line s said))
      → OnOk result (SaysReply on old line new (Appends before after))
  says_ok (Ok x) written = record { said = said; step = step; written = subst (λ k. Appends before after (talk_line k said)) is written }
  says_ok (Err e) written = tt

  pub says_part : {T E : Type 0} (result : Result T E) → OnErr result (AppendsPart before after (talk_line s said))
      → OnErr result (SaysReplyInPart on old line new before after)
  says_part (Ok x) written = tt
  says_part (Err e) written = inr (record { said = said; step = step; written = subst (λ k. AppendsPart before after (talk_line k said)) is written })

-- nothing was done
pub same_state : (o o' : Bool) (p p' : SeenPass) (l l' : LinkShown) → o' ≡ o → p' ≡ p → l' ≡ l → talk_state o' (calling p' l') ≡ talk_state o (calling p l)
same_state o o' p p' l l' is also so = rw (is, also, so) refl
