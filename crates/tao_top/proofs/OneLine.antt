-- One line that is served: as it was read, answered, and its reply written.
use Rattle.std.proofs.Common.{◌≡◌, ℕ, Bool, List, [], ◌∷◌, Option, Result, Ok, Err, IfErr, OnErr, OnOk, inl, inr, refl}
use Rattle.std.proofs.Common.{sym, ap, subst, arith}
use Rattle.std.specs.Io.KnownBytes.{Appends, Keeps}
use Rattle.std.proofs.KnownBytes.{Appends-kept, Appends-nil}
use Rattle.first_line.proofs.FirstLemmas.{no_json}
use Rattle.replies.specs.declared.refusals.LineRefused.TheVariants as line
use Rattle.replies.specs.declared.refusals.Refusal.TheVariants.{Line as OfLine}
use Rattle.replies.specs.declared.reply.Reply.{Reply}
use Rattle.replies.specs.declared.reply.Reply.TheVariants.{Refused}
use Rattle.request_json.specs.Requests.{request_in}
use Rattle.request_json.specs.declared.refusal.LineRefusal.TheVariants.{BadLine}
use Rattle.tao_core.specs.Core.{CoreState, moment_of}
use Rattle.tao_io.specs.Lines.{GivesLines, IsTooLong, NextLineIs}
use Rattle.tao_io.specs.declared.lines.NextLine.{NextLine}
use Rattle.tao_io.specs.declared.lines.NextLine.TheVariants.{Line, TooLong}
use Rattle.first_line.specs.Interrupts.{AppendsPart}
use Rattle.tao_top.proofs.GoingOn.{part_none, part_one, served_one, still_refl}
use Rattle.tao_top.specs.Begun.{RepliesInPart}
use Rattle.core_nodes.specs.Outside.{Outside}
use Rattle.tao_top.specs.Served.{Served, ServedInPart, serves, streams}
use Rattle.tao_top.specs.Step.{AnswersLine, Given, State, Replies, Step, line_read, reply_line, serving}

-- what holds, holds where there was an error
pub OnErr-any : {T E : Type 0} (result : Result T E) (P : Type 0) → P → OnErr result P
OnErr-any (Ok x) P p = tt
OnErr-any (Err e) P p = p

pub IfErr-any : {T E : Type 0} (result : Result T E) (P : E → Type 0) → ((e : E) → P e) → IfErr result P
IfErr-any (Ok x) P p = tt
IfErr-any (Err e) P p = p e

-- ---- a line that is too long

pub no_request : (line : List ℕ) → IsTooLong line → request_in line ≡ Err (BadLine [])
no_request line long = rw (no_json line long) refl

-- its reply
abbrev pub refused_whole : Reply
refused_whole = Refused (OfLine (line.BadLine []))

module _ (tells : Bool) (core : CoreState) (around : Outside) where
  long_line : (line : List ℕ) → IsTooLong line → Step tells (serves core around) (line_read line) refused_whole (serves core around)
  long_line line long = record {
    does = subst (λ asked. AnswersLine tells (moment_of core around) asked refused_whole (moment_of core around)) (sym (no_request line long)) (refl, refl);
    later = record { calls = omega arith; faults = omega arith };
  }

-- ---- what was read

module _ (next : NextLine) (left rest : Option (List ℕ)) (line : List ℕ) (is : NextLineIs next left rest line) where
  pub line_of_Line : next ≡ Line → GivesLines left rest (line ∷ [])
  line_of_Line h = (subst (λ n. NextLineIs n left rest line) h is).1

  pub line_of_TooLong : next ≡ TooLong → (whole : List ℕ) × IsTooLong whole × GivesLines left rest (whole ∷ [])
  line_of_TooLong h = subst (λ n. NextLineIs n left rest line) h is

-- the next line didn't come
pub part_unread : (tells : Bool) (s : State) (left before : Option (List ℕ)) → ServedInPart tells s s.outside left before before
part_unread tells s left before = part_none tells s s.outside left before before (Appends-nil before) (still_refl tells s.outside s refl)

-- what was written couldn't be shown
pub part_shown : (tells : Bool) (s : State) (left before after : Option (List ℕ)) → Keeps before after → ServedInPart tells s s.outside left before after
part_shown tells s left before after kept =
    part_none tells s s.outside left before after (Appends-kept before before after [] (Appends-nil before) kept) (still_refl tells s.outside s refl)

-- ---- what was answered

pub replies_ok : {T E : Type 0} (result : Result T E) (tells : Bool) (old new : State) (given : Given) (reply : Reply) (before after : Option (List ℕ))
    → Step tells old given reply new
    → OnOk result (Appends before after (reply_line new.stage reply)) → OnOk result (Replies tells old given new (λ said. Appends before after said.text))
replies_ok (Ok x) tells old new given reply before after step written = (reply, step, written)
replies_ok (Err e) tells old new given reply before after step written = tt

pub replies_err : {T E : Type 0} (result : Result T E) (tells : Bool) (old new : State) (given : Given) (reply : Reply) (before after : Option (List ℕ))
    → Step tells old given reply new
    → OnErr result (AppendsPart before after (reply_line new.stage reply)) → OnErr result (RepliesInPart tells old given new before after)
replies_err (Ok x) tells old new given reply before after step written = tt
replies_err (Err e) tells old new given reply before after step written = inr (reply, step, written)

module _ (tells : Bool) (core : CoreState) (around : Outside) (left rest before after : Option (List ℕ)) where
  -- a line was answered, and perhaps of its reply a front was written
  pub part_answered : (line said : List ℕ) (next : CoreState) (now : Outside) → GivesLines left rest (line ∷ []) → said ≡ line
      → RepliesInPart tells (serves core around) (line_read said) (serves next now) before after → ServedInPart tells (serves core around) now left before after
  part_answered line said next now read same (inl nothing) =
      part_none tells (serves core around) now left before after nothing.1 (still_refl tells now (serves core around) (ap (λ s. s.outside) (sym nothing.0)))
  part_answered line said next now read same (inr replied) =
      part_one tells (serves core around) (serves next now) now left rest before after line read
      (subst (λ l. Replies tells (serves core around) (line_read l) (serves next now) (λ reply. AppendsPart before after reply.text)) same replied)
      (still_refl tells now (serves next now) refl)

  pub served_answered : (line said : List ℕ) (next : CoreState) (now : Outside) → GivesLines left rest (line ∷ []) → said ≡ line
      → Replies tells (serves core around) (line_read said) (serves next now) (λ reply. Appends before after reply.text)
      → Served tells (serves core around) (serves next now) (streams left before) (streams rest after)
  served_answered line said next now read same replied =
      served_one tells (serves core around) (serves next now) left rest before after line read
      (subst (λ l. Replies tells (serves core around) (line_read l) (serves next now) (λ reply. Appends before after reply.text)) same replied)

  -- a line was too long
  pub part_refused : ((whole : List ℕ) × IsTooLong whole × GivesLines left rest (whole ∷ []))
      → AppendsPart before after (reply_line (serving core) refused_whole)
      → ServedInPart tells (serves core around) around left before after
  part_refused long written = part_answered long.0 long.0 core around long.2 refl (inr (refused_whole, long_line tells core around long.0 long.1, written))

  pub served_refused : ((whole : List ℕ) × IsTooLong whole × GivesLines left rest (whole ∷ [])) → Appends before after (reply_line (serving core) refused_whole)
      → Served tells (serves core around) (serves core around) (streams left before) (streams rest after)
  served_refused long written = served_answered long.0 long.0 core around long.2 refl (refused_whole, long_line tells core around long.0 long.1, written)
