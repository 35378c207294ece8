-- A run goes on, from line to line and from part to part.
use Rattle.std.proofs.Common.{◌≡◌, ℕ, ◌+◌, Bool, List, [], ◌∷◌, ◌++◌, Option, Some, None, refl, sym, ap, ◌∙◌, subst, take, length, map, append_assoc, arith}
use Rattle.std.proofs.lemmas.List.{append-nil, map-append, take_all}
use Rattle.std.proofs.lemmas.Grind.{flat_map-append}
use Rattle.std.proofs.Math.Seq.{take-append-add}
use Rattle.std.specs.Io.KnownBytes.{Appends, IsAtEnd, Keeps}
use Rattle.std.proofs.KnownBytes.{Appends-kept, Appends-nil, Appends-trans}
use Rattle.tao_io.proofs.GivenLines.{GivesLines-nil, GivesLines-trans}
use Rattle.tao_io.specs.Lines.{lines_of, GivesLines}
use Rattle.core_nodes.specs.Outside.{Outside}
use Rattle.first_line.specs.Interrupts.{AppendsPart}
use Rattle.tao_top.specs.Served.{AreLines, LinesBegin, IsStill, Served, ServedAll, ServedInPart, joined, streams}
use Rattle.std.specs.Prelude.{⊤}
use Rattle.tao_top.specs.Step.{Given, ReplyLine, RunStage, Runs, State, Replies, disagreeing, ended, line_at, line_read, serving, waiting}
use Rattle.tao_io.proofs.LineLaws.{lines_of-nil}

-- ---- the parts of a run

pub Runs-append : (tells : Bool) (a b c : State) (gs hs : List Given) (rs qs : List ReplyLine) → Runs tells a gs rs b → Runs tells b hs qs c
    → Runs tells a (gs ++ hs) (rs ++ qs) c
Runs-append tells a b c [] hs [] qs first second = subst (λ s. Runs tells s hs qs c) first second
Runs-append tells a b c [] hs (r ∷ rs) qs first second = absurd first
Runs-append tells a b c (g ∷ gs) hs [] qs first second = absurd first
Runs-append tells a b c (g ∷ gs) hs (r ∷ rs) qs first second = (first.0, first.1, Runs-append tells first.0 b c gs hs rs qs first.2 second)

-- what each of these is given as
module _ {X : Type 0} (given_as : X → Given) where
  pub Runs-map : (tells : Bool) (a b c : State) (xs ys : List X) (rs qs : List ReplyLine) → Runs tells a (map given_as xs) rs b → Runs tells b (map given_as ys) qs c
      → Runs tells a (map given_as (xs ++ ys)) (rs ++ qs) c
  Runs-map tells a b c xs ys rs qs first second =
      subst (λ gs. Runs tells a gs (rs ++ qs) c) (sym (map-append given_as xs ys)) (Runs-append tells a b c (map given_as xs) (map given_as ys) rs qs first second)

-- a run at this stage answers no line more
abbrev pub IsOver : RunStage → Type 0
IsOver waiting = ⊥
IsOver (serving core) = ⊥
IsOver ended = ⊤
IsOver (disagreeing s) = ⊤

-- none was answered after it
pub record AnsweredNone (given : List Given) (replies : List ReplyLine) (at last : State) : Type 0 where
  pub none_given : given ≡ []
  pub no_reply : replies ≡ []
  pub last_is : last ≡ at

pub none_after : (tells : Bool) (stage : RunStage) (around : Outside) (given : List Given) (replies : List ReplyLine) (last : State) → IsOver stage
    → Runs tells (record { stage = stage; outside = around }) given replies last
    → AnsweredNone given replies (record { stage = stage; outside = around }) last
none_after tells waiting around given replies last over run = absurd over
none_after tells (serving core) around given replies last over run = absurd over
none_after tells ended around [] [] last over run = record { none_given = refl; no_reply = refl; last_is = run }
none_after tells ended around (g ∷ given) (r ∷ replies) last over run = absurd run.1.1.does
none_after tells ended around [] (r ∷ replies) last over run = absurd run
none_after tells ended around (g ∷ given) [] last over run = absurd run
none_after tells (disagreeing s) around [] [] last over run = record { none_given = refl; no_reply = refl; last_is = run }
none_after tells (disagreeing s) around (g ∷ given) (r ∷ replies) last over run = absurd run.1.1.does
none_after tells (disagreeing s) around [] (r ∷ replies) last over run = absurd run
none_after tells (disagreeing s) around (g ∷ given) [] last over run = absurd run

-- the reply to what is given, with its line
abbrev pub reply_of : (tells : Bool) (a b : State) (given : Given) (So : ReplyLine → Type 0) → Replies tells a given b So → ReplyLine
reply_of tells a b given So replied = line_at b.stage replied.0

pub Runs-one : (tells : Bool) (a b : State) (given : Given) (So : ReplyLine → Type 0) (replied : Replies tells a given b So)
    → Runs tells a (given ∷ []) (reply_of tells a b given So replied ∷ []) b
Runs-one tells a b given So replied = (b, (replied.0, replied.1, refl), refl)

joined-append : (rs qs : List ReplyLine) → joined (rs ++ qs) ≡ joined rs ++ joined qs
joined-append rs qs = flat_map-append (λ (r : ReplyLine). r.text) rs qs

joined-one : (r : ReplyLine) → joined (r ∷ []) ≡ r.text
joined-one r = append-nil r.text

-- ---- the lines that were read

pub GivesLines-begin : (a b : Option (List ℕ)) (ls : List (List ℕ)) → GivesLines a b ls → LinesBegin a ls
GivesLines-begin None b ls p = tt
GivesLines-begin (Some x) None ls p = absurd p
GivesLines-begin (Some x) (Some y) ls p = (lines_of y, p)

pub LinesBegin-after : (a b : Option (List ℕ)) (ls ms : List (List ℕ)) → GivesLines a b ls → LinesBegin b ms → LinesBegin a (ls ++ ms)
LinesBegin-after None b ls ms p q = tt
LinesBegin-after (Some x) None ls ms p q = absurd p
LinesBegin-after (Some x) (Some y) ls ms p q = (q.0, p ∙ ap (λ l. ls ++ l) q.1 ∙ sym (append_assoc ls ms q.0))

pub GivesLines-all : (a b : Option (List ℕ)) (ls : List (List ℕ)) → GivesLines a b ls → IsAtEnd b → AreLines a ls
GivesLines-all None b ls p end = tt
GivesLines-all (Some x) None ls p end = absurd p
GivesLines-all (Some x) (Some y) ls p end = p ∙ ap (λ bytes. ls ++ lines_of bytes) end ∙ ap (λ l. ls ++ l) lines_of-nil ∙ append-nil ls

pub AreLines-after : (a b : Option (List ℕ)) (ls ms : List (List ℕ)) → GivesLines a b ls → AreLines b ms → AreLines a (ls ++ ms)
AreLines-after None b ls ms p q = tt
AreLines-after (Some x) None ls ms p q = absurd p
AreLines-after (Some x) (Some y) ls ms p q = p ∙ ap (λ l. ls ++ l) q

-- ---- what was written

-- some bytes, and then a front of others
pub appends_then_part : (before mid after : Option (List ℕ)) (xs ys : List ℕ) → Appends before mid xs → AppendsPart mid after ys
    → AppendsPart before after (xs ++ ys)
appends_then_part before mid after xs ys first second = (
  length xs + second.0,
  subst (Appends before after) (sym (take-append-add xs ys second.0)) (Appends-trans before mid after xs (take second.0 ys) first second.1),
)

-- ---- what was served

module _ (tells : Bool) where
  -- nothing yet
  pub served_none : (s : State) (left before : Option (List ℕ)) → Served tells s s (streams left before) (streams left before)
  served_none s left before = record { lines = []; replies = []; read = GivesLines-nil left; run = refl; written = Appends-nil before }

  -- what was written was shown
  pub served_shown : (s : State) (left before after : Option (List ℕ)) → Keeps before after → Served tells s s (streams left before) (streams left after)
  served_shown s left before after kept =
      record { lines = []; replies = []; read = GivesLines-nil left; run = refl; written = Appends-kept before before after [] (Appends-nil before) kept }

  pub served_trans : (a b c : State) (left rest last before mid after : Option (List ℕ)) → Served tells a b (streams left before) (streams rest mid)
      → Served tells b c (streams rest mid) (streams last after) → Served tells a c (streams left before) (streams last after)
  served_trans a b c left rest last before mid after p q = record {
    lines = p.lines ++ q.lines;
    replies = p.replies ++ q.replies;
    read = GivesLines-trans left rest last p.lines q.lines p.read q.read;
    run = Runs-map line_read tells a b c p.lines q.lines p.replies q.replies p.run q.run;
    written = subst (Appends before after) (sym (joined-append p.replies q.replies)) (Appends-trans before mid after _ _ p.written q.written);
  }

  -- a line came, and its reply was written
  pub served_one : (a b : State) (left rest before after : Option (List ℕ)) (line : List ℕ) → GivesLines left rest (line ∷ [])
      → Replies tells a (line_read line) b (λ said. Appends before after said.text) → Served tells a b (streams left before) (streams rest after)
  served_one a b left rest before after line read replied = record {
    lines = line ∷ [];
    replies = reply_of tells a b (line_read line) (λ said. Appends before after said.text) replied ∷ [];
    read = read;
    run = Runs-one tells a b (line_read line) (λ said. Appends before after said.text) replied;
    written = subst (Appends before after) (sym (joined-one (reply_of tells a b (line_read line) (λ said. Appends before after said.text) replied))) replied.2;
  }

  pub served_all : (a b : State) (left rest before after : Option (List ℕ)) → Served tells a b (streams left before) (streams rest after) → IsAtEnd rest
      → ServedAll tells a b left before after
  served_all a b left rest before after p end = record {
    lines = p.lines;
    replies = p.replies;
    read = GivesLines-all left rest p.lines p.read end;
    run = p.run;
    written = p.written;
  }

  pub served_then_all : (a b c : State) (left rest before mid after : Option (List ℕ)) → Served tells a b (streams left before) (streams rest mid)
      → ServedAll tells b c rest mid after → ServedAll tells a c left before after
  served_then_all a b c left rest before mid after p q = record {
    lines = p.lines ++ q.lines;
    replies = p.replies ++ q.replies;
    read = AreLines-after left rest p.lines q.lines p.read q.read;
    run = Runs-map line_read tells a b c p.lines q.lines p.replies q.replies p.run q.run;
    written = subst (Appends before after) (sym (joined-append p.replies q.replies)) (Appends-trans before mid after _ _ p.written q.written);
  }

  pub still_refl : (now : Outside) → (s : State) → s.outside ≡ now → IsStill tells s now
  still_refl now s is = subst (IsStill tells s) is (record {
    tables = λ told at. refl;
    later = record { calls = omega arith; faults = omega arith };
    link = refl;
  })

  -- no line more was read
  pub part_none : (s : State) (now : Outside) (left before after : Option (List ℕ)) → Appends before after [] → IsStill tells s now
      → ServedInPart tells s now left before after
  part_none s now left before after written still = record {
    last = s;
    lines = [];
    replies = [];
    read = none_begin left;
    run = refl;
    written = (0, written);
    still = still;
  }
    where
      none_begin : (known : Option (List ℕ)) → LinesBegin known []
      none_begin None = tt
      none_begin (Some bytes) = (lines_of bytes, refl)

  -- a line came, and of its reply a front was written
  pub part_one : (s last : State) (now : Outside) (left rest before after : Option (List ℕ)) (line : List ℕ) → GivesLines left rest (line ∷ [])
      → Replies tells s (line_read line) last (λ said. AppendsPart before after said.text) → IsStill tells last now
      → ServedInPart tells s now left before after
  part_one s last now left rest before after line read replied still = record {
    last = last;
    lines = line ∷ [];
    replies = reply_of tells s last (line_read line) (λ said. AppendsPart before after said.text) replied ∷ [];
    read = GivesLines-begin left rest (line ∷ []) read;
    run = Runs-one tells s last (line_read line) (λ said. AppendsPart before after said.text) replied;
    written = subst (AppendsPart before after) (sym (joined-one (reply_of tells s last (line_read line) (λ said. AppendsPart before after said.text) replied))) replied.2;
    still = still;
  }

  pub served_then_part : (a b : State) (now : Outside) (left rest before mid after : Option (List ℕ))
      → Served tells a b (streams left before) (streams rest mid) → ServedInPart tells b now rest mid after → ServedInPart tells a now left before after
  served_then_part a b now left rest before mid after p q = record {
    last = q.last;
    lines = p.lines ++ q.lines;
    replies = p.replies ++ q.replies;
    read = LinesBegin-after left rest p.lines q.lines p.read q.read;
    run = Runs-map line_read tells a b q.last p.lines q.lines p.replies q.replies p.run q.run;
    written = subst (AppendsPart before after) (sym (joined-append p.replies q.replies)) (appends_then_part before mid after _ _ p.written q.written);
    still = q.still;
  }
