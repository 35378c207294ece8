-- What a run is given by its words, and what it prints of the replies.
use Rattle.std.proofs.Common.{◌≡◌, ℕ, Bool, List, [], ◌∷◌, ◌++◌, Option, Some, None, Result, Ok, Err, inr, map, refl, sym, ap, ◌∙◌, subst}
use Rattle.std.proofs.lemmas.List.{append-nil, map-append}
use Rattle.std.proofs.KnownBytes.{Appends-nil, Appends-trans}
use Rattle.std.specs.Io.KnownBytes.{Appends}
use Rattle.command_words.specs.declared.Words.{Words}
use Rattle.command_words.specs.declared.Words.TheVariants.{Gen, Run}
use Rattle.command_words.specs.declared.WordsRefusal.{WordsRefusal}
use Rattle.config_json.specs.Config.{config_in}
use Rattle.core_nodes.specs.Outside.{Outside}
use Rattle.load_gen.specs.Requests.{requests_of}
use Rattle.replies.specs.declared.reply.Reply.{Reply}
use Rattle.replies.specs.declared.reply.Reply.TheVariants.{Audited, BadConfiguration, BadStores, Called, Configured, Node, Opened, Plan, Refused, Settled}
use Rattle.requests.specs.declared.request.Request.{Request}
use Rattle.tao_core.specs.Core.{CoreState}
use Rattle.tao_io.specs.Lines.{GivesLines, lines_of}
use Rattle.first_line.proofs.FirstLemmas.{whole_part}
use Rattle.first_line.specs.Interrupts.{AppendsPart}
use Rattle.tao_top.proofs.GoingOn.{AreLines-after, GivesLines-begin, LinesBegin-after, Runs-append, Runs-one, appends_then_part, reply_of, still_refl}
use Rattle.tao_top.specs.Begun.{Begins, RepliesFirst}
use Rattle.tao_top.specs.Making.{MadeAll, MadeInPart, under_way}
use Rattle.tao_top.specs.Served.{Answered, AnsweredInPart, AreGiven, AreLines, Done, DoneInPart, GivenBegin, IsStill, LinesBegin, ServedAll}
use Rattle.tao_top.specs.Served.{ServedInPart, given_by, joined, printed, requests_by, serves, start, streams, said_configured, unless_configured}
use Rattle.tao_top.specs.Step.{Configures, Given, ReplyLine, Runs, State, TakesLine, line_at, line_read, request_made, serving}
use Rattle.topology.specs.Config.{Settings}

-- ---- what is given

-- some lines are those of the known bytes
lines_known : (left : Option (List ℕ)) → (lines : List (List ℕ)) × AreLines left lines
lines_known None = ([], tt)
lines_known (Some bytes) = (lines_of bytes, refl)

-- nothing is a front of what is given
pub none_given : (asked : Result Words WordsRefusal) (left : Option (List ℕ)) → GivenBegin asked left []
none_given asked left = let known = lines_known left in (given_by asked known.0, (known.0, known.1, refl))

-- all that is given is a front of it
pub all_begin : (asked : Result Words WordsRefusal) (left : Option (List ℕ)) (given : List Given) → AreGiven asked left given → GivenBegin asked left given
all_begin asked left given are = ([], (are.0, are.1, are.2 ∙ sym (append-nil given)))

-- the lines after one that came out of the known bytes
others_known : (left rest : Option (List ℕ)) (line : List ℕ) → GivesLines left rest (line ∷ []) → (others : List (List ℕ)) × AreLines left (line ∷ others)
others_known None rest line read = ([], tt)
others_known (Some x) None line read = absurd read
others_known (Some x) (Some y) line read = (lines_of y, read)

-- what is given after a first line
abbrev after_first : Words → List ℕ → List (List ℕ) → List Given
after_first (Run sql) line others = map line_read others
after_first (Gen seed calls) line others = map request_made (requests_by seed calls (config_in line))

given_first : (words : Words) (line : List ℕ) (others : List (List ℕ)) → given_by (Ok words) (line ∷ others) ≡ line_read line ∷ after_first words line others
given_first (Run sql) line others = refl
given_first (Gen seed calls) line others = refl

-- a line that came out of the known bytes is given first
first_begins : (words : Words) (left rest : Option (List ℕ)) (line : List ℕ) → GivesLines left rest (line ∷ [])
    → GivenBegin (Ok words) left (line_read line ∷ [])
first_begins words left rest line read =
    let others = others_known left rest line read in (after_first words line others.0, (line ∷ others.0, others.1, given_first words line others.0))

-- ---- what is printed

-- of the first reply, and then of the others
printed_more : (words : Words) (line : List ℕ) (r : ReplyLine) (given : List Given) (replies : List ReplyLine)
    → printed (Ok words) (line_read line ∷ given) (r ∷ replies) ≡ printed (Ok words) (line_read line ∷ []) (r ∷ []) ++ printed (Ok words) given replies
printed_more (Run sql) line r given replies = ap (λ t. t ++ joined replies) (sym (append-nil r.text))
printed_more (Gen seed calls) line r given replies =
    ap (λ t. t ++ printed (Ok (Gen seed calls)) given replies) (sym (append-nil (unless_configured r.reply r.text)))

-- of a first reply alone, unless it is that the configuration was taken
pub printed_first : (words : Words) (line : List ℕ) (r : ReplyLine) → unless_configured r.reply r.text ≡ r.text
    → printed (Ok words) (line_read line ∷ []) (r ∷ []) ≡ r.text
printed_first (Run sql) line r is = append-nil r.text
printed_first (Gen seed calls) line r is = append-nil (unless_configured r.reply r.text) ∙ is

-- of that reply
pub printed_configured : (words : Words) (line : List ℕ) (core : CoreState)
    → printed (Ok words) (line_read line ∷ []) (line_at (serving core) Configured ∷ []) ≡ said_configured words core
printed_configured (Run sql) line core = append-nil (line_at (serving core) Configured).text
printed_configured (Gen seed calls) line core = refl

-- of no line
pub printed_lacking : (asked : Result Words WordsRefusal) (r : ReplyLine) → printed asked [] (r ∷ []) ≡ r.text
printed_lacking (Ok (Run sql)) r = append-nil r.text
printed_lacking (Ok (Gen seed calls)) r = append-nil r.text
printed_lacking (Err refused) r = append-nil r.text

-- ---- what was answered

-- nothing
pub answered_none : (asked : Result Words WordsRefusal) (tells : Bool) (s : State) (now : Outside) (left before after : Option (List ℕ)) → Appends before after []
    → IsStill tells s now → AnsweredInPart asked tells s now (streams left before) after
answered_none asked tells s now left before after written still = record {
  last = s;
  given = [];
  replies = [];
  read = none_given asked left;
  run = refl;
  written = (0, written);
  still = still;
}

-- nothing was, and nothing happened
pub answered_unread : (asked : Result Words WordsRefusal) (tells : Bool) (s : State) (left written : Option (List ℕ))
    → AnsweredInPart asked tells s s.outside (streams left written) written
answered_unread asked tells s left written = answered_none asked tells s s.outside left written written (Appends-nil written) (still_refl tells s.outside s refl)

-- the first line, of whose reply a front was written
pub answered_first : (words : Words) (tells : Bool) (s last : State) (now : Outside) (left rest before after : Option (List ℕ)) (line : List ℕ)
    → GivesLines left rest (line ∷ []) → RepliesFirst words tells s line last (AppendsPart before after) → IsStill tells last now
    → AnsweredInPart (Ok words) tells s now (streams left before) after
answered_first words tells s last now left rest before after line read replied still =
    let So : ReplyLine → Type 0 = λ said. AppendsPart before after (printed (Ok words) (line_read line ∷ []) (said ∷ [])) in
    record {
      last = last;
      given = line_read line ∷ [];
      replies = reply_of tells s last (line_read line) So replied ∷ [];
      read = first_begins words left rest line read;
      run = Runs-one tells s last (line_read line) So replied;
      written = replied.2;
      still = still;
    }

-- all is a front of itself
pub answered_whole : (asked : Result Words WordsRefusal) (tells : Bool) (old new : State) (left before after : Option (List ℕ))
    → Answered asked tells old new (streams left before) after → AnsweredInPart asked tells old new.outside (streams left before) after
answered_whole asked tells old new left before after p = record {
  last = new;
  given = p.given;
  replies = p.replies;
  read = all_begin asked left p.given p.read;
  run = p.run;
  written = whole_part before after (printed asked p.given p.replies) p.written;
  still = still_refl tells new.outside new refl;
}

-- ---- the first line, and all after it

module _ (words : Words) (tells : Bool) (old : Outside) (mid : State) (left rest before middle after : Option (List ℕ))
    (first : Begins words tells old mid (streams left before) (streams rest middle)) where
  -- its reply
  abbrev reply_first : ReplyLine
  reply_first = line_at mid.stage first.replied.0

  written_first : (given : List Given) (replies : List ReplyLine) → Appends middle after (printed (Ok words) given replies)
      → Appends before after (printed (Ok words) (line_read first.line ∷ given) (reply_first ∷ replies))
  written_first given replies written =
      subst (Appends before after) (sym (printed_more words first.line reply_first given replies)) (Appends-trans before middle after _ _ first.replied.2 written)

  part_first : (given : List Given) (replies : List ReplyLine) → AppendsPart middle after (printed (Ok words) given replies)
      → AppendsPart before after (printed (Ok words) (line_read first.line ∷ given) (reply_first ∷ replies))
  part_first given replies written =
      subst (AppendsPart before after) (sym (printed_more words first.line reply_first given replies))
      (appends_then_part before middle after _ _ first.replied.2 written)

  runs_first : (given : List Given) (replies : List ReplyLine) (last : State) → Runs tells mid given replies last
      → Runs tells (start old) (line_read first.line ∷ given) (reply_first ∷ replies) last
  runs_first given replies last run = (mid, (first.replied.0, first.replied.1, refl), run)

  follows : (given : List Given) (replies : List ReplyLine) (new : State) → AreGiven (Ok words) left (line_read first.line ∷ given)
      → Runs tells mid given replies new → Appends middle after (printed (Ok words) given replies)
      → Answered (Ok words) tells (start old) new (streams left before) after
  follows given replies new are run written = record {
    given = line_read first.line ∷ given;
    replies = reply_first ∷ replies;
    read = are;
    run = runs_first given replies new run;
    written = written_first given replies written;
  }

  follows_in_part : (given : List Given) (replies : List ReplyLine) (last : State) (now : Outside)
      → GivenBegin (Ok words) left (line_read first.line ∷ given) → Runs tells mid given replies last
      → AppendsPart middle after (printed (Ok words) given replies) → IsStill tells last now
      → AnsweredInPart (Ok words) tells (start old) now (streams left before) after
  follows_in_part given replies last now begin run written still = record {
    last = last;
    given = line_read first.line ∷ given;
    replies = reply_first ∷ replies;
    read = begin;
    run = runs_first given replies last run;
    written = part_first given replies written;
    still = still;
  }

-- the lines that are left
module _ (sql : Option (List ℕ)) (tells : Bool) (old : Outside) (mid : State) (left rest before middle after : Option (List ℕ))
    (first : Begins (Run sql) tells old mid (streams left before) (streams rest middle)) where
  run_answered : (new : State) → ServedAll tells mid new rest middle after → Answered (Ok (Run sql)) tells (start old) new (streams left before) after
  run_answered new all =
      follows (Run sql) tells old mid left rest before middle after first (map line_read all.lines) all.replies new
      (first.line ∷ all.lines, AreLines-after left rest (first.line ∷ []) all.lines first.read all.read, refl) all.run all.written

  run_in_part : (now : Outside) → ServedInPart tells mid now rest middle after
      → AnsweredInPart (Ok (Run sql)) tells (start old) now (streams left before) after
  run_in_part now part =
      follows_in_part (Run sql) tells old mid left rest before middle after first (map line_read part.lines) part.replies part.last now
      (begins (LinesBegin-after left rest (first.line ∷ []) part.lines first.read part.read)) part.run part.written part.still
    where
      begins : LinesBegin left (first.line ∷ part.lines) → GivenBegin (Ok (Run sql)) left (line_read first.line ∷ map line_read part.lines)
      begins begin = by left begin
        where
          by : (known : Option (List ℕ)) → LinesBegin known (first.line ∷ part.lines)
              → GivenBegin (Ok (Run sql)) known (line_read first.line ∷ map line_read part.lines)
          by None h = ([], (first.line ∷ part.lines, tt, ap (λ gs. line_read first.line ∷ gs) (sym (append-nil (map line_read part.lines)))))
          by (Some bytes) h =
              (map line_read h.0, (first.line ∷ (part.lines ++ h.0), h.1, ap (λ gs. line_read first.line ∷ gs) (map-append line_read part.lines h.0)))

-- the requests that are made
module _ (seed calls : ℕ) (tells : Bool) (old : Outside) (mid : State) (left rest before middle after : Option (List ℕ))
    (first : Begins (Gen seed calls) tells old mid (streams left before) (streams rest middle)) (s : Settings)
    (configured : config_in first.line ≡ Ok s) where
  requests_given : AreGiven (Ok (Gen seed calls)) left (line_read first.line ∷ map request_made (requests_of s seed calls))
  requests_given =
      let others = others_known left rest first.line first.read in
      (first.line ∷ others.0, others.1, ap (λ found. line_read first.line ∷ map request_made (requests_by seed calls found)) configured)

  gen_answered : (new : State) → MadeAll tells mid new (under_way (requests_of s seed calls) calls 0) (Appends middle after)
      → Answered (Ok (Gen seed calls)) tells (start old) new (streams left before) after
  gen_answered new all =
      follows (Gen seed calls) tells old mid left rest before middle after first (map request_made (requests_of s seed calls)) all.replies new
      requests_given all.run all.written

  gen_in_part : (now : Outside) → MadeInPart tells mid now (under_way (requests_of s seed calls) calls 0) (AppendsPart middle after)
      → AnsweredInPart (Ok (Gen seed calls)) tells (start old) now (streams left before) after
  gen_in_part now part =
      follows_in_part (Gen seed calls) tells old mid left rest before middle after first (map request_made part.requests) part.replies part.last now
      begin part.run part.written part.still
    where
      begin : GivenBegin (Ok (Gen seed calls)) left (line_read first.line ∷ map request_made part.requests)
      begin =
          let are = requests_given in
          let whole = ap (map request_made) part.came ∙ map-append request_made part.requests part.more in
          (map request_made part.more, (are.0, are.1, are.2 ∙ ap (λ gs. line_read first.line ∷ gs) whole))

-- ---- the configuration

-- what a core takes from the first line
pub takes_of : (tells : Bool) (old new : Outside) (line : List ℕ) (reply : Reply) (core : CoreState) → Configures tells old line reply (serving core) new
    → TakesLine tells old line core new
takes_of tells old new line Configured core step = step
takes_of tells old new line (BadConfiguration field) core step = absurd step
takes_of tells old new line (BadStores store position) core step = absurd step
takes_of tells old new line (Opened session) core step = absurd step
takes_of tells old new line (Called reply) core step = absurd step
takes_of tells old new line (Plan reply) core step = absurd step
takes_of tells old new line (Node reply) core step = absurd step
takes_of tells old new line (Settled logs) core step = absurd step
takes_of tells old new line (Audited answer position) core step = absurd step
takes_of tells old new line (Refused refusal) core step = absurd step

-- ---- by the words

module _ (words : Words) (tells : Bool) (old mid now : Outside) (core : CoreState) (left rest before middle after : Option (List ℕ))
    (first : Begins words tells old (serves core mid) (streams left before) (streams rest middle)) where
  configured_of : (w : Words) (by : Begins w tells old (serves core mid) (streams left before) (streams rest middle)) → config_in by.line ≡ Ok core.settings
  configured_of w by = (takes_of tells old mid by.line by.replied.0 core by.replied.1.does).configured

  abbrev first_by : (w : Words) → words ≡ w → Begins w tells old (serves core mid) (streams left before) (streams rest middle)
  first_by w is = subst (λ v. Begins v tells old (serves core mid) (streams left before) (streams rest middle)) is first

  pub run_done : (sql : Option (List ℕ)) → words ≡ Run sql → (next : CoreState) → ServedAll tells (serves core mid) (serves next now) rest middle after
      → Done (Ok words) tells old now (streams left before) after
  run_done sql is next all = record {
    core = next;
    answered = subst (λ w. Answered (Ok w) tells (start old) (serves next now) (streams left before) after) (sym is)
        (run_answered sql tells old (serves core mid) left rest before middle after (first_by (Run sql) is) (serves next now) all);
  }

  pub run_done_in_part : (sql : Option (List ℕ)) → words ≡ Run sql → ServedInPart tells (serves core mid) now rest middle after
      → DoneInPart (Ok words) tells old now (streams left before) after
  run_done_in_part sql is part = inr (subst (λ w. AnsweredInPart (Ok w) tells (start old) now (streams left before) after) (sym is)
      (run_in_part sql tells old (serves core mid) left rest before middle after (first_by (Run sql) is) now part))

  pub gen_done : (seed calls : ℕ) → words ≡ Gen seed calls → (next : CoreState)
      → MadeAll tells (serves core mid) (serves next now) (under_way (requests_of core.settings seed calls) calls 0) (Appends middle after)
      → Done (Ok words) tells old now (streams left before) after
  gen_done seed calls is next all =
      let by = first_by (Gen seed calls) is in
      record {
        core = next;
        answered = subst (λ w. Answered (Ok w) tells (start old) (serves next now) (streams left before) after) (sym is)
            (gen_answered seed calls tells old (serves core mid) left rest before middle after by core.settings
            (configured_of (Gen seed calls) by) (serves next now) all);
      }

  pub gen_done_in_part : (seed calls : ℕ) → words ≡ Gen seed calls
      → MadeInPart tells (serves core mid) now (under_way (requests_of core.settings seed calls) calls 0) (AppendsPart middle after)
      → DoneInPart (Ok words) tells old now (streams left before) after
  gen_done_in_part seed calls is part =
      let by = first_by (Gen seed calls) is in
      inr (subst (λ w. AnsweredInPart (Ok w) tells (start old) now (streams left before) after) (sym is)
      (gen_in_part seed calls tells old (serves core mid) left rest before middle after by core.settings (configured_of (Gen seed calls) by) now part))
