-- The first line: taken as the configuration, or refused.
use Rattle.std.proofs.Common.{◌≡◌, ◌≤◌, ◌+◌, ◌^◌, ℕ, nat_le, false, List, [], ◌∷◌, length, length-append, Option, None, Some, Result, Ok, Err, IfOk, IfSome, OnErr}
use Rattle.std.proofs.Common.{inl, inr, refl, sym, ap, subst, ◌∙◌, arith}
use Rattle.std.proofs.KnownBytes.{Appends-nil, Consumes-nil, prepend_known-nil}
use Rattle.std.proofs.lemmas.Bool.Decides.{nat_tests}
use Rattle.std.proofs.lemmas.List.{take_all}
use Rattle.std.specs.Io.KnownBytes.{Appends, prepend_known}
use Rattle.config_json.specs.Config.{config_in}
use Rattle.config_json.specs.declared.refusal.ConfigRefusal.TheVariants.{BadConfig}
use Rattle.first_line.specs.First.{EndsAlone, EndsAtFirst, GivesFirst, RefusesAlone, RefusesFirst, RefusesFor, RefusesInPart, RefusesSo, Takes, refusal_line}
use Rattle.first_line.specs.Interrupts.{AppendsPart}
use Rattle.json_fields.specs.Json.{json_of}
use Rattle.tao_io.specs.LineReader.{LineReading, most_ahead, to_come}
use Rattle.tao_io.specs.Lines.{CountsTaken, GivesLines, IsTooLong, NextLineIs}
use Rattle.tao_io.specs.declared.lines.NextLine.{NextLine}
use Rattle.tao_io.specs.declared.lines.NextLine.TheVariants.{Line, TooLong, End}
use Rattle.topology.specs.Config.{Settings}

-- settings without any name
abbrev pub no_settings : Settings
no_settings = record { schema = record { objects = []; assocs = [] }; shards = 0; regions = []; masters = []; log_max = 0; cache_items = 0 }

-- all is a front
pub whole_part : (before after : Option (List ℕ)) (bytes : List ℕ) → Appends before after bytes → AppendsPart before after bytes
whole_part before after bytes written = (length bytes, subst (Appends before after) (sym (take_all (length bytes) bytes (omega arith))) written)

-- ---- a line that is too long

pub no_json : (line : List ℕ) → IsTooLong line → json_of line ≡ None
no_json line long = let over : nat_le (length line) 1048576 ≡ false = grind (arith, nat_tests) in rw over refl

no_configuration : (line : List ℕ) → IsTooLong line → config_in line ≡ Err (BadConfig [])
no_configuration line long = rw (no_json line long) refl

-- ---- what came

module _ (left rest : Option (List ℕ)) where
  pub refuses_line : (Writes : List ℕ → Type 0) (line : List ℕ) → GivesLines left rest (line ∷ []) → RefusesFor line Writes → RefusesSo left rest Writes
  refuses_line Writes line read refused = inr (line, read, refused)

  module _ (next : NextLine) (line : List ℕ) (is : NextLineIs next left rest line) where
    pub line_of : next ≡ Line → GivesLines left rest (line ∷ [])
    line_of h = (subst (λ n. NextLineIs n left rest line) h is).1

    pub refuses_long : (Writes : List ℕ → Type 0) → next ≡ TooLong → Writes (refusal_line []) → RefusesSo left rest Writes
    refuses_long Writes h written =
        let long = subst (λ n. NextLineIs n left rest line) h is in
        refuses_line Writes long.0 long.2 ([], no_configuration long.0 long.1, written)

    pub refuses_none : (Writes : List ℕ → Type 0) → next ≡ End → Writes (refusal_line []) → RefusesSo left rest Writes
    refuses_none Writes h written = let end = subst (λ n. NextLineIs n left rest line) h is in inl ((end.1, end.0), written)

  module _ (before after : Option (List ℕ)) where
    ends_at : (line : List ℕ) → GivesLines left rest (line ∷ []) → RefusesInPart line before after → EndsAtFirst left rest before after
    ends_at line read (inl nothing) = inl nothing
    ends_at line read (inr refused) = inr (refuses_line (AppendsPart before after) line read refused)

    pub ends_at_of : {T E : Type 0} (result : Result T E) (line : List ℕ) → GivesLines left rest (line ∷ []) → OnErr result (RefusesInPart line before after)
        → OnErr result (EndsAtFirst left rest before after)
    ends_at_of (Ok x) line read part = tt
    ends_at_of (Err e) line read part = ends_at line read part

-- ---- by a reader that took nothing before

pub fresh : (reader : LineReading) (left : Option (List ℕ)) → reader.ahead ≡ [] → to_come reader left ≡ left
fresh reader left none = ap (λ ahead. prepend_known ahead left) none ∙ prepend_known-nil left

module _ (old new : LineReading) (left rest : Option (List ℕ)) (none : old.ahead ≡ []) (near : length new.ahead ≤ most_ahead) where
  pub given_alone : {T E : Type 0} (result : Result T E) (line : T → List ℕ) → IfOk result (λ x. GivesLines (to_come old left) (to_come new rest) (line x ∷ []))
      → IfOk result (λ x. GivesFirst left rest (line x))
  given_alone (Ok x) line read = (new.ahead, near, subst (λ known. GivesLines known (to_come new rest) (line x ∷ [])) (fresh old left none) read)
  given_alone (Err e) line read = tt

  pub ends_alone : {T E : Type 0} (result : Result T E) (before after : Option (List ℕ)) → OnErr result (EndsAtFirst (to_come old left) (to_come new rest) before after)
      → OnErr result (EndsAlone left rest before after)
  ends_alone (Ok x) before after ends = tt
  ends_alone (Err e) before after ends = (new.ahead, near, subst (λ known. EndsAtFirst known (to_come new rest) before after) (fresh old left none) ends)

  pub refuses_alone : (before after : Option (List ℕ)) → RefusesFirst (to_come old left) (to_come new rest) before after → RefusesAlone left rest before after
  refuses_alone before after refused = (new.ahead, near, subst (λ known. RefusesFirst known (to_come new rest) before after) (fresh old left none) refused)

-- nothing was read and written
pub ends_unread : {T E : Type 0} (result : Result T E) (left before : Option (List ℕ)) → OnErr result (EndsAlone left left before before)
ends_unread (Ok x) left before = tt
ends_unread (Err e) left before = ([], omega arith, inl (Appends-nil before))

-- ---- what was taken

pub takes_none : (left : Option (List ℕ)) → Takes left left
takes_none left = record { bytes = []; consumed = Consumes-nil left; few = omega arith }

pub takes_counted : (a b : Option (List ℕ)) (k n : ℕ) → k ≡ 0 → CountsTaken a b k n → n ≤ 2 ^ 40 → Takes a b
takes_counted a b k n none taken limited = let count = taken.count in record { bytes = taken.bytes; consumed = taken.consumed; few = omega arith }

pub long_input : (a b : Option (List ℕ)) (k n : ℕ) → k ≡ 0 → CountsTaken a b k n → n ≡ 2 ^ 40 → IfSome a (λ bytes. 2 ^ 40 ≤ length bytes)
long_input None b k n none taken is = tt
long_input (Some x) None k n none taken is = absurd taken.consumed
long_input (Some x) (Some y) k n none taken is =
    let size : length x ≡ length taken.bytes + length y = ap length taken.consumed ∙ length-append taken.bytes y in
    let count = taken.count in
    omega arith
