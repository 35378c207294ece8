-- A line whose word is `batch` is no request.
use Rattle.std.proofs.Common.{◌≡◌, ℕ, true, false, List, Option, Some, None, option_and_then, Result, Ok, Err, codes, inl, inr, bytes_eq, refl, sym, ap, subst, ◌∙◌}
use Rattle.std.proofs.lemmas.Bool.{cases_Bool}
use Rattle.std.proofs.lemmas.Bool.Decides.{not_from_Decides}
use Rattle.std.proofs.lemmas.Slice.Eq.{bytes_eq-Decides}
use Rattle.serde_json.specs.Data.{Data, null, boolean, number, string, array, object}
use Rattle.json_fields.specs.Fields.{text_at}
use Rattle.json_fields.specs.Json.{json_of}
use Rattle.outcomes.specs.Results.{◌>>=◌, Gives, needed}
use Rattle.request_json.specs.Refusal.{unless_memory}
use Rattle.request_json.specs.Requests.{request_by, request_in}
use Rattle.request_json.specs.declared.refusal.LineRefusal.{LineRefusal}
use Rattle.request_json.specs.declared.refusal.LineRefusal.TheVariants.{BadLine, OutOfMemory, TooLarge}
use Rattle.requests.specs.declared.request.Request.{Request}
use Rattle.talk_lines.specs.Talk.{asks_batch, batch_by, batch_in, is_batch_line, is_batch_word, names_word, talk_in}
use Rattle.talk_lines.specs.declared.line.TalkLine.{TalkLine}
use Rattle.talk_lines.specs.declared.line.TalkLine.TheVariants.{One}

-- the text of a batch's word
word_is : (text : List ℕ) → is_batch_word (Some text) ≡ true → text ≡ codes "batch"
word_is text is = (bytes_eq-Decides text (codes "batch")).0 is

no_request_by : (d : Data) → asks_batch d ≡ true → request_by d ≡ Err (BadLine (codes "do"))
no_request_by null is = absurd (cc is)
no_request_by (boolean b) is = absurd (cc is)
no_request_by (number n) is = absurd (cc is)
no_request_by (string s) is = absurd (cc is)
no_request_by (array ds) is = absurd (cc is)
no_request_by (object ms) is = by (text_at (codes "do") (object ms)) refl is
  where
    by : (said : Option (List ℕ)) → text_at (codes "do") (object ms) ≡ said → is_batch_word said ≡ true
        → request_by (object ms) ≡ Err (BadLine (codes "do"))
    by None e h = absurd (cc h)
    by (Some text) e h = let same = word_is text h in rw (e, same) refl

no_request : (found : Option Data) → is_batch_word (option_and_then (text_at (codes "do")) found) ≡ true
    → (needed (BadLine (codes "")) found >>= request_by) ≡ Err (BadLine (codes "do"))
no_request None is = absurd (cc is)
no_request (Some d) is = no_request_by d is

no_batch : (found : Option Data) → is_batch_word (option_and_then (text_at (codes "do")) found) ≡ false
    → (needed (BadLine (codes "do")) found >>= batch_by) ≡ Err (BadLine (codes "do"))
no_batch None is = refl
no_batch (Some d) is = rw is refl

-- a line that is a request is no batch
pub talk_of_request : (line : List ℕ) (request : Request) → request_in line ≡ Ok request → talk_in line ≡ Ok (One request)
talk_of_request line request is = elim (cases_Bool (is_batch_line line)) [
  | inl e ↦ absurd (cc (no_request (json_of line) e, is))
  | inr e ↦ rw (e, is) refl
]

-- a line that is refused as a request for another reason than its word is refused so
pub other_kept : (line : List ℕ) (refused : LineRefusal) → Gives {A = Request} unless_memory (Err refused) (request_in line) → names_word refused ≡ false
    → Gives {A = TalkLine} unless_memory (Err refused) (talk_in line)
other_kept line OutOfMemory given other = tt
other_kept line (TooLarge bytes pairs) given other = elim (cases_Bool (is_batch_line line)) [
  | inl e ↦ absurd (cc (no_request (json_of line) e, given))
  | inr e ↦ rw (e, given) refl
]
other_kept line (BadLine field) given other = elim (cases_Bool (is_batch_line line)) [
  | inl e ↦
      let same : field ≡ codes "do" = cc (no_request (json_of line) e, given) in
      absurd (not_from_Decides (bytes_eq field (codes "do")) (bytes_eq-Decides field (codes "do")) other same)
  | inr e ↦ rw (e, given) refl
]

-- a line that is refused as a request for its word is a batch or is refused for its word
talk_is_batch : (line : List ℕ) → request_in line ≡ Err (BadLine (codes "do")) → talk_in line ≡ batch_in line
talk_is_batch line is = elim (cases_Bool (is_batch_line line)) [
  | inl e ↦ rw e refl
  | inr e ↦ let none : batch_in line ≡ Err (BadLine (codes "do")) = no_batch (json_of line) e in rw (e, is) (sym none)
]

pub talk_read : (line : List ℕ) (refused : LineRefusal) (result : Result TalkLine LineRefusal)
    → Gives {A = Request} unless_memory (Err refused) (request_in line) → names_word refused ≡ true
    → Gives unless_memory result (batch_in line) → Gives unless_memory result (talk_in line)
talk_read line OutOfMemory result given word gives = absurd (cc word)
talk_read line (TooLarge bytes pairs) result given word gives = absurd (cc word)
talk_read line (BadLine field) result given word gives =
    let same : field ≡ codes "do" = (bytes_eq-Decides field (codes "do")).0 word in
    let is : request_in line ≡ Err (BadLine (codes "do")) = given ∙ ap (λ f. Err (BadLine f)) same in
    subst (Gives unless_memory result) (sym (talk_is_batch line is)) gives
