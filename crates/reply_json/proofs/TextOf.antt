-- The text that is written for a value.
use Rattle.std.proofs.Common.{◌≡◌, ◌∙◌, ◌++◌, ℕ, List, [], ap, sym, subst}
use Rattle.json.specs.Print.{print}
use Rattle.json.specs.Written.{Written}
use Rattle.serde_json.proofs.Texts.{print-outline}
use Rattle.serde_json.specs.Data.{Data}
use Rattle.serde_json.specs.Written.{compact_text}
use Rattle.reply_json.proofs.OneLine.{text_free}
use Rattle.reply_json.specs.OneLine.{IsOneLine}
use Rattle.reply_json.specs.Writing.{tokens_of}

printed : (d : Data) → print (tokens_of d) ≡ compact_text d
unfolding tokens_of
printed d = print-outline d

-- what a writer has that began with no token, once the value is written
module _ (d : Data) (old new : Written) (bytes : List ℕ) (no_tokens : old.tokens ≡ [])
    (before : new.before ≡ old.before) (tokens : new.tokens ≡ old.tokens ++ tokens_of d) (items : bytes ≡ new.before ++ print new.tokens) where
  pub text_after : bytes ≡ old.before ++ compact_text d
  text_after =
      items ∙ ap (λ l. l ++ print new.tokens) before ∙ ap (λ ts. old.before ++ print ts) (tokens ∙ ap (λ ts. ts ++ tokens_of d) no_tokens)
      ∙ ap (λ l. old.before ++ l) (printed d)

-- what a writer has that began with nothing, once the value is written
module _ (d : Data) (old new : Written) (bytes : List ℕ)
    (nothing_before : old.before ≡ []) (no_tokens : old.tokens ≡ [])
    (before : new.before ≡ old.before) (tokens : new.tokens ≡ old.tokens ++ tokens_of d) (items : bytes ≡ new.before ++ print new.tokens) where
  pub text_of : bytes ≡ compact_text d
  text_of = items ∙ (rw (before, nothing_before, tokens, no_tokens) (printed d))

  pub one_line : IsOneLine bytes
  one_line = subst IsOneLine (sym text_of) (text_free d)
