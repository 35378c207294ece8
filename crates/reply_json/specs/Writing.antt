-- Writing a value.
use Rattle.std.specs.Prelude.{◌≡◌, ◌++◌, List, OnOk, Result}
use Rattle.json.specs.Token.{Token}
use Rattle.json.specs.Tree.{json_tokens}
use Rattle.json.specs.Written.{Written}
use Rattle.serde_json.specs.Data.{Data}
use Rattle.serde_json.specs.Written.{outline}

-- the tokens of a value
unfoldable pub tokens_of : Data → List Token
tokens_of d = json_tokens (outline d)

-- the value is written after what stands there, unless there was no memory
pub record Puts {E : Type 0} (r : Result (Unit {0}) E) (old new : Written) (d : Data) : Type 0 where
  pub before : new.before ≡ old.before
  pub tokens : OnOk r (new.tokens ≡ old.tokens ++ tokens_of d)
