-- The word of a request.
use Rattle.std.specs.Prelude.{Option, option_and_then, codes}
use Rattle.serde_json.specs.Data.{Data}
use Rattle.json_fields.specs.Fields.{text_at}
use Rattle.words.specs.Words.{word_of_text}
use Rattle.words.specs.declared.Word.{Word}

-- the word that is to be done
abbrev pub word_of : Data → Option Word
word_of d = option_and_then word_of_text (text_at (codes "do") d)
