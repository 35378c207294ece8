-- The words of the store's lines.
use Rattle.std.specs.Prelude.{ℕ, List, [], ◌∷◌, Option, find, codes, bytes_eq}
use Rattle.words.specs.declared.DeliveryWord.TheVariants.{Deliver, Again}
use Rattle.words.specs.declared.HealthWord.TheVariants.{Down, Up, Suspect, Trust}
use Rattle.words.specs.declared.LinkWord.TheVariants.{Cut, Mend}
use Rattle.words.specs.declared.PlanWord.TheVariants.{Hold, Advance}
use Rattle.words.specs.declared.ReadWord.TheVariants.{ObjGet, AssocGet, AssocCount, AssocRange, AssocTimeRange}
use Rattle.words.specs.declared.WriteWord.TheVariants.{ObjAdd, ObjUpdate, ObjDelete, AssocAdd, AssocDelete, AssocChangeType}
use Rattle.words.specs.declared.Word.{Word}
use Rattle.words.specs.declared.Word.TheVariants.{Open, Write, Read, Plan, Delivery, Drop, Refill, Stream, Trim, Repair, Evict, Show, Inbox, Health}
use Rattle.words.specs.declared.Word.TheVariants.{Link, Settle, Audit}

-- each word as it stands in a line
abbrev pub word_text : Word → List ℕ
word_text Open = codes "open"
word_text (Write ObjAdd) = codes "obj_add"
word_text (Write ObjUpdate) = codes "obj_update"
word_text (Write ObjDelete) = codes "obj_delete"
word_text (Write AssocAdd) = codes "assoc_add"
word_text (Write AssocDelete) = codes "assoc_delete"
word_text (Write AssocChangeType) = codes "assoc_change_type"
word_text (Read ObjGet) = codes "obj_get"
word_text (Read AssocGet) = codes "assoc_get"
word_text (Read AssocCount) = codes "assoc_count"
word_text (Read AssocRange) = codes "assoc_range"
word_text (Read AssocTimeRange) = codes "assoc_time_range"
word_text (Plan Hold) = codes "hold"
word_text (Plan Advance) = codes "advance"
word_text (Delivery Deliver) = codes "deliver"
word_text (Delivery Again) = codes "again"
word_text Drop = codes "drop"
word_text Refill = codes "refill"
word_text Stream = codes "stream"
word_text Trim = codes "trim"
word_text Repair = codes "repair"
word_text Evict = codes "evict"
word_text Show = codes "show"
word_text Inbox = codes "inbox"
word_text (Health Down) = codes "down"
word_text (Health Up) = codes "up"
word_text (Health Suspect) = codes "suspect"
word_text (Health Trust) = codes "trust"
word_text (Link Cut) = codes "cut"
word_text (Link Mend) = codes "mend"
word_text Settle = codes "settle"
word_text Audit = codes "audit"

-- all words
abbrev pub all_words : List Word
all_words = Read ObjGet ∷ Read AssocGet ∷ Read AssocCount ∷ Read AssocRange ∷ Read AssocTimeRange
    ∷ Open ∷ Write ObjAdd ∷ Write ObjUpdate ∷ Write ObjDelete ∷ Write AssocAdd ∷ Write AssocDelete ∷ Write AssocChangeType
    ∷ Plan Hold ∷ Plan Advance ∷ Delivery Deliver ∷ Delivery Again ∷ Drop ∷ Refill ∷ Stream ∷ Trim ∷ Repair ∷ Evict ∷ Show ∷ Inbox
    ∷ Health Down ∷ Health Up ∷ Health Suspect ∷ Health Trust ∷ Link Cut ∷ Link Mend ∷ Settle ∷ Audit ∷ []

-- the word that this text spells; None where it is no word
abbrev pub word_of_text : List ℕ → Option Word
word_of_text text = find (λ word. bytes_eq (word_text word) text) all_words
