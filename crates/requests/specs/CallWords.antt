-- The words of calls, and the sessions that ask them.
use Rattle.std.specs.Prelude.{ℕ}
use Rattle.words.specs.declared.ReadWord.{ReadWord}
use Rattle.words.specs.declared.ReadWord.TheVariants as read
use Rattle.words.specs.declared.Word.{Word}
use Rattle.words.specs.declared.Word.TheVariants as word
use Rattle.words.specs.declared.WriteWord.{WriteWord}
use Rattle.words.specs.declared.WriteWord.TheVariants as write
use Rattle.requests.specs.declared.calls.Call.{Call}
use Rattle.requests.specs.declared.calls.Call.TheVariants.{Write, Read}
use Rattle.requests.specs.declared.calls.QueryText.{QueryText}
use Rattle.requests.specs.declared.calls.QueryText.TheVariants.{ObjGet, AssocGet, AssocCount, AssocRange, AssocTimeRange}
use Rattle.requests.specs.declared.calls.WriteText.{WriteText}
use Rattle.requests.specs.declared.calls.WriteText.TheVariants.{ObjAdd, ObjUpdate, ObjDelete, AssocAdd, AssocDelete, AssocChangeType}

-- the word of a write: which kind of write it is
abbrev pub write_word : WriteText → WriteWord
write_word (ObjAdd shard otype payload) = write.ObjAdd
write_word (ObjUpdate id payload) = write.ObjUpdate
write_word (ObjDelete id) = write.ObjDelete
write_word (AssocAdd edge time payload) = write.AssocAdd
write_word (AssocDelete edge) = write.AssocDelete
write_word (AssocChangeType edge newtype) = write.AssocChangeType

-- the word of a read: which kind of query it asks
abbrev pub read_word : QueryText → ReadWord
read_word (ObjGet id) = read.ObjGet
read_word (AssocGet list ids high low) = read.AssocGet
read_word (AssocCount list) = read.AssocCount
read_word (AssocRange list pos limit) = read.AssocRange
read_word (AssocTimeRange list high low limit) = read.AssocTimeRange

-- the word of a call
abbrev pub call_word : Call → Word
call_word (Write call) = word.Write (write_word call.write)
call_word (Read call) = word.Read (read_word call.query)

-- the session that a call names
abbrev pub asking_session : Call → ℕ
asking_session (Write write) = write.session
asking_session (Read read) = read.session
