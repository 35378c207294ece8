-- Which write or read a reply is to.
use Rattle.tao_base.specs.declared.query.Query.{Query}
use Rattle.tao_base.specs.declared.query.Query.TheVariants as query
use Rattle.words.specs.declared.ReadWord.{ReadWord}
use Rattle.words.specs.declared.ReadWord.TheVariants as read
use Rattle.words.specs.declared.WriteWord.{WriteWord}
use Rattle.words.specs.declared.WriteWord.TheVariants as word
use Rattle.replies.specs.declared.calls.WriteKind.{WriteKind}
use Rattle.replies.specs.declared.calls.WriteKind.TheVariants.{ObjAdd, ObjUpdate, ObjDelete, AssocAdd, AssocDelete, AssocChangeType}

-- the word of a write
abbrev pub kind_word : WriteKind → WriteWord
kind_word (ObjAdd id) = word.ObjAdd
kind_word ObjUpdate = word.ObjUpdate
kind_word ObjDelete = word.ObjDelete
kind_word AssocAdd = word.AssocAdd
kind_word AssocDelete = word.AssocDelete
kind_word AssocChangeType = word.AssocChangeType

-- the word of the read that asks a query
abbrev pub query_word : Query → ReadWord
query_word (query.ObjGet id) = read.ObjGet
query_word (query.AssocGet id1 atype ids high low) = read.AssocGet
query_word (query.AssocCount id1 atype) = read.AssocCount
query_word (query.AssocRange id1 atype pos limit) = read.AssocRange
query_word (query.AssocTimeRange id1 atype high low limit) = read.AssocTimeRange
