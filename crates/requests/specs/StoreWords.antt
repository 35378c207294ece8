-- The words of stores.
use Rattle.words.specs.declared.Word.{Word}
use Rattle.words.specs.declared.Word.TheVariants as word
use Rattle.requests.specs.declared.stores.StoreRequest.{StoreRequest}
use Rattle.requests.specs.declared.stores.StoreRequest.TheVariants as request

-- the word of a request that is asked of stores
abbrev pub store_word : StoreRequest → Word
store_word (request.Stream region shard position) = word.Stream
store_word (request.Trim region shard position) = word.Trim
store_word (request.Repair shard) = word.Repair
store_word request.Settle = word.Settle
store_word (request.Audit read) = word.Audit
