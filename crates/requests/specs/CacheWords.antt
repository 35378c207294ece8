-- The words of cache nodes.
use Rattle.words.specs.declared.DeliveryWord.TheVariants.{Deliver, Again}
use Rattle.words.specs.declared.Word.{Word}
use Rattle.words.specs.declared.Word.TheVariants as word
use Rattle.requests.specs.declared.caches.CacheRequest.{CacheRequest}
use Rattle.requests.specs.declared.caches.CacheRequest.TheVariants as request

-- the word of a request that is asked of a cache node
abbrev pub cache_word : CacheRequest → Word
cache_word (request.Deliver message) = word.Delivery Deliver
cache_word (request.Again message) = word.Delivery Again
cache_word (request.Drop message) = word.Drop
cache_word (request.Refill node) = word.Refill
cache_word (request.Evict node key) = word.Evict
cache_word (request.Show node key) = word.Show
cache_word (request.Inbox node) = word.Inbox
