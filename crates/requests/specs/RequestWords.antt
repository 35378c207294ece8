-- The word of a request.
use Rattle.words.specs.declared.Word.{Word}
use Rattle.words.specs.declared.Word.TheVariants as word
use Rattle.requests.specs.declared.request.Request.{Request}
use Rattle.requests.specs.declared.request.Request.TheVariants as request
use Rattle.requests.specs.CacheWords.{cache_word}
use Rattle.requests.specs.CallWords.{call_word}
use Rattle.requests.specs.HealthWords.{health_word}
use Rattle.requests.specs.LinkWords.{link_word}
use Rattle.requests.specs.PlanWords.{plan_word}
use Rattle.requests.specs.StoreWords.{store_word}

-- what the request's `do` says
abbrev pub request_word : Request → Word
request_word (request.Open opening) = word.Open
request_word (request.Call call) = call_word call
request_word (request.Plan asked) = plan_word asked
request_word (request.Cache asked) = cache_word asked
request_word (request.Store asked) = store_word asked
request_word (request.Health asked) = health_word asked
request_word (request.Link asked) = link_word asked
