-- The words of health.
use Rattle.words.specs.declared.HealthWord.TheVariants.{Down, Up, Suspect, Trust}
use Rattle.words.specs.declared.Word.{Word}
use Rattle.words.specs.declared.Word.TheVariants as word
use Rattle.requests.specs.declared.health.HealthRequest.{HealthRequest}
use Rattle.requests.specs.declared.health.HealthRequest.TheVariants as request

-- the word of a request that changes a node's health
abbrev pub health_word : HealthRequest → Word
health_word (request.Down node) = word.Health Down
health_word (request.Up node) = word.Health Up
health_word (request.Suspect leader) = word.Health Suspect
health_word (request.Trust leader) = word.Health Trust
