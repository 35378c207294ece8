-- The words of links.
use Rattle.words.specs.declared.LinkWord.TheVariants.{Cut, Mend}
use Rattle.words.specs.declared.Word.{Word}
use Rattle.words.specs.declared.Word.TheVariants as word
use Rattle.requests.specs.declared.links.LinkRequest.{LinkRequest}
use Rattle.requests.specs.declared.links.LinkRequest.TheVariants as request

-- the word of a request that is asked of a link
abbrev pub link_word : LinkRequest → Word
link_word (request.Cut ends) = word.Link Cut
link_word (request.Mend ends) = word.Link Mend
