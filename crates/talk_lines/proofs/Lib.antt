mod BatchLemmas
mod TalkLemmas
mod TextLemmas
