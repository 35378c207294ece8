-- The data of an object or an edge: keys with values, and their spelling.
use Rattle.std.specs.Prelude.{ℕ, ◌<◌, ◌≤◌, ◌≡◌, ◌⊎◌, List, [], ◌∷◌, ◌++◌, length, map, filter, flat_map, fold, Option, None, String, string_bytes}
use Rattle.std.specs.List.{last_or}
use Rattle.std.specs.Str.{bytes_eq}
use Rattle.std.specs.declared.alloc.Global.{Global}
use Rattle.std.specs.Int.{to_be_bytes, w16}
use Rattle.std.specs.Cmp.Lexicographic.{slice_cmp}
use Rattle.std.specs.Ordering.{nat_cmp, match_ordering}
use Rattle.std.specs.declared.cmp.Ordering.TheVariants.{Less}
use Rattle.tao_base.specs.declared.data.DataRefusal.{DataRefusal}
use Rattle.tao_base.specs.declared.data.DataRefusal.TheVariants.{TooLarge, OutOfMemory}
use Rattle.tao_base.specs.declared.data.Pair.{Pair}

-- each key is below the next, in order of bytes
abbrev pub KeysAscend : List Pair → Type 0
KeysAscend [] = Unit {0}
KeysAscend (p ∷ []) = Unit {0}
KeysAscend (p ∷ q ∷ ps) = (slice_cmp nat_cmp p.key q.key ≡ Less) × KeysAscend (q ∷ ps)

-- a text with its length in two bytes before it
abbrev pub text_bytes : List ℕ → List ℕ
text_bytes text = to_be_bytes w16 (length text) ++ text

-- the spelling of a pair: its key, then its value, each with its length before it
abbrev pub pair_bytes : Pair → List ℕ
pair_bytes p = text_bytes p.key ++ text_bytes p.value

-- the spelling of data: the number of pairs in one byte, then each key with its value
abbrev pub data_bytes : List Pair → List ℕ
data_bytes pairs = length pairs ∷ flat_map pair_bytes pairs

-- at most 32 pairs, spelled in at most 4,096 bytes
pub record IsData (pairs : List Pair) : Type 0 where
  pub ascending : KeysAscend pairs
  pub few : length pairs ≤ 32
  pub small : length (data_bytes pairs) ≤ 4096

-- the pair of a key and a value that are given as strings
abbrev pub pair_of : String Global × String Global → Pair
pair_of texts = record { key = string_bytes texts.0; value = string_bytes texts.1 }

-- the pair at its place among pairs whose keys ascend, instead of one of its key
abbrev pub put_pair : Pair → List Pair → List Pair
put_pair p [] = p ∷ []
put_pair p (q ∷ qs) = match_ordering (slice_cmp nat_cmp p.key q.key) (p ∷ q ∷ qs) (p ∷ qs) (q ∷ put_pair p qs)

-- the pairs, each put at its place in turn
abbrev pub in_order : List Pair → List Pair
in_order pairs = fold (λ made p. put_pair p made) [] pairs

-- the value that the pairs give a key last
abbrev pub last_value : List ℕ → List Pair → Option (List ℕ)
last_value key pairs = last_or None (map (λ p. p.value) (filter (λ p. bytes_eq key p.key) pairs))

-- each key once, in order, with the value that the pairs give it last
pub record IsInKeyOrder (pairs made : List Pair) : Type 0 where
  pub ascending : KeysAscend made
  pub last_counts : (key : List ℕ) → last_value key made ≡ last_value key pairs

-- why pairs that are in order are no data
abbrev pub IsRefusedFor : List Pair → DataRefusal → Type 0
IsRefusedFor pairs (TooLarge bytes count) = (bytes ≡ length (data_bytes pairs)) × (count ≡ length pairs) × ((32 < count) ⊎ (4096 < bytes))
IsRefusedFor pairs OutOfMemory = Unit {0}
