-- Data is read as it is spelled.
use Rattle.std.proofs.Common.{◌≡◌, ℕ, zero, suc, ◌+◌, ◌^◌, ◌<◌, ◌≤◌, true, List, [], ◌∷◌, ◌++◌, length, Ok, All, flat_map, refl, sym, ap, subst, ◌∙◌}
use Rattle.std.proofs.Common.{append-nil, append_assoc, arith}
use Rattle.std.specs.Cmp.Lexicographic.{slice_cmp}
use Rattle.std.specs.Int.{w8, w16, to_be_bytes}
use Rattle.std.specs.Ordering.{is_lt, nat_cmp}
use Rattle.std.specs.Str.{IsUtf8, is_utf8}
use Rattle.std.specs.declared.cmp.Ordering.{Ordering}
use Rattle.std.specs.declared.cmp.Ordering.TheVariants.{Less, Equal, Greater}
use Rattle.std.proofs.lemmas.Bool.{true≢false}
use Rattle.std.proofs.lemmas.List.{length-append}
use Rattle.std.proofs.lemmas.List.Elements.{All-head, All-nil, All-push, All-tail}
use Rattle.std.proofs.lemmas.Str.{IsUtf8-from_is_utf8, is_utf8-from_IsUtf8}
use Rattle.tao_base.specs.Data.{IsData, KeysAscend, data_bytes, pair_bytes, text_bytes}
use Rattle.tao_base.specs.declared.data.Pair.{Pair}
use Rattle.entry_codec.specs.Fields.{AreBytes, Rest, Field, ◌>>=◌, spelled_bytes, spelled_number, only, up_to}
use Rattle.entry_codec.specs.Reading.{lies_between, spelled_data, is_next_key, spelled_next_key, spelled_pair, spelled_pairs, spelled_text}
use Rattle.entry_codec.specs.Values.{DataFits, PairFits}
use Rattle.entry_codec.proofs.Codecs.{IsCodec, Reads, Takes, bytes_codec, give_again, give_reads, like_codec, only_codec, reads_like, then_again}
use Rattle.entry_codec.proofs.Codecs.{then_reads, up_to_codec}
use Rattle.entry_codec.proofs.Numbers.{between_is, byte_codec, is_between, number16}

-- ---- texts

-- texts behind their length, which end at the place or before
abbrev TextAllowed : ℕ → (List ℕ → Type 0) → ℕ → List ℕ → Type 0
TextAllowed end Extra at text = (length text < 2 ^ 16) × (at + length (text_bytes text) ≤ end) × Extra text

sized_codec : (end : ℕ) (body : ℕ → Field (List ℕ)) (Extra : List ℕ → Type 0)
    → ((len : ℕ) → IsCodec (body len) (λ text. text) (λ at text. ((length text ≡ len) × (at + length text ≤ end)) × Extra text))
    → IsCodec (up_to end (spelled_number w16) >>= body) text_bytes (TextAllowed end Extra)
sized_codec end body Extra codec = record {
  takes = λ rest. then_reads (up_to_codec end number16) rest body (λ text bytes. (bytes ≡ text_bytes text) × TextAllowed end Extra rest.at text)
      (λ len mid place fits ok. reads_like mid (body len) _ _
      (λ text bytes h. (
        ap (λ t. to_be_bytes w16 len ++ t) h.0 ∙ ap (λ n. to_be_bytes w16 n ++ text) (sym h.1.0.0),
        (omega (arith, h.1.0.0, ok.0), omega (arith, h.1.0.1, place), h.1.1),
      ))
      ((codec len).takes mid));
  again = λ rest text next ok t. then_again (up_to_codec end number16) rest body (length text) text text next (ok.0, omega (arith, ok.1)) t
      (λ mid place t. (codec (length text)).again mid text next ((refl, omega (arith, ok.1, place)), ok.2) t);
}

pub text_codec : (end : ℕ) → IsCodec (spelled_text end) text_bytes (TextAllowed end IsUtf8)
text_codec end = sized_codec end (λ len. only is_utf8 (up_to end (spelled_bytes len))) IsUtf8 (λ len.
    like_codec (λ text. text) (λ at text. ((length text ≡ len) × (at + length text ≤ end)) × IsUtf8 text)
    (only_codec is_utf8 (up_to_codec end (bytes_codec len)))
    (λ at text ok. (refl, (ok.0, IsUtf8-from_is_utf8 text ok.1))) (λ at text ok. (refl, (ok.0, is_utf8-from_IsUtf8 text ok.1))))

pub next_key_codec : (end : ℕ) (earlier : List Pair)
    → IsCodec (spelled_next_key end earlier) text_bytes (TextAllowed end (λ key. IsUtf8 key × (is_next_key earlier key ≡ true)))
next_key_codec end earlier = sized_codec end (λ len. only (is_next_key earlier) (only is_utf8 (up_to end (spelled_bytes len))))
    (λ key. IsUtf8 key × (is_next_key earlier key ≡ true)) (λ len.
    like_codec (λ key. key) (λ at key. ((length key ≡ len) × (at + length key ≤ end)) × (IsUtf8 key × (is_next_key earlier key ≡ true)))
    (only_codec (is_next_key earlier) (only_codec is_utf8 (up_to_codec end (bytes_codec len))))
    (λ at key ok. (refl, (ok.0.0, (IsUtf8-from_is_utf8 key ok.0.1, ok.1)))) (λ at key ok. (refl, ((ok.0, is_utf8-from_IsUtf8 key ok.1.0), ok.1.1))))

-- ---- pairs

pub record PairAllowed (end : ℕ) (earlier : List Pair) (at : ℕ) (p : Pair) : Type 0 where
  pub ends : at + length (pair_bytes p) ≤ end
  pub key : length p.key < 2 ^ 16
  pub value : length p.value < 2 ^ 16
  pub above : is_next_key earlier p.key ≡ true
  pub texts : PairFits p

pub pair_codec : (end : ℕ) (earlier : List Pair) → IsCodec (spelled_pair end earlier) pair_bytes (PairAllowed end earlier)
pair_codec end earlier = record {
  takes = λ rest. then_reads (next_key_codec end earlier) rest _ (λ p text. (text ≡ pair_bytes p) × PairAllowed end earlier rest.at p) (λ key mid place fits ok.
      then_reads (text_codec end) mid _ _ (λ value last place2 fits2 ok2. give_reads last (record { key = key; value = value }) _ (
        ap (λ t. text_bytes key ++ t) (append-nil (text_bytes value)),
        record {
          ends = omega (arith, length-append (text_bytes key) (text_bytes value), place, ok2.1);
          key = ok.0;
          value = ok2.0;
          above = ok.2.1;
          texts = (ok.2.0, ok2.2);
        },
      )));
  again = λ rest p next ok t. then_again (next_key_codec end earlier) rest _ p.key (text_bytes p.value) p next
      (ok.key, omega (arith, ok.ends, length-append (text_bytes p.key) (text_bytes p.value)), (ok.texts.0, ok.above)) t
      (λ mid place t. then_again (text_codec end) mid _ p.value [] p next
      (ok.value, omega (arith, ok.ends, place, length-append (text_bytes p.key) (text_bytes p.value)), ok.texts.1)
      (subst (λ text. Takes mid text next) (sym (append-nil (text_bytes p.value))) t)
      (λ last place t. give_again last p next t));
}

is_less : (o : Ordering) → is_lt o ≡ true → o ≡ Less
is_less Less h = refl
is_less Equal h = absurd (true≢false (sym h))
is_less Greater h = absurd (true≢false (sym h))

ascending_push : (ps : List Pair) (p : Pair) → KeysAscend ps → is_next_key ps p.key ≡ true → KeysAscend (ps ++ p ∷ [])
ascending_push [] p up above = tt
ascending_push (q ∷ []) p up above = (is_less (slice_cmp nat_cmp q.key p.key) above, tt)
ascending_push (q ∷ r ∷ ps) p up above = (up.0, ascending_push (r ∷ ps) p up.1 above)

next_from_ascending : (ps : List Pair) (p : Pair) (qs : List Pair) → KeysAscend (ps ++ p ∷ qs) → is_next_key ps p.key ≡ true
next_from_ascending [] p qs up = refl
next_from_ascending (q ∷ []) p qs up = ap is_lt up.0
next_from_ascending (q ∷ r ∷ ps) p qs up = next_from_ascending (r ∷ ps) p qs up.1

-- what is read after the earlier pairs
pub record PairsRead (end : ℕ) (earlier : List Pair) (n at : ℕ) (all : List Pair) (text : List ℕ) : Type 0 where
  pub later : List Pair
  pub joined : all ≡ earlier ++ later
  pub count : length later ≡ n
  pub spelled : text ≡ flat_map pair_bytes later
  pub ends : at + length text ≤ end
  pub ascending : KeysAscend all
  pub texts : All PairFits all

pub pairs_read : (end n : ℕ) (earlier : List Pair) (rest : Rest) → rest.at ≤ end → KeysAscend earlier → All PairFits earlier
    → Reads rest (spelled_pairs end n earlier) (PairsRead end earlier n rest.at)
pairs_read end zero earlier rest within up texts = give_reads rest earlier _ (record {
  later = [];
  joined = sym (append-nil earlier);
  count = refl;
  spelled = refl;
  ends = omega (arith, within);
  ascending = up;
  texts = texts;
})
pairs_read end (suc n) earlier rest within up texts = then_reads (pair_codec end earlier) rest _ _ (λ p mid place fits ok.
    reads_like mid (spelled_pairs end n (earlier ++ p ∷ [])) _ _ (λ all text h. record {
      later = p ∷ h.later;
      joined = h.joined ∙ append_assoc earlier (p ∷ []) h.later;
      count = ap suc h.count;
      spelled = ap (λ t. pair_bytes p ++ t) h.spelled;
      ends = omega (arith, h.ends, place, length-append (pair_bytes p) text);
      ascending = h.ascending;
      texts = h.texts;
    }) (pairs_read end n (earlier ++ p ∷ []) mid (omega (arith, ok.ends, place)) (ascending_push earlier p up ok.above)
    (All-push PairFits earlier p texts ok.texts)))

texts_are_short : (end at : ℕ) (p : Pair) (more : List ℕ) → end ≤ at + 4096 → at + length (pair_bytes p ++ more) ≤ end → (at + length (pair_bytes p) ≤ end)
    × (length p.key < 2 ^ 16) × (length p.value < 2 ^ 16)
texts_are_short end at p more limit ends =
    let size = length-append (pair_bytes p) more in
    let parts = length-append (text_bytes p.key) (text_bytes p.value) in
    (omega (arith, size, ends), omega (arith, size, parts, ends, limit), omega (arith, size, parts, ends, limit))

pub pairs_again : (end : ℕ) (later earlier : List Pair) (rest : Rest) (all : List Pair) (next : Rest) → all ≡ earlier ++ later → KeysAscend all
    → All PairFits later → end ≤ rest.at + 4096
    → rest.at + length (flat_map pair_bytes later) ≤ end → Takes rest (flat_map pair_bytes later) next
    → spelled_pairs end (length later) earlier rest ≡ Ok (all, next)
pairs_again end [] earlier rest all next joined up texts limit ends t = rw (joined ∙ append-nil earlier) (give_again rest earlier next t)
pairs_again end (p ∷ later) earlier rest all next joined up texts limit ends t =
    let short = texts_are_short end rest.at p (flat_map pair_bytes later) limit ends in
    let ok : PairAllowed end earlier rest.at p = record {
      ends = short.0;
      key = short.1;
      value = short.2;
      above = next_from_ascending earlier p later (subst KeysAscend joined up);
      texts = All-head PairFits p later texts;
    } in
    then_again (pair_codec end earlier) rest _ p (flat_map pair_bytes later) all next ok t (λ mid place t.
    pairs_again end later (earlier ++ p ∷ []) mid all next (joined ∙ sym (append_assoc earlier (p ∷ []) later)) up (All-tail PairFits p later texts)
    (omega (arith, place, limit)) (omega (arith, place, ends, length-append (pair_bytes p) (flat_map pair_bytes later))) t)

-- the pairs that are read after their number are data
pub pairs_are_data : (rest mid next : Rest) (start count : ℕ) (pairs : List Pair) → AreBytes rest.bytes → start ≡ rest.at
    → spelled_number w8 rest ≡ Ok (count, mid) → count ≤ 32
    → spelled_pairs (start + 4096) count [] mid ≡ Ok (pairs, next) → IsData pairs
pairs_are_data rest mid next start count pairs fits place number few read =
    let first = byte_codec.takes rest count mid fits number in
    let one : length first.0 ≡ 1 = ap length first.3.0 in
    let end : start + 1 ≡ mid.at = omega (arith, first.1.place, one, place) in
    let more = pairs_read (start + 4096) count [] mid (omega (arith, end)) tt (All-nil PairFits) pairs next first.2 read in
    let same : length pairs ≡ count = ap length more.3.joined ∙ more.3.count in
    let spelled : length (flat_map pair_bytes pairs) ≡ length more.0 = ap length (ap (flat_map pair_bytes) more.3.joined ∙ sym more.3.spelled) in
    record { ascending = more.3.ascending; few = omega (arith, same, few); small = omega (arith, more.3.ends, end, spelled) }

-- ---- data

pub data_codec : IsCodec spelled_data data_bytes (λ at pairs. DataFits pairs)
data_codec = record {
  takes = λ rest. then_reads (only_codec (lies_between 0 32) byte_codec) rest (λ count. spelled_pairs (rest.at + 4096) count [])
      (λ pairs text. (text ≡ data_bytes pairs) × DataFits pairs) (λ count mid place fits ok.
      reads_like mid (spelled_pairs (rest.at + 4096) count []) _ _ (λ pairs text h.
      let same : length pairs ≡ count = ap length h.joined ∙ h.count in
      let spelled : count ∷ text ≡ data_bytes pairs = rw (h.spelled, ← h.joined, ← same) refl in (
        spelled,
        (
          record {
            ascending = h.ascending;
            few = omega (arith, same, between_is 0 32 count ok.1);
            small = omega (arith, h.ends, place, ap length spelled);
          },
          h.texts,
        ),
      ))
      (pairs_read (rest.at + 4096) count [] mid (omega (arith, place)) tt (All-nil PairFits)));
  again = λ rest pairs next ok t. then_again (only_codec (lies_between 0 32) byte_codec) rest (λ count. spelled_pairs (rest.at + 4096) count []) (length pairs)
      (flat_map pair_bytes pairs) pairs next
      (omega (arith, ok.0.few), is_between 0 32 (length pairs) (omega arith) ok.0.few) t
      (λ mid place t. pairs_again (rest.at + 4096) pairs [] mid pairs next refl ok.0.ascending ok.1 (omega (arith, place))
      (omega (arith, place, ok.0.small)) t);
}
