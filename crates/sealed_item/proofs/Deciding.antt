-- What is read off an exact content is what its log answers.
use Rattle.std.proofs.Common.{◌≡◌, ℕ, ◌≤◌, true, false, List, Some, None, length, take, refl, sym, ◌∙◌, ap, subst, arith}
use Rattle.std.proofs.lemmas.Bool.{ltb-true}
use Rattle.std.proofs.lemmas.List.{length-take, take_all}
use Rattle.tao_base.specs.EdgeTypes.{EdgeTypes}
use Rattle.tao_base.specs.declared.edge.Edge.{Edge}
use Rattle.tao_base.specs.declared.entry.Entry.{Entry}
use Rattle.tao_base.specs.declared.id.AType.{AType}
use Rattle.tao_base.specs.declared.id.Id.{Id}
use Rattle.tao_base.specs.declared.id.Key.{Key}
use Rattle.tao_base.specs.declared.id.Key.TheVariants.{Obj, List as Assocs}
use Rattle.tao_base.specs.declared.query.Answer.TheVariants.{Object as ObjectAnswer}
use Rattle.tao_base.specs.declared.query.Query.{Query}
use Rattle.tao_base.specs.declared.query.Query.TheVariants.{ObjGet, AssocGet, AssocCount, AssocRange, AssocTimeRange}
use Rattle.tao_base.specs.Queries.{query_key}
use Rattle.graph_model.proofs.Beginnings.{beginning_of}
use Rattle.graph_model.proofs.Decided.{decides_rightly}
use Rattle.graph_model.proofs.Lists.{in_order_list}
use Rattle.graph_model.specs.Answers.{list_answer}
use Rattle.graph_model.specs.Edges.{edge_list}
use Rattle.graph_model.specs.Log.{changes_of}
use Rattle.graph_model.specs.Prefixes.{IsExact, IsPrefixOf, decides}
use Rattle.list_prefix.proofs.Exact.{front_is_exact}
use Rattle.list_prefix.proofs.Longer.{decides_more}
use Rattle.list_prefix.specs.Fronts.{IsLeftOpen, IsShortestFront}
use Rattle.list_prefix.specs.ListPrefix.{CanBegin, ListPrefix}
use Rattle.sealed_item.specs.Decided.{IsContentFront, IsExactAnswer, IsWithinBound, content_answer, content_decides, is_longer_content, query_bound}
use Rattle.sealed_item.specs.DecidedLaws.{ContentsAnswer, FrontsDecide, LongerContentsAnswer}
use Rattle.sealed_item.specs.Fills.{IsExactContent}
use Rattle.sealed_item.specs.declared.content.Content.{Content}
use Rattle.sealed_item.specs.declared.content.Content.TheVariants.{Object as ObjectIs, List as ListIs}

-- first edges that decide a query answer as each list of which they are exact
list_gives : (bound : ℕ) (query : Query) (log : List Entry) (id1 : Id) (atype : AType) (v : ℕ) (prefix : ListPrefix)
    → IsExact log (Assocs id1 atype) v (λ part. IsPrefixOf prefix.edges prefix.total (edge_list part id1 atype))
    → decides bound prefix.edges prefix.total query ≡ true
    → IsExact log (Assocs id1 atype) v (λ part. list_answer bound prefix.edges prefix.total query ≡ list_answer bound (edge_list part id1 atype)
    (length (edge_list part id1 atype)) query)
list_gives bound query log id1 atype v prefix exact decided = record {
  reached = exact.reached;
  gives = λ n e. decides_rightly bound prefix.edges prefix.total query decided (edge_list (take n log) id1 atype) (exact.gives n e)
      (in_order_list (changes_of (take n log) (Assocs id1 atype)));
}

pub content_answers : (types : EdgeTypes) (log : List Entry) (query : Query) (v : ℕ) (content : Content) → IsExactContent log (query_key query) v content
    → content_decides types content query ≡ true → IsExactAnswer types log query (content_answer types content query) v
content_answers types log (ObjGet id) v (ObjectIs found) exact decided =
    record { reached = exact.reached; gives = λ n e. ap ObjectAnswer (sym (exact.gives n e)) }
content_answers types log (ObjGet id) v (ListIs prefix) exact decided = absurd exact
content_answers types log (AssocGet id1 atype ids high low) v (ObjectIs found) exact decided = absurd exact
content_answers types log (AssocGet id1 atype ids high low) v (ListIs prefix) exact decided =
    list_gives (types.bound atype) (AssocGet id1 atype ids high low) log id1 atype v prefix exact decided
content_answers types log (AssocCount id1 atype) v (ObjectIs found) exact decided = absurd exact
content_answers types log (AssocCount id1 atype) v (ListIs prefix) exact decided =
    list_gives (types.bound atype) (AssocCount id1 atype) log id1 atype v prefix exact decided
content_answers types log (AssocRange id1 atype pos limit) v (ObjectIs found) exact decided = absurd exact
content_answers types log (AssocRange id1 atype pos limit) v (ListIs prefix) exact decided =
    list_gives (types.bound atype) (AssocRange id1 atype pos limit) log id1 atype v prefix exact decided
content_answers types log (AssocTimeRange id1 atype high low limit) v (ObjectIs found) exact decided = absurd exact
content_answers types log (AssocTimeRange id1 atype high low limit) v (ListIs prefix) exact decided =
    list_gives (types.bound atype) (AssocTimeRange id1 atype high low limit) log id1 atype v prefix exact decided

pub contents_answer : ContentsAnswer
contents_answer = record { answers = content_answers }

-- a longer front of a list decides what a shorter one does
longer_edges : (bound : ℕ) (query : Query) (whole : List Edge) (short long : ListPrefix) → CanBegin whole (length whole)
    → IsPrefixOf short.edges short.total whole
    → IsPrefixOf long.edges long.total whole → length short.edges ≤ length long.edges → decides bound short.edges short.total query ≡ true
    → decides bound long.edges long.total query ≡ true
longer_edges bound query whole short long begins a b lt h =
    let shorter : decides bound (take (length short.edges) whole) (length whole) query ≡ true =
    subst (λ es. decides bound es (length whole) query ≡ true) a.begins (subst (λ n. decides bound short.edges n query ≡ true) a.length_is h) in
    let longer = decides_more bound (length whole) query whole begins (length short.edges) (length long.edges) (omega arith) shorter in
    subst (λ n. decides bound long.edges n query ≡ true) (sym b.length_is) (subst (λ es. decides bound es (length whole) query ≡ true) (sym b.begins) longer)

longer_lists : (bound : ℕ) (query : Query) (log : List Entry) (id1 : Id) (atype : AType) (v : ℕ) (short long : ListPrefix)
    → IsExact log (Assocs id1 atype) v (λ part. IsPrefixOf short.edges short.total (edge_list part id1 atype))
    → IsExact log (Assocs id1 atype) v (λ part. IsPrefixOf long.edges long.total (edge_list part id1 atype))
    → length short.edges ≤ length long.edges → decides bound short.edges short.total query ≡ true → decides bound long.edges long.total query ≡ true
longer_lists bound query log id1 atype v short long a b lt h =
    let at = beginning_of log (Assocs id1 atype) v a.reached in
    let whole : List Edge = edge_list (take at.0 log) id1 atype in
    longer_edges bound query whole short long (record { in_order = in_order_list (changes_of (take at.0 log) (Assocs id1 atype)); within = omega arith })
    (a.gives at.0 at.2) (b.gives at.0 at.2) lt h

longer_by_key : (types : EdgeTypes) (log : List Entry) (query : Query) (key : Key) (v : ℕ) (short long : Content) → IsExactContent log key v short
    → IsExactContent log key v long
    → is_longer_content long short ≡ true → content_decides types short query ≡ true → content_decides types long query ≡ true
longer_by_key types log query key v short (ObjectIs found) a b longer h = absurd (cc)
longer_by_key types log query key v (ObjectIs found) (ListIs long) a b longer h = absurd (cc)
longer_by_key types log query (Obj id) v (ListIs short) (ListIs long) a b longer h = absurd a
longer_by_key types log query (Assocs id1 atype) v (ListIs short) (ListIs long) a b longer h =
    longer_lists (query_bound types query) query log id1 atype v short long a b
    (let lt = ltb-true (length short.edges) (length long.edges) longer in omega arith) h

pub longer_contents_answer : LongerContentsAnswer
longer_contents_answer = record {
  decides = λ types log query at short long a b longer h. longer_by_key types log query (query_key query) at short long a b longer h;
  answers = λ types log query at one other a b h k.
      let of_one = content_answers types log query at one a h in
      let of_other = content_answers types log query at other b k in
      let n = beginning_of log (query_key query) at of_one.reached in
      of_one.gives n.0 n.2 ∙ sym (of_other.gives n.0 n.2);
}

front_exact : (types : EdgeTypes) (query : Query) (content front : Content) (log : List Entry) (key : Key) (v : ℕ)
    → IsContentFront types content query (Some front)
    → IsExactContent log key v content → IsExactContent log key v front
front_exact types query (ObjectIs found) (ObjectIs front) log (Obj id) v is exact = subst (λ o. IsExactContent log (Obj id) v (ObjectIs o)) (sym is.1) exact
front_exact types query (ObjectIs found) (ObjectIs front) log (Assocs id1 atype) v is exact = absurd exact
front_exact types query (ObjectIs found) (ListIs front) log key v is exact = absurd is
front_exact types query (ListIs prefix) (ObjectIs front) log key v is exact = absurd is
front_exact types query (ListIs prefix) (ListIs front) log (Obj id) v is exact = absurd exact
front_exact types query (ListIs prefix) (ListIs front) log (Assocs id1 atype) v is exact =
    subst (λ p. IsExactContent log (Assocs id1 atype) v (ListIs p)) (sym is.is) (front_is_exact log id1 atype v is.count prefix.edges prefix.total exact)

front_decides : (types : EdgeTypes) (query : Query) (content front : Content) → IsContentFront types content query (Some front)
    → content_decides types front query ≡ true
front_decides types query (ObjectIs found) (ObjectIs front) is = is.0
front_decides types query (ObjectIs found) (ListIs front) is = absurd is
front_decides types query (ListIs prefix) (ObjectIs front) is = absurd is
front_decides types query (ListIs prefix) (ListIs front) is = subst (λ p. decides (query_bound types query) p.edges p.total query ≡ true)
    (sym is.is) is.shortest.decided

-- what a front of an exact content decides the whole content does
whole_decides : (types : EdgeTypes) (query : Query) (content front : Content) (log : List Entry) (key : Key) (v : ℕ)
    → IsContentFront types content query (Some front)
    → IsExactContent log key v content → content_decides types content query ≡ true
whole_decides types query (ObjectIs found) (ObjectIs front) log key v is exact = is.0
whole_decides types query (ObjectIs found) (ListIs front) log key v is exact = absurd is
whole_decides types query (ListIs prefix) (ObjectIs front) log key v is exact = absurd is
whole_decides types query (ListIs prefix) (ListIs front) log (Obj id) v is exact = absurd exact
whole_decides types query (ListIs prefix) (ListIs front) log (Assocs id1 atype) v is exact =
    let cut = front_exact types query (ListIs prefix) (ListIs front) log (Assocs id1 atype) v is exact in
    let same = ap (λ (f : ListPrefix). length f.edges) is.is in
    let fewer = length-take is.count prefix.edges in
    longer_lists (query_bound types query) query log id1 atype v front prefix cut exact (omega arith)
    (front_decides types query (ListIs prefix) (ListIs front) is)

front_few : (bound : ℕ) (query : Query) (p front : ListPrefix) → IsShortestFront p query bound front → length front.edges ≤ bound
front_few bound query p front is =
    let same = ap (λ (f : ListPrefix). length f.edges) is.is in
    let cut = length-take is.count p.edges in
    let within = is.shortest.within in
    omega arith

front_within : (types : EdgeTypes) (query : Query) (id1 : Id) (atype : AType) (content front : Content) → query_bound types query ≡ types.bound atype
    → IsContentFront types content query (Some front) → IsWithinBound types (Assocs id1 atype) front
front_within types query id1 atype (ObjectIs found) (ObjectIs front) same is = tt
front_within types query id1 atype (ObjectIs found) (ListIs front) same is = absurd is
front_within types query id1 atype (ListIs prefix) (ObjectIs front) same is = tt
front_within types query id1 atype (ListIs prefix) (ListIs front) same is = let few = front_few (query_bound types query) query prefix front is in omega arith

within_bound : (types : EdgeTypes) (query : Query) (content front : Content) → IsContentFront types content query (Some front)
    → IsWithinBound types (query_key query) front
within_bound types (ObjGet id) content front is = tt
within_bound types (AssocGet id1 atype ids high low) content front is = front_within types (AssocGet id1 atype ids high low) id1 atype content front refl is
within_bound types (AssocCount id1 atype) content front is = front_within types (AssocCount id1 atype) id1 atype content front refl is
within_bound types (AssocRange id1 atype pos limit) content front is = front_within types (AssocRange id1 atype pos limit) id1 atype content front refl is
within_bound types (AssocTimeRange id1 atype high low limit) content front is =
    front_within types (AssocTimeRange id1 atype high low limit) id1 atype content front refl is

-- what all edges leave open they don't decide
all_open : (bound : ℕ) (query : Query) (p : ListPrefix) → IsLeftOpen bound p.edges p.total query → length p.edges ≤ bound
    → decides bound p.edges p.total query ≡ false
all_open bound query p open_at few =
    ap (λ es. decides bound es p.total query) (sym (take_all (length p.edges) p.edges (omega arith))) ∙ open_at (length p.edges) (omega arith)

none_decides : (types : EdgeTypes) (query : Query) (content : Content) → IsContentFront types content query None → IsWithinBound types (query_key query) content
    → content_decides types content query ≡ false
none_decides types query (ObjectIs found) is within = is
none_decides types (ObjGet id) (ListIs prefix) is within = refl
none_decides types (AssocGet id1 atype ids high low) (ListIs prefix) is within = all_open (types.bound atype) (AssocGet id1 atype ids high low) prefix is within
none_decides types (AssocCount id1 atype) (ListIs prefix) is within = all_open (types.bound atype) (AssocCount id1 atype) prefix is within
none_decides types (AssocRange id1 atype pos limit) (ListIs prefix) is within = all_open (types.bound atype) (AssocRange id1 atype pos limit) prefix is within
none_decides types (AssocTimeRange id1 atype high low limit) (ListIs prefix) is within =
    all_open (types.bound atype) (AssocTimeRange id1 atype high low limit) prefix is within

pub fronts_decide : (types : EdgeTypes) (query : Query) (content : Content) → FrontsDecide types query content
fronts_decide types query content = record {
  exact = λ log at front is exact. front_exact types query content front log (query_key query) at is exact;
  whole = λ log at front is exact. whole_decides types query content front log (query_key query) at is exact;
  decided = λ front is. front_decides types query content front is;
  within = λ front is. within_bound types query content front is;
  none = λ is within. none_decides types query content is within;
}
