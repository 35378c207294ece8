-- The touches of a merge, one record after another.
use Rattle.std.proofs.Common.{◌≡◌, ℕ, ◌+◌, ◌<◌, ◌≤◌, List, [], ◌∷◌, ◌++◌, length, map, take, get_or, inl, inr, refl, ap, ◌∙◌}
use Rattle.std.proofs.lemmas.Bool.{cases_Bool}
use Rattle.std.proofs.lemmas.List.{take_all}
use Rattle.std.specs.Option.{option_to_list}
use Rattle.std.specs.Prelude.{filter, filter_map}
use Rattle.tao_base.specs.declared.entry.Entry.{Entry}
use Rattle.tao_base.specs.declared.entry.Touch.{Touch}
use Rattle.graph_model.specs.Records.{is_news}
use Rattle.graph_model.specs.Soundness.{EdgeUpdate}
use Rattle.write_model.specs.Writes.{edge_touch}
use Rattle.tao_keeper.specs.Table.{Table}
use Rattle.write_touches.proofs.More.{more}
use Rattle.write_touches.specs.Edges.{news_touch}

-- one record more, over tables that stay
pub news_more : (a b : Table) (us : List EdgeUpdate) (i : ℕ) (u : EdgeUpdate) (ts zs : List Touch) → b ≡ a → i < length us → u ≡ get_or us i u
    → ts ≡ filter_map (news_touch a.log) (take i us) → zs ≡ ts ++ option_to_list (news_touch b.log u) → zs ≡ filter_map (news_touch a.log) (take (i + 1) us)
news_more a b us i u ts zs stays lt is so_far put =
    more (news_touch a.log) us i u ts zs lt is so_far (put ∙ ap (λ t. ts ++ option_to_list (news_touch t.log u)) stays)

news_touches_are : (log : List Entry) (us : List EdgeUpdate) → filter_map (news_touch log) us ≡ map (edge_touch log) (filter (is_news log) us)
news_touches_are log [] = refl
news_touches_are log (u ∷ us) = elim (cases_Bool (is_news log u)) [
  | inl h ↦ rw (h, news_touches_are log us) refl
  | inr h ↦ rw (h, news_touches_are log us) refl
]

pub all_news : (log : List Entry) (us : List EdgeUpdate) (i : ℕ) (ts : List Touch) → length us ≤ i → ts ≡ filter_map (news_touch log) (take i us)
    → ts ≡ map (edge_touch log) (filter (is_news log) us)
all_news log us i ts past is = is ∙ ap (filter_map (news_touch log)) (take_all i us past) ∙ news_touches_are log us
