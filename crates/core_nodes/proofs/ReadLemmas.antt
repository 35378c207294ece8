-- What the stages of a read leave, and what they answer.
use Rattle.std.proofs.Common.{◌≡◌, ℕ, ◌≤◌, ◌+◌, Bool, true, false, List, Option, Some, None, IfOk, IfSome, IsSome, OnErr, Result, Ok, Err, refl, ap}
use Rattle.std.proofs.Common.{sym, ◌∙◌, subst, arith}
use Rattle.std.specs.Prelude.{◌&&◌, if◌then◌else◌, nat_le}
use Rattle.std.specs.Option.{option_map}
use Rattle.std.proofs.lemmas.Bool.{leb-true}
use Rattle.ask_table.specs.Asks.{IsTable}
use Rattle.cache_items.specs.Look.{look_of}
use Rattle.cache_items.specs.Kept.{ask_at}
use Rattle.cache_items.specs.Node.{Node, item_at, with_opened_ask}
use Rattle.cache_items.specs.declared.item.Item.{Item}
use Rattle.cache_items.specs.declared.look.Kept.{Kept}
use Rattle.cache_items.specs.declared.look.Look.{Look}
use Rattle.cache_items.specs.declared.look.Look.TheVariants.{Hit, Miss}
use Rattle.cache_node.specs.Answered.{ViewAnswers}
use Rattle.cache_node.specs.True.{AreAlike, AreTold}
use Rattle.follower_cache.specs.Seen.{FollowerState}
use Rattle.graph_model.specs.Told.{WhereTold}
use Rattle.node_name.specs.declared.NodeName.{NodeName}
use Rattle.sealed_item.specs.Decided.{content_answer, content_decides}
use Rattle.sealed_item.specs.Fills.{SealedItem}
use Rattle.served_shards.specs.Served.{ServedShard, log_at, low_at, served_at}
use Rattle.shard_log.specs.GrowthLaws.{IsLegalIn}
use Rattle.shard_log.specs.View.{LogName, View}
use Rattle.tao_base.specs.EdgeTypes.{EdgeTypes}
use Rattle.tao_base.specs.Keys.{key_shard}
use Rattle.tao_base.specs.Queries.{query_key, query_shard}
use Rattle.tao_base.specs.declared.id.Key.{Key}
use Rattle.tao_base.specs.declared.memory.OutOfMemory.{OutOfMemory}
use Rattle.tao_base.specs.declared.query.Answer.{Answer}
use Rattle.tao_base.specs.declared.query.Query.{Query}
use Rattle.tao_schema.specs.Schema.{types_of}
use Rattle.topology.specs.Config.{Settings}
use Rattle.core_model.proofs.AskingOn.{nodes_ask_on}
use Rattle.core_model.proofs.AsksOn.{asks_stay_on}
use Rattle.core_model.proofs.Legal.{reads_are_legal}
use Rattle.core_model.proofs.MarkingOn.{nodes_mark_on}
use Rattle.core_model.proofs.NodesSeen.{nodes_stay_seen}
use Rattle.core_model.proofs.Staying.{nodes_stay}
use Rattle.core_model.proofs.Turns.{serves_its_turn}
use Rattle.core_model.specs.Asks.{IsAskOn}
use Rattle.core_model.specs.Consistent.{IsFleetOf, IsNodeOf}
use Rattle.core_model.specs.Fleet.{ChangesNode, Fleet, HasAsk}
use Rattle.core_model.specs.Pens.{IsSeen, Pens, pens_of}
use Rattle.core_model.specs.Reads.{AfterLook, AsksAtOnce, EndsAsk, IsGivenFill, IsLegalLook, KeepsFill, LooksFirst, Wanted, taken_fill, wanted}
use Rattle.core_model.specs.Serving.{IsFollowerFor}
use Rattle.core_model.specs.declared.named.Named.{Named}
use Rattle.node_stages.specs.Stages.{FollowerDoes, LooksTrue}
use Rattle.core_nodes.specs.Stages.{NodeIs}
use Rattle.node_stages.specs.declared.reads.FirstLook.{FirstLook}
use Rattle.core_nodes.proofs.FleetLemmas.{FleetStep, fleet_rests, follower_step}
use Rattle.core_model.proofs.NamedNodes.{changes_so}
use Rattle.core_nodes.proofs.NodesOfNames.{is_after}

-- ---- what a node that may be asked has

-- what it has seen of the shard begins the log that its pen writes
log_found : (pens : Pens) (shard : ℕ) (served : List ServedShard) (found : Option ServedShard) → served_at shard served ≡ found → IsSome found
    → ((s : ServedShard) → served_at shard served ≡ Some s → IsSeen pens shard s.view) → log_at shard served ≡ Some (pens shard).log
log_found pens shard served None at is seen = absurd (cc)
log_found pens shard served (Some s) at is seen = ap (option_map (λ x. x.view.log)) at ∙ ap Some (sym (seen s at).log_is)

pub log_of_shard : (pens : Pens) (shard : ℕ) (s : Settings) (name : NodeName) (node : Node) → IsNodeOf s pens name node → IsSome (served_at shard node.served)
    → log_at shard node.served ≡ Some (pens shard).log
log_of_shard pens shard s name node is serves =
    log_found pens shard node.served (served_at shard node.served) refl serves (λ t at. nodes_stay_seen.at pens shard node.served t is.seen at)

pub follower_serves : (s : Settings) (f : Fleet) (shard : ℕ) (name : NodeName) → IsFleetOf s f → IsFollowerFor s shard name
    → NodeIs name (λ (g : FollowerState). IsSome (served_at shard g.node.served)) f.followers
follower_serves s f shard name fleet is place node first at =
    (serves_its_turn s (pens_of f.stores) name node.node shard).serves (fleet.followers place name node at).node is.here is.serves

pub follower_log : (s : Settings) (f : Fleet) (shard : ℕ) (name : NodeName) (note : View) → IsFleetOf s f → IsFollowerFor s shard name
    → IsSeen (pens_of f.stores) shard note
    → NodeIs name (λ (g : FollowerState). log_at shard g.node.served ≡ Some note.log) f.followers
follower_log s f shard name note fleet is seen place node first at =
    log_of_shard (pens_of f.stores) shard s name node.node (fleet.followers place name node at).node
    (follower_serves s f shard name fleet is place node first at)
    ∙ ap Some seen.log_is

-- its logs are told where that of the shard is
served_told : (shard : ℕ) (served : List ServedShard) (found : Option ServedShard) (log : LogName) → served_at shard served ≡ found → IsSome found
    → log_at shard served ≡ Some log → AreAlike served
    → WhereTold log.told (AreTold served)
served_told shard served None log at is same alike = absurd (cc)
served_told shard served (Some t) log at is same alike = λ told other u there.
    let one : Some t.view.log ≡ Some log = sym (ap (option_map (λ x. x.view.log)) at) ∙ same in
    let here : t.view.log ≡ log = cc in
    alike other shard u t there at ∙ ap (λ l. l.told) here ∙ told

-- ---- look

-- the ask that was opened is on the key
opened : (key : Key) (look : Look) (number : ℕ) (old new : Node) → AfterLook key look (Some number) old new → IsTable old.asks → IsAskOn new.asks number key
opened key (Hit answer version) number old new after table = (let none : Some number ≡ None = after.0 in absurd (cc))
opened key Miss number old new after table =
    let on = asks_stay_on.begun old.asks key (low_at (key_shard key) old.served) table in
    let numbered : IsAskOn (with_opened_ask key old).asks number key = subst (λ n. IsAskOn (with_opened_ask key old).asks n key) (sym after.1) on in
    subst (λ (n : Node). IsAskOn n.asks number key) (sym after.2) numbered

looked_ask : (types : EdgeTypes) (read : Wanted) (look : Look) (ask : Option ℕ) (name : NodeName) (old new : List (Named FollowerState))
    → ChangesNode name (FollowerDoes (LooksTrue types read look ask)) old new → IfSome ask (λ number. HasAsk name number (query_key read.query) new)
looked_ask types read look None name old new change = tt
looked_ask types read look (Some number) name old new change =
    is_after (λ (f : FollowerState). IsAskOn f.node.asks number (query_key read.query))
    (FollowerDoes (LooksTrue types read look (Some number))) name old new change
    (opened (query_key read.query) look number change.from.node change.to.node change.by.does.looks.node change.by.asks)

missed : (answer : Answer) (version : ℕ) (P : Type 0) → Miss ≡ Hit answer version → P
missed answer version P h = absurd (cc)

reached_by : (decided : Bool) (floor at version : ℕ) (found given : Answer) (enough : Bool) → nat_le floor at ≡ enough
    → (if enough && decided then Hit found at else Miss) ≡ Hit given version
    → floor ≤ version
reached_by true floor at version found given true is h = (let same : at ≡ version = cc in let le = leb-true floor at is in omega arith)
reached_by false floor at version found given true is h = missed given version (floor ≤ version) h
reached_by true floor at version found given false is h = missed given version (floor ≤ version) h
reached_by false floor at version found given false is h = missed given version (floor ≤ version) h

-- a hit has the floor
hit_reaches : (types : EdgeTypes) (found : Option Item) (query : Query) (floor version : ℕ) (answer : Answer)
    → look_of types found query floor ≡ Hit answer version → floor ≤ version
hit_reaches types None query floor version answer h = missed answer version (floor ≤ version) h
hit_reaches types (Some item) query floor version answer h =
    reached_by (content_decides types item.content query) floor item.version version (content_answer types item.content query) answer
    (nat_le floor item.version) refl h

looked_legal : (s : Settings) (pens : Pens) (read : Wanted) (look : Look) (ask : Option ℕ) (name : NodeName) (from to : FollowerState)
    → LooksTrue (types_of s.schema) read look ask from to → IsNodeOf s pens name from.node → IsSome (served_at (query_shard read.query) from.node.served)
    → IsLegalLook (types_of s.schema) pens read look
looked_legal s pens read look ask name from to does is serves =
    let log = log_of_shard pens (query_shard read.query) s name from.node is serves in
    let told = served_told (query_shard read.query) from.node.served (served_at (query_shard read.query) from.node.served)
    (pens (query_shard read.query)).log refl serves log is.truth.alike in
    (reads_are_legal (types_of s.schema) pens read).hit from.node.served look is.seen told does.answers
    (λ answer version hit. hit_reaches (types_of s.schema) (item_at from.node.items (query_key read.query)) read.query read.floor version answer
    (sym does.looks.look_is ∙ hit))

pub record LookStep (s : Settings) (name : NodeName) (read : Wanted) (old new : Fleet) (r : Result FirstLook OutOfMemory) : Type 0 where
  pub step : FleetStep s old new
  pub looks : IfOk r (λ first. ChangesNode name (LooksFirst (types_of s.schema) read first.look first.ask) old.followers new.followers)
  pub ask : IfOk r (λ first. IfSome first.ask (λ number. HasAsk name number (query_key read.query) new.followers))
  pub legal : IfOk r (λ first. IsLegalLook (types_of s.schema) (pens_of new.stores) read first.look)

pub look_step : (s : Settings) (name : NodeName) (read : Wanted) (old : Fleet) (fs : List (Named FollowerState)) (r : Result FirstLook OutOfMemory)
    → IsFleetOf s old → IsFollowerFor s (query_shard read.query) name
    → IfOk r (λ first. ChangesNode name (FollowerDoes (LooksTrue (types_of s.schema) read first.look first.ask)) old.followers fs)
    → OnErr r (fs ≡ old.followers)
    → LookStep s name read old (record old { followers = fs }) r
look_step s name read old fs (Ok first) fleet for change err =
    let types = types_of s.schema in
    record {
      step = follower_step (FollowerDoes (LooksTrue types read first.look first.ask)) s old name fs fleet change
          (λ from to by is. (nodes_stay s (pens_of old.stores) name).looks read first.look first.ask from to by.does.looks by.apart by.truth is)
          (λ from to by. by.does.looks.refills)
          (λ from to by. nodes_ask_on.looks types read first.look first.ask from to by.does.looks)
          (λ from to by. nodes_mark_on.looks types read first.look first.ask from to by.does.looks);
      looks = changes_so (FollowerDoes (LooksTrue types read first.look first.ask)) (LooksFirst types read first.look first.ask) name old.followers fs
          (λ from to by. by.does.looks) change;
      ask = looked_ask types read first.look first.ask name old.followers fs change;
      legal = looked_legal s (pens_of old.stores) read first.look first.ask name change.from change.to change.by.does
          (fleet.followers change.place name change.from change.stands).node
          (follower_serves s old (query_shard read.query) name fleet for change.place change.from change.first change.stands);
    }
look_step s name read old fs (Err e) fleet for change err =
    let there : LookStep s name read old old (Err e) = record { step = fleet_rests s old fleet; looks = tt; ask = tt; legal = tt } in
    subst (λ l. LookStep s name read old (record old { followers = l }) (Err e)) (sym err) there

-- ---- an ask without a look

-- at a floor past the item that is held, nothing is found
beyond : (decided : Bool) (version : ℕ) (found : Answer) (enough : Bool) → nat_le (version + 1) version ≡ enough
    → Miss ≡ (if enough && decided then Hit found version else Miss)
beyond decided version found false is = refl
beyond decided version found true is = (let le = leb-true (version + 1) version is in absurd (omega (arith, le)))

-- so an ask that opens at once is one after a look at such a floor
pub record LooksBeyond (types : EdgeTypes) (query : Query) (ask : Option ℕ) (old new : FollowerState) : Type 0 where
  pub floor : ℕ
  pub looks : LooksFirst types (wanted query floor) Miss ask old new

looks_past : (types : EdgeTypes) (query : Query) (ask : Option ℕ) (old new : FollowerState) (found : Option Item)
    → item_at old.node.items (query_key query) ≡ found → AsksAtOnce (query_key query) ask old new → LooksBeyond types query ask old new
looks_past types query ask old new None at asks = record {
  floor = 0;
  looks = record { look_is = ap (λ o. look_of types o query 0) (sym at); node = asks.node; refills = asks.refills };
}
looks_past types query ask old new (Some item) at asks = record {
  floor = item.version + 1;
  looks = record {
    look_is = beyond (content_decides types item.content query) item.version (content_answer types item.content query)
        (nat_le (item.version + 1) item.version) refl ∙ ap (λ o. look_of types o query (item.version + 1)) (sym at);
    node = asks.node;
    refills = asks.refills;
  };
}

looks_beyond : (types : EdgeTypes) (query : Query) (ask : Option ℕ) (old new : FollowerState) → AsksAtOnce (query_key query) ask old new
    → LooksBeyond types query ask old new
looks_beyond types query ask old new asks = looks_past types query ask old new (item_at old.node.items (query_key query)) refl asks

asked_at_once : (query : Query) (ask : Option ℕ) (name : NodeName) (old new : List (Named FollowerState))
    → ChangesNode name (FollowerDoes (AsksAtOnce (query_key query) ask)) old new → IfSome ask (λ number. HasAsk name number (query_key query) new)
asked_at_once query None name old new change = tt
asked_at_once query (Some number) name old new change =
    is_after (λ (f : FollowerState). IsAskOn f.node.asks number (query_key query))
    (FollowerDoes (AsksAtOnce (query_key query) (Some number))) name old new change
    (opened (query_key query) Miss number change.from.node change.to.node change.by.does.node change.by.asks)

pub record AtOnceStep (s : Settings) (name : NodeName) (query : Query) (ask : Option ℕ) (old new : Fleet) : Type 0 where
  pub step : FleetStep s old new
  pub asks : ChangesNode name (AsksAtOnce (query_key query) ask) old.followers new.followers
  pub ask_is : IfSome ask (λ number. HasAsk name number (query_key query) new.followers)

pub at_once_step : (s : Settings) (name : NodeName) (query : Query) (ask : Option ℕ) (old : Fleet) (fs : List (Named FollowerState)) → IsFleetOf s old
    → ChangesNode name (FollowerDoes (AsksAtOnce (query_key query) ask)) old.followers fs
    → AtOnceStep s name query ask old (record old { followers = fs })
at_once_step s name query ask old fs fleet change =
    let types = types_of s.schema in
    let Asks : FollowerState → FollowerState → Type 0 = AsksAtOnce (query_key query) ask in
    record {
      step = follower_step (FollowerDoes Asks) s old name fs fleet change
          (λ from to by is. (let l = looks_beyond types query ask from to by.does in
          (nodes_stay s (pens_of old.stores) name).looks (wanted query l.floor) Miss ask from to l.looks by.apart by.truth is))
          (λ from to by. by.does.refills)
          (λ from to by. (let l = looks_beyond types query ask from to by.does in
          nodes_ask_on.looks types (wanted query l.floor) Miss ask from to l.looks))
          (λ from to by. (let l = looks_beyond types query ask from to by.does in
          nodes_mark_on.looks types (wanted query l.floor) Miss ask from to l.looks));
      asks = changes_so (FollowerDoes Asks) Asks name old.followers fs (λ from to by. by.does) change;
      ask_is = asked_at_once query ask name old.followers fs change;
    }

-- ---- keep

-- the ask is on the key where it is still open
pub keeps_ask : (name : NodeName) (ask : Option ℕ) (key : Key) (followers : List (Named FollowerState))
    → IfSome ask (λ number. HasAsk name number key followers)
    → NodeIs name (λ (f : FollowerState). IfSome ask (λ number. IfSome (ask_at number f.node.asks) (λ a. a.key ≡ key))) followers
keeps_ask name None key followers has place node first at = tt
keeps_ask name (Some number) key followers has place node first at = asks_stay_on.found node.node.asks number key (has place node first at)

pub record EndStep (s : Settings) (name : NodeName) (ask : Option ℕ) (old new : Fleet) : Type 0 where
  pub step : FleetStep s old new
  pub ends : ChangesNode name (EndsAsk ask) old.followers new.followers

pub end_step : (s : Settings) (name : NodeName) (ask : Option ℕ) (old : Fleet) (fs : List (Named FollowerState)) → IsFleetOf s old
    → ChangesNode name (FollowerDoes (EndsAsk ask)) old.followers fs → EndStep s name ask old (record old { followers = fs })
end_step s name ask old fs fleet change = record {
  step = follower_step (FollowerDoes (EndsAsk ask)) s old name fs fleet change
      (λ from to by is. (nodes_stay s (pens_of old.stores) name).ends ask from to by.does by.truth is)
      (λ from to by. ap (λ (f : FollowerState). f.refills) by.does)
      (λ from to by. nodes_ask_on.ends ask from to by.does)
      (λ from to by. nodes_mark_on.ends ask from to by.does);
  ends = changes_so (FollowerDoes (EndsAsk ask)) (EndsAsk ask) name old.followers fs (λ from to by. by.does) change;
}

-- a fill that was brought for a read, and the follower's ask
pub record BroughtFill : Type 0 where
  pub read : Wanted
  pub ask : Option ℕ
  pub fill : SealedItem

abbrev pub brought_fill : Wanted → Option ℕ → SealedItem → BroughtFill
brought_fill read ask fill = record { read = read; ask = ask; fill = fill }

pub record KeepStep (s : Settings) (name : NodeName) (b : BroughtFill) (old new : Fleet) (r : Result (Answer × Kept) OutOfMemory) : Type 0 where
  pub step : FleetStep s old new
  pub keeps : IfOk r (λ a. ChangesNode name (KeepsFill (types_of s.schema) b.read.query (taken_fill b.ask b.fill a.0 a.1)) old.followers new.followers)
  pub err : OnErr r (ChangesNode name (EndsAsk b.ask) old.followers new.followers)
  pub legal : IfOk r (λ a. IsLegalIn (types_of s.schema) (pens_of new.stores (query_shard b.read.query)) b.read.query b.read.floor a.0 b.fill.version)

pub keep_step : (s : Settings) (name : NodeName) (read : Wanted) (ask : Option ℕ) (fill : SealedItem) (old : Fleet) (fs : List (Named FollowerState))
    (r : Result (Answer × Kept) OutOfMemory)
    → IsFleetOf s old → IsGivenFill (types_of s.schema) (pens_of old.stores) read fill
    → IfOk r (λ a. ChangesNode name (FollowerDoes (KeepsFill (types_of s.schema) read.query (taken_fill ask fill a.0 a.1))) old.followers fs)
    → OnErr r (ChangesNode name (FollowerDoes (EndsAsk ask)) old.followers fs)
    → IfOk r (λ a. ViewAnswers (types_of s.schema) fill.note read.query a.0 fill.version)
    → KeepStep s name (brought_fill read ask fill) old (record old { followers = fs }) r
keep_step s name read ask fill old fs (Ok (answer, kept)) fleet given change err answers =
    let types = types_of s.schema in
    record {
      step = follower_step (FollowerDoes (KeepsFill types read.query (taken_fill ask fill answer kept))) s old name fs fleet change
          (λ from to by is. (nodes_stay s (pens_of old.stores) name).keeps read ask fill answer kept from to by.does given by.apart by.truth is)
          (λ from to by. ap (λ (f : FollowerState). f.refills) by.does.node_is)
          (λ from to by. nodes_ask_on.keeps types read ask fill answer kept from to by.does)
          (λ from to by. nodes_mark_on.keeps types read ask fill answer kept from to by.does);
      keeps = changes_so (FollowerDoes (KeepsFill types read.query (taken_fill ask fill answer kept)))
          (KeepsFill types read.query (taken_fill ask fill answer kept)) name old.followers fs (λ from to by. by.does) change;
      err = tt;
      legal = (reads_are_legal types (pens_of old.stores) read).given fill.note answer fill.version answers given.reaches given.seen;
    }
keep_step s name read ask fill old fs (Err e) fleet given change err answers =
    let ended = end_step s name ask old fs fleet err in
    record { step = ended.step; keeps = tt; err = ended.ends; legal = tt }
