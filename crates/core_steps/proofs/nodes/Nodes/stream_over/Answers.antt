use Rattle.std.proofs.Common.{Err, ap, subst, sym}
use Rattle.std.proofs.lemmas.Result.{err_from_is_err_and}
use Rattle.graph_model.specs.Told.{WhereTold}
use Rattle.replies.specs.declared.nodes.Streamed.{Streamed}
use Rattle.core_nodes.specs.Streams.{FindsNext}
use Rattle.core_nodes.specs.declared.streams.NextEntry.{NextEntry}
use Rattle.core_steps.proofs.PostsLemmas.{can_post_on, posts_trans}
use Rattle.core_steps.proofs.StreamSteps.{reads_post, refuses_entry, streamed_entry}
use Rattle.core_steps.specs.Streams.{StreamsOver}
use Rattle.core_steps.specs.World.{World, world}
use Rattle.core_steps.proofs.nodes.Nodes.stream_over.Goals as goal

pub returns-in_err-entry-clause-on : goal.returns-in_err-entry-clause-on
returns-in_err-entry-clause-on g c =
    let state = g.K.Keeper.state in
    let read = c.stream_next.ensures in
    reads_post g.K.Keeper.TELLS c.args.config.now c.args.self.now c.stream_next.new.self (state c.args.keepers.now) (state c.stream_next.new.keepers)
    (g.L.Link.shown c.args.link.now) c.requires.ready read.same read.tables read.consistent read.later

pub returns-in-Nothing-clause-on : goal.returns-in-Nothing-clause-on
returns-in-Nothing-clause-on g c =
    let state = g.K.Keeper.state in
    let read = c.stream_next.ensures in
    reads_post g.K.Keeper.TELLS c.args.config.now c.args.self.now c.stream_next.new.self (state c.args.keepers.now) (state c.stream_next.new.keepers)
    (g.L.Link.shown c.args.link.now) c.requires.ready read.same read.tables read.consistent read.later

pub returns-in-Old-clause-on : goal.returns-in-Old-clause-on
returns-in-Old-clause-on g c =
    let state = g.K.Keeper.state in
    let read = c.stream_next.ensures in
    reads_post g.K.Keeper.TELLS c.args.config.now c.args.self.now c.stream_next.new.self (state c.args.keepers.now) (state c.stream_next.new.keepers)
    (g.L.Link.shown c.args.link.now) c.requires.ready read.same read.tables read.consistent read.later

pub returns-in-Past-clause-on : goal.returns-in-Past-clause-on
returns-in-Past-clause-on g c =
    let state = g.K.Keeper.state in
    let read = c.stream_next.ensures in
    reads_post g.K.Keeper.TELLS c.args.config.now c.args.self.now c.stream_next.new.self (state c.args.keepers.now) (state c.stream_next.new.keepers)
    (g.L.Link.shown c.args.link.now) c.requires.ready read.same read.tables read.consistent read.later

pub stream_entry-requires-clause-ready : goal.stream_entry-requires-clause-ready
stream_entry-requires-clause-ready g c =
    let state = g.K.Keeper.state in
    let read = c.stream_next.ensures in
    let link = g.L.Link.shown c.args.link.now in
    let old : World = world c.args.self.now (state c.args.keepers.now) link in
    let mid : World = world c.stream_next.new.self (state c.stream_next.new.keepers) link in
    can_post_on g.K.Keeper.TELLS c.args.config.now old mid c.requires.ready
    (reads_post g.K.Keeper.TELLS c.args.config.now c.args.self.now c.stream_next.new.self (state c.args.keepers.now) (state c.stream_next.new.keepers)
    link c.requires.ready read.same read.tables read.consistent read.later)

pub returns-in_err-verdict-in-Found-clause-streams : goal.returns-in_err-verdict-in-Found-clause-streams
returns-in_err-verdict-in-Found-clause-streams g c =
    let tells = g.K.Keeper.TELLS in
    let state = g.K.Keeper.state in
    let shown = g.L.Link.shown in
    let s = c.args.config.now in
    let read = c.stream_next.ensures in
    let end = c.stream_entry.new in
    let old : World = world c.args.self.now (state c.args.keepers.now) (shown c.args.link.now) in
    let new : World = world end.self (state end.keepers) (shown end.link) in
    let p = err_from_is_err_and c.from_residual-in_err-verdict-in-Found.result c.from_residual-in_err-verdict-in-Found.ensures.1 in
    rw p.1 (subst (λ r. StreamsOver tells s c.args.asked (Err r) old new) (sym p.2)
    (refuses_entry tells s c.args.asked c.args.self.now c.stream_next.new.self end.self (state c.args.keepers.now) (state c.stream_next.new.keepers)
    (state end.keepers) (shown c.args.link.now) (shown end.link) read.same read.tables c.in_err-verdict-in-Found.field-0.0 read.later
    c.in_err-verdict-in-Found.ensures.err))

pub returns-in_ok-verdict-in-Found-clause-streams : goal.returns-in_ok-verdict-in-Found-clause-streams
returns-in_ok-verdict-in-Found-clause-streams g c =
    let tells = g.K.Keeper.TELLS in
    let state = g.K.Keeper.state in
    let shown = g.L.Link.shown in
    let s = c.args.config.now in
    let read = c.stream_next.ensures in
    let end = c.stream_entry.new in
    let said = c.in_ok-verdict-in-Found.verdict in
    let Told = λ (found : NextEntry). WhereTold tells (FindsNext s (state c.args.keepers.now).told c.args.asked.at c.args.asked.position found) in
    let finds = subst Told c.in-Found.is c.in_ok-entry.ensures.finds in
    let streamed : Streamed = record { hops = 1; next = c.next_after.result; verdict = said } in
    streamed_entry tells s c.args.asked c.args.self.now c.stream_next.new.self end.self (state c.args.keepers.now) (state c.stream_next.new.keepers)
    (state end.keepers) (shown c.args.link.now) (shown end.link) read.same read.tables said c.in-Found.entry c.in-Found.next streamed finds
    c.in_ok-verdict-in-Found.ensures.takes (ap (λ n. record { hops = 1; next = n; verdict = said }) c.next_after.ensures)

pub returns-in_ok-verdict-in-Found-clause-on : goal.returns-in_ok-verdict-in-Found-clause-on
returns-in_ok-verdict-in-Found-clause-on g c =
    let tells = g.K.Keeper.TELLS in
    let state = g.K.Keeper.state in
    let read = c.stream_next.ensures in
    let link = g.L.Link.shown c.args.link.now in
    let end = c.stream_entry.new in
    let old : World = world c.args.self.now (state c.args.keepers.now) link in
    let mid : World = world c.stream_next.new.self (state c.stream_next.new.keepers) link in
    let new : World = world end.self (state end.keepers) (g.L.Link.shown end.link) in
    posts_trans tells c.args.config.now old mid new
    (reads_post tells c.args.config.now c.args.self.now c.stream_next.new.self (state c.args.keepers.now) (state c.stream_next.new.keepers)
    link c.requires.ready read.same read.tables read.consistent read.later) c.in_ok-verdict-in-Found.ensures.on
