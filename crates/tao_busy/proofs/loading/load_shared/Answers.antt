use Rattle.std.proofs.Common.{ap, sym, ◌∙◌}
use Rattle.tao_busy.proofs.Loaded.{ends_over, listed_so, uncut_made}
use Rattle.tao_busy.proofs.loading.load_shared.Goals as goal

pub end_load-requires-clause-listed : goal.end_load-requires-clause-listed
end_load-requires-clause-listed g c κs within =
    listed_so g.J.Sharing.making.settings c.args.asked.now c.in-Ok-ran.ran.requests.items
    (sym (ap (λ m. m.settings) c.requires.making ∙ c.requires.config)) c.in-Ok-ran.ensures.listed

pub returns-in-Ok-ran : goal.returns-in-Ok-ran
returns-in-Ok-ran g c =
    let tells = g.M.Keeper.TELLS in
    let state = g.M.Keeper.state in
    let m = g.J.Sharing.making in
    let opened = c.args.opened in
    record {
      ends = ends_over tells state c.args.asked.now opened.keepers.items c.args.before m.settings c.in-Ok-ran.ran.requests.items m.cut
          (ap (λ m. m.settings) c.requires.making ∙ c.requires.config) c.in-Ok-ran.ensures.listed
          (uncut_made tells state opened.keepers.items opened.config.now opened.fleet.stores opened.cuts.items m c.requires.making c.requires.opened.cuts_are)
          c.end_load.result c.end_load.ensures.ends;
    }
