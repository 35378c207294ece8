use Rattle.std.proofs.Common.{ap, sym, ◌∙◌}
use Rattle.std.specs.Option.{option_map}
use Rattle.core_sessions.specs.Sessions.{session_at, sessions_of}
use Rattle.core_sessions.proofs.AtPlace.{floor_started}
use Rattle.core_sessions.proofs.sessions.Sessions.floor.Goals as goal

pub returns-in-Some : goal.returns-in-Some
returns-in-Some c =
    ap (option_map (λ b. b.floor)) (sym c.in-Some.is)
    ∙ floor_started c.args.key (session_at (sessions_of c.args.self.now) c.args.session) c.start.result c.start.ensures

pub returns-in-None : goal.returns-in-None
returns-in-None c =
    ap (option_map (λ b. b.floor)) (sym c.in-None.is)
    ∙ floor_started c.args.key (session_at (sessions_of c.args.self.now) c.args.session) c.start.result c.start.ensures
