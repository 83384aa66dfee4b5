use Rattle.std.proofs.Common.{ap, subst, sym}
use Rattle.ls_stream.specs.Giving.{given_first}
use Rattle.ls_stream.specs.Standing.{GivesFirst}
use Rattle.ls_stream.specs.declared.lines.StreamTurn.{StreamTurn}
use Rattle.ls_session.specs.Asking.{Asking}
use Rattle.ls_session.specs.Record.{Turned, turned}
use Rattle.ls_session.specs.declared.session.Session.{Session as Kept}
use Rattle.ls_session.specs.declared.session.Turn.{Turn}
use Rattle.ls_session.proofs.Firsts.{first_given, nothing_first}
use Rattle.ls_session.proofs.Turns.{Does}
use Rattle.ls_session.proofs.session.Session.turn.Goals as goal

pub returns-in-Nothing : goal.returns-in-Nothing
returns-in-Nothing c = λ r st later most.
    let first = nothing_first c.args.self.now c.turn-given.new.self r c.args.now c.args.epoch st
    (subst (λ (t : StreamTurn). GivesFirst (given_first c.args.now c.args.epoch r.session) r.session t c.turn-given.new.self) c.in-Nothing.is
    (c.turn-given.ensures r.session st.lines)) in
    subst (λ (d : Turned). Does d c.turn_round.result c.turn_round.new.self) (sym first.1) (c.turn_round.ensures r first.0 later most)

pub returns-in_default : goal.returns-in_default
returns-in_default c = λ r st later most.
    let k' : Kept = record c.args.self.now { lines = c.turn-given.new.self; asking = c.begin.new.self } in
    subst (λ (t : Turn). Does (turned c.args.now c.args.epoch r) t k') (sym c.turn_of.ensures)
    (first_given c.args.self.now k' c.turn-given.new.self r c.args.now c.args.epoch c.turn-given.result st later most
    (c.turn-given.ensures r.session st.lines) c.in_default.not-Nothing
    (ap (λ (a : Asking). record c.args.self.now { lines = c.turn-given.new.self; asking = a }) c.begin.ensures))
