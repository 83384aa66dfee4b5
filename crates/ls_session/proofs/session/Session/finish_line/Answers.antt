use Rattle.std.proofs.Common.{◌+◌, ap, ◌∙◌}
use Rattle.ls_stream.proofs.Reading.{lines_last}
use Rattle.ls_session.specs.Asking.{asked_anew}
use Rattle.ls_session.proofs.Changing.{outcome_stands}
use Rattle.ls_session.proofs.session.Session.finish_line.Goals as goal

pub returns-clause-numbered : goal.returns-clause-numbered
returns-clause-numbered c = λ r st.
    c.last.ensures.own ∙ c.number.ensures.last ∙ ap (λ n. n + 1) (lines_last c.args.self.now.lines r.session st.lines)

pub returns-clause-stands : goal.returns-clause-stands
returns-clause-stands c = λ r outcome st is short.
    outcome_stands c.args.self.now c.number.new.self c.begin.new.self r outcome c.args.text st c.number.ensures is short
    (c.begin.ensures ∙ ap (λ n. asked_anew n c.args.self.now.asking) c.tick-same_tick.ensures)
