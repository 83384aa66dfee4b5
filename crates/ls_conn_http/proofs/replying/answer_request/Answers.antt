use Rattle.std.proofs.Common.{ℕ, List, ◌++◌, ap, ◌∙◌}
use Rattle.std.proofs.lemmas.Result.{on_ok_weaker}
use Rattle.ls_talk.specs.Lines.{line_bytes}
use Rattle.ls_conn.specs.Acting.{known}
use Rattle.ls_conn_http.proofs.Answering.{answered_one}
use Rattle.ls_conn_http.proofs.replying.answer_request.Goals as goal

pub returns-in-Line : goal.returns-in-Line
returns-in-Line g c =
    on_ok_weaker c.append_line.result
    (λ d.
    answered_one g.N.House.deed c.args.name.now c.args.params.now c.now-now.result (known c.args.view.now c.args.seen.now) (known c.act.new.view c.act.new.seen)
    c.act.result c.in-Line.text c.args.lines.now.items c.append_line.new.lines.items c.act.ensures.acts
    (record { register = c.act.ensures.register; seen = c.act.ensures.seen }) c.in-Line.is
    (d ∙ ap (λ (t : List ℕ). c.args.lines.now.items ++ line_bytes t) c.as_slice.ensures))
    c.append_line.ensures
