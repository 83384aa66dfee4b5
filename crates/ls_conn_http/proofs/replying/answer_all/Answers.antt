use Rattle.std.proofs.Common.{[], ◌∷◌, ◌++◌, ap, ◌∙◌}
use Rattle.ls_conn_http.specs.Bodies.{lines_after}
use Rattle.ls_conn_http.proofs.Answering.{answered_more, more_lines}
use Rattle.ls_conn_http.proofs.replying.answer_all.Goals as goal

pub loop-rest-preserved : goal.loop-rest-preserved
loop-rest-preserved g c =
    let i = c.loop-rest.invariant in (
      i.0 ++ c.first_line.result.0.now ∷ [],
      more_lines _ _ i.0 _ c.first_line.result.0.now i.1 (ap lines_after c.in-Some.is ∙ c.first_line.ensures),
      answered_more _ _ i.0 c.first_line.result.0.now _ _ _ _ _ _ i.2 c.in-Ok.ensures,
    )
