use Rattle.std.proofs.Common.{[], ◌∷◌, Some, None, sym, ap, ◌∙◌}
use Rattle.std.proofs.lemmas.Bool.Decides.{Decides-eqb}
use Rattle.std.proofs.lemmas.Slice.Eq.{strip_suffix_is}
use Rattle.ls_conn_http.specs.Bodies.{without_end}
use Rattle.ls_conn_http.proofs.LineEnds.{none_off}
use Rattle.ls_conn_http.proofs.bodies.without_end.Goals as goal

pub returns-in-Some : goal.returns-in-Some
returns-in-Some c =
    let is = strip_suffix_is Decides-eqb c.args.text.now (10 ∷ []) (Some c.in-Some.line) c.in-Some.ensures.cases in
    c.before_lf.ensures ∙ ap without_end (sym is)

pub returns-in-None : goal.returns-in-None
returns-in-None c = sym (none_off c.args.text.now (strip_suffix_is Decides-eqb c.args.text.now (10 ∷ []) None c.in-None.ensures.cases))
