use Rattle.std.proofs.Common.{ℕ, List, [], ◌∷◌, ◌++◌, Some, None, sym, ap, ◌∙◌}
use Rattle.std.proofs.lemmas.Bool.Decides.{Decides-eqb}
use Rattle.std.proofs.lemmas.Slice.Eq.{strip_suffix_is}
use Rattle.ls_conn_http.specs.Bodies.{without_end}
use Rattle.ls_conn_http.proofs.LineEnds.{crlf_off, lf_off}
use Rattle.ls_conn_http.proofs.bodies.before_lf.Goals as goal

pub returns-in-Some : goal.returns-in-Some
returns-in-Some c =
    let is = strip_suffix_is Decides-eqb c.args.text.now (13 ∷ []) (Some c.in-Some.line) c.in-Some.ensures.cases in
    sym (ap (λ (xs : List ℕ). without_end (xs ++ 10 ∷ [])) is ∙ crlf_off c.in-Some.line.now)

pub returns-in-None : goal.returns-in-None
returns-in-None c = sym (lf_off c.args.text.now (strip_suffix_is Decides-eqb c.args.text.now (13 ∷ []) None c.in-None.ensures.cases))
