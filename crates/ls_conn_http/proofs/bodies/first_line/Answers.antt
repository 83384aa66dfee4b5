use Rattle.std.proofs.Common.{◌≡◌, List, ℕ, ◌∷◌, sym, subst}
use Rattle.ls_conn_http.specs.Bodies.{lines_in}
use Rattle.ls_conn_http.proofs.LineEnds.{first_of}
use Rattle.ls_conn_http.proofs.bodies.first_line.Goals as goal

pub returns-in-Some : goal.returns-in-Some
returns-in-Some c = subst (λ (l : List ℕ). lines_in c.args.body.now ≡ l ∷ lines_in c.in-Some.rest.now) (sym c.before_lf.ensures)
    (first_of c.args.body.now c.first_piece.result.0.now c.in-Some.rest.now (rw c.in-Some.is at c.first_piece.ensures))
