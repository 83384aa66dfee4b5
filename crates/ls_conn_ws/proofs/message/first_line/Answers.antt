use Rattle.std.proofs.Common.{◌≡◌, List, ℕ, ◌∷◌, sym, subst}
use Rattle.ls_conn_ws.specs.Messages.{lines_of}
use Rattle.ls_conn_ws.proofs.Cutting.{line_first}
use Rattle.ls_conn_ws.proofs.message.first_line.Goals as goal

pub returns-in-Some : goal.returns-in-Some
returns-in-Some c = subst (λ (l : List ℕ). lines_of c.args.text.now ≡ l ∷ lines_of c.in-Some.rest.now) (sym c.without_cr.ensures)
    (line_first c.args.text.now c.first_piece.result.0.now c.in-Some.rest.now (rw c.in-Some.is at c.first_piece.ensures))
