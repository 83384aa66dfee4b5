use Rattle.std.proofs.Common.{ℕ, List, subst, sym, arith}
use Rattle.std.proofs.lemmas.Grind.{elements}
use Rattle.ls_stream.specs.Standing.{IsShort}
use Rattle.ls_stream.proofs.Lengths.{conok_short, servname_short}
use Rattle.ls_stream.proofs.opening.opening.Goals as goal

pub returns-clause-short : goal.returns-clause-short
returns-clause-short c =
    let first = subst (λ (t : List ℕ). IsShort t) (sym c.in_ok-session_text.ensures)
    (conok_short c.args.number c.args.keepalive c.ranges.number.fits (omega (arith, c.ranges.keepalive.fits))) in
    let second = subst (λ (t : List ℕ). IsShort t) (sym c.in_ok-into_text.ensures) servname_short in
    grind (arith, elements)
