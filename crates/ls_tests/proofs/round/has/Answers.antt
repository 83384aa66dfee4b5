use Rattle.std.proofs.Common.{sym, ◌∙◌}
use Rattle.ls_tests.proofs.Walks.{is_here, is_not_here}
use Rattle.ls_tests.proofs.round.has.Goals as goal

pub returns-then-is_of : goal.returns-then-is_of
returns-then-is_of c =
    sym (is_here c.args.turns.now _ _ c.loop-i.i c.in-Some.slot (sym c.get.ensures ∙ c.in-Some.is) (sym c.is_of.ensures ∙ c.if-is_of.true))

pub loop-i-preserved : goal.loop-i-preserved
loop-i-preserved c =
    is_not_here c.args.turns.now _ _ c.loop-i.i c.in-Some.slot (sym c.get.ensures ∙ c.in-Some.is) (sym c.is_of.ensures ∙ c.if-is_of.false) c.loop-i.invariant
