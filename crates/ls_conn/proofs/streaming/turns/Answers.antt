use Rattle.std.proofs.Common.{◌≡◌, refl, sym, ◌∙◌, arith}
use Rattle.ls_conn.proofs.Given.{bound_sees, number_sees}
use Rattle.ls_conn.proofs.GoingOn.{begun}
use Rattle.ls_conn.proofs.streaming.turns.Goals as goal

pub loop-init : goal.loop-init
loop-init g c = (tt, tt, begun _ _ _, omega arith, omega arith, refl)

pub turn-turned-requires-clause-bound : goal.turn-turned-requires-clause-bound
turn-turned-requires-clause-bound g c = bound_sees _ _ _ c.loop.invariant.2.sees c.requires.bound
