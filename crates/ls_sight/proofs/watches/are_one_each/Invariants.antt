use Rattle.std.proofs.Common.{◌≡◌}
use Rattle.ls_sight.proofs.Agreeing.{FirstOne}
use Rattle.ls_sight.proofs.watches.are_one_each.Given as goal

abbrev pub invariant-loop-i : goal.invariant-loop-i
invariant-loop-i g l =
    (l.watches.items ≡ l.fn.watches.items) × (l.others.items ≡ l.fn.others.items) × FirstOne l.i l.fn.watches.items l.fn.others.items
