use Rattle.std.proofs.Common.{length}
use Rattle.ls_acts.proofs.joining.+join_all.Given as goal

-- each call has an item less
abbrev pub decreases-join_all : goal.decreases-join_all
decreases-join_all g l = length l.items.now
