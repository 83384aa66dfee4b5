use Rattle.std.proofs.Common.{◌+◌, ◌-◌, length}
use Rattle.ls_feed.specs.Replies.{Unchanged}
use Rattle.ls_feed.proofs.passes.Passes.reserve.Given as goal

-- no pass has changed
abbrev pub invariant-loop-self : goal.invariant-loop-self
invariant-loop-self g l = Unchanged l.initial.self-inside.passes.items l.self-inside.passes.items

abbrev pub decreases-loop-self : goal.decreases-loop-self
decreases-loop-self g l = l.item + 1 - length l.self-inside.passes.items
