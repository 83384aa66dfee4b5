use Rattle.std.proofs.Common.{◌≡◌, ◌≤◌, length}
use Rattle.ls_shared.proofs.shared.Shared.join_each.Given as goal

abbrev pub invariant-loop : goal.invariant-loop
invariant-loop g l =
    (goal.iterator-loop g).can_next l.iterator'
    × (goal.iterator-loop g).is_finite l.iterator'
    × (l.adding ≡ record l.fn.adding { watches = l.adding.watches; joined = l.adding.joined })
    × (l.adding.joined ≤ length l.adding.items)
