use Rattle.std.proofs.Common.{◌≡◌}
use Rattle.ls_serve.proofs.attending.attend.Given as goal

-- the door listens where it did
abbrev pub invariant-loop : goal.invariant-loop
invariant-loop g l = g.D.Door.opened l.door ≡ g.D.Door.opened l.initial.door
