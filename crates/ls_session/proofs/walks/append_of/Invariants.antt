use Rattle.std.proofs.Common.{◌≡◌, ◌++◌, drop}
use Rattle.ls_turns.specs.Round.{node_of_place, slots_of}
use Rattle.ls_session.specs.Session.{refs_of}
use Rattle.ls_session.proofs.walks.append_of.Given as goal

-- the walk is at a place, and with those of the rest they are all
abbrev pub invariant-loop-i : goal.invariant-loop-i
invariant-loop-i l = record {
  node : l.node ≡ node_of_place l.turns l._i;
  rest : l.found.items ++ refs_of l.sub (drop l._i (slots_of l.turns)) ≡ refs_of l.sub (slots_of l.turns);
}
