use Rattle.std.proofs.Common.{◌≡◌, ◌≤◌, ◌+◌, ◌-◌, ◌++◌, length, drop}
use Rattle.std.specs.Vec.{vec_len, vec_capacity}
use Rattle.ls_turns.specs.Round.{node_of_place, slots_of}
use Rattle.ls_session.proofs.walks.append_slots.Given as goal

-- the walk is at a place, there is room for the rest, and with the rest they are all
abbrev pub invariant-loop-i : goal.invariant-loop-i
invariant-loop-i l = record {
  node : l.node ≡ node_of_place l.turns l._i;
  room : vec_len l.slots + (length l.turns.seats - l._i) ≤ vec_capacity l.slots;
  rest : l.slots.items ++ drop l._i (slots_of l.turns) ≡ l.fn.slots.items ++ slots_of l.turns;
}
