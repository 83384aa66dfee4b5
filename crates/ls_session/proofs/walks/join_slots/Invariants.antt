use Rattle.std.proofs.Common.{◌≡◌, ◌≤◌, ◌<◌, ◌+◌, ◌-◌, ◌++◌, ℕ, length, drop, false}
use Rattle.ls_turns.specs.Round.{slots_of, has_slot}
use Rattle.ls_session.specs.Session.{refs_from}
use Rattle.ls_session.proofs.walks.join_slots.Given as goal

-- there is room for the rest, none of whose places is in the round, and with the rest they are all
abbrev pub invariant-loop-i : goal.invariant-loop-i
invariant-loop-i l = record {
  spare : length l.items - l.i ≤ l.turns.spare;
  absent : (place : ℕ) → l.i < place → has_slot l.sub place l.turns ≡ false;
  rest : slots_of l.turns ++ refs_from l.sub (l.i + 1) (drop l.i l.items) (drop l.i l.slots) ≡ slots_of l.fn.turns ++ refs_from l.sub 1 l.items l.slots;
}
