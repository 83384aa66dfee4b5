use Rattle.std.proofs.Common.{subst, sym, ◌≡◌, ◌<◌, arith, false}
use Rattle.ls_links.specs.Chains.{Apart}
use Rattle.ls_turns.specs.Round.{Round, has_slot}
use Rattle.ls_turns.proofs.Joining.{free_last, entered_sound, entered_view, joins_from}
use Rattle.ls_turns.proofs.Moving.{join_moves}
use Rattle.ls_turns.proofs.turns.Turns.join.Goals as goal

pub set_row-requires : goal.set_row-requires
set_row-requires c = (free_last _ _ c.self.invariant.kept _ _ c.take_last-seat.ensures.items).within

pub invariant_of-self : goal.invariant_of-self
invariant_of-self c =
    rw (c.push_back-node.ensures.linked, c.set_row.ensures)
    (entered_sound _ _ _ _ c.args.slot c.push_back-node.result c.take_last-seat.result c.take_last-seat.new.free.items _
    (record {
      kept = c.self.invariant.kept;
      last = c.take_last-seat.ensures.items;
      absent = subst (λ (x : Round). has_slot c.args.slot.sub c.args.slot.place x ≡ false) (sym c.self.view_is) c.requires.absent;
      apart = subst Apart c.push_back-node.ensures.linked c.are_apart.ensures;
      greater = omega (arith, c.max-self-inside.ensures);
      place = omega (arith, c.max-self-inside.ensures);
    })
    c.self.invariant.room (subst (λ (x : Round). 0 < x.spare) (sym c.self.view_is) c.requires.room) _ c.put.ensures.after _ _ c.put.ensures.room
    (omega (arith, c.take_last-seat.ensures.room)))

pub returns-clause-seats : goal.returns-clause-seats
returns-clause-seats c =
    rw (c.push_back-node.ensures.linked, c.set_row.ensures)
    (joins_from c.args.slot _ _ _ c.self.view_is
    (entered_view _ _ c.args.slot c.push_back-node.result c.take_last-seat.result c.take_last-seat.new.free.items c.max-self-inside.result
    (record {
      kept = c.self.invariant.kept;
      last = c.take_last-seat.ensures.items;
      absent = subst (λ (x : Round). has_slot c.args.slot.sub c.args.slot.place x ≡ false) (sym c.self.view_is) c.requires.absent;
      apart = subst Apart c.push_back-node.ensures.linked c.are_apart.ensures;
      greater = omega (arith, c.max-self-inside.ensures);
      place = omega (arith, c.max-self-inside.ensures);
    })))

pub returns-clause-moved : goal.returns-clause-moved
returns-clause-moved c = join_moves c.args.slot _ _ c.requires.absent (returns-clause-seats c)
