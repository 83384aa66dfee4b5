use Rattle.std.proofs.Common.{◌≡◌, length, ap, subst, sym, arith, false}
use Rattle.std.specs.List.{list_any}
use Rattle.ls_turns.specs.Round.{Round, is_of}
use Rattle.ls_session.specs.Asking.{Asking}
use Rattle.ls_session.proofs.Seats.{no_front, held_anew, none_left, joined_few}
use Rattle.ls_session.proofs.asking.Asking.join.Goals as goal

pub join_slots-requires-clause-absent : goal.join_slots-requires-clause-absent
join_slots-requires-clause-absent c =
    subst (λ (t : Round). list_any (is_of c.args.sub) t.seats ≡ false) (sym c.leave.ensures.seats) (none_left c.args.sub c.self.inside.turns.seats)

pub invariant_of-self : goal.invariant_of-self
invariant_of-self c = (
  held_anew c.join_slots.new.turns _ _ c.first-self-inside.ensures
      (omega (
        arith,
        joined_few c.args.sub c.self.inside.turns c.leave.new.self c.join_slots.new.turns c.args.items.now c.args.slots.now c.leave.ensures.seats
            c.join_slots.ensures,
        c.requires.room,
        ap (λ (a : Asking). length a.turns.seats) c.self.view_is,
        ap (λ (a : Asking). a.room) c.self.view_is,
      )),
  c.self.invariant.1,
  no_front _,
  c.self.invariant.3,
)
