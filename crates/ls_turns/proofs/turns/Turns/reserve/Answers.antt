use Rattle.std.proofs.Common.{ap, ◌∙◌, ◌≤◌, arith, subst, List, length, max}
use Rattle.std.specs.Vec.{vec_capacity}
use Rattle.ls_turns.specs.declared.row.Row.{Row}
use Rattle.ls_turns.specs.Round.{Round}
use Rattle.ls_turns.proofs.Joining.{roomier, wider_sound, wider_view}
use Rattle.ls_turns.proofs.turns.Turns.reserve.Goals as goal

pub invariant_of-self : goal.invariant_of-self
invariant_of-self c =
    let m = c.make_rooms.ensures in
    roomier _ _ _ _ c.self.invariant _ m.lists m.more _ m.same _ _ m.room c.self.invariant.room.free_room

pub invariant_of-self-in_err-add_seats : goal.invariant_of-self-in_err-add_seats
invariant_of-self-in_err-add_seats c =
    let m = c.make_rooms.ensures in
    let e = c.in_err-add_seats.ensures in
    rw (e.err_rows, e.err_free)
    (roomier _ _ _ _ c.self.invariant _ m.lists m.more _ m.same _ _ m.room (subst (λ (rs : List Row). length rs ≤ vec_capacity c.add_seats.new.free)
    e.err_rows e.room))

pub invariant_of-self-2 : goal.invariant_of-self-2
invariant_of-self-2 c =
    let m = c.make_rooms.ensures in
    let o = c.in_ok-make_rooms.ensures in
    let e = c.in_ok-add_seats.ensures in
    let r = roomier _ _ _ _ c.self.invariant _ m.lists m.more _ m.same _ _ m.room c.self.invariant.room.free_room in
    rw (e.rows, e.free)
    (wider_sound _ _ _ _ r c.saturating_sub-more.result c.args.n _ o.links o.names
    (omega (arith, c.saturating_sub-more.ensures, c.len.ensures, c.self.inside.free.ok.0))
    (subst (λ (rs : List Row). length rs ≤ vec_capacity c.add_seats.new.free) e.rows e.room))

pub returns-clause-ok : goal.returns-clause-ok
returns-clause-ok c =
    let e = c.in_ok-add_seats.ensures in
    rw e.rows
    (wider_view _ _ c.self.invariant.kept c.make_rooms.new.links c.make_rooms.ensures.lists c.saturating_sub-more.result c.args.n (omega arith)
    ∙ ap (λ (x : Round). record x { spare = max x.spare c.args.n }) c.self.view_is)
