use Rattle.std.proofs.Common.{◌+◌, length, arith, ◌∙◌}
use Rattle.ls_keep.proofs.Places.{ends_later, lie_later, queue_later}
use Rattle.ls_keep.proofs.queue.TextQueue.reserve.Goals as goal

pub make_room-requires : goal.make_room-requires
make_room-requires c =
    let k = c.self.inside in
    omega (
      arith,
      c.self.invariant.there,
      c.self.invariant.left_ends,
      ends_later (k.gone + length k.bytes.items) k.first k.ends.items c.self.invariant.end,
    )

pub invariant_of-self-2 : goal.invariant_of-self-2
invariant_of-self-2 c =
    let k = c.self.inside in
    rw (c.in_ok-make_room.ensures.moved, c.reserve.ensures.items) (lie_later k.bytes.items k.gone k.left k.first k.ends.items c.self.invariant)

pub returns : goal.returns
returns c =
    let k = c.self.inside in
    rw (c.in_ok-make_room.ensures.moved, c.reserve.ensures.items)
    (queue_later k.bytes.items k.gone k.left k.first k.ends.items c.self.invariant ∙ c.self.view_is)
