use Rattle.std.proofs.Common.{◌+◌, length, arith}
use Rattle.ls_keep.proofs.Places.{ends_later}
use Rattle.ls_keep.proofs.queue.TextQueue.left.Goals as goal

pub piece-requires-clause-within : goal.piece-requires-clause-within
piece-requires-clause-within c =
    let k = c.self.inside in
    omega (arith, c.deref.ensures.len, k.bytes.ok, ends_later (k.gone + length k.bytes.items) k.first k.ends.items c.self.invariant.end)
