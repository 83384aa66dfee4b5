use Rattle.ls_keep.proofs.Places.{length_popped}
use Rattle.ls_keep.proofs.queue.TextQueue.pop.Goals as goal

pub returns-in-Some-clause-length : goal.returns-in-Some-clause-length
returns-in-Some-clause-length c =
    let k = c.self.inside in
    length_popped k.bytes.items k.gone k.left k.first k.ends.items c.in-Some.end c.pop_front.new.self.items c.args.self.now
    c.in-Some.ensures.items c.self.view_is c.self.invariant
