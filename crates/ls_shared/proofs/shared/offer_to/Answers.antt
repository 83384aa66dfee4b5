use Rattle.std.proofs.Common.{ap}
use Rattle.ls_shared.proofs.Once.{offered_once}
use Rattle.ls_shared.proofs.shared.offer_to.Goals as goal

pub returns-clause-done : goal.returns-clause-done
returns-clause-done g c =
    let e = c.publish_copied.ensures in
    offered_once c.publish_copied.result c.is_of.new.self.item.shape c.is_of.new.self.item.history c.publish_copied.new.self.item.history
    c.publish_copied.new.pass.list c.is_of.new.pass.adapter c.args.pass.now.adapter c.args.seq c.args.event (λ i. (e.pass i).list)
    (ap (λ p. p.adapter) c.is_of.ensures.same.1) e.lawful e.done e.admitted
