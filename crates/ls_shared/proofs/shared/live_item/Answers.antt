use Rattle.ls_shared.proofs.Changing.{always}
use Rattle.ls_shared.proofs.shared.live_item.Goals as goal

pub returns-clause-items : goal.returns-clause-items
returns-clause-items g c = always c.new-2.result _ c.in-Ok.ensures.items
